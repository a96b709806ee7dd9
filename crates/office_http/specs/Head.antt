-- The head of a request within its limits (RFC 9112, sections 3 and 5, by the grammar of httparse).
use Rattle.std.specs.Prelude.{ℕ, ◌≤◌, List, length}
use Rattle.httparse.specs.Grammar.{ReadsRequest, RequestHead, print_request}

abbrev pub head_limit : ℕ
head_limit = 8192

abbrev pub field_limit : ℕ
field_limit = 32

-- the input begins with this head, which is within the limits, and goes on with the rest
pub record HasHead (input : List ℕ) (head : RequestHead) (rest : List ℕ) : Type 0 where
  pub reads : ReadsRequest input head rest
  pub short : length (print_request head) ≤ head_limit
  pub few : length head.fields ≤ field_limit

-- the input begins with a head within the limits
abbrev pub BeginsWithHead : List ℕ → Type 0
BeginsWithHead input = (head : RequestHead) × (rest : List ℕ) × HasHead input head rest
