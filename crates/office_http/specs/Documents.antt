-- The JSON (RFC 8259) that a body is.
use Rattle.std.specs.Prelude.{ℕ, List, if◌then◌else◌, Option, Some, None}
use Rattle.std.specs.Str.{is_utf8}
use Rattle.serde_json.specs.Data.{Data, Members}
use Rattle.serde_json.specs.Read.{read}
use Rattle.serde_json.specs.Events.{members_len}

-- what a body says, if it is UTF-8
abbrev pub data_of : List ℕ → Option Data
data_of body = if is_utf8 body then read body else None

-- how many members an object has
abbrev pub count_of : Option Members → ℕ
count_of (Some ms) = members_len ms
count_of None = 0

-- two members, where both are there
abbrev pub both : {A B : Type 0} → Option A → Option B → Option (A × B)
both (Some a) (Some b) = Some (a, b)
both None b = None
both (Some a) None = None
