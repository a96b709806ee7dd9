-- The values of a command line, each in its form.
use Rattle.std.specs.Prelude.{◌≡◌, ℕ, ℤ, List, ◌==◌, Option, Some, None, Result, Ok, Err, ⊤, if◌then◌else◌, option_and_then, option_map}
use Rattle.sunspec.specs.Digits.{number_within, signed_of}
use Rattle.poll_book.specs.Callers.{is_caller, is_key}
use Rattle.office_words.specs.declared.job.WordFault.{WordFault}
use Rattle.office_words.specs.declared.job.WordFault.TheVariants.{Words, Memory}

infixl 10 ◌>>=◌
abbrev pub ◌>>=◌ : {A B : Type 0} → Option A → (A → Option B) → Option B
o >>= f = option_and_then f o

-- the value of an option that may be missing
abbrev pub if_given : {A : Type 0} → (List ℕ → Option A) → Option (List ℕ) → Option (Option A)
if_given value None = Some None
if_given value (Some text) = option_map Some (value text)

-- ---- numbers: digits alone, each within its type

abbrev pub number_of : List ℕ → Option ℕ
number_of = number_within 4294967295

abbrev pub port_of : List ℕ → Option ℕ
port_of = number_within 65535

-- at least one second, at most an hour
abbrev pub seconds_of : List ℕ → Option ℕ
seconds_of text = number_within 3600 text >>= λ n. if n == 0 then None else Some n

-- at least one second, at most a day
abbrev pub period_of : List ℕ → Option ℕ
period_of text = number_within 86400 text >>= λ n. if n == 0 then None else Some n

-- digits, with or without a minus before them, that spell a number of 128 bits with sign
abbrev pub value_of : List ℕ → Option ℤ
value_of text = signed_of text

-- ---- who asks, and under which key

abbrev pub caller_of : List ℕ → Option (List ℕ)
caller_of text = if is_caller text then Some text else None

abbrev pub key_of : List ℕ → Option (List ℕ)
key_of text = if is_key text then Some text else None

-- ---- what a function owes that reads values

abbrev pub Fails : {Y : Type 0} → WordFault → Option Y → Type 0
Fails Memory read = ⊤
Fails Words read = read ≡ None

-- it returned what reading gives, or memory was refused
abbrev pub Gives : {X Y : Type 0} → (X → Y) → Result X WordFault → Option Y → Type 0
Gives view (Ok x) read = read ≡ Some (view x)
Gives view (Err fault) read = Fails fault read
