-- The records of a text, as they are read one field at a time.
use Rattle.std.specs.Prelude.{ℕ, List, [], ◌∷◌, Bool, ◌==◌, ◌||◌, Option, Some, None, if◌then◌else◌}
use Rattle.csv.specs.Machine.{Read, next_record}
use Rattle.csv.specs.Reading.{default_config}
use Rattle.csv.specs.declared.parser.State.{State}
use Rattle.csv.specs.declared.parser.State.TheVariants as st

-- whether a byte ends a record
abbrev pub ends_record : ℕ → Bool
ends_record byte = (byte == 13) || (byte == 10)

-- whether a byte ends a field that has no quotes
abbrev pub ends_field : ℕ → Bool
ends_field byte = (byte == 44) || ((byte == 13) || (byte == 10))

abbrev pub is_quote : ℕ → Bool
is_quote byte = byte == 34

-- the text behind a byte, if it begins with that
abbrev pub behind : ℕ → List ℕ → Option (List ℕ)
behind byte [] = None
behind byte (first ∷ rest) = if first == byte then Some rest else None

-- a record's fields, and the text behind it
abbrev pub Taken : Type 0
Taken = List (List ℕ) × List ℕ

-- the same of a read, which has a state, too
abbrev pub taken : Option Read → Option Taken
taken None = None
taken (Some p) = Some (p.0, p.2)

-- the next record of a text in a state, below these fields and these bytes of the field at hand
abbrev pub next_from : State → List (List ℕ) → List ℕ → List ℕ → Option Taken
next_from s fields field text = taken (next_record default_config s fields field text)

-- the same at the first byte of a record, if there is one
abbrev pub next_at : Option (List ℕ) → Option Taken
next_at None = None
next_at (Some text) = next_from st.StartField [] [] text

-- the same behind a field
unfoldable pub next_behind : List (List ℕ) → List ℕ → Option Taken
next_behind fields [] = Some (fields, [])
next_behind fields (byte ∷ rest) = if byte == 44 then next_from st.StartField fields [] rest else Some (fields, rest)

-- a record of these fields, if there is a text behind it
abbrev pub taken_as : List (List ℕ) → Option (List ℕ) → Option Taken
taken_as fields None = None
taken_as fields (Some rest) = Some (fields, rest)
