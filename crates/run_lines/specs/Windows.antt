-- Queries that wait, in the order in which they were sent.
use Rattle.std.specs.Prelude.{ℕ, Bool, false, not, ◌==◌, List, [], ◌∷◌, Option, Some, None}
use Rattle.run_lines.specs.declared.window.Query.{Query}

abbrev pub is_of : ℕ → Query → Bool
is_of device query = query.device == device

abbrev pub is_of_another : ℕ → Query → Bool
is_of_another device query = not (is_of device query)

-- its transaction identifier is this one
abbrev pub is_under : ℕ → Query → Bool
is_under transaction query = query.transaction == transaction

abbrev pub is_under_another : ℕ → Query → Bool
is_under_another transaction query = not (is_under transaction query)

-- it was sent for the order of this number
abbrev pub is_number : ℕ → Option ℕ → Bool
is_number number None = false
is_number number (Some order) = order == number

abbrev pub is_for : ℕ → Query → Bool
is_for number query = is_number number query.order

abbrev pub first : List Query → Option Query
first [] = None
first (query ∷ queries) = Some query
