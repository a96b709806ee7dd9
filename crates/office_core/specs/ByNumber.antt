-- Points by their numbers.
use Rattle.std.specs.Prelude.{◌≡◌, ℕ, ◌+◌, ◌≤◌, Bool, true, ◌==◌, ◌&&◌, List, [], ◌∷◌, take, length}
use Rattle.poll_book.specs.declared.rows.PointRow.{PointRow}
use Rattle.office_core.specs.declared.by_number.ByNumber.{ByNumber}

-- the points are numbered on from this number
abbrev pub is_numbered : ℕ → List PointRow → Bool
is_numbered n [] = true
is_numbered n (row ∷ known) = (row.number == n) && is_numbered (n + 1) known

-- the first so many known points are numbered on from 1 where that is said of them
abbrev pub AreNumbersOf : List PointRow → ByNumber → Type 0
AreNumbersOf known numbers = (numbers.count ≤ length known) × (numbers.in_order ≡ true → is_numbered 1 (take numbers.count known) ≡ true)
