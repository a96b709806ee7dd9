-- Points by their names.
use Rattle.std.specs.Prelude.{◌≡◌, ℕ, ◌≤◌, Bool, List, length, take, slice_get, Option, option_and_then}
use Rattle.std.specs.BTreeMap.{get}
use Rattle.std.specs.Cmp.Lexicographic.{slice_cmp}
use Rattle.std.specs.List.{position_from}
use Rattle.std.specs.Ordering.{nat_cmp}
use Rattle.std.specs.Str.{bytes_eq}
use Rattle.poll_book.specs.declared.rows.PointRow.{PointRow}
use Rattle.office_core.specs.declared.by_name.ByName.{ByName}

-- the point has this name
abbrev pub is_named : List ℕ → PointRow → Bool
is_named name row = bytes_eq row.point.name name

-- the place that stands under a name
abbrev pub place_of : ByName → List ℕ → Option ℕ
place_of names name = get (slice_cmp nat_cmp) names.places name

-- under each name stands the place of the first point of that name, of the first so many known ones
abbrev pub AreNamesOf : List PointRow → ByName → Type 0
AreNamesOf known names = (names.count ≤ length known) × ((name : List ℕ) → place_of names name ≡ position_from (is_named name) 0 (take names.count known))

-- the point at a place, if there is one
abbrev pub row_at : List PointRow → Option ℕ → Option PointRow
row_at known place = option_and_then (slice_get known) place
