-- Tables in which what is kept of a point has the form of its type.
use Rattle.std.specs.Prelude.{ℕ, All, List, Option}
use Rattle.sunspec.specs.PointType.{IsSized}
use Rattle.sunspec.specs.Text.{IsScale, shown}
use Rattle.sunspec.specs.WordOrder.{arranged}
use Rattle.sunspec.specs.Value.{AreRegistersOf}
use Rattle.point_list.specs.declared.point.Point.{Point}
use Rattle.poll_book.specs.declared.rows.PointRow.{PointRow}
use Rattle.poll_book.specs.Tables.{Key, Readings, Tables, readings_between}
use Rattle.poll_book.specs.declared.rows.Reading.{Reading}

-- a type that there is, and a scale from -10 to 10
abbrev pub HasForm : Point → Type 0
HasForm point = IsSized point.kind × IsScale point.scale

-- what registers of a point mean, as they came
abbrev pub point_text : Point → List ℕ → Option (List ℕ)
point_text point words = shown point.kind point.scale (arranged point.order words)

-- each of these readings has as many registers as the point's type, and a cell holds 0 or 1
abbrev pub AreOf : Point → Readings → Type 0
AreOf point kept = All (λ (row : Key × Reading). AreRegistersOf point.kind row.1.words) kept

-- so is each point, with its readings in whatever slots
abbrev pub IsFitting : Tables → Type 0
IsFitting kept =
    All (λ (known : PointRow). HasForm known.point × ((from to : ℕ) → AreOf known.point (readings_between known.number from to kept.readings))) kept.points
