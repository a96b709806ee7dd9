-- What a report says of a point.
use Rattle.std.specs.Prelude.{◌≡◌, ℕ, ◌-◌, Bool, true, false, List, [], ◌∷◌, ◌++◌, length, replicate, flat_map, map, codes, decimal, pos, Option, Some, None, unwrap_or}
use Rattle.std.specs.Io.KnownBytes.{Appends}
use Rattle.sunspec.specs.Text.{scaled}
use Rattle.point_list.specs.declared.point.Point.{Point}
use Rattle.poll_book.specs.declared.rows.PointRow.{PointRow}
use Rattle.poll_book.specs.declared.rows.Reading.{Reading}
use Rattle.poll_book.specs.Tables.{Readings, readings_between}
use Rattle.office_core.specs.Fitting.{point_text}
use Rattle.office_core.specs.History.{History, kept_readings, points, voids}
use Rattle.office_core.specs.Loads.{known_named}
use Rattle.office_core.specs.Offices.{total_at}
use Rattle.poll_book.specs.Showing.{Shown, with_marks}

abbrev pub line_end : List ℕ
line_end = 10 ∷ []

-- readings without their marks
abbrev pub rows_of : List Shown → Readings
rows_of all = map (λ (shown : Shown). shown.0) all

-- a slot at the right of ten places
abbrev pub slot_text : ℕ → List ℕ
slot_text slot = replicate (10 - length (decimal slot)) 32 ++ decimal slot

-- what the registers of a reading show, a dash where the point is not implemented
abbrev pub shown_text : Point → Reading → List ℕ
shown_text point reading = unwrap_or (point_text point reading.words) (45 ∷ [])

-- what follows the reading of a voided slot
abbrev pub mark_text : Bool → List ℕ
mark_text false = []
mark_text true = codes "  void"

abbrev pub reading_line : Point → Shown → List ℕ
reading_line point shown = slot_text shown.0.0.1 ++ codes "  " ++ shown_text point shown.0.1 ++ mark_text shown.1 ++ line_end

-- how far a counter went, with its scale; nothing for another point
abbrev pub total_line : Point → Option ℕ → List ℕ
total_line point None = []
total_line point (Some total) = codes "total " ++ scaled (pos total) point.scale ++ line_end

-- a point's name, these readings in their order with their marks, and this total
abbrev pub report_lines : Point → List Shown → Option ℕ → List ℕ
report_lines point kept total = codes "point " ++ point.name ++ line_end ++ flat_map (reading_line point) kept ++ total_line point total

abbrev pub report_at : History → Option PointRow → ℕ → ℕ → Option (List ℕ)
report_at before None from to = None
report_at before (Some known) from to =
    Some (report_lines known.point (with_marks (voids before) (readings_between known.number from to (kept_readings before))) (total_at before (Some known)))

-- the report of the known point of this name over the slots from the one to the other, and for a counter its total over all slots
abbrev pub report_text : History → List ℕ → ℕ → ℕ → Option (List ℕ)
report_text before name from to = report_at before (known_named (points before) name) from to

-- whether there is a text is told, and it is written with nothing else; where there is none nothing is
abbrev pub Tells : Option (List ℕ) → Bool → Option (List ℕ) → Option (List ℕ) → Type 0
Tells None told old new = (told ≡ false) × (new ≡ old)
Tells (Some text) told old new = (told ≡ true) × Appends old new text
