-- What an office's answers make of a known point's report.
use Rattle.std.proofs.Common.{◌≡◌, ℕ, suc, Bool, true, false, cond, List, [], ◌∷◌, Option, Some, All, Vec, find, map, refl, sym, ap, ◌∙◌, subst, arith}
use Rattle.std.specs.Global.{Global}
use Rattle.std.specs.Str.{bytes_eq}
use Rattle.poll_book.specs.declared.rows.PointRow.{PointRow}
use Rattle.poll_book.specs.declared.shown.ShownReading.{ShownReading}
use Rattle.poll_book.specs.declared.keeper.Neighbours.{Ghosts}
use Rattle.poll_book.specs.Tables.{Readings, Voids, readings_between}
use Rattle.office_core.specs.declared.office.Office.{Office}
use Rattle.office_core.specs.Fitting.{AreOf, HasForm, IsFitting}
use Rattle.office_core.specs.History.{History, kept_readings, points, tables, voids}
use Rattle.office_core.specs.Loads.{known_named}
use Rattle.office_core.specs.Offices.{IsAlike, Shows, Stands, readings_at, readings_of, total_at, total_of}
use Rattle.poll_book.specs.Showing.{Shown, as_shown, with_mark, with_marks}
use Rattle.office_report.specs.Reports.{report_at, report_lines, report_text, rows_of}

-- what holds of all holds of the one that is found
found_holds : {X : Type 0} (P : X → Type 0) (p : X → Bool) (xs : List X) (x : X) → Some x ≡ find p xs → All P xs → P x
found_holds P p [] x is all = absurd (cc)
found_holds P p (y ∷ ys) x is all = by (p y) is (λ later. found_holds P p ys x later (λ k d less. all (suc k) d (omega (arith, less))))
  where
    same : Some x ≡ Some y → x ≡ y
    same e = cc

    by : (b : Bool) → Some x ≡ cond b (Some y) (find p ys) → (Some x ≡ find p ys → P x) → P x
    by true here rest = subst P (sym (same here)) (all 0 y (omega arith))
    by false later rest = rest later

abbrev Fits : Readings → PointRow → Type 0
Fits kept known = HasForm known.point × ((from to : ℕ) → AreOf known.point (readings_between known.number from to kept))

-- marks change no reading
pub unmarked : (voids : Voids) (rows : Readings) → rows_of (with_marks voids rows) ≡ rows
unmarked voids [] = refl
unmarked voids (row ∷ rows) = ap (λ rest. row ∷ rest) (unmarked voids rows)

-- the report of the point that is known under a name, of its readings and its total as they were answered
pub report_is : (before : History) (name : List ℕ) (from to : ℕ) (known : PointRow) (rows : Vec ShownReading Global) (total : Option ℕ) (report : List ℕ)
    → Some known ≡ known_named (points before) name → IsFitting (tables before)
    → Shows (readings_of before name from to) (Some rows) → total ≡ total_of before name
    → (HasForm known.point → AreOf known.point (rows_of (map as_shown rows.items)) → report ≡ report_lines known.point (map as_shown rows.items) total)
    → Some report ≡ report_text before name from to
report_is before name from to known rows total report is fitting shown sum made =
    let between : Readings = readings_between known.number from to (kept_readings before) in
    let marks : List Shown = with_marks (voids before) between in
    let listed : map as_shown rows.items ≡ marks = subst (λ found. Shows (readings_at before found from to) (Some rows)) (sym is) shown in
    let told : total ≡ total_at before (Some known) = sum ∙ ap (total_at before) (sym is) in
    let fits : Fits (kept_readings before) known = found_holds (Fits (kept_readings before)) (λ (point : PointRow). bytes_eq point.point.name name) (points before) known is fitting in
    let are : AreOf known.point (rows_of (map as_shown rows.items)) =
    subst (AreOf known.point) (sym (ap rows_of listed ∙ unmarked (voids before) between)) (fits.1 from to) in
    subst (λ found. Some report ≡ report_at before found from to) is
    (ap (λ text. Some text) (made fits.0 are ∙ ap (λ kept. report_lines known.point kept total) listed ∙ ap (λ t. report_lines known.point marks t) told))
