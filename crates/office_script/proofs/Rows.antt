-- Rows of a report, one by one.
use Rattle.std.proofs.Common.{◌≡◌, ◌<◌, ℕ, zero, suc, List, [], ◌∷◌, length, map, get_or, ap, ap₂, arith, refl}
use Rattle.sunspec.specs.Value.{AreRegistersOf}
use Rattle.point_list.specs.declared.point.Point.{Point}
use Rattle.poll_book.specs.declared.rows.Reading.{Reading}
use Rattle.poll_book.specs.declared.shown.ShownReading.{ShownReading}
use Rattle.poll_book.specs.Changes.{as_row}
use Rattle.poll_book.specs.Showing.{Shown, as_shown, with_mark, with_marks}
use Rattle.poll_book.specs.Tables.{Key, Readings, Voids}
use Rattle.office_core.specs.Fitting.{AreOf}
use Rattle.office_script.specs.Printing.{readings_in}

-- the registers of one of a point's readings
pub registers_at : (point : Point) (shown : List ShownReading) (i : ℕ) (d : ShownReading) → i < length shown → AreOf point (readings_in shown) → AreRegistersOf point.kind (get_or shown i d).reading.words
registers_at point [] i d lt are = absurd (omega arith)
registers_at point (one ∷ shown) zero d lt are = are 0 (as_row d.reading) (omega arith)
registers_at point (one ∷ shown) (suc i) d lt are = registers_at point shown i d (omega arith) (λ k e less. are (suc k) e (omega (arith, less)))

-- readings that are shown with their marks are these readings
pub without_marks : (voids : Voids) (table : Readings) (shown : List ShownReading) → map as_shown shown ≡ with_marks voids table → readings_in shown ≡ table
without_marks voids [] [] is = refl
without_marks voids [] (one ∷ shown) is = absurd (cc)
without_marks voids (row ∷ table) [] is = absurd (cc)
without_marks voids (row ∷ table) (one ∷ shown) is =
    let head : as_shown one ≡ with_mark voids row = cc in
    let tail : map as_shown shown ≡ with_marks voids table = cc in
    ap₂ (λ (r : Key × Reading) (l : Readings). r ∷ l) (ap (λ (s : Shown). s.0) head) (without_marks voids table shown tail)
