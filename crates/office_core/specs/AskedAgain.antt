-- Histories that have readings of the same slots, though they were asked for at other times or more often.
use Rattle.std.specs.Prelude.{◌≡◌, ◌↔◌, ℕ, List, IsSome}
use Rattle.poll_book.specs.declared.rows.PointRow.{PointRow}
use Rattle.poll_book.specs.Tables.{reading_at}
use Rattle.office_core.specs.History.{Reply, History, readings}
use Rattle.office_core.specs.FirstArrivals.{Happened, Gives}

-- a point has a reading in a slot in the one exactly where it has one in the other
abbrev pub HaveSameSlots : History → History → Type 0
HaveSameSlots one other = (point slot : ℕ) → IsSome (reading_at (readings one) (point, slot)) ↔ IsSome (reading_at (readings other) (point, slot))

-- a reply in the one and a reply in the other that give words to one slot of a point give it the same
abbrev pub AgreeOnWords : History → History → Type 0
AgreeOnWords one other = (e f : History) (c n d m : ℕ) (a b : List ℕ) (x y : PointRow) (slot : ℕ) (v w : List ℕ)
    → Happened one (Reply c n a) e → Gives e c n a x slot v → Happened other (Reply d m b) f → Gives f d m b y slot w → x.number ≡ y.number → v ≡ w
