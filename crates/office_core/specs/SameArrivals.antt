-- Histories in which the same arrived, in whatever order and however often.
use Rattle.std.specs.Prelude.{◌≡◌, ◌↔◌, ℕ, Bool, true, false, List, [], ◌∷◌, length, is_none, slice_get}
use Rattle.poll_book.specs.declared.rows.PointRow.{PointRow}
use Rattle.poll_book.specs.declared.rows.OrderState.{OrderState}
use Rattle.office_core.specs.Orders.{send_fault}
use Rattle.office_core.specs.History.{Happening, Ask, Send, Reply, Noise, History, site_of, points, open_line, ask_fault, asked, fits_query, settings}
use Rattle.office_core.specs.FirstArrivals.{Happened, Gives}
use Rattle.office_core.specs.SettledOrders.{Settles}

-- whether this makes a query after that history
abbrev pub makes_query : History → Happening → Bool
makes_query before (Ask c device slot read) = is_none (ask_fault (open_line before c) (site_of before) (points before) (length (asked before c)) device read)
makes_query before (Send c number) = is_none (send_fault (open_line before c) (site_of before) (points before) (settings before) (length (asked before c)) number)
makes_query before happening = false

-- all that happened but for what arrived, each with whether it made a query
abbrev pub calls : History → List (Happening × Bool)
calls [] = []
calls (Reply c n unit ∷ before) = calls before
calls (Noise c frame ∷ before) = calls before
calls (happening ∷ before) = (happening, makes_query before happening) ∷ calls before

-- a unit came that answers query n of a connection
pub record Answered (before : History) (c n : ℕ) (unit : List ℕ) : Type 0 where
  pub earlier : History
  pub came : Happened before (Reply c n unit) earlier
  pub fits : fits_query (slice_get (asked earlier c) n) unit ≡ true

-- callers and the office did the same in the same order, and the same units came for the same queries
pub record HaveSameArrivals (one other : History) : Type 0 where
  pub calls : calls one ≡ calls other
  pub units : (c n : ℕ) (unit : List ℕ) → Answered one c n unit ↔ Answered other c n unit

-- whatever came twice for one purpose says the same: for one query, for one point and slot, for one order
pub record HasEqualCopies (before : History) : Type 0 where
  pub units : (c n : ℕ) (a b : List ℕ) → Answered before c n a → Answered before c n b → a ≡ b
  pub words : (e f : History) (c n d m : ℕ) (a b : List ℕ) (x y : PointRow) (slot : ℕ) (v w : List ℕ)
      → Happened before (Reply c n a) e → Gives e c n a x slot v → Happened before (Reply d m b) f → Gives f d m b y slot w → x.number ≡ y.number → v ≡ w
  pub states : (e f : History) (c n d m : ℕ) (a b : List ℕ) (order : ℕ) (s t : OrderState)
      → Happened before (Reply c n a) e → Settles e c n a order s → Happened before (Reply d m b) f → Settles f d m b order t → s ≡ t
