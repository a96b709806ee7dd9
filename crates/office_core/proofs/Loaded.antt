-- What a restart does to an office that stands for a history, and how points are numbered.
use Rattle.std.proofs.Common.{◌≡◌, ℕ, Bool, true, false, cond, List, [], ◌∷◌, ◌++◌, length, refl, arith}
use Rattle.point_list.specs.declared.site.Site.{Site}
use Rattle.poll_book.specs.declared.rows.PointRow.{PointRow}
use Rattle.poll_book.specs.Tables.{Tables}
use Rattle.poll_book.specs.Changes.{AreNumbered}
use Rattle.office_core.specs.Loads.{Loading, Refused, Taken, loading, added}
use Rattle.office_core.specs.History.{Restart, Load, Order, Void, Open, Ask, Send, Reply, Noise, History, tables, points, site_of, is_used}
use Rattle.office_core.specs.Standing.{StandsFor}
use Rattle.office_core.proofs.Newness.{numbered-append, numbered_so}

pub numbered_added : (n : ℕ) (l : Loading) → AreNumbered n (added n l)
numbered_added n (Refused reason) = tt
numbered_added n (Taken count points) = numbered_so n points

-- the accepted points are numbered from 1
pub numbered_points : (before : History) → AreNumbered 0 (points before)
numbered_points [] = tt
numbered_points (Load edition caller key list ∷ before) = by (is_used before (caller, key)) (numbered_points before)
  where
    more : List PointRow
    more = added (length (points before)) (loading edition (site_of before) (points before) list)

    by : (b : Bool) → AreNumbered 0 (points before) → AreNumbered 0 (cond b (points before) (points before ++ more))
    by true earlier = earlier
    by false earlier =
        numbered-append 0 (length (points before)) (points before) more (omega arith) earlier
        (numbered_added (length (points before)) (loading edition (site_of before) (points before) list))
numbered_points (Restart site ∷ before) = numbered_points before
numbered_points (Order caller key point value ∷ before) = numbered_points before
numbered_points (Void caller key point at ∷ before) = numbered_points before
numbered_points (Open line ∷ before) = numbered_points before
numbered_points (Ask c device slot read ∷ before) = numbered_points before
numbered_points (Send c number ∷ before) = numbered_points before
numbered_points (Reply c n unit ∷ before) = numbered_points before
numbered_points (Noise c frame ∷ before) = numbered_points before

-- a restart closes all connections
pub restarted : (holds : Tables → Type 0) (site : Site) (known : List PointRow) (before : History) → holds (tables before) → known ≡ points before
    → StandsFor holds site known [] (Restart site ∷ before)
restarted holds site known before kept copy = record { tables = kept; site = refl; points = copy; connections = λ d. refl }
