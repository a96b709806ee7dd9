use Rattle.std.proofs.Common.{arith, List, [], ◌∷◌, refl, sym, subst, ap, ◌∙◌}
use Rattle.std.specs.Prelude.{Contains, map}
use Rattle.poll_book.specs.declared.history.History.{History}
use Rattle.poll_book.specs.Histories.{IsAt, IsGap, readings_of, point_of, AreOrdered}
use Rattle.poll_book.proofs.Places.{contains_at}
use Rattle.poll_book.proofs.Puts.{readings_insert_empty}
use Rattle.poll_book.proofs.Rooms.{contains_new, contains_still, ordered_insert}
use Rattle.poll_book.proofs.histories.make_history.Goals as goal

abbrev new : goal.In_ok-insert → History
new c = record { point = c.args.point; slots = c.new.result }

gap : (c : goal.In_ok-insert) → IsGap point_of c.args.histories.now.items c.args.point c.in-Err.place
gap c = subst (λ l. IsGap point_of l c.args.point c.in-Err.place) c.deref.ensures.value c.in-Err.ensures.absent

pub returns-in_ok-insert-clause-ordered : goal.returns-in_ok-insert-clause-ordered
returns-in_ok-insert-clause-ordered c =
    subst AreOrdered (sym c.in_ok-insert.ensures.items) (ordered_insert c.args.histories.now.items c.args.point c.in-Err.place (new c) (gap c) refl c.requires c.new.ensures.items)

pub returns-in_ok-insert-clause-same : goal.returns-in_ok-insert-clause-same
returns-in_ok-insert-clause-same c =
    ap readings_of c.in_ok-insert.ensures.items ∙ readings_insert_empty c.args.histories.now.items c.in-Err.place (new c) c.new.ensures.items

pub returns-in_ok-insert-clause-made : goal.returns-in_ok-insert-clause-made
returns-in_ok-insert-clause-made c =
    subst (λ (l : List History). Contains (map point_of l) c.args.point) (sym c.in_ok-insert.ensures.items)
    (contains_new c.args.histories.now.items c.args.point c.in-Err.place (new c) (gap c) refl)

pub returns-in_ok-insert-clause-kept : goal.returns-in_ok-insert-clause-kept
returns-in_ok-insert-clause-kept c q had =
    subst (λ (l : List History). Contains (map point_of l) q) (sym c.in_ok-insert.ensures.items)
    (contains_still c.args.histories.now.items c.args.point c.in-Err.place (new c) (gap c) refl q had)

pub returns-in_err-insert-clause-kept : goal.returns-in_err-insert-clause-kept
returns-in_err-insert-clause-kept c q had =
    subst (λ (l : List History). Contains (map point_of l) q) (sym c.in_err-insert.ensures.items) had

-- the place that was found has the point's history
pub returns-in_default-clause-made : goal.returns-in_default-clause-made
returns-in_default-clause-made c = by c.args.histories.now.items (subst (λ l. IsAt point_of l c.args.point c.in_default.field-0) c.deref.ensures.value c.in_default.ensures.found)
  where
    by : (l : List History) → IsAt point_of l c.args.point c.in_default.field-0 → Contains (map point_of l) c.args.point
    by [] here = absurd (omega (arith, here.in_range))
    by (x ∷ xs) here = contains_at point_of (x ∷ xs) c.args.point c.in_default.field-0 x here
