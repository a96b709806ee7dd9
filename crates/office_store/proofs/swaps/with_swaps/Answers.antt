use Rattle.std.proofs.Common.{◌<◌, [], ◌∷◌, All, arith, ap, get_or, length, map, subst, sym, take, ◌∙◌, ℕ}
use Rattle.std.proofs.lemmas.Bool.{ltb-true}
use Rattle.std.proofs.lemmas.List.Elements.{All-append, All-from_recursion}
use Rattle.std.proofs.lemmas.Map.Views.{exact_unsigned_eq}
use Rattle.poll_book.specs.declared.rows.PointRow.{PointRow}
use Rattle.office_store.specs.Swaps.{CanHaveOrder, as_swap, plain, swaps_of}
use Rattle.office_store.proofs.Merging.{more_points, more_swaps}
use Rattle.office_store.proofs.Swapping.{no_swap_more}
use Rattle.office_store.proofs.swaps.with_swaps.Goals.{then-next-swaps, else-next-swaps, then-is_next, else-is_next}
use Rattle.office_store.proofs.swaps.with_swaps.Goals as goal

pub loop-row-preserved : goal.loop-row-preserved
loop-row-preserved c =
    let was = c.loop-row.invariant in
    let points = c.args.points.now in
    let swaps = c.args.swaps.now in
    let before = c.loop-row.known.items in
    let known = c.in_ok-with_order.field-0 in
    let made = c.in_ok-with_order.ensures in
    let next = c.loop-row.next in
    let items = c.in_ok-push.ensures.items in
    let in_range : c.loop-row.row-index < length points = omega (arith, c.loop-row-test.true) in
    let all = ap (map plain) items ∙ more_points before known points c.loop-row.row-index c.row-item.result in_range c.row-item.is made.plain was.points in
    let listed = subst (All CanHaveOrder) (sym items) (All-append CanHaveOrder before (known ∷ []) was.listed (All-from_recursion CanHaveOrder (known ∷ []) (made.listed, tt))) in
    elim c.if-is_next.branch [
      | then-is_next w ↦ elim c.if-next-swaps.branch [
        | then-next-swaps v ↦
            let same = exact_unsigned_eq (get_or swaps next (record { point = 0 })).point c.row-item.result.number (sym v.is_next-is ∙ w.if-is_next.true) in
            let number = same ∙ ap (λ (p : PointRow). p.number) (sym made.plain) in
            let more = more_swaps before known swaps next (record { point = 0 }) v.if-next-swaps.true number (made.order ∙ w.if-is_next.true) was.swaps in
            record {
              few = omega (arith, v.if-next-swaps.true, w.next-is);
              points = all;
              swaps = ap swaps_of items ∙ more ∙ ap (λ (n : ℕ). map as_swap (take n swaps)) (sym w.next-is);
              listed = listed;
            }
        | else-next-swaps v ↦ absurd (omega (arith, ltb-true next (length swaps) (sym v.is_next-is ∙ w.if-is_next.true), v.if-next-swaps.false))
      ]
      | else-is_next w ↦ record {
        few = omega (arith, was.few, w.next-is);
        points = all;
        swaps = ap swaps_of items ∙ no_swap_more before known (made.order ∙ w.if-is_next.false) ∙ was.swaps ∙ ap (λ (n : ℕ). map as_swap (take n swaps)) (sym w.next-is);
        listed = listed;
      }
    ]
