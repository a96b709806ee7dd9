use Rattle.std.proofs.Common.{All, ℕ, false, subst, sym}
use Rattle.std.proofs.lemmas.List.Elements.{All-nil}
use Rattle.std.specs.BTreeSet.{contains}
use Rattle.std.specs.Ordering.{nat_cmp}
use Rattle.office_store.specs.Counting.{IsShownOf, MayBeOf, StandsBetween}
use Rattle.office_store.proofs.Marking.{all_marked, all_shown, some_judge}
use Rattle.office_store.proofs.shown.shown_between.Goals as goal

pub returns-clause-value : goal.returns-clause-value
returns-clause-value g c clean kept holds ends =
    let rows = c.in_ok-readings.readings.items in
    let read = c.in_ok-readings.ensures.value (c.voids_between.ensures.keeps.clean clean) kept holds in
    let voids = c.in_ok-voids.ensures.value clean kept (c.rows_between.ensures.keeps.holds kept holds) (λ clean. ends (c.rows_between.ensures.keeps.clean clean)) in
    let stand = subst (All (StandsBetween c.in-Some.first c.in-Some.last)) c.deref.ensures.value c.in-Some.ensures.some in
    all_shown c.args.point.now c.in-Some.first c.in-Some.last kept.voids c.in_ok-voids.voids voids c.args.from c.args.to kept.readings rows c.marked.result read stand c.marked.ensures

pub returns-clause-judged : goal.returns-clause-judged
returns-clause-judged g c =
    let point = c.args.point.now.point in
    let voids = contains nat_cmp c.in_ok-voids.voids in
    let may = subst (All (MayBeOf point voids)) c.deref-2.ensures.value (c.are_all_of.ensures c.if-not-are_all_of.false) in
    some_judge point voids c.in_ok-readings.readings.items c.marked.result may c.marked.ensures

pub returns-clause-marked : goal.returns-clause-marked
returns-clause-marked g c clean kept holds ends =
    let known = c.args.point.now in
    let rows = c.in_ok-readings.readings.items in
    let voids = c.in_ok-voids.ensures.value clean kept (c.rows_between.ensures.keeps.holds kept holds) (λ clean. ends (c.rows_between.ensures.keeps.clean clean)) in
    let stand = subst (All (StandsBetween c.in-Some.first c.in-Some.last)) c.deref.ensures.value c.in-Some.ensures.some in
    let may = subst (All (MayBeOf known.point (contains nat_cmp c.in_ok-voids.voids))) c.deref-2.ensures.value (c.are_all_of.ensures c.if-not-are_all_of.false) in
    all_marked known c.in-Some.first c.in-Some.last kept.voids c.in_ok-voids.voids voids rows c.marked.result stand may c.marked.ensures

pub returns-in_default-clause-judged : goal.returns-in_default-clause-judged
returns-in_default-clause-judged g c =
    let is = IsShownOf c.args.point.now.point (λ (slot : ℕ). false) in
    (λ slot. false, subst (All is) (sym c.new.ensures.items) (All-nil is))
