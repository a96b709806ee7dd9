use Rattle.std.proofs.Common.{rules, ◌≡◌, ◌≤◌, ◌+◌, List, [], ◌∷◌, ◌++◌, length, true, cond, take, sym, ap, ◌∙◌, subst, arith, length-take}
use Rattle.std.specs.Prelude.{All, is_ok}
use Rattle.std.proofs.lemmas.List.Elements.{All-push, All-weaker}
use Rattle.std.proofs.lemmas.List.{take_more}
use Rattle.office_core.specs.declared.event.Event.{Event}
use Rattle.office_core.specs.declared.event.EventAnswer.{EventAnswer}
use Rattle.office_core.specs.History.{History}
use Rattle.poll_book.specs.Fault.{HasCause}
use Rattle.poll_book.specs.Tables.{Tables}
use Rattle.office_core.specs.Leavings.{LeavesAll}
use Rattle.office_core.specs.Offices.{AnswerCaused}
use Rattle.office_core.specs.Standing.{StandsFor, Runs}
use Rattle.office_core.proofs.Causing.{answer_within}
use Rattle.office_core.proofs.LeavingRuns.{StandsAll, none_left, none_stood, one_left, one_stood}
use Rattle.office_core.proofs.Runs.{none_ran, one_ran}
use Rattle.office_core.proofs.office.Office.run.Goals as goal

pub loop-event-init : goal.loop-event-init
loop-event-init g c =
    let office = c.args.self.now in
    let holds = g.K.Neighbours.holds office.keeper in
    let stands : History → Type 0 = StandsFor holds office.site office.points.items office.matcher in
    let may : Tables → Type 0 = g.K.Neighbours.may_leave office.keeper in
    record {
      each = search rules;
      room = search rules;
      cause = search rules;
      counted = search rules;
      clean = λ clean. clean;
      runs = λ _. subst (Runs stands stands []) (sym c.in_ok-told.ensures.items) (none_ran stands);
      stands = λ _. subst (StandsAll stands stands []) (sym c.in_ok-told.ensures.items) (none_stood stands);
      leaves = λ _. subst (LeavesAll stands may may []) (sym c.in_ok-told.ensures.items) (none_left stands may);
    }

pub loop-event-preserved : goal.loop-event-preserved
loop-event-preserved g c =
    let holds = g.K.Neighbours.holds in
    let may = g.K.Neighbours.may_leave in
    let old = c.args.self.now in
    let office = c.loop-event.self in
    let next = c.step-answer.new.self in
    let first : History → Type 0 = StandsFor (holds old.keeper) old.site old.points.items old.matcher in
    let middle : History → Type 0 = StandsFor (holds office.keeper) office.site office.points.items office.matcher in
    let last : History → Type 0 = StandsFor (holds next.keeper) next.site next.points.items next.matcher in
    let may_refuse = g.K.Neighbours.may_refuse in
    let first_count = g.K.Neighbours.refused old.keeper in
    let count = g.K.Neighbours.refused office.keeper in
    let next_count = g.K.Neighbours.refused next.keeper in
    let rises : count ≤ next_count = c.step-answer.ensures.counts.0 in
    let caused' : EventAnswer → Type 0 = AnswerCaused (HasCause may_refuse first_count count) in
    let caused : EventAnswer → Type 0 = AnswerCaused (HasCause may_refuse first_count next_count) in
    let i = c.loop-event.event-index in
    let events = c.args.events.now in
    let told = c.loop-event.told.items in
    let ok : is_ok c.push.result ≡ true = c.push.ensures.succeeds (omega (arith, c.loop-event.invariant.each, c.loop-event.invariant.room)) in
    let items : c.push.new.self.items ≡ told ++ c.step-answer.result ∷ [] = c.push.ensures.items ∙ ap (λ b. cond b (told ++ c.step-answer.result ∷ []) told) ok in
    let more : take (i + 1) events ≡ take i events ++ c.event-item.result ∷ [] =
    take_more events i c.event-item.result c.loop-event-test.true ∙ ap (λ e. take i events ++ e ∷ []) (sym c.event-item.is) in
    let same : length told ≡ length (take i events) = omega (arith, c.loop-event.invariant.each, c.loop-event.told.ok.0, length-take i events) in
    record {
      each = search rules;
      room = omega (arith, c.loop-event.invariant.room, c.push.ensures.capacity);
      cause = subst (All caused) (sym items) (All-push caused told c.step-answer.result
          (All-weaker caused' caused (answer_within may_refuse first_count first_count count next_count (omega arith) rises) told c.loop-event.invariant.cause)
          (answer_within may_refuse first_count count next_count next_count c.loop-event.invariant.counted (omega arith) c.step-answer.result c.step-answer.ensures.cause));
      counted = omega (arith, c.loop-event.invariant.counted, rises);
      clean = λ clean. c.loop-event.invariant.clean (c.step-answer.ensures.counts.1 clean);
      runs = λ clean. subst (λ (x : List Event × List EventAnswer). Runs first last x.0 x.1) (λ k. (sym more k, sym items k))
          (one_ran first middle last (take i events) told c.event-item.result c.step-answer.result same (c.loop-event.invariant.runs (c.step-answer.ensures.counts.1 clean)) (c.step-answer.ensures.goes clean));
      stands = λ clean. subst (λ (x : List Event × List EventAnswer). StandsAll first last x.0 x.1) (λ k. (sym more k, sym items k))
          (one_stood first middle last (take i events) told c.event-item.result c.step-answer.result same (c.loop-event.invariant.stands (c.step-answer.ensures.counts.1 clean)) (c.step-answer.ensures.goes clean));
      leaves = λ clean. subst (λ (x : List Event × List EventAnswer). LeavesAll first (may old.keeper) (may next.keeper) x.0 x.1) (λ k. (sym more k, sym items k))
          (one_left first middle last (take i events) told c.event-item.result c.step-answer.result same (c.loop-event.invariant.stands (c.step-answer.ensures.counts.1 clean))
          (may old.keeper) (may office.keeper) (may next.keeper) (c.loop-event.invariant.leaves (c.step-answer.ensures.counts.1 clean)) (c.step-answer.ensures.leaves clean));
    }
