use Rattle.std.proofs.Common.{◌≡◌, ◌∷◌, [], ◌++◌, ◌+◌, ℕ, List, Option, take, drop, refl, sym, ap, ◌∙◌, subst, arith, append_assoc, take-append-drop}
use Rattle.std.specs.Prelude.{reverse}
use Rattle.std.proofs.lemmas.List.{take_all, take_more}
use Rattle.office_core.specs.declared.event.EventAnswer.{EventAnswer}
use Rattle.office_core.specs.Offices.{Stands, keeper_of}
use Rattle.office_core.proofs.Newness.{on_err}
use Rattle.office_net.specs.declared.drilling.DrillStep.{DrillStep}
use Rattle.office_net.specs.Drills.{DoAll, IsLed}
use Rattle.office_net.proofs.Leading.{led_none, led_then}
use Rattle.office_net.proofs.Stepped.{broken_off, one_done}
use Rattle.office_net.proofs.drilling.go_through.Goals as goal

pub loop-step-init : goal.loop-step-init
loop-step-init g c =
    let office = c.args.office.now in
    let may = g.K.Neighbours.may_leave (keeper_of office) in
    record {
      goes = λ clean. ([], (refl, c.requires, refl, refl), subst (IsLed (Stands office) (Stands office) may may []) (sym c.requires) (led_none (Stands office) may));
      counted = omega arith;
      clean = λ clean. clean;
    }

pub loop-step-preserved : goal.loop-step-preserved
loop-step-preserved g c =
    let may = g.K.Neighbours.may_leave in
    let old = c.args.office.now in
    let mid = c.loop-step.office in
    let new = c.go.new.office in
    let i = c.loop-step.step-index in
    let steps = c.args.steps.now in
    let one = c.step-item.result in
    let more : take (i + 1) steps ≡ take i steps ++ one ∷ [] = take_more steps i one c.loop-step-test.true ∙ ap (λ e. take i steps ++ e ∷ []) (sym c.step-item.is) in
    record {
      goes = λ clean.
          let before = c.loop-step.invariant.goes (c.go.ensures.counts.1 clean) in
          let did = c.in_ok-over.ensures.ok clean in
          let events = before.0 ++ did.0 in
          let told = c.loop-step.told.items ++ did.1 in
          let all = one_done c.args.sim.now c.loop-step.sim c.go.new.sim c.loop-step.last c.in_ok-over.over (take i steps) one before.0 did.0 c.loop-step.told.items did.1 before.1 did.3 in
          let led = led_then (Stands old) (Stands mid) (Stands new) (may (keeper_of old)) (may (keeper_of mid)) (may (keeper_of new)) before.0 did.0 c.loop-step.told.items did.1 before.2 did.4 in (
            events,
            subst (λ (x : List DrillStep × List EventAnswer × Option ℕ). DoAll c.args.sim.now (reverse x.0) events x.1 c.go.new.sim x.2) (λ k. (sym more k, sym did.2 k, sym c.last_over-last.ensures k)) all,
            subst (IsLed (Stands old) (Stands new) (may (keeper_of old)) (may (keeper_of new)) events) (sym did.2) led,
          );
      counted = omega (arith, c.loop-step.invariant.counted, c.go.ensures.counts.0);
      clean = λ clean. c.loop-step.invariant.clean (c.go.ensures.counts.1 clean);
    }

pub returns-in_err-over-clause-err : goal.returns-in_err-over-clause-err
returns-in_err-over-clause-err g c = λ clean.
    let may = g.K.Neighbours.may_leave in
    let old = c.args.office.now in
    let mid = c.loop-step.office in
    let new = c.go.new.office in
    let i = c.loop-step.step-index in
    let steps = c.args.steps.now in
    let one = c.step-item.result in
    let more : take (i + 1) steps ≡ take i steps ++ one ∷ [] = take_more steps i one c.loop-step-test.true ∙ ap (λ e. take i steps ++ e ∷ []) (sym c.step-item.is) in
    let whole : steps ≡ take i steps ++ one ∷ drop (i + 1) steps =
    sym (take-append-drop (i + 1) steps) ∙ ap (λ l. l ++ drop (i + 1) steps) more ∙ append_assoc (take i steps) (one ∷ []) (drop (i + 1) steps) in
    let before = c.loop-step.invariant.goes (c.go.ensures.counts.1 clean) in
    let begun = c.in_err-over.ensures.err clean in
    on_err c.from_residual.result (
      before.0 ++ begun.0,
      c.loop-step.told.items ++ begun.1,
      broken_off c.args.sim.now c.loop-step.sim c.loop-step.last steps (take i steps) one (drop (i + 1) steps) before.0 begun.0 c.loop-step.told.items begun.1 whole before.1 begun.2,
      led_then (Stands old) (Stands mid) (Stands new) (may (keeper_of old)) (may (keeper_of mid)) (may (keeper_of new)) before.0 begun.0 c.loop-step.told.items begun.1 before.2 begun.3,
    )

pub returns-clause-ok : goal.returns-clause-ok
returns-clause-ok g c = λ clean.
    let i = c.loop-step.step-index in
    let steps = c.args.steps.now in
    let before = c.loop-step.invariant.goes clean in
    (before.0, subst (λ (l : List DrillStep). DoAll c.args.sim.now (reverse l) before.0 c.loop-step.told.items c.loop-step.sim c.loop-step.last) (take_all i steps (omega (arith, c.loop-step-test.false))) before.1, before.2)
