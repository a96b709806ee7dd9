use Rattle.std.proofs.Common.{◌++◌, List, refl, sym, subst}
use Rattle.office_core.specs.Offices.{Stands, keeper_of}
use Rattle.office_core.specs.declared.office.Office.{Office}
use Rattle.office_core.specs.declared.event.EventAnswer.{EventAnswer}
use Rattle.office_core.proofs.Newness.{on_refusal}
use Rattle.office_net.specs.Drills.{BringsHeld, Drills, IsLed}
use Rattle.office_net.proofs.Leading.{led_then}
use Rattle.office_net.proofs.Stepped.{broken_at_end}
use Rattle.office_net.proofs.drilling.drill.Goals as goal

pub returns-in_err-last-clause-runs : goal.returns-in_err-last-clause-runs
returns-in_err-last-clause-runs g c = λ clean.
    let broke = c.in_err-last.ensures.err clean in
    on_refusal _ c.from_residual.result c.from_residual.ensures.0 (broke.0, broke.1, broke.2, broke.3)

pub returns-in_err-finish-clause-runs : goal.returns-in_err-finish-clause-runs
returns-in_err-finish-clause-runs g c = λ clean.
    let may = g.K.Neighbours.may_leave in
    let old = c.args.office.now in
    let mid = c.go_through.new.office in
    let went = c.in_ok-last.ensures.ok (c.finish.ensures.counts.1 clean) in
    let same = sym c.in_err-finish.ensures.err in
    let led = subst (λ (o : Office g.row.K.Denot g.K.Neighbours). IsLed (Stands old) (Stands o) (may (keeper_of old)) (may (keeper_of o)) went.0 c.go_through.new.told.items) same went.2 in
    on_refusal _ c.from_residual-in_err-finish.result c.from_residual-in_err-finish.ensures.0
    (went.0, c.go_through.new.told.items, broken_at_end c.args.sim.now c.go_through.new.sim c.in_ok-last.last c.args.steps.now went.0 c.go_through.new.told.items went.1, led)

pub returns-clause-runs : goal.returns-clause-runs
returns-clause-runs g c = λ clean.
    let may = g.K.Neighbours.may_leave in
    let old = c.args.office.now in
    let mid = c.go_through.new.office in
    let new = c.finish.new.office in
    let went = c.in_ok-last.ensures.ok (c.finish.ensures.counts.1 clean) in
    let told = c.go_through.new.told.items in
    let ended = c.in_ok-finish.ensures.ok clean in
    let brought = BringsHeld c.in_ok-last.last ended.0 in
    let events = went.0 ++ brought in
    let drilled : Drills c.args.sim.now c.args.steps.now events (told ++ ended.1) c.finish.new.sim = record {
      between = c.go_through.new.sim;
      last = c.in_ok-last.last;
      made = went.0;
      answered = told;
      steps_do = went.1;
      held = ended.0;
      rests = ended.3;
      more = ended.1;
      events_are = refl;
      told_are = refl;
    } in
    let led = led_then (Stands old) (Stands mid) (Stands new) (may (keeper_of old)) (may (keeper_of mid)) (may (keeper_of new)) went.0 brought told ended.1 went.2 ended.4 in (
      events,
      subst (λ (t : List EventAnswer). Drills c.args.sim.now c.args.steps.now events t c.finish.new.sim) (sym ended.2) drilled,
      subst (IsLed (Stands old) (Stands new) (may (keeper_of old)) (may (keeper_of new)) events) (sym ended.2) led,
    )
