use Rattle.std.proofs.Common.{◌≡◌, ◌∷◌, [], ◌++◌, Option, Some, None, Vec, true, cond, refl, inl, inr, sym, ap, ◌∙◌, subst, arith, append_assoc}
use Rattle.std.specs.Prelude.{is_ok, option_map}
use Rattle.std.specs.Global.{Global}
use Rattle.mb_mbap.specs.declared.frame.Frame.{Frame}
use Rattle.office_core.specs.Offices.{Stands, keeper_of}
use Rattle.office_core.proofs.Newness.{on_err}
use Rattle.office_core.specs.declared.office.Office.{Office}
use Rattle.office_net.specs.Drills.{IsGiven, IsLed, arrivals, query_in}
use Rattle.office_net.proofs.Leading.{led_none, led_one, led_then}
use Rattle.office_net.proofs.drilling.make.Goals as goal

pub returns-in_err-reserve-clause-err : goal.returns-in_err-reserve-clause-err
returns-in_err-reserve-clause-err g c = λ clean.
    let office = c.args.office.now in
    on_err c.from_residual.result ([], [], inl refl, led_none (Stands office) (g.K.Neighbours.may_leave (keeper_of office)))

pub returns-in_err-given-clause-err : goal.returns-in_err-given-clause-err
returns-in_err-given-clause-err g c = λ clean.
    let may = g.K.Neighbours.may_leave in
    let old = c.args.office.now in
    let new = c.step-answer.new.self in
    on_err c.from_residual-in_err-given.result (
      c.args.event.now ∷ [],
      c.step-answer.result ∷ [],
      inr refl,
      led_one (Stands old) (Stands new) (may (keeper_of old)) (may (keeper_of new)) c.args.event.now c.step-answer.result (c.step-answer.ensures.goes clean) (c.step-answer.ensures.leaves clean),
    )

pub returns-in_err-arrive_all-in-Some-clause-err : goal.returns-in_err-arrive_all-in-Some-clause-err
returns-in_err-arrive_all-in-Some-clause-err g c = λ clean.
    let may = g.K.Neighbours.may_leave in
    let old = c.args.office.now in
    let mid = c.step-answer.new.self in
    let event = c.args.event.now in
    let answer = c.step-answer.result in
    let middle = c.arrive_all.ensures.counts.1 clean in
    let led = led_one (Stands old) (Stands mid) (may (keeper_of old)) (may (keeper_of mid)) event answer (c.step-answer.ensures.goes middle) (c.step-answer.ensures.leaves middle) in
    let same = sym c.in_err-arrive_all-in-Some.ensures.err.0 in
    on_err c.from_residual-in_err-arrive_all-in-Some.result (
      event ∷ [],
      answer ∷ [],
      inr refl,
      subst (λ (o : Office g.row.K.Denot g.K.Neighbours). IsLed (Stands old) (Stands o) (may (keeper_of old)) (may (keeper_of o)) (event ∷ []) (answer ∷ [])) same led,
    )

pub returns-in_ok-arrive_all-in-Some-clause-ok : goal.returns-in_ok-arrive_all-in-Some-clause-ok
returns-in_ok-arrive_all-in-Some-clause-ok g c = λ clean.
    let may = g.K.Neighbours.may_leave in
    let old = c.args.office.now in
    let mid = c.step-answer.new.self in
    let new = c.arrive_all.new.office in
    let event = c.args.event.now in
    let answer = c.step-answer.result in
    let told = c.args.told.now.items in
    let given = c.in-Some.given.items in
    let brought = c.in_ok-arrive_all-in-Some.ensures.ok clean in
    let more = brought.0 in
    let middle = c.arrive_all.ensures.counts.1 clean in
    let ok : is_ok c.push.result ≡ true = c.push.ensures.succeeds (omega (arith, c.in_ok-reserve.ensures.ok, c.in_ok-reserve.ensures.len)) in
    let items = c.push.ensures.items ∙ ap (λ b. cond b (c.reserve.new.self.items ++ answer ∷ []) c.reserve.new.self.items) ok
    ∙ ap (λ l. l ++ answer ∷ []) c.in_ok-reserve.ensures.items in (
      event ∷ arrivals c.args.conn given,
      answer ∷ more,
      brought.1 ∙ ap (λ l. l ++ more) items ∙ append_assoc told (answer ∷ []) more,
      record {
        answered = answer;
        given = Some given;
        more = more;
        gives = subst (λ (o : Option (Vec Frame Global)). IsGiven c.args.sim.now (query_in answer) (option_map (λ (v : Vec Frame Global). v.items) o) c.given_for-given.new.sim) c.in-Some.is c.in_ok-given.ensures.ok;
        events_are = refl;
        told_are = refl;
        asked_is = refl;
      },
      led_then (Stands old) (Stands mid) (Stands new) (may (keeper_of old)) (may (keeper_of mid)) (may (keeper_of new)) (event ∷ []) (arrivals c.args.conn given) (answer ∷ []) more
          (led_one (Stands old) (Stands mid) (may (keeper_of old)) (may (keeper_of mid)) event answer (c.step-answer.ensures.goes middle) (c.step-answer.ensures.leaves middle)) brought.2,
    )

pub returns-in-None-clause-ok : goal.returns-in-None-clause-ok
returns-in-None-clause-ok g c = λ clean.
    let may = g.K.Neighbours.may_leave in
    let old = c.args.office.now in
    let new = c.step-answer.new.self in
    let event = c.args.event.now in
    let answer = c.step-answer.result in
    let ok : is_ok c.push.result ≡ true = c.push.ensures.succeeds (omega (arith, c.in_ok-reserve.ensures.ok, c.in_ok-reserve.ensures.len)) in
    let items = c.push.ensures.items ∙ ap (λ b. cond b (c.reserve.new.self.items ++ answer ∷ []) c.reserve.new.self.items) ok
    ∙ ap (λ l. l ++ answer ∷ []) c.in_ok-reserve.ensures.items in (
      event ∷ [],
      answer ∷ [],
      items,
      record {
        answered = answer;
        given = None;
        more = [];
        gives = subst (λ (o : Option (Vec Frame Global)). IsGiven c.args.sim.now (query_in answer) (option_map (λ (v : Vec Frame Global). v.items) o) c.given_for-given.new.sim) c.in-None.is c.in_ok-given.ensures.ok;
        events_are = refl;
        told_are = refl;
        asked_is = refl;
      },
      led_one (Stands old) (Stands new) (may (keeper_of old)) (may (keeper_of new)) event answer (c.step-answer.ensures.goes clean) (c.step-answer.ensures.leaves clean),
    )
