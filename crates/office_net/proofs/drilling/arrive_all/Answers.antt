use Rattle.std.proofs.Common.{◌≡◌, ◌∷◌, [], ◌++◌, List, length, true, cond, sym, ap, ◌∙◌, subst, arith, append_assoc}
use Rattle.std.specs.Prelude.{is_ok}
use Rattle.std.proofs.lemmas.List.{append-nil, nil_from_length}
use Rattle.mb_mbap.specs.declared.frame.Frame.{Frame}
use Rattle.office_core.specs.declared.event.EventAnswer.{EventAnswer}
use Rattle.office_core.specs.Offices.{Stands, keeper_of}
use Rattle.office_net.specs.Drills.{IsLed, arrivals}
use Rattle.office_net.proofs.Leading.{led_none, led_on, arrivals-append}
use Rattle.office_net.proofs.drilling.arrive_all.Goals as goal

pub loop-frame-init : goal.loop-frame-init
loop-frame-init g c =
    let office = c.args.office.now in
    record {
      all = sym c.into_iter-frame-iterator.ensures.into_iter_gives.0;
      room = let frames = c.args.frames.ok in omega (arith, frames, c.len.ensures, c.in_ok-reserve.ensures.ok, c.in_ok-reserve.ensures.len, ap (length {A = Frame}) c.into_iter-frame-iterator.ensures.into_iter_gives.0);
      goes = λ clean. ([], c.in_ok-reserve.ensures.items ∙ sym (append-nil c.args.told.now.items), led_none (Stands office) (g.K.Neighbours.may_leave (keeper_of office)));
      counted = omega arith;
      clean = λ clean. clean;
    }

pub loop-frame-preserved : goal.loop-frame-preserved
loop-frame-preserved g c =
    let may = g.K.Neighbours.may_leave in
    let old = c.args.office.now in
    let mid = c.loop-frame.office in
    let new = c.step-answer.new.self in
    let frame = c.in-Some.frame in
    let yielded = c.loop-frame.yielded in
    let answer = c.step-answer.result in
    let told = c.loop-frame.told.items in
    let rest : c.loop-frame.frame-iterator.rest.items ≡ frame ∷ c.next.new.self.rest.items = c.in-Some.ensures.steps.0 in
    let ok : is_ok c.push.result ≡ true = c.push.ensures.succeeds (omega (arith, c.loop-frame.invariant.room, ap (length {A = Frame}) rest)) in
    let items = c.push.ensures.items ∙ ap (λ b. cond b (told ++ answer ∷ []) told) ok in
    record {
      all = c.loop-frame.invariant.all ∙ ap (λ l. yielded ++ l) rest ∙ sym (append_assoc yielded (frame ∷ []) c.next.new.self.rest.items);
      room = omega (arith, c.loop-frame.invariant.room, c.push.ensures.len, c.push.ensures.capacity, ap (length {A = Frame}) rest);
      goes = λ clean.
          let before = c.loop-frame.invariant.goes (c.step-answer.ensures.counts.1 clean) in
          let more = before.0 in (
            more ++ answer ∷ [],
            items ∙ ap (λ l. l ++ answer ∷ []) before.1 ∙ append_assoc c.args.told.now.items more (answer ∷ []),
            subst (λ e. IsLed (Stands old) (Stands new) (may (keeper_of old)) (may (keeper_of new)) e (more ++ answer ∷ [])) (sym (arrivals-append c.args.conn yielded (frame ∷ [])))
                (led_on (Stands old) (Stands mid) (Stands new) (may (keeper_of old)) (may (keeper_of mid)) (may (keeper_of new)) (arrivals c.args.conn yielded) more _ answer
                before.2 (c.step-answer.ensures.goes clean) (c.step-answer.ensures.leaves clean)),
          );
      counted = omega (arith, c.loop-frame.invariant.counted, c.step-answer.ensures.counts.0);
      clean = λ clean. c.loop-frame.invariant.clean (c.step-answer.ensures.counts.1 clean);
    }

pub returns-clause-ok : goal.returns-clause-ok
returns-clause-ok g c = λ clean.
    let yielded = c.loop-frame.yielded in
    let count = c.loop-frame.frame-iterator.rest.ok in
    let none : c.loop-frame.frame-iterator.rest.items ≡ [] = nil_from_length c.loop-frame.frame-iterator.rest.items (omega (arith, count, c.in-None.ensures.steps.0)) in
    let all : yielded ≡ c.args.frames.items = sym (append-nil yielded) ∙ ap (λ l. yielded ++ l) (sym none) ∙ sym c.loop-frame.invariant.all in
    let before = c.loop-frame.invariant.goes clean in
    subst (λ (l : List Frame). (more : List EventAnswer) × (c.loop-frame.told.items ≡ c.args.told.now.items ++ more) × IsLed (Stands c.args.office.now) (Stands c.loop-frame.office)
    (g.K.Neighbours.may_leave (keeper_of c.args.office.now)) (g.K.Neighbours.may_leave (keeper_of c.loop-frame.office)) (arrivals c.args.conn l) more) all before
