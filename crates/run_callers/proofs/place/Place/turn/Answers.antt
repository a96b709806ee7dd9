use Rattle.std.proofs.Common.{List, [], Option, refl, sym, subst}
use Rattle.run_beat.specs.declared.sockets.Source.TheVariants as source
use Rattle.run_beat.specs.Acts.{Act, Begins, Closes}
use Rattle.run_callers.specs.declared.caller.Caller.{Caller}
use Rattle.run_callers.specs.Callers.{session_at, session_of, session_with}
use Rattle.run_callers.specs.Sessions.{Exchanges, Free, Hearing, Moves, Session}
use Rattle.run_deeds.proofs.Passing.{acting_once, part_acting, part_then}
use Rattle.run_callers.proofs.place.Place.turn.Goals as goal

pub returns-then-is_taken-clause-goes : goal.returns-then-is_taken-clause-goes
returns-then-is_taken-clause-goes g c =
    let here = source.Caller c.args.self.now.at in
    let acted = λ (acts : List Act). g.S.Sockets.acts c.args.sockets.now acts c.accept-is_taken.new.self in
    subst (λ (caller : Option Caller). Exchanges here c.args.office.now c.args.office.now acted (session_with caller) (session_of c.new.result)) (sym c.in_default.is)
    (subst (λ (session : Session). Exchanges here c.args.office.now c.args.office.now acted Free session) (sym c.new.ensures)
    (part_acting Moves here c.args.office.now acted Free (Hearing []) (acting_once Moves here acted (Begins here) Free (Hearing []) c.if-is_taken.ensures.acts refl (λ now. refl))))

pub returns-in-Err-clause-goes : goal.returns-in-Err-clause-goes
returns-in-Err-clause-goes g c =
    let here = source.Caller c.args.self.now.at in
    let went = λ (acts : List Act). g.S.Sockets.acts c.args.sockets.now acts c.go_on.new.sockets in
    let closed = λ (acts : List Act). g.S.Sockets.acts c.go_on.new.sockets acts c.clear.new.sockets in
    let acted = λ (acts : List Act). g.S.Sockets.acts c.args.sockets.now acts c.clear.new.sockets in
    let before = c.in-Err.ensures in
    subst (λ (caller : Option Caller). Exchanges here c.args.office.now c.go_on.new.office acted (session_with caller) (session_at c.clear.new.self)) (sym c.in-Some.is)
    (subst (λ (session : Session). Exchanges here c.args.office.now c.go_on.new.office acted (session_of c.in-Some.caller) session) (sym c.clear.ensures.free)
    (part_then Moves here c.args.office.now c.go_on.new.office c.go_on.new.office went closed acted (session_of c.in-Some.caller) before.0 Free
    (g.S.Sockets.joins c.args.sockets.now c.go_on.new.sockets c.clear.new.sockets) before.1
    (part_acting Moves here c.go_on.new.office closed before.0 Free (acting_once Moves here closed (Closes here) before.0 Free c.clear.ensures.acts refl (λ now. refl)))))
