use Rattle.std.proofs.Common.{◌∷◌, [], List, ℕ, Option, take, ◌∙◌, ap, sym, subst}
use Rattle.run_beat.specs.Acts.{Act, Writes}
use Rattle.run_callers.specs.declared.showing.Showing.{Showing}
use Rattle.run_callers.specs.Sessions.{Acting, Answering, Closing, Moves, Session}
use Rattle.run_callers.proofs.Callers.{is_answering}
use Rattle.run_deeds.proofs.Passing.{acting_still}
use Rattle.run_callers.proofs.Sessions.{writes_last}
use Rattle.run_callers.proofs.caller.Caller.write.Goals as goal

pub returns-then-is_empty : goal.returns-then-is_empty
returns-then-is_empty g c = (_, acting_still Moves c.args.source (λ acts. g.S.Sockets.acts c.args.sockets.now acts c.args.sockets.now) _ (g.S.Sockets.rests c.args.sockets.now))

pub returns-in-Failed : goal.returns-in-Failed
returns-in-Failed g c = (_, acting_still Moves c.args.source (λ acts. g.S.Sockets.acts c.args.sockets.now acts c.write.new.self) _ c.in-Failed.ensures.acts)

pub returns-then-is_written : goal.returns-then-is_written
returns-then-is_written g c =
    let left = c.args.self.now.out in
    let acted = λ (acts : List Act). g.S.Sockets.acts c.args.sockets.now acts c.finish.new.self in
    let written = c.is_written.ensures c.if-is_written.true in
    subst (λ (session : Session). Acting c.args.source acted session Closing)
    (sym (is_answering c.args.self.now c.requires ∙ ap (λ (next : Option Showing). Answering next left) written.0))
    (writes_last c.args.source (λ acts. g.S.Sockets.acts c.args.sockets.now acts c.write.new.self) left c.in-Bytes.count
    (λ acts. g.S.Sockets.acts c.write.new.self acts c.finish.new.self) acted
    (g.S.Sockets.joins c.args.sockets.now c.write.new.self c.finish.new.self)
    (subst (λ (bytes : List ℕ). g.S.Sockets.acts c.args.sockets.now (Writes c.args.source (take c.in-Bytes.count bytes) ∷ []) c.write.new.self) c.pending.ensures c.in-Bytes.ensures.acts)
    (sym c.wrote.ensures ∙ written.1)
    c.finish.ensures.acts)
