use Rattle.std.proofs.Common.{[], ◌∙◌, ap, sym, subst}
use Rattle.office_run.proofs.running.RunningWorld.wait.Goals as goal

pub returns-in_err-wait : goal.returns-in_err-wait
returns-in_err-wait g c = (
  c.choose.ensures.office,
  ap (λ sockets. sockets.ghost_name) c.choose.ensures.sockets,
  subst (λ sockets. g.S.Sockets.acts sockets.now [] c.wait.new.self) c.choose.ensures.sockets
      (g.S.Sockets.joins c.choose.new.self.sockets.now c.write-has_told.new.sockets c.wait.new.self [] [] c.write-has_told.ensures c.in_err-wait.ensures.acts),
)

pub returns-in_err-self : goal.returns-in_err-self
returns-in_err-self g c = (
  c.choose.ensures.office,
  ap (λ sockets. sockets.ghost_name) c.choose.ensures.sockets,
  subst (λ sockets. g.S.Sockets.acts sockets.now [] c.write.new.sockets) c.choose.ensures.sockets
      (g.S.Sockets.joins c.choose.new.self.sockets.now c.wait.new.self c.write.new.sockets [] []
      (g.S.Sockets.joins c.choose.new.self.sockets.now c.write-has_told.new.sockets c.wait.new.self [] [] c.write-has_told.ensures c.in_ok-wait.ensures.acts) c.write.ensures),
)

pub returns : goal.returns
returns g c = (
  c.tell_clock.ensures.0 ∙ c.choose.ensures.office,
  ap (λ sockets. sockets.ghost_name) c.tell_clock.ensures.1 ∙ ap (λ sockets. sockets.ghost_name) c.choose.ensures.sockets,
  subst (λ sockets. g.S.Sockets.acts c.args.self.now.sockets.now [] sockets.now) (sym c.tell_clock.ensures.1)
      (subst (λ sockets. g.S.Sockets.acts sockets.now [] c.write.new.sockets) c.choose.ensures.sockets
      (g.S.Sockets.joins c.choose.new.self.sockets.now c.wait.new.self c.write.new.sockets [] []
      (g.S.Sockets.joins c.choose.new.self.sockets.now c.write-has_told.new.sockets c.wait.new.self [] [] c.write-has_told.ensures c.in_ok-wait.ensures.acts) c.write.ensures)),
)
