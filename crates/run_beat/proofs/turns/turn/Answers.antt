use Rattle.std.proofs.Common.{◌||◌, ◌∙◌, ap, subst}
use Rattle.run_beat.specs.Turns.{any_more}
use Rattle.run_beat.proofs.turns.turn.Goals as goal

pub returns : goal.returns
returns g c =
    let of_lines = c.call_each-of_lines.ensures in
    let of_callers = c.call_each-of_callers.ensures in
    let told = ap (λ b. b || c.call_each-of_callers.result) of_lines.2 ∙ ap (λ b. any_more of_lines.0 || b) of_callers.2 in
    record {
      of_lines = of_lines.0;
      of_callers = of_callers.0;
      behind_lines = c.call_each-of_lines.new.world;
      behind_callers = c.call_each-of_callers.new.world;
      by_lines = of_lines.1;
      by_callers = of_callers.1;
      waited = subst (λ b. g.W.World.waits c.call_each-of_callers.new.world b c.wait.result c.wait.new.self) told c.wait.ensures;
    }
