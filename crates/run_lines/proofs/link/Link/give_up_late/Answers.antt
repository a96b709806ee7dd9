use Rattle.std.proofs.Common.{◌∙◌}
use Rattle.run_lines.specs.Links.{wire_of}
use Rattle.run_lines.proofs.Wires.{gives_then}
use Rattle.run_lines.proofs.link.Link.give_up_late.Goals as goal

pub loop-preserved : goal.loop-preserved
loop-preserved c =
    (gives_then (wire_of c.args.self.now) (wire_of c.loop.self) (wire_of c.give_up.new.self) c.loop.invariant.0 c.give_up.ensures.given, c.give_up.ensures.name ∙ c.loop.invariant.1)
