use Rattle.std.proofs.Common.{List, [], ◌∷◌, ◌∙◌, ap}
use Rattle.run_lines.specs.declared.window.Query.{Query}
use Rattle.run_lines.specs.Links.{standing_of}
use Rattle.run_lines.specs.Wires.{Up}
use Rattle.run_lines.proofs.link.Link.give_up.Goals as goal

pub returns-clause-given : goal.returns-clause-given
returns-clause-given c = (
  c.in-Some.oldest.device ∷ [],
  ap Up c.pass.ensures ∙ ap (λ (waiting : List Query). Up (record (standing_of c.args.self.now) { waiting = waiting })) c.give_up.ensures,
)
