use Rattle.std.proofs.Common.{ℕ, List, ap, ◌∙◌}
use Rattle.point_list.specs.Texts.{has_text}
use Rattle.point_list.proofs.TextSets.{any_at}
use Rattle.point_list.proofs.texts.Texts.has.Goals as goal

pub returns : goal.returns
returns c = c.contains.ensures ∙ any_at c.as_text.result.now c.args.self.now.set.keys ∙ ap (λ (text : List ℕ). has_text c.args.self.now text) c.as_text.ensures
