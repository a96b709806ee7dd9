use Rattle.std.proofs.Common.{◌||◌, ℕ, List, ap, not, sym, ◌∙◌}
use Rattle.std.specs.Str.{bytes_eq}
use Rattle.point_list.specs.Texts.{has_text}
use Rattle.point_list.proofs.TextSets.{any_added, any_at}
use Rattle.point_list.proofs.texts.Texts.add.Goals as goal

pub returns-in-Ok-clause-new : goal.returns-in-Ok-clause-new
returns-in-Ok-clause-new c =
    c.in-Ok.ensures.added ∙ ap not (any_at c.as_text.result.now c.args.self.now.set.keys ∙ ap (λ (text : List ℕ). has_text c.args.self.now text) c.as_text.ensures)

pub returns-in-Ok-clause-added : goal.returns-in-Ok-clause-added
returns-in-Ok-clause-added c = λ other.
    rw c.in-Ok.ensures.keys (
    any_added c.as_text.result c.args.self.now.set.keys other
    ∙ ap (λ (text : List ℕ). bytes_eq other text || has_text c.args.self.now other) c.as_text.ensures
    )

pub returns-in-Err-clause-refused : goal.returns-in-Err-clause-refused
returns-in-Err-clause-refused c =
    ap (λ (text : List ℕ). has_text c.args.self.now text) (sym c.as_text.ensures) ∙ sym (any_at c.as_text.result.now c.args.self.now.set.keys) ∙ c.in-Err.ensures.absent
