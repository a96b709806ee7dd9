use Rattle.std.proofs.Common.{◌∙◌, ◌++◌, ◌∷◌, [], ℕ, List, ap, sym, append_assoc}
use Rattle.std.specs.Prelude.{pos, codes}
use Rattle.sunspec.specs.Text.{scaled}
use Rattle.office_script.specs.Printing.{line_end}
use Rattle.office_script.proofs.Parts.{then}
use Rattle.office_script.proofs.report.push_sum.Goals as goal

pub returns : goal.returns
returns c =
    let text : List ℕ = scaled (pos c.args.total) c.args.point.now.scale in
    (then c.args.out.now.items c.extend_from_slice.new.self.items c.push-2.new.self.items _ _ c.in_ok-extend_from_slice.ensures.items
    (then c.extend_from_slice.new.self.items c.extend_from_slice-2.new.self.items c.push-2.new.self.items c.args.point.now.name (32 ∷ text ++ line_end) (c.in_ok-extend_from_slice-2.ensures.items ∙ ap (λ name. c.extend_from_slice.new.self.items ++ name) c.as_bytes.ensures.value)
    (then c.extend_from_slice-2.new.self.items c.push.new.self.items c.push-2.new.self.items (32 ∷ []) (text ++ line_end) c.in_ok-push.ensures.items
    (then c.push.new.self.items c.extend_from_slice-3.new.self.items c.push-2.new.self.items text line_end
    (c.in_ok-extend_from_slice-3.ensures.items ∙ ap (λ t. c.push.new.self.items ++ t) (c.as_bytes-2.ensures.value ∙ c.in_ok-text.ensures)) c.in_ok-push-2.ensures.items))))
    ∙ ap (λ t. c.args.out.now.items ++ (codes "total " ++ t)) (sym (append_assoc c.args.point.now.name (32 ∷ text) line_end))
