use Rattle.std.proofs.Common.{◌≡◌, ◌∙◌, ap, sym}
use Rattle.sunspec.specs.PointType.{TypeRow, row}
use Rattle.sunspec.specs.declared.point_type.Content.TheVariants.{Address}
use Rattle.sunspec.proofs.Table.{address_row}
use Rattle.sunspec.proofs.shown.number_text.Goals as goal

pub dotted_text-requires : goal.dotted_text-requires
dotted_text-requires c =
    let address : (row c.args.kind.now).content ≡ Address = sym (ap (λ (r : TypeRow). r.content) c.row.ensures) ∙ c.in-Address.is in
    c.requires.registers.count ∙ address_row c.args.kind.now address
