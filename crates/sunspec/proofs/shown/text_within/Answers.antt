use Rattle.std.proofs.Common.{◌≡◌, ◌∙◌, ap, arith, subst, sym}
use Rattle.std.specs.Prelude.{IfOk, option_map, string_bytes}
use Rattle.sunspec.specs.PointType.{TypeRow, row}
use Rattle.sunspec.specs.declared.point_type.Content.TheVariants.{Text}
use Rattle.sunspec.proofs.ReadNumbers.{string_is}
use Rattle.sunspec.proofs.Table.{short_row}
use Rattle.sunspec.proofs.shown.text_within.Goals as goal

pub string_text-requires : goal.string_text-requires
string_text-requires c = omega (arith, short_row c.args.kind.now c.requires.sized, c.requires.registers.count)

pub returns-in-Text : goal.returns-in-Text
returns-in-Text c =
    let text : (row c.args.kind.now).content ≡ Text = sym (ap (λ (r : TypeRow). r.content) c.row.ensures) ∙ c.in-Text.is in
    subst (λ said. IfOk c.string_text.result (λ shown. option_map string_bytes shown ≡ said)) (string_is c.args.kind.now c.args.scale c.args.words.now text) c.string_text.ensures
