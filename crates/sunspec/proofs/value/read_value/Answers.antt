use Rattle.std.proofs.Common.{rules, ◌≡◌, ◌∙◌, ap, sym, arith}
use Rattle.sunspec.specs.PointType.{TypeRow, row}
use Rattle.sunspec.specs.Value.{value}
use Rattle.sunspec.specs.declared.point_type.Content.TheVariants.{Text}
use Rattle.sunspec.proofs.Table.{short_row}
use Rattle.sunspec.proofs.Meanings.{value_text}
use Rattle.sunspec.proofs.ReadNumbers.{none_is, number_is}
use Rattle.sunspec.proofs.value.read_value.Goals as goal

pub text_value-requires : goal.text_value-requires
text_value-requires c = omega (arith, short_row c.args.kind.now c.requires.sized, c.requires.registers.count)

pub returns-in-Text : goal.returns-in-Text
returns-in-Text c =
    let text : (row c.args.kind.now).content ≡ Text = sym (ap (λ (r : TypeRow). r.content) c.row.ensures) ∙ c.in-Text.is in
    c.text_value.ensures ∙ sym (value_text c.args.kind.now c.args.words.now text)

pub plain_number-requires-clause-number : goal.plain_number-requires-clause-number
plain_number-requires-clause-number c = λ text. c.in_default.not-Text (ap (λ (r : TypeRow). r.content) c.row.ensures ∙ text)

pub returns-in-Some : goal.returns-in-Some
returns-in-Some c = search (rules, number_is (value c.args.kind.now c.args.words.now) c.in-Some.number (sym c.in-Some.is ∙ c.plain_number.ensures))

pub returns-in-None : goal.returns-in-None
returns-in-None c =
    none_is c.args.kind.now c.args.words.now (λ text. c.in_default.not-Text (ap (λ (r : TypeRow). r.content) c.row.ensures ∙ text)) (sym c.in-None.is ∙ c.plain_number.ensures)
