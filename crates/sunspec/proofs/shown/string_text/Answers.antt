use Rattle.std.proofs.Common.{Some, ap, map, sym, ◌∙◌}
use Rattle.sunspec.specs.Text.{printable}
use Rattle.sunspec.proofs.ReadNumbers.{no_text_is, text_is}
use Rattle.sunspec.proofs.shown.string_text.Goals as goal

pub returns-in_ok-printable_text-in-Text : goal.returns-in_ok-printable_text-in-Text
returns-in_ok-printable_text-in-Text c =
    ap Some c.in_ok-printable_text-in-Text.ensures ∙ ap (λ text. Some (map printable text)) c.as_bytes.ensures.value
    ∙ text_is c.args.words.now c.in-Text.text (sym c.in-Text.is ∙ c.text_value.ensures)

pub returns-in_default : goal.returns-in_default
returns-in_default c = no_text_is c.args.words.now (λ text is. c.in_default.not-Text text (c.text_value.ensures ∙ is))
