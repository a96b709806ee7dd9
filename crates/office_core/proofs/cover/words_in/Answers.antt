use Rattle.std.proofs.Common.{◌∙◌, rules, ap, sym}
use Rattle.office_core.specs.Cover as cover
use Rattle.office_core.proofs.Cells.{bit_words}
use Rattle.office_core.proofs.cover.words_in.Goals as goal

pub returns-in-Bits : goal.returns-in-Bits
returns-in-Bits c =
    let read = c.args.read.now in
    let point = c.args.point.now in
    c.cell_at.ensures ∙ bit_words read c.in-Bits.bits point (search rules) c.requires.covered (search rules)
    ∙ ap (λ r. cover.words_in read (cover.reply_cells r) point) (sym c.in-Bits.is)
