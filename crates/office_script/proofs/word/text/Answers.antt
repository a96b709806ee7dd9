use Rattle.office_script.proofs.Texts.{is_utf8}
use Rattle.office_script.proofs.word.text.Goals as goal

pub unreachable-requires : goal.unreachable-requires
unreachable-requires c = c.in-Err.ensures.cases.0 (is_utf8 c.args.word.now c.requires)
