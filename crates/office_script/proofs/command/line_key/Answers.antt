use Rattle.std.proofs.Common.{◌∙◌, sym, arith}
use Rattle.office_script.proofs.Keys.{line_has_key}
use Rattle.office_script.proofs.command.line_key.Goals as goal

pub unreachable-requires : goal.unreachable-requires
unreachable-requires c =
    line_has_key c.args.number c.as_str.result.now (omega (arith, c.ranges.number)) (c.as_str.ensures.value ∙ c.in_ok-text.ensures.ok) (sym c.in-None.is ∙ c.new.ensures)
