use Rattle.std.proofs.Common.{sym}
use Rattle.std.specs.Int.{w128}
use Rattle.std.proofs.lemmas.Int.{to_z-of_z}
use Rattle.office_core.proofs.Registers.{arranged_so, arranged_none}
use Rattle.office_core.proofs.orders.registers_for.Goals as goal

pub returns-in-Ok : goal.returns-in-Ok
returns-in-Ok c =
    let number = to_z-of_z w128 c.args.number c.ranges.number in
    sym (arranged_so c.args.point.now c.args.number c.in-Ok.words c.in-Ok.ensures.registers.0 c.in-Ok.ensures.registers.1 (rw number at c.in-Ok.ensures.value))

pub returns-in-Err : goal.returns-in-Err
returns-in-Err c =
    let number = to_z-of_z w128 c.args.number c.ranges.number in
    sym (arranged_none c.args.point.now c.args.number (simp number at c.in-Err.ensures.none))
