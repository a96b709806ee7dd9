use Rattle.std.proofs.Common.{arith}
use Rattle.std.proofs.lemmas.Grind.{common_steps}
use Rattle.sunspec.specs.Value.{AreRegistersOf}
use Rattle.office_report.proofs.Rows.{registers_at}
use Rattle.office_report.proofs.report.push_readings.Goals as goal

pub loop-row-preserved : goal.loop-row-preserved
loop-row-preserved c = λ form are.
    let registers : AreRegistersOf c.args.point.now.kind c.row-item.result.reading.words =
    rw c.row-item.is (registers_at c.args.point.now c.args.rows.now c.loop-row.row-index c.row-item.result c.loop-row-test.true are) in
    let before = c.loop-row.invariant form are in
    let line = c.in_ok-push_reading.ensures form registers in
    grind (arith, common_steps)
