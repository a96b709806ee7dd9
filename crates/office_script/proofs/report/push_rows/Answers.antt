use Rattle.office_script.proofs.Rows.{registers_at}
use Rattle.office_script.proofs.report.push_rows.Goals as goal

pub push_reading-requires-clause-registers : goal.push_reading-requires-clause-registers
push_reading-requires-clause-registers c = rw c.row-item.is (registers_at c.args.known.now.point c.args.rows.now c.loop-row.row-index c.row-item.result c.loop-row-test.true c.requires.registers)
