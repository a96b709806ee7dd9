use Rattle.std.proofs.Common.{◌<◌, ◌^◌, arith}
use Rattle.office_store.proofs.RowsTogether.{row_of}
use Rattle.office_store.proofs.write_readings.values_of.Goals as goal

pub returns : goal.returns
returns c =
    let row = c.args.row.now in
    let point : row.point < 2 ^ 32 = omega arith in
    let slot : row.slot < 2 ^ 32 = omega arith in
    rw (c.to_sql.ensures, c.to_sql-2.ensures, c.to_sql-3.ensures, c.to_sql-4.ensures, c.put_words-len.ensures.written, c.as_slice.ensures.value)
    (row_of row point slot c.as_slice.ensures.not_empty c.as_slice.ensures.short)
