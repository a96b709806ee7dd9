use Rattle.std.proofs.Common.{arith, rules, w8, w32, SFits}
use Rattle.std.proofs.lemmas.Int.{to_z-of_z}
use Rattle.sqlite.specs.Held.{state}
use Rattle.office_store.proofs.PutPoint.{adds, IsPoint}
use Rattle.office_store.proofs.write_points.put_plain.Goals as goal

pub returns-clause-put : goal.returns-clause-put
returns-clause-put g c clean base kept within low =
    let old = state g.S.Store c.args.tx.now.conn.now in
    let new = state g.S.Store c.run.new.tx.conn.now in
    let point = c.args.point.now in
    let scale : SFits w8 point.scale = search rules in
    let wide : SFits w32 point.scale = record { sfits = omega (arith, scale.sfits) } in
    let is : IsPoint point = record {
      name = c.as_bytes.ensures.name;
      device = c.as_bytes-2.ensures.label;
      address = omega arith;
      registers = omega (arith, c.registers_of.ensures, c.registers_of.type_inv);
      scale = scale;
      roll = omega arith;
    } in
    let ran = rw (c.to_sql.ensures, c.to_sql-2.ensures, c.to_sql-3.ensures, c.to_sql-4.ensures, c.to_sql-5.ensures, c.to_sql-6.ensures, c.to_sql-7.ensures, c.to_sql-8.ensures, c.as_bytes.ensures.value, c.as_bytes-2.ensures.value, c.from.ensures, c.from-2.ensures, c.from-3.ensures, c.from-4.ensures, c.table_number.ensures, c.code.ensures, c.registers_of.ensures, to_z-of_z w8 point.scale scale, to_z-of_z w32 point.scale wide, c.role_number.ensures, c.as_slice.ensures, c.to_be_bytes-roll.ensures) at (c.run.ensures.ran clean within.inside) in
    adds c.args.number point old new base kept c.run.result c.ranges.number.fits is within low ran
