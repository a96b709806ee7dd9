use Rattle.std.proofs.Common.{◌≡◌, ◌++◌, OnOk, ap, refl, subst, sym, ◌∙◌}
use Rattle.std.specs.Prelude.{flat_map}
use Rattle.poll_book.specs.Tables.{Readings, readings_between}
use Rattle.office_core.specs.Fitting.{AreOf}
use Rattle.office_script.specs.Printing.{reading_line, readings_in}
use Rattle.office_script.proofs.Rows.{without_marks}
use Rattle.office_script.proofs.report.push_readings.Goals as goal

pub push_rows-requires-clause-registers : goal.push_rows-requires-clause-registers
push_rows-requires-clause-registers c =
    let tables = c.args.keeper.now.0 in
    let known = c.args.known.now in
    let is = without_marks tables.voids (readings_between known.number 0 4294967295 tables.readings) c.in-Ok.rows.items (c.in-Ok.ensures.value tt tables refl) in
    subst (AreOf known.point) (sym (ap readings_in c.deref.ensures.value ∙ is)) c.requires.1

pub returns-clause-text : goal.returns-clause-text
returns-clause-text c =
    let tables = c.args.keeper.now.0 in
    let known = c.args.known.now in
    let is = without_marks tables.voids (readings_between known.number 0 4294967295 tables.readings) c.in-Ok.rows.items (c.in-Ok.ensures.value tt tables refl) in
    subst (λ (rows : Readings). OnOk c.push_rows.result (c.push_rows.new.out.items ≡ c.args.out.now.items ++ flat_map (reading_line known) rows)) (ap readings_in c.deref.ensures.value ∙ is) c.push_rows.ensures
