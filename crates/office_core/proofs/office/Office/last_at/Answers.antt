use Rattle.std.proofs.Common.{◌≡◌, ◌-◌, suc, arith, sym, ap, ◌∙◌}
use Rattle.std.specs.Prelude.{option_map}
use Rattle.poll_book.specs.Histories.{end_of}
use Rattle.poll_book.specs.Showing.{with_mark, with_marks}
use Rattle.poll_book.proofs.Ends.{last_alone, none_behind_zero}
use Rattle.office_core.specs.History.{kept_readings, tables, voids}
use Rattle.office_core.specs.Offices.{last_reading_at}
use Rattle.office_core.proofs.BySlot.{kept_sorted}
use Rattle.office_core.proofs.Shown.{popped}
use Rattle.office_core.proofs.office.Office.last_at.Goals as goal

pub returns-then-end-eq0-clause-value : goal.returns-then-end-eq0-clause-value
returns-then-end-eq0-clause-value g c clean before stands =
    let known = c.in-Some.row in
    let told = c.in_ok-end.ensures.value clean (tables before) stands.tables in
    let none : end_of known.number (kept_readings before) ≡ 0 = omega (arith, told, c.if-end-eq0.true) in
    sym (ap (last_reading_at before) c.in-Some.is ∙ ap (option_map (with_mark (voids before))) (none_behind_zero known.number (kept_readings before) none))

pub returns-clause-value : goal.returns-clause-value
returns-clause-value g c clean before stands =
    let known = c.in-Some.row in
    let table = kept_readings before in
    let told = c.in_ok-end.ensures.value (c.readings.ensures.clean clean) (tables before) stands.tables in
    let slot = c.in_ok-end.end - 1 in
    let behind : end_of known.number table ≡ suc slot = omega (arith, told, c.if-end-eq0.false) in
    let last = last_alone known.number table slot (kept_sorted before) behind in
    let rows = c.in_ok-last.ensures.value clean (tables before) (c.end.ensures.same (tables before) stands.tables) in
    let one = rows ∙ ap (with_marks (voids before)) last.2 in
    popped c.in_ok-last.last.items c.pop.new.self.items c.in_ok-last.last.len c.pop.new.self.len c.pop.result (with_mark (voids before) last.0) c.pop.ensures.items c.pop.ensures.rest c.pop.ensures.cases one
    ∙ sym (ap (last_reading_at before) c.in-Some.is ∙ ap (option_map (with_mark (voids before))) last.1)
