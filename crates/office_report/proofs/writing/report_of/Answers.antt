use Rattle.std.proofs.Common.{ap, ◌∙◌, sym, subst}
use Rattle.std.specs.Prelude.{map, string_bytes}
use Rattle.office_core.specs.Fitting.{AreOf}
use Rattle.office_core.specs.Offices.{Shows, readings_of}
use Rattle.poll_book.specs.Showing.{as_shown}
use Rattle.office_report.specs.Reports.{report_lines, rows_of}
use Rattle.office_core.proofs.Following.{stands_alike}
use Rattle.office_report.proofs.Reported.{report_is}
use Rattle.office_report.proofs.writing.report_of.Goals as goal

pub returns-clause-text : goal.returns-clause-text
returns-clause-text g c = λ clean before stands legal.
    let mid = c.total.ensures.accounts.2 clean in
    let after = stands_alike c.args.office.now c.readings.new.self c.readings.ensures.asked.0 before stands in
    let point = c.in-Some.known.point in
    let name = c.args.point.now in
    report_is before name c.args.from c.args.to c.in-Some.known c.in-Some-2.rows c.in_ok-total.total (string_bytes c.in_ok-report.report)
    (c.in-Some.ensures before stands) (c.fitting_tables.ensures before legal)
    (subst (Shows (readings_of before name c.args.from c.args.to)) c.in-Some-2.is (c.in_ok-rows.ensures.value mid before stands))
    (c.in_ok-total.ensures.value clean before after)
    (λ form are. c.in_ok-report.ensures form (subst (λ rows. AreOf point (rows_of (map as_shown rows))) (sym c.deref.ensures.value) are)
    ∙ ap (λ rows. report_lines point (map as_shown rows) c.in_ok-total.total) c.deref.ensures.value)
