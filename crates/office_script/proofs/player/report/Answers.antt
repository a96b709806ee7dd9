use Rattle.std.proofs.Common.{ℕ, ◌++◌, ◌∙◌, sym, ap, subst}
use Rattle.poll_book.specs.Tables.{Tables}
use Rattle.office_core.specs.Fitting.{IsFitting}
use Rattle.office_script.specs.Printing.{report_of}
use Rattle.office_script.proofs.Acted.{on_ok}
use Rattle.office_script.proofs.player.report.Goals as goal

abbrev tables_in : Tables × ℕ × ℕ → Tables
tables_in kept = kept.0

pub push_report-requires : goal.push_report-requires
push_report-requires c =
    let (before, follows) = c.requires in
    subst IsFitting (sym (ap tables_in c.into_keeper-keeper.ensures ∙ follows.0.tables)) (c.fitting_tables.ensures before follows.1)

pub returns : goal.returns
returns c = on_ok c.push_report.result (λ printed before follows.
    printed ∙ ap (λ kept. c.args.out.now.items ++ report_of kept) (ap tables_in c.into_keeper-keeper.ensures ∙ follows.0.tables)) c.push_report.ensures
