use Rattle.std.proofs.Common.{◌∙◌, sym}
use Rattle.std.specs.Prelude.{string_bytes}
use Rattle.office_net.proofs.Querying.{told_err}
use Rattle.run_callers.proofs.Sessions.{page_begins, page_lacks, page_refused}
use Rattle.run_callers.proofs.caller.begun.Goals as goal

pub returns-in_err-head : goal.returns-in_err-head
returns-in_err-head g c =
    told_err c.from_residual.result _ _ c.from_residual.ensures.0
    (page_refused c.args.office.now c.respond.new.office c.args.page c.respond.ensures.accounts.2 c.in_err-head.ensures.goes)

pub returns-then-not-has_page : goal.returns-then-not-has_page
returns-then-not-has_page g c =
    page_lacks c.args.office.now c.respond.new.office c.args.page c.site.result.now c.respond.ensures.accounts.2 c.site.ensures.history (string_bytes c.in_ok-head.head)
    (sym c.has_page.ensures ∙ c.if-not-has_page.true) c.in_ok-head.ensures.goes

pub returns : goal.returns
returns g c =
    page_begins c.args.office.now c.respond.new.office c.args.page c.site.result.now c.respond.ensures.accounts.2 c.site.ensures.history (string_bytes c.in_ok-head.head) c.first.result
    (sym c.has_page.ensures ∙ c.if-not-has_page.false) c.first.ensures.page c.first.ensures.first c.in_ok-head.ensures.goes
