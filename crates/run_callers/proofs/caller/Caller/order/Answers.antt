use Rattle.std.proofs.Common.{◌≡◌, None}
use Rattle.office_http.specs.Heard.{meaning_of}
use Rattle.run_callers.proofs.Sessions.{asked_then_comes, comes_failed, comes_then_asked}
use Rattle.run_callers.proofs.caller.Caller.order.Goals as goal

pub returns-in_err-before-clause-came : goal.returns-in_err-before-clause-came
returns-in_err-before-clause-came g c =
    comes_failed c.args.office.now c.orders_of.new.office (λ meaning. meaning ≡ meaning_of c.args.heard.now) c.from_residual.result c.from_residual.ensures.0 c.orders_of.ensures

pub returns-then-has_more-clause-came : goal.returns-then-has_more-clause-came
returns-then-has_more-clause-came g c =
    comes_then_asked c.args.office.now c.done-told.new.office c.has_more.new.office (λ meaning. meaning ≡ meaning_of c.args.heard.now) _ None
    (asked_then_comes c.args.office.now c.orders_of.new.office c.done-told.new.office (λ meaning. meaning ≡ meaning_of c.args.heard.now) _ None c.orders_of.ensures c.done-told.ensures)
    c.has_more.ensures

pub returns-else-has_more-clause-came : goal.returns-else-has_more-clause-came
returns-else-has_more-clause-came g c =
    comes_then_asked c.args.office.now c.done-told.new.office c.has_more.new.office (λ meaning. meaning ≡ meaning_of c.args.heard.now) _ None
    (asked_then_comes c.args.office.now c.orders_of.new.office c.done-told.new.office (λ meaning. meaning ≡ meaning_of c.args.heard.now) _ None c.orders_of.ensures c.done-told.ensures)
    c.has_more.ensures
