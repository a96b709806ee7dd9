use Rattle.std.proofs.Common.{[]}
use Rattle.poll_book.specs.declared.fault.StoreFault.{StoreFault}
use Rattle.office_core.specs.Errors.{IsCounted}
use Rattle.office_core.proofs.Ordering.{send_caused}
use Rattle.office_core.proofs.Telling.{caused_err}
use Rattle.office_core.proofs.orders.judge_send.Goals as goal

pub returns-in_err-row-clause-cause : goal.returns-in_err-row-clause-cause
returns-in_err-row-clause-cause g c =
    let cause : StoreFault → Type 0 = IsCounted g.K.Neighbours.may_refuse (g.K.Neighbours.refused c.args.keeper.now) (g.K.Neighbours.refused c.setting.new.self) in
    caused_err cause c.from_residual-in_err-row.result c.in_err-row.field-0.0 c.from_residual-in_err-row.ensures.1
    (send_caused cause c.in-Some-2.setting c.in-Some.line c.args.site.now c.args.known.now [] 0 0 c.in_err-row.field-0.0 (c.in_err-row.ensures [] 0 0))
