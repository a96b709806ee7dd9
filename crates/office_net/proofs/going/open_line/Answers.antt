use Rattle.std.proofs.Common.{refl}
use Rattle.office_core.specs.declared.event.EventAnswer.TheVariants.{Opened}
use Rattle.office_core.specs.History.{Open}
use Rattle.office_net.specs.Kinds.{Opens}
use Rattle.office_net.proofs.Querying.{answered_of, refusal_of}
use Rattle.office_net.proofs.going.open_line.Goals as goal

pub returns-clause-made : goal.returns-clause-made
returns-clause-made g c =
    answered_of (Opens c.args.line.now) c.args.office.now c.open_line.new.self (Open c.args.line.now) Opened c.open_line.result (λ now. refl)
    c.open_line.ensures.accounts.2 c.open_line.ensures.went

pub returns-clause-refused : goal.returns-clause-refused
returns-clause-refused g c =
    refusal_of (Opens c.args.line.now) c.args.office.now c.open_line.new.self (λ _. Open c.args.line.now) Opened c.open_line.result (λ now. refl) c.open_line.ensures.went
