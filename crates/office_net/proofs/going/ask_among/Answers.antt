use Rattle.office_net.specs.declared.job.LineJob.TheVariants.{Read}
use Rattle.office_net.proofs.Querying.{turn_due, turn_makes, turn_refusal}
use Rattle.office_net.proofs.going.ask_among.Goals as goal

pub returns-clause-made : goal.returns-clause-made
returns-clause-made g c =
    turn_makes c.args.office.now c.ask_lacking.new.office c.args.conn c.args.slot (Read c.args.device.now c.args.read.now) c.ask_lacking.result
    c.ask_lacking.ensures.accounts.2 c.ask_lacking.ensures.turned

pub returns-clause-refused : goal.returns-clause-refused
returns-clause-refused g c =
    turn_refusal c.args.office.now c.ask_lacking.new.office c.args.conn c.args.slot (Read c.args.device.now c.args.read.now) c.ask_lacking.result c.ask_lacking.ensures.turned

pub returns-clause-due : goal.returns-clause-due
returns-clause-due g c = λ clean.
    turn_due c.args.office.now c.ask_lacking.new.office c.args.conn c.args.slot (Read c.args.device.now c.args.read.now) c.ask_lacking.result (c.ask_lacking.ensures.turned clean)
