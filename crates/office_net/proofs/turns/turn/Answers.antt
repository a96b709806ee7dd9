use Rattle.std.proofs.Common.{◌∙◌, ap, sym, subst}
use Rattle.std.specs.Prelude.{MatchResult}
use Rattle.office_net.specs.declared.job.LineJob.{LineJob}
use Rattle.office_net.specs.declared.job.LineJob.TheVariants.{Order}
use Rattle.office_core.specs.Following.{Follows, MayLeave}
use Rattle.office_net.specs.Turning.{TurnFails, Turns}
use Rattle.office_net.proofs.turns.turn.Goals as goal

pub returns-in-Order-clause-turned : goal.returns-in-Order-clause-turned
returns-in-Order-clause-turned g c = λ clean.
    let old = c.args.office.now in
    let new = c.send_next.new.office in
    let P : LineJob → Type 0 = λ job. MatchResult c.send_next.result
    (λ query. Turns (Follows old) (Follows new) (MayLeave old) (MayLeave new) c.args.conn c.args.slot job query)
    (λ e. TurnFails (Follows old) (Follows new) (MayLeave old) (MayLeave new) c.args.conn c.args.slot job e) in
    subst P (ap Order c.as_str.ensures ∙ sym c.in-Order.is) (c.send_next.ensures.turned clean c.args.slot)
