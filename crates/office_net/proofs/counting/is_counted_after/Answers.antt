use Rattle.std.proofs.Common.{ap, ◌∙◌}
use Rattle.std.specs.Prelude.{is_some}
use Rattle.office_core.proofs.Proceeding.{along_asked}
use Rattle.office_core.proofs.Following.{stays_so}
use Rattle.office_net.proofs.counting.is_counted_after.Goals as goal

pub returns-clause-value : goal.returns-clause-value
returns-clause-value g c = λ clean. (
  c.value_after.ensures.accounts.2 clean,
  record {
    stays = stays_so c.args.office.now c.value_after.new.self c.value_after.ensures.asked clean;
    known = λ now follows. c.is_some.ensures ∙ ap is_some (c.in_ok-value.ensures.value clean now follows.0);
  },
)

pub returns-clause-along : goal.returns-clause-along
returns-clause-along g c = along_asked c.args.office.now c.value_after.new.self c.value_after.ensures.accounts.2 c.value_after.ensures.asked

pub returns-in_err-value-clause-along : goal.returns-in_err-value-clause-along
returns-in_err-value-clause-along g c = along_asked c.args.office.now c.value_after.new.self c.value_after.ensures.accounts.2 c.value_after.ensures.asked
