use Rattle.std.proofs.Common.{None, Some}
use Rattle.office_core.proofs.Following.{stays_so}
use Rattle.office_net.proofs.Oldest.{oldest_found}
use Rattle.office_core.proofs.Proceeding.{along_asked}
use Rattle.office_net.proofs.going.oldest_order.Goals as goal

pub returns-in-Some-clause-value : goal.returns-in-Some-clause-value
returns-in-Some-clause-value g c = λ clean. (
  c.waiting.ensures.accounts.2 clean,
  record {
    stays = stays_so c.args.office.now c.waiting.new.self c.waiting.ensures.asked clean;
    known = λ now follows. oldest_found c.in_ok-found.found (Some c.in-Some.order) now c.args.device.now c.in-Some.is (c.in_ok-found.ensures.value clean now follows.0);
  },
)

pub returns-in-None-clause-value : goal.returns-in-None-clause-value
returns-in-None-clause-value g c = λ clean. (
  c.waiting.ensures.accounts.2 clean,
  record {
    stays = stays_so c.args.office.now c.waiting.new.self c.waiting.ensures.asked clean;
    known = λ now follows. oldest_found c.in_ok-found.found None now c.args.device.now c.in-None.is (c.in_ok-found.ensures.value clean now follows.0);
  },
)

pub returns-in-Some-clause-along : goal.returns-in-Some-clause-along
returns-in-Some-clause-along g c = along_asked c.args.office.now c.waiting.new.self c.waiting.ensures.accounts.2 c.waiting.ensures.asked

pub returns-in-None-clause-along : goal.returns-in-None-clause-along
returns-in-None-clause-along g c = along_asked c.args.office.now c.waiting.new.self c.waiting.ensures.accounts.2 c.waiting.ensures.asked

pub returns-in_err-found-clause-along : goal.returns-in_err-found-clause-along
returns-in_err-found-clause-along g c = along_asked c.args.office.now c.waiting.new.self c.waiting.ensures.accounts.2 c.waiting.ensures.asked
