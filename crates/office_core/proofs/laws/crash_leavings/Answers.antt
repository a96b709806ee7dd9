use Rattle.office_core.proofs.CrashLeavings.{each_of_these, only_these}
use Rattle.office_core.proofs.laws.crash_leavings.Goals as goal

pub returns : goal.returns
returns c = λ before rest told left. (only_these before rest told left, each_of_these before rest told left)
