use Rattle.std.proofs.Common.{◌-◌}
use Rattle.office_commands.proofs.simulating.answer_stream.Given as goal

abbrev pub decreases-pieces : goal.decreases-pieces
decreases-pieces g l = 16777216 - l.taken
