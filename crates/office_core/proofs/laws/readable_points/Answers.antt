use Rattle.office_core.proofs.Forms.{points_readable}
use Rattle.office_core.proofs.laws.readable_points.Goals as goal

pub returns : goal.returns
returns c = points_readable
