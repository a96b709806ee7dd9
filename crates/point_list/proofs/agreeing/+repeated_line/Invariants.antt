use Rattle.std.proofs.Common.{length}
use Rattle.point_list.proofs.agreeing.+repeated_line.Given as goal

abbrev pub decreases-repeated_line : goal.decreases-repeated_line
decreases-repeated_line l = length l.lines.now
