use Rattle.std.proofs.Common.{length}
use Rattle.point_list.proofs.agreeing.+repeated_place.Given as goal

abbrev pub decreases-repeated_place : goal.decreases-repeated_place
decreases-repeated_place l = length l.devices.now
