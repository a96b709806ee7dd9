use Rattle.std.proofs.Common.{length}
use Rattle.mb_map.proofs.devices.+repeated_id.Given as goal

abbrev pub decreases-repeated_id : goal.decreases-repeated_id
decreases-repeated_id l = length l.devices.now
