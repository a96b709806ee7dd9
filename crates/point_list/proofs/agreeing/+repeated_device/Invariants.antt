use Rattle.std.proofs.Common.{length}
use Rattle.point_list.proofs.agreeing.+repeated_device.Given as goal

abbrev pub decreases-repeated_device : goal.decreases-repeated_device
decreases-repeated_device l = length l.devices.now
