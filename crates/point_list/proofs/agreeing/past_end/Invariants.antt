use Rattle.std.proofs.Common.{◌≡◌, true, take}
use Rattle.point_list.specs.Sites.{have_room}
use Rattle.point_list.proofs.agreeing.past_end.Given as goal

abbrev pub invariant-loop-index : goal.invariant-loop-index
invariant-loop-index l = have_room (take l.index l.devices) ≡ true
