use Rattle.std.proofs.Common.{◌≡◌, true, take}
use Rattle.std.specs.List.{list_all}
use Rattle.point_list.specs.Sites.{has_room}
use Rattle.point_list.proofs.agreeing.model_past_end.Given as goal

abbrev pub invariant-loop-model : goal.invariant-loop-model
invariant-loop-model l = list_all has_room (take l.model-index l.models) ≡ true
