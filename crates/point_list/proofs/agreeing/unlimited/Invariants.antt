use Rattle.std.proofs.Common.{◌≡◌, true, take}
use Rattle.std.specs.List.{list_all}
use Rattle.point_list.specs.Sites.{is_limited}
use Rattle.point_list.proofs.agreeing.unlimited.Given as goal

abbrev pub invariant-loop-index : goal.invariant-loop-index
invariant-loop-index l = list_all is_limited (take l.index l.lines) ≡ true
