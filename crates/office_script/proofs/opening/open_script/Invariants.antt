use Rattle.std.proofs.Common.{◌≡◌, ◌≤◌, ◌+◌, length}
use Rattle.point_list.specs.Sites.{IsSound}
use Rattle.office_script.specs.Scripts.{steps_of, from_device, course_of}
use Rattle.office_script.proofs.opening.open_script.Given as goal

abbrev pub invariant-loop-alloc : goal.invariant-loop-alloc
invariant-loop-alloc l = record {
  sound : IsSound l.site;
  course : course_of l.script ≡ from_device l.site l.number (steps_of l.number l.rest);
  room : l.number + length l.rest ≤ length l.script + 1;
}

abbrev pub decreases-loop-alloc : goal.decreases-loop-alloc
decreases-loop-alloc l = length l.rest
