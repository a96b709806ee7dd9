use Rattle.std.proofs.Common.{◌≡◌, ◌+◌, ◌*◌, ◌<◌, ◌≤◌, length, take}
use Rattle.office_store.specs.Rows.{registers_in}
use Rattle.office_store.proofs.Registers.{after}
use Rattle.office_store.proofs.values.words_of.Given as goal

abbrev pub invariant-loop-left : goal.invariant-loop-left
invariant-loop-left l = record {
  read : registers_in l.initial.left ≡ after (take l.count l.words) l.left;
  placed : l.count * 2 + length l.left ≡ length l.initial.left;
  some : 0 < length l.initial.left;
  short : length l.initial.left ≤ 250;
  room : length l.words ≡ 125;
}

abbrev pub decreases-loop-left : goal.decreases-loop-left
decreases-loop-left l = length l.left
