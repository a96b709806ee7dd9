use Rattle.std.proofs.Common.{◌≡◌, ◌++◌, ◌+◌, ◌≤◌, length, map, take, vec_len, vec_capacity}
use Rattle.mb_map.specs.Queue.{held_reply}
use Rattle.mb_map.proofs.queue.give_all.Given as goal

abbrev pub invariant-loop-held : goal.invariant-loop-held
invariant-loop-held l = record {
  given : l.replies.items ≡ l.initial.replies.items ++ map held_reply (take l.held-index l.held);
  room : vec_len l.replies + length l.held ≤ vec_capacity l.replies + l.held-index;
}
