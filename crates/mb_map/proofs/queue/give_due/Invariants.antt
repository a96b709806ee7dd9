use Rattle.std.proofs.Common.{◌≡◌, ◌++◌, ◌+◌, ◌≤◌, map, filter, take, drop, count_by, vec_len, vec_capacity}
use Rattle.mb_map.specs.Queue.{held_reply, is_due}
use Rattle.mb_map.proofs.queue.give_due.Given as goal

abbrev pub invariant-loop-held : goal.invariant-loop-held
invariant-loop-held l = record {
  given : l.replies.items ≡ l.initial.replies.items ++ map held_reply (filter is_due (take l.held-index l.held));
  room : vec_len l.replies + count_by is_due (drop l.held-index l.held) ≤ vec_capacity l.replies;
}
