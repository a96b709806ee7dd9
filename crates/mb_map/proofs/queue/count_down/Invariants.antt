use Rattle.std.proofs.Common.{◌≡◌, ◌<◌, ◌≤◌, ℕ, get_or, length}
use Rattle.mb_map.specs.declared.held.Held.{Held}
use Rattle.mb_map.specs.Queue.{closer}
use Rattle.mb_map.proofs.queue.count_down.Given as goal

abbrev pub invariant-loop-held : goal.invariant-loop-held
invariant-loop-held l = record {
  size : length l.held ≡ length l.initial.held;
  below : (k : ℕ) (d : Held) → k < l.held-index → get_or l.held k d ≡ closer (get_or l.initial.held k d);
  above : (k : ℕ) (d : Held) → l.held-index ≤ k → get_or l.held k d ≡ get_or l.initial.held k d;
}
