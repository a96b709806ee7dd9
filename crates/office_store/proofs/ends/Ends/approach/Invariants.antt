use Rattle.std.proofs.Common.{◌≡◌, ◌≤◌, ℕ, ◌-◌, length, max}
use Rattle.office_store.specs.Ends.{end_at}
use Rattle.office_store.proofs.ends.Ends.approach.Given as goal

abbrev pub invariant-loop-self : goal.invariant-loop-self
invariant-loop-self l = record {
  same : (number : ℕ) → end_at l.self.known.items number ≡ end_at l.fn.self.known.items number;
  within : length l.self.known.items ≤ max (length l.fn.self.known.items) l.reached;
}

abbrev pub decreases-loop-self : goal.decreases-loop-self
decreases-loop-self l = l.reached - length l.self.known.items
