use Rattle.std.proofs.Common.{◌≡◌, ℕ, ◌+◌, ◌-◌, length}
use Rattle.office_store.specs.Ends.{end_at}
use Rattle.office_store.proofs.ends.Ends.note.Given as goal

abbrev pub invariant-loop-self : goal.invariant-loop-self
invariant-loop-self l = (point : ℕ) → end_at l.self.known.items point ≡ end_at l.fn.self.known.items point

abbrev pub decreases-loop-self : goal.decreases-loop-self
decreases-loop-self l = l.place + 1 - length l.self.known.items
