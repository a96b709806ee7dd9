use Rattle.std.proofs.Common.{◌≡◌, ℕ, ◌<◌, ◌≤◌, Some, get_or}
use Rattle.sunspec.specs.Sources.{Image}
use Rattle.sunspec.specs.Chains.{IsMarked, bases}
use Rattle.sunspec.proofs.discovery.base_of.Given as goal

abbrev pub invariant-loop-base : goal.invariant-loop-base
invariant-loop-base g l = record {
  unmarked : (known : Image) → g.S.RegisterSource.image l.fn.source ≡ Some known → (k : ℕ) → k < l.base-index → IsMarked known (get_or bases k 0) → ⊥;
  counted : g.S.RegisterSource.failed l.fn.source ≤ g.S.RegisterSource.failed l.source;
  same : g.S.RegisterSource.image l.source ≡ g.S.RegisterSource.image l.fn.source;
}
