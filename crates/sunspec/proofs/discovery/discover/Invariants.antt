use Rattle.std.proofs.Common.{◌≡◌, ◌+◌, ◌-◌, ◌≤◌, Some, vec_len}
use Rattle.sunspec.specs.Sources.{Image}
use Rattle.sunspec.specs.Chains.{AreModels, IsBase}
use Rattle.sunspec.proofs.discovery.discover.Given as goal

abbrev pub invariant-loop-models : goal.invariant-loop-models
invariant-loop-models g l = record {
  base : (known : Image) → g.S.RegisterSource.image l.fn.source ≡ Some known → IsBase known l.base;
  are : (known : Image) → g.S.RegisterSource.image l.fn.source ≡ Some known → AreModels known (l.base + 2) l.models.items l.address;
  few : vec_len l.models ≤ 256;
  counted : g.S.RegisterSource.failed l.fn.source ≤ g.S.RegisterSource.failed l.source;
  same : g.S.RegisterSource.image l.source ≡ g.S.RegisterSource.image l.fn.source;
}

abbrev pub decreases-loop-models : goal.decreases-loop-models
decreases-loop-models g l = 257 - vec_len l.models
