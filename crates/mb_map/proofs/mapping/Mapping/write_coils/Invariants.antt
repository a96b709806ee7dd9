use Rattle.std.proofs.Common.{◌≡◌, ◌<◌, ℕ, false, get_or, length}
use Rattle.mb_map.specs.Device.{number_of}
use Rattle.mb_map.proofs.mapping.Mapping.write_coils.Given as goal

abbrev pub invariant-loop-k : goal.invariant-loop-k
invariant-loop-k l = (length l.numbers ≡ 1968) × ((j : ℕ) → j < l.k → get_or l.numbers j 0 ≡ number_of (get_or l.bits j false))
