use Rattle.std.proofs.Common.{◌≡◌, ◌<◌, ℕ, false, eqb, get_or, length}
use Rattle.mb_map.proofs.cells.bits_of.Given as goal

abbrev pub invariant-loop-k : goal.invariant-loop-k
invariant-loop-k l = (length l.bits ≡ 2000) × ((j : ℕ) → j < l.k → get_or l.bits j false ≡ eqb (get_or l.numbers j 0) 1)
