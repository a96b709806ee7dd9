use Rattle.std.proofs.Common.{◌≡◌, ◌*◌, take, length}
use Rattle.mb_pdu.specs.Packing.{words_text}
use Rattle.sunspec.proofs.value.bytes_of.Given as goal

abbrev pub invariant-loop-place : goal.invariant-loop-place
invariant-loop-place l = (length l.bytes ≡ 250) × (take (2 * l.place) l.bytes ≡ words_text (take l.place l.words))
