-- A body by the words in its front.
use Rattle.std.proofs.Common.{◌≡◌, ℕ, ◌+◌, ◌-◌, ◌*◌, ◌/◌, ◌%◌, ◌<◌, List, ◌∷◌, ◌++◌, length, get_or, take, drop, ap, ◌∙◌, sym, arith, add-one, add_assoc}
use Rattle.std.proofs.lemmas.List.{take_all, length-drop}
use Rattle.std.proofs.Math.Seq.{drop-cons}
use Rattle.mb_pdu.specs.Packing.{two, number_at}

-- what stands from a place on begins with the byte there
pub byte_front : (bytes : List ℕ) (at byte : ℕ) → at < length bytes → byte ≡ get_or bytes at 0 → drop at bytes ≡ byte ∷ drop (at + 1) bytes
byte_front bytes at byte lt is = rw (is, add-one) (drop-cons bytes at 0 lt)

halves : (word high low : ℕ) → low < 256 → word ≡ 256 * high + low → (word / 256 ≡ high) × (word % 256 ≡ low)
halves word high low lt is = (omega arith, omega arith)

-- and with the word there
pub word_front : (bytes : List ℕ) (at word : ℕ) → ((i : ℕ) → get_or bytes i 0 < 256) → at + 1 < length bytes → word ≡ number_at bytes at → drop at bytes ≡ two word ++ drop (at + 2) bytes
word_front bytes at word fits lt is =
    let parts = halves word (get_or bytes at 0) (get_or bytes (at + 1) 0) (fits (at + 1)) is in
    byte_front bytes at (word / 256) (omega (arith, lt)) parts.0
    ∙ ap (λ (x : List ℕ). (word / 256) ∷ x) (rw (← add_assoc at 1 1) (byte_front bytes (at + 1) (word % 256) lt parts.1))

-- all that stands from a place on
pub rest_from : (bytes rest : List ℕ) (at : ℕ) → take (length bytes - at) (drop at bytes) ≡ rest → drop at bytes ≡ rest
rest_from bytes rest at is = sym (take_all (length bytes - at) (drop at bytes) (omega (arith, length-drop at bytes))) ∙ is
