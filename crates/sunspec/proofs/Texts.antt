-- Texts of registers.
use Rattle.std.proofs.Common.{◌≡◌, ◌<◌, ◌≤◌, ◌+◌, ◌-◌, ◌*◌, ◌/◌, ◌%◌, ℕ, List, [], ◌∷◌, ◌++◌, length, take, drop, replicate, get_or, set, refl, ap, ◌∙◌, arith, append_assoc, eqb, ltb, not, true, false, inl, inr}
use Rattle.std.specs.Prelude.{unwrap_or, position}
use Rattle.std.specs.List.{position_or_len}
use Rattle.std.proofs.lemmas.Bool.{cases_lt, lt-ltb}
use Rattle.std.proofs.lemmas.Bool.Decides.{nat_tests}
use Rattle.std.proofs.lemmas.List.Sums.{prefix_len-le-length}
use Rattle.std.proofs.lemmas.List.{length-append, length-replicate, length-set, take-append-le, take_all, drop-replicate, take_more, take_more_set}
use Rattle.std.proofs.lemmas.List.Concat.{flat_map-append}
use Rattle.mb_pdu.specs.Packing.{two, words_text}
use Rattle.sunspec.specs.FixedText.{IsPadded}

-- a text written over the front of zeros
pub over_zeros : (room n : ℕ) (text : List ℕ) → length text ≡ n → n ≤ room → IsPadded room n (text ++ drop n (replicate room 0))
over_zeros room n text count short =
    let zeros : List ℕ = replicate (room - n) 0 in
    let rest : drop n (replicate room 0) ≡ zeros = drop-replicate n room 0 in
    let front : take n (text ++ zeros) ≡ text = take-append-le n text zeros (omega arith) ∙ take_all n text (omega arith) in
    record {
      whole = rw rest (omega (arith, length-append text zeros, length-replicate {A = ℕ} (room - n) 0));
      short = short;
      rest = rw (rest, front) refl;
    }

-- one more register at the end of the bytes
pub words_text_more : (bytes words : List ℕ) (i : ℕ) → length bytes ≡ 250 → length words ≤ 125 → i < length words → take (2 * i) bytes ≡ words_text (take i words)
    → take (2 * (i + 1)) (set (set bytes (2 * i) (get_or words i 0 / 256)) (2 * i + 1) (get_or words i 0 % 256)) ≡ words_text (take (i + 1) words)
words_text_more bytes words i room few lt before =
    let word : ℕ = get_or words i 0 in
    let first : List ℕ = set bytes (2 * i) (word / 256) in
    let twice : 2 * (i + 1) ≡ 2 * i + 1 + 1 = omega arith in
    let long : length first ≡ 250 = length-set bytes (2 * i) (word / 256) ∙ room in
    let low = take_more_set first (2 * i + 1) (word % 256) (omega arith) in
    let high = take_more_set bytes (2 * i) (word / 256) (omega arith) in
    let text : words_text (take (i + 1) words) ≡ words_text (take i words) ++ two word = ap words_text (take_more words i 0 lt) ∙ flat_map-append two (take i words) (word ∷ []) in
    rw (twice, text, low, high, before) (append_assoc (words_text (take i words)) (word / 256 ∷ []) (word % 256 ∷ []))

-- the place of the first zero byte, or the end
pub end_of_text : (bytes : List ℕ) → unwrap_or (position (λ byte. eqb byte 0) bytes) (length bytes) ≡ position_or_len (λ byte. eqb byte 0) bytes
end_of_text bytes =
    let end : ℕ = position_or_len (λ byte. eqb byte 0) bytes in
    let most : end ≤ length bytes = prefix_len-le-length (λ byte. not (eqb byte 0)) bytes in
    elim (cases_lt end (length bytes)) [
      | inl before ↦ let test : ltb end (length bytes) ≡ true = lt-ltb _ _ before in rw test refl
      | inr past ↦ let test : ltb end (length bytes) ≡ false = grind (arith, nat_tests) in rw test (omega arith)
    ]
