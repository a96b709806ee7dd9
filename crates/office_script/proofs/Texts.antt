-- Words as texts, and as bytes.
use Rattle.std.proofs.Common.{◌≡◌, ◌<◌, ◌+◌, ◌*◌, ◌/◌, ◌%◌, ◌==◌, ℕ, zero, suc, Bool, true, false, cond, List, [], ◌∷◌, ◌++◌, length, take, get_or, slice_index, refl, ap, ◌∙◌, arith, Option, Some, None, Result, Ok, Err}
use Rattle.std.specs.Prelude.{option_map}
use Rattle.std.proofs.lemmas.Bool.{and_parts}
use Rattle.std.proofs.lemmas.Bool.Decides.{nat_tests}
use Rattle.std.proofs.lemmas.Str.{IsUtf8-from_ascii}
use Rattle.std.specs.Borrow.{Bor}
use Rattle.std.specs.Result.{result_ok}
use Rattle.std.specs.Str.{IsUtf8}
use Rattle.point_list.proofs.Labels.{all_ascii}
use Rattle.hex.specs.Hex.{hex_digit_value, digit_or_error, decode_pairs, decode_sized, ◌>>=◌}
use Rattle.hex.specs.declared.error.FromHexError.{FromHexError}
use Rattle.hex.specs.declared.error.FromHexError.TheVariants.{OddLength, InvalidStringLength}
use Rattle.office_script.specs.Words.{is_text, joined, texts, byte_of, bytes_of, onto_bytes}

-- a word of ASCII is UTF-8
pub is_utf8 : (word : List ℕ) → is_text word ≡ true → IsUtf8 word
is_utf8 word h = IsUtf8-from_ascii word (all_ascii word (and_parts _ _ h).1)

-- one word more
pub texts-push : (words : List (Bor (List ℕ))) (word : Bor (List ℕ)) → texts (words ++ word ∷ []) ≡ texts words ++ word.now ∷ []
texts-push [] word = refl
texts-push (first ∷ words) word = ap (λ l. first.now ∷ l) (texts-push words word)

-- one byte more, where the next word is one
pub bytes-more : (words : List (Bor (List ℕ))) (i : ℕ) (d : Bor (List ℕ)) (bytes : List ℕ) (byte : ℕ) → i < length words → bytes_of (texts (take i words)) ≡ Some bytes
    → byte_of (get_or words i d).now ≡ Some byte → bytes_of (texts (take (suc i) words)) ≡ Some (bytes ++ byte ∷ [])
bytes-more [] i d bytes byte lt so next = absurd (omega arith)
bytes-more (w ∷ ws) zero d bytes byte lt so next = rw next (by bytes so)
  where
    by : (bytes : List ℕ) → Some [] ≡ Some bytes → Some (byte ∷ []) ≡ Some (bytes ++ byte ∷ [])
    by [] e = refl
    by (b ∷ bs) e = absurd (cc)
bytes-more (w ∷ ws) (suc i) d bytes byte lt so next =
    by (byte_of w.now) (bytes_of (texts (take i ws))) refl (λ bs s. bytes-more ws i d bs byte (omega arith) s next) so
  where
    by : (o : Option ℕ) (p : Option (List ℕ)) → bytes_of (texts (take i ws)) ≡ p
        → ((bs : List ℕ) → bytes_of (texts (take i ws)) ≡ Some bs → bytes_of (texts (take (suc i) ws)) ≡ Some (bs ++ byte ∷ []))
        → onto_bytes o p ≡ Some bytes → onto_bytes o (bytes_of (texts (take (suc i) ws))) ≡ Some (bytes ++ byte ∷ [])
    by None p is more e = absurd (cc)
    by (Some b) None is more e = absurd (cc)
    by (Some b) (Some bs) is more e = rw (more bs is) (ap (λ (l : List ℕ). Some (l ++ byte ∷ [])) (inside e))
      where
        inside : Some (b ∷ bs) ≡ Some bytes → b ∷ bs ≡ bytes
        inside e = cc

-- none, where a word is none
pub bytes-none : (words : List (Bor (List ℕ))) (i : ℕ) (d : Bor (List ℕ)) → i < length words → byte_of (get_or words i d).now ≡ None → bytes_of (texts words) ≡ None
bytes-none [] i d lt none = absurd (omega arith)
bytes-none (w ∷ ws) zero d lt none = rw none refl
bytes-none (w ∷ ws) (suc i) d lt none = rw (bytes-none ws i d (omega arith) none) (by (byte_of w.now))
  where
    by : (o : Option ℕ) → onto_bytes o None ≡ None
    by None = refl
    by (Some b) = refl

longer : (n : ℕ) → (suc (suc (suc n)) % 2 == 1) ≡ false → (suc (suc (suc n)) / 2 == 1) ≡ false
longer n even = grind (arith, nat_tests, even)

-- what decoding into room for one byte gives, of a word
pub byte_read : (word : List ℕ) → result_ok (decode_sized word 1) ≡ option_map (λ b. b ∷ []) (byte_of word)
unfolding decode_pairs
byte_read [] = refl
byte_read (x ∷ []) = refl
byte_read (high ∷ low ∷ []) = by (hex_digit_value high) (hex_digit_value low)
  where
    by : (o p : Option ℕ) → result_ok ((digit_or_error high 0 o >>= (λ h. digit_or_error low 1 p >>= (λ l. Ok (h * 16 + l)))) >>= (λ b. Ok (b ∷ []))) ≡ option_map (λ b. b ∷ []) (joined o p)
    by None p = refl
    by (Some h) None = refl
    by (Some h) (Some l) = refl
byte_read (x ∷ y ∷ z ∷ rest) = by (length (x ∷ y ∷ z ∷ rest) % 2 == 1) (length (x ∷ y ∷ z ∷ rest) / 2 == 1) (λ even. longer (length rest) even)
  where
    pairs : Result (List ℕ) FromHexError
    pairs = decode_pairs 0 (x ∷ y ∷ z ∷ rest)

    by : (odd one : Bool) → (odd ≡ false → one ≡ false) → result_ok (cond odd (Err OddLength) (cond one pairs (Err InvalidStringLength))) ≡ None
    by true one h = refl
    by false one h = rw (h refl) refl

-- the byte that was decoded from a word
pub byte_ok : (word bytes : List ℕ) → Ok bytes ≡ decode_sized word 1 → Some (slice_index bytes 0) ≡ byte_of word
byte_ok word bytes e = by (byte_of word) (ap result_ok e ∙ byte_read word)
  where
    by : (o : Option ℕ) → Some bytes ≡ option_map (λ b. b ∷ []) o → Some (slice_index bytes 0) ≡ o
    by None e = absurd (cc)
    by (Some b) e = let one : bytes ≡ b ∷ [] = cc in ap (λ bs. Some (slice_index bs 0)) one

-- and none where none was
pub byte_err : (word : List ℕ) (error : FromHexError) → Err error ≡ decode_sized word 1 → None ≡ byte_of word
byte_err word error e = by (byte_of word) (ap result_ok e ∙ byte_read word)
  where
    by : (o : Option ℕ) → None ≡ option_map (λ b. b ∷ []) o → None ≡ o
    by None e = refl
    by (Some b) e = absurd (cc)
