-- The caller and the keys of a script's requests.
use Rattle.std.proofs.Common.{◌≡◌, ◌≤◌, ℕ, suc, Bool, true, false, cond, List, [], ◌∷◌, length, refl, ap, ◌∙◌, arith, Some, None}
use Rattle.std.specs.Prelude.{decimal, nat_le, nat_lt, ◌&&◌}
use Rattle.std.specs.Char.{is_ascii}
use Rattle.std.specs.List.{list_all}
use Rattle.std.specs.Str.{IsUtf8}
use Rattle.std.specs.Str.Parse.{AllDigits}
use Rattle.std.proofs.lemmas.Bool.{and_from, and_parts}
use Rattle.std.proofs.lemmas.Bool.Decides.{nat_tests}
use Rattle.std.proofs.lemmas.Fmt.{decimal_is_IsNumeral, length-decimal-le}
use Rattle.std.proofs.lemmas.Str.{IsUtf8-from_ascii}
use Rattle.std.proofs.lemmas.Str.Parse.{digit_from_value}
use Rattle.point_list.proofs.Labels.{all_ascii}
use Rattle.poll_book.specs.Callers.{is_caller, is_key, is_key_byte}
use Rattle.office_script.specs.Commands.{caller_name, line_key}
use Rattle.office_script.specs.Words.{key_of}

-- the caller's name is one
pub is_name : is_caller caller_name ≡ true
is_name = refl

digit_fits : (b : ℕ) → 48 ≤ b → b ≤ 57 → is_key_byte b ≡ true
digit_fits b from to = grind (arith, nat_tests, from, to)

digits_fit : (ds : List ℕ) → AllDigits 10 ds → list_all is_key_byte ds ≡ true
digits_fit [] all = refl
digits_fit (d ∷ ds) all =
    let within = digit_from_value d all.0 in
    and_from (is_key_byte d) (list_all is_key_byte ds) (digit_fits d within.0 within.1) (digits_fit ds all.1)

with_p : (ds : List ℕ) → length ds ≤ 10 → list_all is_key_byte ds ≡ true → is_key (112 ∷ ds) ≡ true
with_p ds few fit =
    let some : nat_lt 0 (suc (length ds)) ≡ true = grind (arith, nat_tests) in
    let short : nat_le (suc (length ds)) 64 ≡ true = grind (arith, nat_tests, few) in
    and_from (nat_lt 0 (suc (length ds))) (nat_le (suc (length ds)) 64 && list_all is_key_byte (112 ∷ ds)) some
    (and_from (nat_le (suc (length ds)) 64) (list_all is_key_byte (112 ∷ ds)) short fit)

-- the key of a line is one, where 32 bits hold the line's number
pub is_line_key : (number : ℕ) → number ≤ 4294967295 → is_key (line_key number) ≡ true
is_line_key number small =
    let few : length (decimal number) ≤ 10 = length-decimal-le 10 number (omega arith) (omega arith) (omega arith) in
    with_p (decimal number) few (digits_fit (decimal number) (decimal_is_IsNumeral number (omega arith)).0.1)

ascii_key : (b : ℕ) → is_key_byte b ≡ true → is_ascii b ≡ true
ascii_key b h = grind (arith, nat_tests)

key_ascii : (word : List ℕ) → list_all is_key_byte word ≡ true → list_all is_ascii word ≡ true
key_ascii [] h = refl
key_ascii (b ∷ bs) h =
    let (here, more) = and_parts (is_key_byte b) (list_all is_key_byte bs) h in
    and_from (is_ascii b) (list_all is_ascii bs) (ascii_key b here) (key_ascii bs more)

-- a key is UTF-8
key_utf8 : (word : List ℕ) → is_key word ≡ true → IsUtf8 word
key_utf8 word h =
    let outer = and_parts _ _ h in
    let inner = and_parts _ _ outer.1 in
    IsUtf8-from_ascii word (all_ascii word (key_ascii word inner.1))

-- what isn't UTF-8 is none
pub no_key : (word : List ℕ) → (IsUtf8 word → ⊥) → None ≡ key_of word
no_key word off = by (is_key word) refl
  where
    by : (b : Bool) → is_key word ≡ b → None ≡ cond b (Some word) None
    by true h = absurd (off (key_utf8 word h))
    by false h = refl

-- a key that is refused is none of a line's
pub line_has_key : (number : ℕ) (text : List ℕ) → number ≤ 4294967295 → text ≡ line_key number → None ≡ key_of text → ⊥
line_has_key number text small is none = by (is_key text) (ap is_key is ∙ is_line_key number small) none
  where
    by : (b : Bool) → b ≡ true → None ≡ cond b (Some text) None → ⊥
    by true h e = absurd (cc)
    by false h e = absurd (cc)
