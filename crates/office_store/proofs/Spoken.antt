-- Texts in values: names of callers and keys, and the names of points behind an order's value.
use Rattle.std.proofs.Common.{◌≡◌, ◌<◌, ◌+◌, ◌^◌, ◌&&◌, ℕ, ℤ, List, [], ◌∷◌, ◌++◌, length, take, drop, Bool, true, false, Option, Some, None, refl, sym, ap, ap₂, subst, ◌∙◌, arith, if◌then◌else◌}
use Rattle.std.specs.Prelude.{nat_le}
use Rattle.std.specs.Int.{w32, w128, from_be_bytes, to_be_bytes, cast_signed, cast_unsigned}
use Rattle.std.specs.Int.RustNames.{FitsSigned}
use Rattle.std.specs.List.{list_all}
use Rattle.std.specs.Str.{IsAscii, IsUtf8, is_utf8}
use Rattle.std.proofs.lemmas.Bool.{and_parts}
use Rattle.std.proofs.lemmas.Bool.Decides.{nat_tests}
use Rattle.std.proofs.lemmas.Str.{IsUtf8-from_ascii, IsUtf8-from_is_utf8, is_utf8-from_IsUtf8}
use Rattle.std.proofs.lemmas.Str.Ascii.{IsAscii-nil, IsAscii-cons}
use Rattle.std.proofs.lemmas.Nat.{from_be_bytes-to_be_bytes_4}
use Rattle.sqlite_value.specs.declared.value.Value.{Value}
use Rattle.sqlite_value.specs.declared.value.Value.TheVariants.{Null, Int, Real, Text, Blob}
use Rattle.poll_book.specs.Callers.{is_key_byte, is_word_within}
use Rattle.poll_book.specs.declared.requests.Body.TheVariants.{Order, Void}
use Rattle.office_store.specs.Rows.{body_coded, text_that}
use Rattle.office_store.proofs.Sixteen.{signed_back}

key_byte : (b : ℕ) → is_key_byte b ≡ true → b < 128
key_byte b h = grind (arith, nat_tests)

all_ascii : (text : List ℕ) → list_all is_key_byte text ≡ true → IsAscii text
all_ascii [] h = IsAscii-nil
all_ascii (b ∷ bs) h =
    let (here, more) = and_parts (is_key_byte b) (list_all is_key_byte bs) h in
    IsAscii-cons b bs (key_byte b here) (all_ascii bs more)

pub word_is_text : (most : ℕ) (text : List ℕ) → is_word_within most text ≡ true → is_utf8 text ≡ true
word_is_text most text h =
    let outer = and_parts _ _ h in
    let inner = and_parts _ _ outer.1 in
    is_utf8-from_IsUtf8 text (IsUtf8-from_ascii text (all_ascii text inner.1))

-- a test that only text passes, of a value that is text and of one that isn't
module _ (test : List ℕ → Bool) (only : (text : List ℕ) → test text ≡ true → is_utf8 text ≡ true) where
  pub no_text : (v : Value) → None ≡ text_that is_utf8 v → text_that test v ≡ None
  no_text (Text t) h = by (test t) (is_utf8 t) (only t) h
    where
      by : (a b : Bool) → (a ≡ true → b ≡ true) → ◌≡◌ {A = Option (List ℕ)} None (if b then Some t else None) → ◌≡◌ {A = Option (List ℕ)} (if a then Some t else None) None
      by true true o h = absurd (cc)
      by true false o h = absurd (cc (o refl))
      by false b o h = refl
  no_text Null h = refl
  no_text (Int n) h = refl
  no_text (Real x) h = refl
  no_text (Blob b) h = refl

  pub a_text : (v : Value) (text : List ℕ) → Some text ≡ text_that is_utf8 v → text_that test v ≡ (if test text then Some text else None)
  a_text (Text t) text h = by (is_utf8 t) h
    where
      by : (b : Bool) → ◌≡◌ {A = Option (List ℕ)} (Some text) (if b then Some t else None) → ◌≡◌ {A = Option (List ℕ)} (if test t then Some t else None) (if test text then Some text else None)
      by true h = let same : text ≡ t = cc in ap (λ (x : List ℕ). if test x then Some x else None) (sym same)
      by false h = absurd (cc)
  a_text Null text h = absurd (cc)
  a_text (Int n) text h = absurd (cc)
  a_text (Real x) text h = absurd (cc)
  a_text (Blob b) text h = absurd (cc)

-- text in a value, and bytes that are none
pub spoken : (bytes text : List ℕ) → text ≡ bytes → IsUtf8 bytes → Some text ≡ text_that is_utf8 (Text bytes)
spoken bytes text same is = ap (λ (x : List ℕ). Some x) same ∙ sym (ap (λ (b : Bool). if b then Some bytes else None) (is_utf8-from_IsUtf8 bytes is))

pub silent : (bytes : List ℕ) → (IsUtf8 bytes → ⊥) → None ≡ text_that is_utf8 (Text bytes)
silent bytes not = by (is_utf8 bytes) refl
  where
    by : (b : Bool) → is_utf8 bytes ≡ b → ◌≡◌ {A = Option (List ℕ)} None (if b then Some bytes else None)
    by true is = absurd (not (IsUtf8-from_is_utf8 bytes is))
    by false is = refl

-- sixteen bytes and a name behind them
pub order_coded : (bytes first name point : List ℕ) (value : ℤ) → first ≡ take 16 bytes → name ≡ drop 16 bytes → length name + 16 ≡ length bytes → IsUtf8 name
    → point ≡ name → value ≡ cast_signed w128 (from_be_bytes w128 first) → body_coded 2 bytes ≡ Some (Order point value)
order_coded bytes first name point value first_is name_is long text point_is value_is =
    let low : nat_le 16 (length bytes) ≡ true = grind (arith, nat_tests, long) in
    let is : is_utf8 (drop 16 bytes) ≡ true = is_utf8-from_IsUtf8 (drop 16 bytes) (subst IsUtf8 name_is text) in
    ap₂ (λ (a b : Bool). if a && b then Some (Order (drop 16 bytes) (cast_signed w128 (from_be_bytes w128 (take 16 bytes)))) else None) low is
    ∙ ap₂ (λ (p : List ℕ) (v : ℤ). Some (Order p v)) (sym (point_is ∙ name_is)) (ap (λ (x : List ℕ). cast_signed w128 (from_be_bytes w128 x)) (sym first_is) ∙ sym value_is)

-- what is written so reads back
pub order_written : (bytes point : List ℕ) (value : ℤ) → FitsSigned w128 value → IsUtf8 point → bytes ≡ to_be_bytes w128 (cast_unsigned w128 value) ++ point → body_coded 2 bytes ≡ Some (Order point value)
order_written bytes point value fits text is =
    let first = to_be_bytes w128 (cast_unsigned w128 value) in
    ap (body_coded 2) is ∙ order_coded (first ++ point) first point point value refl refl (omega arith) text refl (sym (signed_back value fits))

-- four bytes and a name behind them
pub void_coded : (bytes first name point : List ℕ) (slot : ℕ) → first ≡ take 4 bytes → name ≡ drop 4 bytes → length name + 4 ≡ length bytes → IsUtf8 name
    → point ≡ name → slot ≡ from_be_bytes w32 first → body_coded 3 bytes ≡ Some (Void point slot)
void_coded bytes first name point slot first_is name_is long text point_is slot_is =
    let low : nat_le 4 (length bytes) ≡ true = grind (arith, nat_tests, long) in
    let is : is_utf8 (drop 4 bytes) ≡ true = is_utf8-from_IsUtf8 (drop 4 bytes) (subst IsUtf8 name_is text) in
    ap₂ (λ (a b : Bool). if a && b then Some (Void (drop 4 bytes) (from_be_bytes w32 (take 4 bytes))) else None) low is
    ∙ ap₂ (λ (p : List ℕ) (n : ℕ). Some (Void p n)) (sym (point_is ∙ name_is)) (ap (from_be_bytes w32) (sym first_is) ∙ sym slot_is)

-- what is written so reads back
pub void_written : (bytes point : List ℕ) (slot : ℕ) → slot < 2 ^ 32 → IsUtf8 point → bytes ≡ to_be_bytes w32 slot ++ point → body_coded 3 bytes ≡ Some (Void point slot)
void_written bytes point slot fits text is =
    let first = to_be_bytes w32 slot in
    ap (body_coded 3) is ∙ void_coded (first ++ point) first point point slot refl refl (omega arith) text refl (sym (from_be_bytes-to_be_bytes_4 slot fits))
