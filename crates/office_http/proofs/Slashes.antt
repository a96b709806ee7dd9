-- Texts at their first slash.
use Rattle.std.proofs.Common.{◌≡◌, ℕ, suc, ◌+◌, ◌<◌, Bool, true, false, not, ◌&&◌, ◌==◌, List, [], ◌∷◌, ◌++◌, length, take, drop, get_or, refl, sym, ap, ◌∙◌, arith, subst, true≢false, cond, Option, Some, None, MatchOption, IfSome, IfNone, Bor}
use Rattle.std.proofs.Math.Seq.{take-append_seam}
use Rattle.std.proofs.lemmas.Bool.{eqb-true}
use Rattle.std.proofs.lemmas.List.{append_cancel_left}
use Rattle.std.proofs.lemmas.List.Sums.{split_at_first, passes_at_first}
use Rattle.std.specs.List.{list_all, position_or_len, prefix_len, before_first, after_first}
use Rattle.office_http.specs.Places.{IsPlain, spell}

abbrev is_slash : ℕ → Bool
is_slash b = b == 47

abbrev other : ℕ → Bool
other b = not (b == 47)

both_true : (x y : Bool) → (x && y) ≡ true → (x ≡ true) × (y ≡ true)
both_true true y e = (refl, e)
both_true false y e = absurd (true≢false (sym e))

one_more : (n : ℕ) → 1 + n ≡ suc n
one_more n = omega arith

plain_more : (x : ℕ) (xs : List ℕ) (b : Bool) → other x ≡ b → IsPlain (take (prefix_len other xs) xs) → list_all other (take (cond b (1 + prefix_len other xs) 0) (x ∷ xs)) ≡ true
plain_more x xs true e rest =
    let n = prefix_len other xs in
    let Q : Bool → Type 0 = λ b. (b && list_all other (take n xs)) ≡ true in
    ap (λ k. list_all other (take k (x ∷ xs))) (one_more n) ∙ subst Q (sym e) rest
plain_more x xs false e rest = refl

-- what stands before the first slash has none
plain_front : (xs : List ℕ) → IsPlain (take (prefix_len other xs) xs)
plain_front [] = refl
plain_front (x ∷ xs) = plain_more x xs (other x) refl (plain_front xs)

-- a part without a slash ends at the first one
front_len : (a b : List ℕ) → IsPlain a → prefix_len other (spell a b) ≡ length a
front_len [] b plain = refl
front_len (x ∷ a) b plain =
    let both = both_true (other x) (list_all other a) plain in
    let n = prefix_len other (spell a b) in
    ap (λ c. cond c (1 + n) 0) both.0 ∙ one_more n ∙ ap suc (front_len a b both.1)

slash_more : (c : Bool) (n k : ℕ) → n < k → cond c (1 + n) 0 < suc k
slash_more true n k less = omega (arith, less)
slash_more false n k less = omega (arith, less)

-- a text with a slash has a first one
has_slash : (a b : List ℕ) → prefix_len other (spell a b) < length (spell a b)
has_slash [] b = omega arith
has_slash (x ∷ a) b = slash_more (other x) (prefix_len other (spell a b)) (length (spell a b)) (has_slash a b)

-- the text before the first slash is that of any such spelling
pub front_is : (xs a b : List ℕ) → xs ≡ spell a b → IsPlain a → take (prefix_len other xs) xs ≡ a
front_is xs a b e plain =
    let P : List ℕ → Type 0 = λ t. take (prefix_len other t) t ≡ a in
    subst P (sym e) (ap (λ n. take n (spell a b)) (front_len a b plain) ∙ take-append_seam a (47 ∷ b))

-- a text around its first slash
around : (xs : List ℕ) → position_or_len is_slash xs < length xs → xs ≡ spell (before_first is_slash xs) (after_first is_slash xs)
around xs some =
    let at = position_or_len is_slash xs in
    split_at_first is_slash xs 0 some
    ∙ ap (λ b. before_first is_slash xs ++ b ∷ after_first is_slash xs) (eqb-true (get_or xs at 0) 47 (passes_at_first is_slash xs 0 some))

-- what a search for the first slash found
abbrev IsSplit : List ℕ → Option (Bor (List ℕ) × Bor (List ℕ)) → Type 0
IsSplit s r = MatchOption r (position_or_len is_slash s ≡ length s)
    (λ x. (x.0.now ≡ before_first is_slash s) × (x.1.now ≡ after_first is_slash s) × (position_or_len is_slash s < length s))

pub split_some : (s : List ℕ) (r : Option (Bor (List ℕ) × Bor (List ℕ))) → IsSplit s r → IfSome r (λ x. (s ≡ spell x.0.now x.1.now) × IsPlain x.0.now)
split_some s None m = tt
split_some s (Some x) m =
    let first = ap (λ a. spell a (after_first is_slash s)) (sym m.0) in
    let second = ap (spell x.0.now) (sym m.1) in
    (around s m.2 ∙ first ∙ second, subst IsPlain (sym m.0) (plain_front s))

pub split_none : (s : List ℕ) (r : Option (Bor (List ℕ) × Bor (List ℕ))) → IsSplit s r → IfNone r ((a b : List ℕ) → s ≡ spell a b → ⊥)
split_none s None m = λ a b e.
    let P : List ℕ → Type 0 = λ t. prefix_len other t < length t in
    let some = subst P (sym e) (has_slash a b) in
    omega (arith, m, some)
split_none s (Some x) m = tt

-- two spellings of a text around a slash have the same parts
pub same_parts : (a b c d : List ℕ) → spell a b ≡ spell c d → IsPlain a → IsPlain c → (a ≡ c) × (b ≡ d)
same_parts a b c d e plain_a plain_c =
    let first : a ≡ c = sym (front_is (spell a b) a b refl plain_a) ∙ front_is (spell a b) c d e plain_c in
    let P : List ℕ → Type 0 = λ t. spell t b ≡ spell c d in
    let same : spell c b ≡ spell c d = subst P first e in
    (first, ap (drop 1) (append_cancel_left c (47 ∷ b) (47 ∷ d) same))
