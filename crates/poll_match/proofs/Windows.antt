-- The last 65,536 of a list.
use Rattle.std.proofs.Common.{◌≡◌, ◌≤◌, ◌<◌, ◌+◌, ◌-◌, ℕ, zero, suc, List, [], ◌∷◌, ◌++◌, length, drop, get_or, set, refl, sym, ap, ◌∙◌, arith, length-drop, length-append, ltb, false, true}
use Rattle.std.specs.Prelude.{slice_get}
use Rattle.std.proofs.lemmas.Bool.Decides.{nat_tests}
use Rattle.std.proofs.lemmas.List.{drop-append-le, drop_all}
use Rattle.poll_match.specs.declared.asked.Matched.{Matched}
use Rattle.poll_match.specs.Window.{Open, last_of, query_at, settled_at}

drop-drop : {A : Type 0} (j k : ℕ) (xs : List A) → drop j (drop k xs) ≡ drop (k + j) xs
drop-drop j zero xs = ap (λ n. drop n xs) (omega arith)
drop-drop j (suc k) [] = drop_all j [] (omega arith) ∙ sym (drop_all (suc k + j) [] (omega arith))
drop-drop j (suc k) (x ∷ xs) =
    let e : suc k + j ≡ suc (k + j) = omega arith in
    drop-drop j k xs ∙ ap (λ n. drop n (x ∷ xs)) (sym e)

-- one more at the end of the last ones
pub last_of-push : {A : Type 0} (xs : List A) (x : A) → last_of (last_of xs ++ x ∷ []) ≡ last_of (xs ++ x ∷ [])
last_of-push xs x =
    let n = length xs in
    let k : ℕ = n - 65536 in
    let long = length-append xs (x ∷ []) in
    let part : drop k xs ++ x ∷ [] ≡ drop k (xs ++ x ∷ []) = sym (drop-append-le k xs (x ∷ []) (omega arith)) in
    let count : length (drop k (xs ++ x ∷ [])) ≡ n + 1 - k = omega (arith, length-drop k (xs ++ x ∷ []), long) in
    ap (λ ys. drop (length ys - 65536) ys) part
    ∙ ap (λ m. drop (m - 65536) (drop k (xs ++ x ∷ []))) count
    ∙ drop-drop (n + 1 - k - 65536) k (xs ++ x ∷ [])
    ∙ ap (λ m. drop m (xs ++ x ∷ [])) (omega (arith, long))

slice_get-drop : (k n : ℕ) (xs : List Matched) → k ≤ n → slice_get (drop k xs) (n - k) ≡ slice_get xs n
slice_get-drop zero n xs le = ap (slice_get xs) (omega arith)
slice_get-drop (suc k) n [] le = refl
slice_get-drop (suc k) zero (x ∷ xs) le = absurd (omega arith)
slice_get-drop (suc k) (suc n) (x ∷ xs) le = ap (slice_get (drop k xs)) (omega arith) ∙ slice_get-drop k n xs (omega arith)

-- a kept query by its number
pub query_kept : (on : Open) (queries : List Matched) (n : ℕ) → on.made ≡ length queries → on.last ≡ last_of queries → on.made ≤ n + 65536 → query_at on n ≡ slice_get queries n
query_kept on queries n made last near =
    let first : ltb n (on.made - 65536) ≡ false = grind (arith, nat_tests) in
    rw (first, last, made) (slice_get-drop (length queries - 65536) n queries (omega arith))

settled-drop : (k n : ℕ) (xs : List Matched) → k ≤ n → settled_at (n - k) (drop k xs) ≡ drop k (settled_at n xs)
settled-drop zero n xs le = ap (λ m. settled_at m xs) (omega arith)
settled-drop (suc k) n [] le = refl
settled-drop (suc k) zero (x ∷ xs) le = absurd (omega arith)
settled-drop (suc k) (suc n) (x ∷ xs) le = ap (λ m. settled_at m (drop k xs)) (omega arith) ∙ settled-drop k n xs (omega arith)

length-settled : (n : ℕ) (xs : List Matched) → length (settled_at n xs) ≡ length xs
length-settled n [] = refl
length-settled zero (x ∷ xs) = refl
length-settled (suc n) (x ∷ xs) = ap suc (length-settled n xs)

pub settled_set : (n : ℕ) (xs : List Matched) (x : Matched) → n < length xs → x ≡ get_or xs n x → set xs n (record { asked = x.asked; settled = true }) ≡ settled_at n xs
settled_set n [] x lt e = absurd (omega arith)
settled_set zero (y ∷ xs) x lt e = ap (λ (m : Matched). record { asked = m.asked; settled = true } ∷ xs) e
settled_set (suc n) (y ∷ xs) x lt e = ap (λ l. y ∷ l) (settled_set n xs x (omega arith) e)

-- a kept query that is settled
pub last_settled : (n : ℕ) (xs : List Matched) → length xs ≤ n + 65536 → settled_at (n - (length xs - 65536)) (last_of xs) ≡ last_of (settled_at n xs)
last_settled n xs near = settled-drop (length xs - 65536) n xs (omega arith) ∙ ap (λ m. drop (m - 65536) (settled_at n xs)) (sym (length-settled n xs))
