-- The least number of the connections of a line.
use Rattle.std.proofs.Common.{◌≡◌, ℕ, zero, suc, ◌+◌, ◌<◌, ◌≤◌, ◌⊎◌, inl, inr, Bool, true, false, cond, eqb, leb, List, [], ◌∷◌, ◌++◌, length, get_or, take, Some, None, Option, refl, sym, ap, ◌∙◌, arith, subst, length-append}
use Rattle.std.proofs.lemmas.Bool.{cases_lt, eqb-true, eq-eqb, false≢true}
use Rattle.std.proofs.lemmas.Bool.Decides.{nat_tests}
use Rattle.std.proofs.lemmas.List.{take_more}
use Rattle.poll_match.specs.Window.{Open, LeastIn, IsLeastOf, lesser, held, line_of, are_apart}
use Rattle.poll_match.proofs.Places.{held_place, place_held}

front : (xs : List Open) (x : Open) (k : ℕ) (d : Open) → k < length xs → get_or (xs ++ x ∷ []) k d ≡ get_or xs k d
front [] x k d lt = absurd (omega arith)
front (y ∷ ys) x zero d lt = refl
front (y ∷ ys) x (suc k) d lt = front ys x k d (omega arith)

last : (xs : List Open) (x d : Open) → get_or (xs ++ x ∷ []) (length xs) d ≡ x
last [] x d = refl
last (y ∷ ys) x d = last ys x d

lesser_new : (least : Option ℕ) (number : ℕ) → lesser least number ≤ number
lesser_new None number = omega arith
lesser_new (Some n) number = by (leb n number) refl
  where
    by : (b : Bool) → leb n number ≡ b → cond b n number ≤ number
    by true e = grind (arith, nat_tests)
    by false e = omega arith

lesser_old : (n number : ℕ) → lesser (Some n) number ≤ n
lesser_old n number = by (leb n number) refl
  where
    by : (b : Bool) → leb n number ≡ b → cond b n number ≤ n
    by true e = omega arith
    by false e = grind (arith, nat_tests)

lesser_one : (n number : ℕ) → (lesser (Some n) number ≡ n) ⊎ (lesser (Some n) number ≡ number)
lesser_one n number = by (leb n number)
  where
    by : (b : Bool) → (cond b n number ≡ n) ⊎ (cond b n number ≡ number)
    by true = inl refl
    by false = inr refl

-- a connection of another line changes nothing
push_other : (line : ℕ) (xs : List Open) (x : Open) (least : Option ℕ) → (x.line ≡ line → ⊥) → LeastIn line xs least → LeastIn line (xs ++ x ∷ []) least
push_other line xs x None far none = λ k d lt e. elim (cases_lt k (length xs)) [
  | inl below ↦ none k d below (ap (λ (o : Open). o.line) (sym (front xs x k d below)) ∙ e)
  | inr at ↦
      let here : k ≡ length xs = omega (arith, length-append xs (x ∷ []), lt) in
      far (ap (λ (o : Open). o.line) (sym (last xs x d)) ∙ ap (λ n. (get_or (xs ++ x ∷ []) n d).line) (sym here) ∙ e)
]
push_other line xs x (Some n) far some = (
  (some.0.0, omega (arith, length-append xs (x ∷ []), some.0.1), λ d. let at = front xs x some.0.0 d some.0.1 in let w = some.0.2 d in (ap (λ (o : Open). o.line) at ∙ w.0, ap (λ (o : Open). o.number) at ∙ w.1)),
  λ k d lt e. elim (cases_lt k (length xs)) [
    | inl below ↦
        let at = front xs x k d below in
        let P : Open → Type 0 = λ o. n ≤ o.number in
        subst P (sym at) (some.1 k d below (ap (λ (o : Open). o.line) (sym at) ∙ e))
    | inr at ↦
        let here : k ≡ length xs = omega (arith, length-append xs (x ∷ []), lt) in
        absurd (far (ap (λ (o : Open). o.line) (sym (last xs x d)) ∙ ap (λ m. (get_or (xs ++ x ∷ []) m d).line) (sym here) ∙ e))
  ],
)

-- a connection of the line
push_that : (line : ℕ) (xs : List Open) (x : Open) (least : Option ℕ) → x.line ≡ line → LeastIn line xs least → LeastIn line (xs ++ x ∷ []) (Some (lesser least x.number))
push_that line xs x None own none = (
  (length xs, omega (arith, length-append xs (x ∷ [])), λ d. (ap (λ (o : Open). o.line) (last xs x d) ∙ own, ap (λ (o : Open). o.number) (last xs x d))),
  λ k d lt e. elim (cases_lt k (length xs)) [
    | inl below ↦ absurd (none k d below (ap (λ (o : Open). o.line) (sym (front xs x k d below)) ∙ e))
    | inr at ↦
        let here : k ≡ length xs = omega (arith, length-append xs (x ∷ []), lt) in
        let same : (get_or (xs ++ x ∷ []) k d).number ≡ x.number = ap (λ m. (get_or (xs ++ x ∷ []) m d).number) here ∙ ap (λ (o : Open). o.number) (last xs x d) in
        omega (arith, same)
  ],
)
push_that line xs x (Some n) own some = (
  elim (lesser_one n x.number) [
    | inl old ↦ (some.0.0, omega (arith, length-append xs (x ∷ []), some.0.1), λ d. let at = front xs x some.0.0 d some.0.1 in let w = some.0.2 d in (ap (λ (o : Open). o.line) at ∙ w.0, ap (λ (o : Open). o.number) at ∙ w.1 ∙ sym old))
    | inr new ↦ (length xs, omega (arith, length-append xs (x ∷ [])), λ d. (ap (λ (o : Open). o.line) (last xs x d) ∙ own, ap (λ (o : Open). o.number) (last xs x d) ∙ sym new))
  ],
  λ k d lt e. elim (cases_lt k (length xs)) [
    | inl below ↦
        let at = front xs x k d below in
        let P : Open → Type 0 = λ o. lesser (Some n) x.number ≤ o.number in
        let old = some.1 k d below (ap (λ (o : Open). o.line) (sym at) ∙ e) in
        subst P (sym at) (omega (arith, old, lesser_old n x.number))
    | inr at ↦
        let here : k ≡ length xs = omega (arith, length-append xs (x ∷ []), lt) in
        let same : (get_or (xs ++ x ∷ []) k d).number ≡ x.number = ap (λ m. (get_or (xs ++ x ∷ []) m d).number) here ∙ ap (λ (o : Open). o.number) (last xs x d) in
        omega (arith, same, lesser_new (Some n) x.number)
  ],
)

push : (line : ℕ) (xs : List Open) (x : Open) (least : Option ℕ) (b : Bool) → eqb x.line line ≡ b → LeastIn line xs least → LeastIn line (xs ++ x ∷ []) (cond b (Some (lesser least x.number)) least)
push line xs x least true e h = push_that line xs x least (eqb-true x.line line e) h
push line xs x least false e h = push_other line xs x least (λ own. false≢true (sym e ∙ eq-eqb x.line line own)) h

pub least_more : (line : ℕ) (all : List Open) (i : ℕ) (x : Open) (least : Option ℕ) → i < length all → x ≡ get_or all i x → LeastIn line (take i all) least
    → LeastIn line (take (i + 1) all) (cond (eqb x.line line) (Some (lesser least x.number)) least)
least_more line all i x least lt at h =
    let more : take (i + 1) all ≡ take i all ++ x ∷ [] = take_more all i x lt ∙ ap (λ (o : Open). take i all ++ o ∷ []) (sym at) in
    rw more (push line (take i all) x least (eqb x.line line) refl h)

-- the least by its place is the least by its number
pub least_held : (line number : ℕ) (all : List Open) → are_apart all ≡ true → LeastIn line all (Some number) → IsLeastOf line all number
least_held line number all apart some =
    let k = some.0.0 in
    let d : Open = record { number = 0; line = 0; made = 0; last = [] } in
    let w = some.0.2 d in
    let there : held number all ≡ Some (get_or all k d) = ap (λ n. held n all) (sym w.1) ∙ place_held all k d some.0.1 apart in
    record {
      there = ap line_of there ∙ ap Some w.0;
      least = λ other e.
          let p = held_place other all line e in
          let n = some.1 p.0 p.1 p.2 p.3 in
          omega (arith, n, p.4);
    }

pub none_held : (line : ℕ) (all : List Open) → LeastIn line all None → (conn : ℕ) → line_of (held conn all) ≡ Some line → ⊥
none_held line all none conn e =
    let p = held_place conn all line e in
    none p.0 p.1 p.2 p.3
