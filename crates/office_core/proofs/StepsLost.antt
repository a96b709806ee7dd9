-- What a sum of steps loses where numbers are left out.
use Rattle.std.proofs.Common.{◌≡◌, ◌⊎◌, ◌<◌, ◌≤◌, ◌+◌, ◌-◌, ◌*◌, ◌%◌, ℕ, suc, List, [], ◌∷◌, length, Some, inl, inr, sym, ap, ◌∙◌, subst, arith}
use Rattle.std.specs.Prelude.{All}
use Rattle.std.proofs.Math.Nat.{mod-eq_of_lt, add-mod_right}
use Rattle.std.proofs.lemmas.Bool.{cases_lt}
use Rattle.std.proofs.lemmas.List.Elements.{All-head, All-tail}
use Rattle.std.proofs.lemmas.Option.{none-some, same_Some}
use Rattle.poll_book.specs.Totals.{first_of, last_of, steps}
use Rattle.poll_book.proofs.Steps.{by_way}
use Rattle.office_core.specs.FirstArrivals.{step}

-- the second list with some elements left out is the first
abbrev pub IsPart : {X : Type 0} → List X → List X → Type 0
IsPart [] ys = Unit {0}
IsPart (x ∷ xs) [] = ⊥
IsPart (x ∷ xs) (y ∷ ys) = ((x ≡ y) × IsPart xs ys) ⊎ IsPart (x ∷ xs) ys

-- s is a step forward from v to w, or one past the roll
abbrev IsTurn : ℕ → ℕ → ℕ → ℕ → Type 0
IsTurn roll v w s = ((s + v ≡ w) × (v ≤ w)) ⊎ ((s + v ≡ w + (roll + 1)) × (w < v))

turn : (roll v w : ℕ) → v ≤ roll → w ≤ roll → IsTurn roll v w (step roll v w)
turn roll v w bv bw = by (cases_lt w v)
  where
    by : (w < v) ⊎ (v ≤ w) → IsTurn roll v w (step roll v w)
    by (inl lt) =
        let is : step roll v w ≡ w + (roll + 1) - v = mod-eq_of_lt (omega (arith, lt, bv)) in
        inr (ap (λ s. s + v) is ∙ omega (arith, lt, bv), lt)
    by (inr le) =
        let same : w + (roll + 1) - v ≡ (w - v) + (roll + 1) = omega (arith, le) in
        let is : step roll v w ≡ w - v = ap (λ n. n % (roll + 1)) same ∙ add-mod_right (w - v) (roll + 1) ∙ mod-eq_of_lt (omega (arith, bw)) in
        inl (ap (λ s. s + v) is ∙ omega (arith, le), le)

-- ---- a number left out

abbrev LosesRound : ℕ → ℕ → ℕ → Type 0
LosesRound roll less more = (more ≡ less) ⊎ (more ≡ less + (roll + 1))

without_first : (roll w : ℕ) (xs : List ℕ) → steps roll xs ≤ steps roll (w ∷ xs)
without_first roll w [] = omega arith
without_first roll w (x ∷ xs) = omega arith

-- ---- many numbers

module _ (roll : ℕ) where
  abbrev Within : List ℕ → Type 0
  Within = All (λ n. n ≤ roll)

  head_within : (x : ℕ) (xs ys : List ℕ) → Within ys → IsPart (x ∷ xs) ys → x ≤ roll
  head_within x xs [] within part = absurd part
  head_within x xs (y ∷ ys) within (inl here) = subst (λ n. n ≤ roll) (sym here.0) (All-head (λ n. n ≤ roll) y ys within)
  head_within x xs (y ∷ ys) within (inr later) = head_within x xs ys (All-tail (λ n. n ≤ roll) y ys within) later

  shorter_way : (s t u : ℕ) → LosesRound roll u (s + t) → u ≤ s + t
  shorter_way s t u (inl e) = omega (arith, e)
  shorter_way s t u (inr e) = omega (arith, e)

  -- after a number that stays
  lost_after : (p : ℕ) (xs ys : List ℕ) → p ≤ roll → Within ys → IsPart xs ys → steps roll (p ∷ xs) ≤ steps roll (p ∷ ys)
  lost_after p [] ys bp within part = omega arith
  lost_after p (x ∷ xs) [] bp within part = absurd part
  lost_after p (x ∷ xs) (y ∷ ys) bp within (inl here) =
      let by : y ≤ roll = All-head (λ n. n ≤ roll) y ys within in
      let rest = lost_after y xs ys by (All-tail (λ n. n ≤ roll) y ys within) here.1 in
      subst (λ n. step roll p n + steps roll (n ∷ xs) ≤ step roll p y + steps roll (y ∷ ys)) (sym here.0) (omega (arith, rest))
  lost_after p (x ∷ xs) (y ∷ ys) bp within (inr later) =
      let by : y ≤ roll = All-head (λ n. n ≤ roll) y ys within in
      let past = All-tail (λ n. n ≤ roll) y ys within in
      let rest : step roll y x + steps roll (x ∷ xs) ≤ steps roll (y ∷ ys) = lost_after y (x ∷ xs) ys by past later in
      let way = shorter_way (step roll p y) (step roll y x) (step roll p x) (by_way roll p y x bp by (head_within x xs ys past later)) in
      omega (arith, rest, way)

  pub lost : (xs ys : List ℕ) → Within ys → IsPart xs ys → steps roll xs ≤ steps roll ys
  lost [] ys within part = omega arith
  lost (x ∷ xs) [] within part = absurd part
  lost (x ∷ xs) (y ∷ ys) within (inl here) =
      let by : y ≤ roll = All-head (λ n. n ≤ roll) y ys within in
      let rest = lost_after y xs ys by (All-tail (λ n. n ≤ roll) y ys within) here.1 in
      subst (λ n. steps roll (n ∷ xs) ≤ steps roll (y ∷ ys)) (sym here.0) rest
  lost (x ∷ xs) (y ∷ ys) within (inr later) =
      let rest = lost (x ∷ xs) ys (All-tail (λ n. n ≤ roll) y ys within) later in
      let first = without_first roll y ys in
      omega (arith, rest, first)

  -- more is less and as many rounds, at most one for each of so many numbers
  pub record IsRounds (less more few many : ℕ) : Type 0 where
    pub rounds : ℕ
    pub is : less + rounds * (roll + 1) ≡ more
    pub at_most : rounds + few ≤ many

  -- the way to the last number is its distance and whole rounds
  around : (p : ℕ) (ys : List ℕ) (z : ℕ) → p ≤ roll → Within ys → last_of (p ∷ ys) ≡ Some z → IsRounds z (steps roll (p ∷ ys) + p) 0 (length ys)
  around p [] z bp within last = let e : p ≡ z = same_Some p z last in record { rounds = 0; is = omega (arith, e); at_most = omega arith }
  around p (y ∷ ys) z bp within last =
      let by : y ≤ roll = All-head (λ n. n ≤ roll) y ys within in
      on (step roll p y) (turn roll p y bp by) (around y ys z by (All-tail (λ n. n ≤ roll) y ys within) last)
    where
      on : (s : ℕ) → IsTurn roll p y s → IsRounds z (steps roll (y ∷ ys) + y) 0 (length ys) → IsRounds z (s + steps roll (y ∷ ys) + p) 0 (suc (length ys))
      on s (inl t) rest = record { rounds = rest.rounds; is = omega (arith, t.0, rest.is); at_most = omega (arith, rest.at_most) }
      on s (inr t) rest = record { rounds = rest.rounds + 1; is = omega (arith, t.0, rest.is); at_most = omega (arith, rest.at_most) }

  rounds_after : (p : ℕ) (xs ys : List ℕ) → p ≤ roll → Within ys → IsPart xs ys → last_of (p ∷ xs) ≡ last_of (p ∷ ys)
      → IsRounds (steps roll (p ∷ xs)) (steps roll (p ∷ ys)) (length xs) (length ys)
  rounds_after p [] ys bp within part last =
      let all = around p ys p bp within (sym last) in
      record { rounds = all.rounds; is = omega (arith, all.is); at_most = omega (arith, all.at_most) }
  rounds_after p (x ∷ xs) [] bp within part last = absurd part
  rounds_after p (x ∷ xs) (y ∷ ys) bp within (inl here) last =
      let by : y ≤ roll = All-head (λ n. n ≤ roll) y ys within in
      let rest = rounds_after y xs ys by (All-tail (λ n. n ≤ roll) y ys within) here.1 (subst (λ n. last_of (n ∷ xs) ≡ last_of (y ∷ ys)) here.0 last) in
      record {
        rounds = rest.rounds;
        is = subst (λ n. step roll p n + steps roll (n ∷ xs) + rest.rounds * (roll + 1) ≡ step roll p y + steps roll (y ∷ ys)) (sym here.0) (omega (arith, rest.is));
        at_most = omega (arith, rest.at_most);
      }
  rounds_after p (x ∷ xs) (y ∷ ys) bp within (inr later) last =
      let by : y ≤ roll = All-head (λ n. n ≤ roll) y ys within in
      let past = All-tail (λ n. n ≤ roll) y ys within in
      on (step roll p y) (step roll y x) (step roll p x) (by_way roll p y x bp by (head_within x xs ys past later)) (rounds_after y (x ∷ xs) ys by past later last)
    where
      on : (s t u : ℕ) → LosesRound roll u (s + t) → IsRounds (t + steps roll (x ∷ xs)) (steps roll (y ∷ ys)) (suc (length xs)) (length ys)
          → IsRounds (u + steps roll (x ∷ xs)) (s + steps roll (y ∷ ys)) (suc (length xs)) (suc (length ys))
      on s t u (inl e) rest = record { rounds = rest.rounds; is = omega (arith, e, rest.is); at_most = omega (arith, rest.at_most) }
      on s t u (inr e) rest = record { rounds = rest.rounds + 1; is = omega (arith, e, rest.is); at_most = omega (arith, rest.at_most) }

  without_head : (x : ℕ) (xs ys : List ℕ) → IsPart (x ∷ xs) ys → IsPart xs ys
  without_head x [] ys part = tt
  without_head x (z ∷ xs) [] part = absurd part
  without_head x (z ∷ xs) (y ∷ ys) (inl here) = inr here.1
  without_head x (z ∷ xs) (y ∷ ys) (inr later) = inr (without_head x (z ∷ xs) ys later)

  pub rounds_lost : (xs ys : List ℕ) → Within ys → IsPart xs ys → first_of xs ≡ first_of ys → last_of xs ≡ last_of ys
      → IsRounds (steps roll xs) (steps roll ys) (length xs) (length ys)
  rounds_lost [] [] within part first last = record { rounds = 0; is = omega arith; at_most = omega arith }
  rounds_lost [] (y ∷ ys) within part first last = absurd (none-some y first)
  rounds_lost (x ∷ xs) [] within part first last = absurd part
  rounds_lost (x ∷ xs) (y ∷ ys) within part first last =
      let same : x ≡ y = same_Some x y first in
      let by : y ≤ roll = All-head (λ n. n ≤ roll) y ys within in
      let rest = rounds_after y xs ys by (All-tail (λ n. n ≤ roll) y ys within) (tail part) (subst (λ n. last_of (n ∷ xs) ≡ last_of (y ∷ ys)) same last) in
      record {
        rounds = rest.rounds;
        is = subst (λ n. steps roll (n ∷ xs) + rest.rounds * (roll + 1) ≡ steps roll (y ∷ ys)) (sym same) rest.is;
        at_most = omega (arith, rest.at_most);
      }
    where
      tail : ((x ≡ y) × IsPart xs ys) ⊎ IsPart (x ∷ xs) ys → IsPart xs ys
      tail (inl here) = here.1
      tail (inr later) = without_head x xs ys later
