-- The sum of steps as numbers come.
use Rattle.std.proofs.Common.{◌≡◌, ◌⊎◌, inl, inr, ℕ, ◌+◌, ◌-◌, ◌*◌, ◌%◌, ◌^◌, ◌<◌, ◌≤◌, min, List, [], ◌∷◌, ◌++◌, Some, None, Option, length, get_or, take, refl, ap, subst, ◌∙◌, arith}
use Rattle.std.specs.Prelude.{IfSome}
use Rattle.std.specs.List.{cons_option, last_or}
use Rattle.std.proofs.Math.Nat.{add-mod_right, mod-eq_of_lt, mod-lt}
use Rattle.std.proofs.lemmas.Bool.{cases_lt}
use Rattle.std.proofs.lemmas.List.{take_more}
use Rattle.std.proofs.lemmas.List.Elements.{filter_map-append}
use Rattle.poll_book.specs.declared.history.SlotRow.{SlotRow}
use Rattle.poll_book.specs.Totals.{first_of, last_of, reading_number, removed, repaired, step_across, step_from, steps, steps_by_way}
use Rattle.poll_book.specs.Histories.{counted_in}
use Rattle.point_list.specs.declared.point.Point.{Point}

last_push_or : (o : Option ℕ) (xs : List ℕ) (w : ℕ) → last_or o (xs ++ w ∷ []) ≡ Some w
last_push_or o [] w = refl
last_push_or o (x ∷ xs) w = last_push_or (Some x) xs w

pub last-push : (xs : List ℕ) (w : ℕ) → last_of (xs ++ w ∷ []) ≡ Some w
last-push = last_push_or None

pub steps-push : (roll : ℕ) (xs : List ℕ) (w : ℕ) → steps roll (xs ++ w ∷ []) ≡ steps roll xs + step_from roll (last_of xs) w
steps-push roll [] w = refl
steps-push roll (x ∷ []) w = omega arith
steps-push roll (x ∷ y ∷ xs) w = omega (arith, steps-push roll (y ∷ xs) w)

-- the numbers that count, by one row more
pub counted_more : (point : Point) (l : List SlotRow) (i : ℕ) (d : SlotRow) → i < length l
    → counted_in point (take (i + 1) l) ≡ counted_in point (take i l) ++ cons_option (reading_number point (get_or l i d).reading) []
counted_more point l i d lt =
    ap (counted_in point) (take_more l i d lt) ∙ filter_map-append (λ (row : SlotRow). reading_number point row.reading) (take i l) (get_or l i d ∷ [])

-- ---- a number put in between

-- it takes out one step and puts in two
pub steps_insert : (roll : ℕ) (xs : List ℕ) (w : ℕ) (ys : List ℕ)
    → steps roll (xs ++ w ∷ ys) + step_across roll (last_of xs) (first_of ys) ≡ steps roll (xs ++ ys) + steps_by_way roll (last_of xs) w (first_of ys)
steps_insert roll [] w [] = refl
steps_insert roll [] w (y ∷ ys) = omega arith
steps_insert roll (x ∷ []) w [] = omega arith
steps_insert roll (x ∷ []) w (y ∷ ys) = omega arith
steps_insert roll (x ∷ y ∷ xs) w ys = omega (arith, steps_insert roll (y ∷ xs) w ys)

-- the step that is taken out is one of the sum
across_within : (roll : ℕ) (xs ys : List ℕ) → step_across roll (last_of xs) (first_of ys) ≤ steps roll (xs ++ ys)
across_within roll [] ys = omega arith
across_within roll (x ∷ []) [] = omega arith
across_within roll (x ∷ []) (y ∷ ys) = omega arith
across_within roll (x ∷ y ∷ xs) ys = omega (arith, across_within roll (y ∷ xs) ys)

-- a step is the difference, or what is lacking of it to a whole roll
step_up : (roll v w : ℕ) → v ≤ w → w ≤ roll → (w + (roll + 1) - v) % (roll + 1) ≡ w - v
step_up roll v w up bound =
    let whole : w + (roll + 1) - v ≡ w - v + (roll + 1) = omega arith in
    ap (λ n. n % (roll + 1)) whole ∙ add-mod_right (w - v) (roll + 1) ∙ mod-eq_of_lt (omega arith)

step_down : (roll v w : ℕ) → w < v → v ≤ roll → (w + (roll + 1) - v) % (roll + 1) ≡ w + (roll + 1) - v
step_down roll v w down bound = mod-eq_of_lt (omega arith)

step_is : (roll v w : ℕ) → v ≤ roll → w ≤ roll
    → ((v ≤ w) × ((w + (roll + 1) - v) % (roll + 1) ≡ w - v)) ⊎ ((w < v) × ((w + (roll + 1) - v) % (roll + 1) ≡ w + (roll + 1) - v))
step_is roll v w bv bw = elim (cases_lt w v) [
  | inl down ↦ inr (down, step_down roll v w down bv)
  | inr up ↦ inl (up, step_up roll v w up bw)
]

-- two steps by way of a number are the step across, or a whole roll more
pub by_way : (roll v n w : ℕ) → v ≤ roll → n ≤ roll → w ≤ roll
    → (steps_by_way roll (Some v) n (Some w) ≡ step_across roll (Some v) (Some w)) ⊎ (steps_by_way roll (Some v) n (Some w) ≡ step_across roll (Some v) (Some w) + (roll + 1))
by_way roll v n w bv bn bw = elim (step_is roll v n bv bn) [
  | inl one ↦ elim (step_is roll n w bn bw) [
    | inl two ↦ elim (step_is roll v w bv bw) [ inl across ↦ inl (omega arith) | inr across ↦ absurd (omega arith) ]
    | inr two ↦ elim (step_is roll v w bv bw) [ inl across ↦ inr (omega arith) | inr across ↦ inl (omega arith) ]
  ]
  | inr one ↦ elim (step_is roll n w bn bw) [
    | inl two ↦ elim (step_is roll v w bv bw) [ inl across ↦ inr (omega arith) | inr across ↦ inl (omega arith) ]
    | inr two ↦ elim (step_is roll v w bv bw) [ inl across ↦ absurd (omega arith) | inr across ↦ inr (omega arith) ]
  ]
]

-- so they are at most a whole roll more than the step across
way_bound : (roll : ℕ) (before : Option ℕ) (n : ℕ) (after : Option ℕ) → IfSome before (λ v. v ≤ roll) → n ≤ roll → IfSome after (λ w. w ≤ roll)
    → steps_by_way roll before n after ≤ step_across roll before after + (roll + 1)
way_bound roll None n None bv bn bw = omega arith
way_bound roll None n (Some w) bv bn bw = let less = mod-lt (w + (roll + 1) - n) {m = roll + 1} (omega arith) in omega arith
way_bound roll (Some v) n None bv bn bw = let less = mod-lt (n + (roll + 1) - v) {m = roll + 1} (omega arith) in omega arith
way_bound roll (Some v) n (Some w) bv bn bw = elim (by_way roll v n w bv bn bw) [ inl same ↦ omega arith | inr more ↦ omega arith ]

-- the sum with a number put in is the repaired sum
pub steps_repaired : (roll : ℕ) (xs : List ℕ) (n : ℕ) (ys : List ℕ) → IfSome (last_of xs) (λ v. v ≤ roll) → n ≤ roll → IfSome (first_of ys) (λ w. w ≤ roll)
    → steps roll (xs ++ ys) + (roll + 1) ≤ 2 ^ 127 - 1
    → steps roll (xs ++ n ∷ ys) ≡ repaired (steps roll (xs ++ ys)) (last_of xs) n (first_of ys) roll
steps_repaired roll xs n ys bv bn bw room =
    let put = steps_insert roll xs n ys in
    let out = across_within roll xs ys in
    let bound = way_bound roll (last_of xs) n (first_of ys) bv bn bw in
    exactly (steps roll (xs ++ n ∷ ys)) (steps roll (xs ++ ys)) (step_across roll (last_of xs) (first_of ys)) (steps_by_way roll (last_of xs) n (first_of ys)) roll put out bound room
  where
    exactly : (new old out put roll : ℕ) → new + out ≡ old + put → out ≤ old → put ≤ out + (roll + 1) → old + (roll + 1) ≤ 2 ^ 127 - 1 → new ≡ min (old - out + put) (2 ^ 127 - 1)
    exactly new old out put roll same within bound room = omega arith

-- between two sides the sum stays, or it rises by a whole roll
pub stays_or_rises : (roll : ℕ) (xs : List ℕ) (n : ℕ) (ys : List ℕ) (v w : ℕ) → last_of xs ≡ Some v → first_of ys ≡ Some w → v ≤ roll → n ≤ roll → w ≤ roll
    → (steps roll (xs ++ n ∷ ys) ≡ steps roll (xs ++ ys)) ⊎ (steps roll (xs ++ n ∷ ys) ≡ steps roll (xs ++ ys) + (roll + 1))
stays_or_rises roll xs n ys v w lower higher bv bn bw =
    let put : steps roll (xs ++ n ∷ ys) + step_across roll (Some v) (Some w) ≡ steps roll (xs ++ ys) + steps_by_way roll (Some v) n (Some w) =
    subst (λ o. steps roll (xs ++ n ∷ ys) + step_across roll (Some v) o ≡ steps roll (xs ++ ys) + steps_by_way roll (Some v) n o) higher
    (subst (λ o. steps roll (xs ++ n ∷ ys) + step_across roll o (first_of ys) ≡ steps roll (xs ++ ys) + steps_by_way roll o n (first_of ys)) lower (steps_insert roll xs n ys)) in
    elim (by_way roll v n w bv bn bw) [ inl same ↦ inl (omega arith) | inr more ↦ inr (omega arith) ]

-- a step between two sides is at most the roll
across_bound : (roll : ℕ) (before after : Option ℕ) → step_across roll before after ≤ roll
across_bound roll None after = omega arith
across_bound roll (Some v) None = omega arith
across_bound roll (Some v) (Some w) = let less = mod-lt (w + (roll + 1) - v) {m = roll + 1} (omega arith) in omega arith

-- the sum without a number is the sum from which it is removed
pub steps_removed : (roll : ℕ) (xs : List ℕ) (n : ℕ) (ys : List ℕ) → steps roll (xs ++ n ∷ ys) + (roll + 1) ≤ 2 ^ 127 - 1
    → steps roll (xs ++ ys) ≡ removed (steps roll (xs ++ n ∷ ys)) (last_of xs) n (first_of ys) roll
steps_removed roll xs n ys room =
    exactly (steps roll (xs ++ n ∷ ys)) (steps roll (xs ++ ys)) (step_across roll (last_of xs) (first_of ys)) (steps_by_way roll (last_of xs) n (first_of ys)) roll
    (steps_insert roll xs n ys) (across_within roll xs ys) (across_bound roll (last_of xs) (first_of ys)) room
  where
    exactly : (new old out put roll : ℕ) → new + out ≡ old + put → out ≤ old → out ≤ roll → new + (roll + 1) ≤ 2 ^ 127 - 1 → old ≡ min (new - put + out) (2 ^ 127 - 1)
    exactly new old out put roll same within bound room = omega arith

-- each step is at most the roll
pub steps_bound : (roll : ℕ) (xs : List ℕ) → steps roll xs ≤ length xs * roll
steps_bound roll [] = omega arith
steps_bound roll (x ∷ []) = omega arith
steps_bound roll (x ∷ y ∷ xs) =
    let less = mod-lt (y + (roll + 1) - x) {m = roll + 1} (omega arith) in
    let rest = steps_bound roll (y ∷ xs) in
    omega arith
