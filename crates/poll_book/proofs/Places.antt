-- What a search finds in a list whose keys rise, and what an insert there leaves.
use Rattle.std.proofs.Common.{◌≡◌, ℕ, suc, ◌+◌, ◌-◌, ◌<◌, ◌≤◌, List, ◌++◌, length, get_or, take, drop, Result, Ok, Err, IfOk, IfErr, inl, inr, sym, ap, subst, ◌∙◌, arith, length-drop}
use Rattle.std.specs.Prelude.{All, Contains, map}
use Rattle.std.specs.List.{insert}
use Rattle.std.specs.List.Sorted.{IsSearchInRange, IsBinarySearchResult, IsNonDecreasingBy}
use Rattle.std.specs.Ordering.{nat_cmp, ordering_index}
use Rattle.std.proofs.lemmas.Cmp.{ranked}
use Rattle.std.proofs.lemmas.List.{length-take-le, get_or-take, get_or-drop, take-append-drop, map-append, length-map, get_or-map}
use Rattle.std.proofs.lemmas.List.Elements.{All-from_all_within, All-get_or, All-contains, All-map, Contains-append_cases}
use Rattle.std.proofs.lemmas.List.Edits.{length-insert, get_or-insert_below, get_or-insert_at, get_or-insert_above}
use Rattle.std.proofs.lemmas.Bool.Decides.{nat_tests}
use Rattle.poll_book.specs.Histories.{IsRising, IsAt, IsGap}

-- what holds of each element before a place, and from a place on
all_before : {X : Type 0} (P : X → Type 0) (l : List X) (place : ℕ) → place ≤ length l → ((i : ℕ) (d : X) → i < place → P (get_or l i d)) → All P (take place l)
all_before P l place in_range h =
    All-from_all_within P (take place l) (λ i d _ lt.
    let below : i < place = omega (arith, length-take-le place l in_range) in
    subst P (sym (get_or-take place l i d below)) (h i d below))

all_from : {X : Type 0} (P : X → Type 0) (l : List X) (place : ℕ) → ((i : ℕ) (d : X) → place ≤ i → i < length l → P (get_or l i d)) → All P (drop place l)
all_from P l place h =
    All-from_all_within P (drop place l) (λ i d _ lt.
    subst P (sym (get_or-drop place l i d)) (h (place + i) d (omega arith) (omega (arith, length-drop place l))))

module _ {X : Type 0} (key : X → ℕ) (l : List X) (rising : IsRising key l) (k : ℕ) where
  -- the comparisons with k rise along the list, as a binary search asks
  comparisons_rise : IsNonDecreasingBy (λ x. ordering_index (nat_cmp (key x) k)) l
  comparisons_rise i j d le in_range =
      let keys_rise : key (get_or l i d) ≤ key (get_or l j d) = grind (arith, rising i j d, λ (same : i ≡ j). ap (λ n. key (get_or l n d)) same) in
      grind (arith, nat_tests)

  -- a key that is seen at a place stands there
  pub seen : (at : ℕ) → at < length l → ((d : X) → key (get_or l at d) ≡ k) → IsAt key l k at
  seen at in_range same = record {
    in_range = in_range;
    below = all_before (λ x. key x < k) l at (omega arith) (λ i d lt. omega (arith, rising i at d lt in_range, same d));
    same = same;
    above = all_from (λ x. k < key x) l (suc at) (λ i d le lt. omega (arith, rising at i d (omega arith) lt, same d));
  }

  -- a binary search by key ends at the key, or at the gap for it
  pub found : (r : Result ℕ ℕ) → IsSearchInRange r (length l) → IsBinarySearchResult (λ x. nat_cmp (key x) k) l r → IfOk r (IsAt key l k)
  found (Ok at) in_range equal = seen at in_range (λ d. ranked _ k _ (sym (equal d)))
  found (Err at) in_range parted = tt

  pub absent : (r : Result ℕ ℕ) → IsSearchInRange r (length l) → IsBinarySearchResult (λ x. nat_cmp (key x) k) l r → IfErr r (IsGap key l k)
  absent (Ok at) in_range equal = tt
  absent (Err at) in_range parted = record {
    in_range = in_range;
    below = all_before (λ x. key x < k) l at in_range (λ i d lt. ranked _ k _ (sym ((parted comparisons_rise).0 i d (omega arith) lt)));
    above = all_from (λ x. k < key x) l at (λ i d le lt. ranked _ k _ (sym ((parted comparisons_rise).1 i d le lt)));
  }

  -- a key after the last would go to the end
  pub behind_last : ((d : X) → 0 < length l → key (get_or l (length l - 1) d) < k) → IsGap key l k (length l)
  behind_last after = record {
    in_range = omega arith;
    below = all_before (λ x. key x < k) l (length l) (omega arith) (λ i d lt.
        let last = length l - 1 in
        let low = rising i last d in
        let same = λ (here : i ≡ last). ap (λ n. key (get_or l n d)) here in
        let high = after d (omega (arith, lt)) in
        grind (arith, low, same, high));
    above = all_from (λ x. k < key x) l (length l) (λ i d le lt. absurd (omega (arith, le, lt)));
  }

module _ {X : Type 0} (key : X → ℕ) (l : List X) (k at : ℕ) (gap : IsGap key l k at) where
  below_gap : (i : ℕ) (d : X) → i < at → key (get_or l i d) < k
  below_gap i d lt =
      subst (λ x. key x < k) (get_or-take at l i d lt)
      (All-get_or (λ x. key x < k) (take at l) i d (omega (arith, length-take-le at l gap.in_range)) gap.below)

  above_gap : (i : ℕ) (d : X) → at ≤ i → i < length l → k < key (get_or l i d)
  above_gap i d le lt =
      let same : at + (i - at) ≡ i = omega arith in
      subst (λ n. k < key (get_or l n d)) same
      (subst (λ x. k < key x) (get_or-drop at l (i - at) d)
      (All-get_or (λ x. k < key x) (drop at l) (i - at) d (omega (arith, length-drop at l)) gap.above))

  -- a new element in the gap keeps the order: each key is an old one below the gap, k at it, or an old one moved up by one
  pub rising_insert : (y : X) → key y ≡ k → IsRising key l → IsRising key (insert l at y)
  rising_insert y is_k rising i j d lt in_range =
      let new = insert l at y in
      let key_at = λ (xs : List X) (n : ℕ). key (get_or xs n d) in
      let length_new = length-insert l at y gap.in_range in
      let key_below : (i : ℕ) → i < at → key_at new i ≡ key_at l i = λ i below. ap key (get_or-insert_below l at y d i below gap.in_range) in
      let key_here : (i : ℕ) → i ≡ at → key_at new i ≡ k = λ i here. rw here (rw (get_or-insert_at l at y d gap.in_range) is_k) in
      let key_above : (i : ℕ) → at < i → key_at new i ≡ key_at l (i - 1) = λ i above. subst (λ q. key_at new q ≡ key_at l (i - 1)) {x = i - 1 + 1} (omega arith) (ap key (get_or-insert_above l at y d (i - 1) (omega arith) gap.in_range)) in
      grind (arith, key_below i, key_here i, key_above i, key_below j, key_here j, key_above j, rising i j d, rising i (j - 1) d, rising (i - 1) (j - 1) d, below_gap i d, above_gap (j - 1) d)

-- a key that has a gap is not there
pub not_in_gap : {X : Type 0} (key : X → ℕ) (l : List X) (k at : ℕ) → IsGap key l k at → Contains (map key l) k → ⊥
not_in_gap key l k at gap has =
    let parts : map key l ≡ map key (take at l) ++ map key (drop at l) = ap (map key) (sym (take-append-drop at l)) ∙ map-append key (take at l) (drop at l) in
    let has_parts : Contains (map key (take at l) ++ map key (drop at l)) k = subst (λ ks. Contains ks k) parts has in
    elim (Contains-append_cases (map key (take at l)) (map key (drop at l)) k has_parts) [
      | inl low ↦ let lt = All-contains (λ n. n < k) (map key (take at l)) k (All-map (λ n. n < k) key (take at l) gap.below) low in omega (arith, lt)
      | inr high ↦ let gt = All-contains (λ n. k < n) (map key (drop at l)) k (All-map (λ n. k < n) key (drop at l) gap.above) high in omega (arith, gt)
    ]

pub contains_at : {X : Type 0} (key : X → ℕ) (l : List X) (k at : ℕ) (d : X) → IsAt key l k at → Contains (map key l) k
contains_at key l k at d here = (at, omega (arith, length-map l key, here.in_range), get_or-map key l at d k here.in_range ∙ here.same d)

-- keys that stay keep their order
pub rising_same : {X : Type 0} (key : X → ℕ) (xs ys : List X) → map key xs ≡ map key ys → IsRising key ys → IsRising key xs
rising_same key xs ys same rising i j d lt in_range =
    let long : length xs ≡ length ys = sym (length-map xs key) ∙ ap length same ∙ length-map ys key in
    let key_at : (n : ℕ) → n < length xs → key (get_or xs n d) ≡ key (get_or ys n d) =
    λ n below. sym (get_or-map key xs n d 0 below) ∙ ap (λ ks. get_or ks n 0) same ∙ get_or-map key ys n d 0 (omega arith) in
    let here = key_at i (omega arith) in
    let there = key_at j in_range in
    let order = rising i j d lt (omega arith) in
    omega arith
