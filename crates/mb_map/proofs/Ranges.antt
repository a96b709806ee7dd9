-- Cells that lie one after the other: what stands at an address, which ranges are whole, what a write leaves.
use Rattle.std.proofs.Common.{◌≡◌, ℕ, suc, ◌+◌, ◌-◌, ◌<◌, ◌≤◌, true, false, cond, eqb, leb, ltb, List, [], ◌∷◌, ◌++◌, length, get_or, map, take, drop, Option, Some, None, refl, sym, ap, ◌∙◌, subst, arith, inl, inr}
use Rattle.std.specs.Prelude.{IsSome, ◌↔◌}
use Rattle.std.specs.List.{enumerate_from}
use Rattle.std.proofs.lemmas.Bool.{cases_lt, eq-eqb}
use Rattle.std.proofs.lemmas.Bool.Decides.{nat_tests}
use Rattle.std.proofs.lemmas.List.{ext_get_or, get_or-map, get_or-take, get_or-drop, get_or_append_left, get_or-append_right, length-map, length-take-le, length-drop}
use Rattle.std.proofs.lemmas.List.FromFn.{get_or-enumerate_from, length-enumerate_from}
use borrow.Rule.Slice.PartMut.{put_mid, same_len_mid}
use Rattle.mb_map.specs.Tables.{Cells, cell_at, IsWhole, Holds, number_after, written}

apart : (a s : ℕ) → a < s → eqb a s ≡ false
apart a s lt = grind (arith, nat_tests)

above : (a s : ℕ) → s < a → eqb a s ≡ false
above a s lt = grind (arith, nat_tests)

pub cell_below : (s : ℕ) (xs : List ℕ) (a : ℕ) → a < s → cell_at a (enumerate_from s xs) ≡ None
cell_below s [] a lt = refl
cell_below s (x ∷ xs) a lt = rw (apart a s lt) (cell_below (s + 1) xs a (omega arith))

pub cell_past : (s : ℕ) (xs : List ℕ) (a : ℕ) → s + length xs ≤ a → cell_at a (enumerate_from s xs) ≡ None
cell_past s [] a le = refl
cell_past s (x ∷ xs) a le = rw (above a s (omega arith)) (cell_past (s + 1) xs a (omega arith))

-- the head where a is s, and the rest from s + 1 on
at_cons : (s : ℕ) (x : ℕ) (xs : List ℕ) (a : ℕ) → s < a → get_or (x ∷ xs) (a - s) 0 ≡ get_or xs (a - (s + 1)) 0
at_cons s x xs a lt =
    let e : a - s ≡ suc (a - (s + 1)) = omega arith in
    ap (λ n. get_or (x ∷ xs) n 0) e

pub cell_inside : (s : ℕ) (xs : List ℕ) (a : ℕ) → s ≤ a → a < s + length xs → cell_at a (enumerate_from s xs) ≡ Some (get_or xs (a - s) 0)
cell_inside s [] a le lt = absurd (omega arith)
cell_inside s (x ∷ xs) a le lt = elim (cases_lt s a) [
  | inl more ↦ rw (above a s more) (cell_inside (s + 1) xs a (omega arith) (omega arith) ∙ ap Some (sym (at_cons s x xs a more)))
  | inr same ↦
      let e : a ≡ s = omega arith in
      let zero_place : a - s ≡ 0 = omega arith in
      rw (eq-eqb a s e, zero_place) refl
]

none_is_no_some : (o : Option ℕ) → o ≡ None → IsSome o → ⊥
none_is_no_some o e h = let none : false ≡ true = subst IsSome e h in cc

-- a range that is whole lies between the first cell and the last
pub whole_begins : (s : ℕ) (xs : List ℕ) (a q : ℕ) → 0 < q → IsWhole a q (enumerate_from s xs) → s ≤ a
whole_begins s xs a q some whole = elim (cases_lt a s) [
  | inl lt ↦ absurd (none_is_no_some _ (cell_below s xs (a + 0) (omega arith)) (whole 0 some))
  | inr le ↦ le
]

pub whole_ends : (s : ℕ) (xs : List ℕ) (a q : ℕ) → 0 < q → IsWhole a q (enumerate_from s xs) → a + q ≤ s + length xs
whole_ends s xs a q some whole = elim (cases_lt (s + length xs) (a + q)) [
  | inl lt ↦ absurd (none_is_no_some _ (cell_past s xs (a + (q - 1)) (omega arith)) (whole (q - 1) (omega arith)))
  | inr le ↦ le
]

pub whole_between : (s : ℕ) (xs : List ℕ) (a q : ℕ) → s ≤ a → a + q ≤ s + length xs → IsWhole a q (enumerate_from s xs)
whole_between s xs a q begins ends k lt = rw (cell_inside s xs (a + k) (omega arith) (omega arith)) refl

-- the numbers of a range
pub range_holds : (s : ℕ) (xs : List ℕ) (a q : ℕ) → s ≤ a → a + q ≤ s + length xs → Holds a (take q (drop (a - s) xs)) (enumerate_from s xs)
range_holds s xs a q begins ends k lt =
    let below : k < q = omega (arith, length-take-le q (drop (a - s) xs), length-drop (a - s) xs) in
    let place : a + k - s ≡ a - s + k = omega arith in
    rw (cell_inside s xs (a + k) (omega arith) (omega arith), place, get_or-take q (drop (a - s) xs) k 0 below) (ap Some (sym (get_or-drop (a - s) xs k 0)))

-- an element of a list of which a part was written over
over_before : (at k : ℕ) (xs ns : List ℕ) (i : ℕ) → i < at → at ≤ length xs → get_or (put_mid at k xs ns) i 0 ≡ get_or xs i 0
over_before at k xs ns i lt le =
    get_or_append_left (take at xs) (ns ++ drop k (drop at xs)) 0 i (omega (arith, length-take-le at xs le)) ∙ get_or-take at xs i 0 lt

over_within : (at k : ℕ) (xs ns : List ℕ) (i : ℕ) → at ≤ i → i < at + length ns → at ≤ length xs → get_or (put_mid at k xs ns) i 0 ≡ get_or ns (i - at) 0
over_within at k xs ns i le lt fits =
    get_or-append_right (take at xs) (ns ++ drop k (drop at xs)) at i 0 (length-take-le at xs fits) le
    ∙ get_or_append_left ns (drop k (drop at xs)) 0 (i - at) (omega arith)

over_after : (at k : ℕ) (xs ns : List ℕ) (i : ℕ) → k ≡ length ns → at + length ns ≤ i → at ≤ length xs → get_or (put_mid at k xs ns) i 0 ≡ get_or xs i 0
over_after at k xs ns i same le fits =
    let place : at + (k + (i - at - length ns)) ≡ i = omega arith in
    get_or-append_right (take at xs) (ns ++ drop k (drop at xs)) at i 0 (length-take-le at xs fits) (omega arith)
    ∙ get_or-append_right ns (drop k (drop at xs)) (length ns) (i - at) 0 refl (omega arith)
    ∙ get_or-drop k (drop at xs) (i - at - length ns) 0
    ∙ get_or-drop at xs (k + (i - at - length ns)) 0
    ∙ ap (λ n. get_or xs n 0) place

-- what an address holds after the write
number_over : (s a : ℕ) (xs ns : List ℕ) (k i : ℕ) → s ≤ a → a + length ns ≤ s + length xs → k ≡ length ns
    → get_or (put_mid (a - s) k xs ns) i 0 ≡ number_after a ns (s + i) (get_or xs i 0)
number_over s a xs ns k i begins ends same = elim (cases_lt i (a - s)) [
  | inl before ↦
      let low : leb a (s + i) ≡ false = grind (arith, nat_tests) in
      rw (low) (over_before (a - s) k xs ns i before (omega arith))
  | inr le ↦
      let high : leb a (s + i) ≡ true = grind (arith, nat_tests) in
      elim (cases_lt i (a - s + length ns)) [
        | inl within ↦
            let inside : ltb (s + i) (a + length ns) ≡ true = grind (arith, nat_tests) in
            let place : s + i - a ≡ i - (a - s) = omega arith in
            rw (high, inside, place) (over_within (a - s) k xs ns i le within (omega arith))
        | inr past ↦
            let outside : ltb (s + i) (a + length ns) ≡ false = grind (arith, nat_tests) in
            rw (high, outside) (over_after (a - s) k xs ns i same past (omega arith))
      ]
]

-- a write to a part of the numbers is a write to the cells there
pub written_over : (s a : ℕ) (xs ns : List ℕ) (k : ℕ) → s ≤ a → a + length ns ≤ s + length xs → k ≡ length ns
    → enumerate_from s (put_mid (a - s) k xs ns) ≡ written a ns (enumerate_from s xs)
unfolding written
written_over s a xs ns k begins ends same =
    let count : length (put_mid (a - s) k xs ns) ≡ length xs = same_len_mid (a - s) k xs ns (omega (arith, length-take-le k (drop (a - s) xs), length-drop (a - s) xs)) in
    let cell : ℕ × ℕ → ℕ × ℕ = λ c. (c.0, number_after a ns c.0 c.1) in
    let new : List (ℕ × ℕ) = enumerate_from s (put_mid (a - s) k xs ns) in
    let old : List (ℕ × ℕ) = enumerate_from s xs in
    let sizes : length new ≡ length (map cell old) =
    length-enumerate_from s (put_mid (a - s) k xs ns) ∙ count ∙ sym (length-enumerate_from s xs) ∙ sym (length-map old cell) in
    ext_get_or (0, 0) new (map cell old) sizes (λ i lt.
    let below : i < length xs = omega (arith, length-enumerate_from s (put_mid (a - s) k xs ns)) in
    get_or-enumerate_from s (put_mid (a - s) k xs ns) i (0, 0) (omega arith)
    ∙ ap (λ (n : ℕ). (s + i, n)) (number_over s a xs ns k i begins ends same)
    ∙ sym (get_or-map cell old i (0, 0) (0, 0) (omega (arith, length-enumerate_from s xs)) ∙ ap cell (get_or-enumerate_from s xs i (0, 0) below)))

some_after : (start : ℕ) (numbers : List ℕ) (address : ℕ) (cells : Cells) → IsSome (cell_at address cells) → IsSome (cell_at address (written start numbers cells))
unfolding written
some_after start numbers address [] some = some
some_after start numbers address (c ∷ cells) some = elim (eqb address c.0) as (λ b. IsSome (cond b (Some c.1) (cell_at address cells)) → IsSome (cond b (Some (number_after start numbers c.0 c.1)) (cell_at address (written start numbers cells)))) [
  | true ↦ λ found. refl
  | false ↦ λ found. some_after start numbers address cells found
] some

-- a write takes no cell away
pub whole_after : (start : ℕ) (numbers : List ℕ) (first quantity : ℕ) (cells : Cells) → IsWhole first quantity cells → IsWhole first quantity (written start numbers cells)
whole_after start numbers first quantity cells whole k lt = some_after start numbers (first + k) cells (whole k lt)

-- a range of one cell
pub whole_one : (address : ℕ) (cells : Cells) → IsWhole address 1 cells ↔ IsSome (cell_at address cells)
whole_one address cells =
    let same : address + 0 ≡ address = omega arith in
    ((λ whole. rw same at (whole 0 (omega arith))), (λ some k lt. let e : address + k ≡ address = omega arith in rw e some))
