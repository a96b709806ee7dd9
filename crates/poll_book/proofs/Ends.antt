-- Where the rows of a point end.
use Rattle.std.proofs.Common.{◌≡◌, ℕ, suc, ◌-◌, ◌<◌, Bool, true, false, cond, eqb, leb, List, [], ◌∷◌, length, map, Option, Some, None, refl, sym, ap, subst, ◌∙◌, arith}
use Rattle.std.specs.Prelude.{◌&&◌, All, option_map, slice_get}
use Rattle.std.specs.List.{last_or}
use Rattle.std.proofs.lemmas.Bool.{and_parts, eq-eqb, eqb-true}
use Rattle.std.proofs.lemmas.Bool.Decides.{nat_tests}
use Rattle.std.proofs.lemmas.Option.{none-some, same_Some}
use Rattle.std.proofs.lemmas.List.Elements.{All-filter, All-head, filter_passes}
use Rattle.poll_book.specs.declared.rows.Reading.{Reading}
use Rattle.poll_book.specs.declared.history.SlotRow.{SlotRow}
use Rattle.poll_book.specs.Tables.{AreByKey, Key, Readings, is_between, readings_between}
use Rattle.poll_book.specs.Totals.{last_of}
use Rattle.poll_book.specs.Histories.{as_entry, end_of, own, slot_behind, slots_of}
use Rattle.poll_book.proofs.Puts.{IsAbove}
use Rattle.poll_book.proofs.Sides.{all_higher, both_left, both_right, higher_is}
use Rattle.poll_book.proofs.Tabled.{between_own}

-- ---- the last of a list

-- it stands at the last place
at_last : {X : Type 0} (x : X) (xs : List X) → slice_get (x ∷ xs) (length xs) ≡ last_or (Some x) xs
at_last x [] = refl
at_last x (y ∷ ys) = at_last y ys

last_at : {X : Type 0} (xs : List X) → slice_get xs (length xs - 1) ≡ last_of xs
last_at [] = refl
last_at (x ∷ xs) = let place : length (x ∷ xs) - 1 ≡ length xs = omega arith in ap (slice_get (x ∷ xs)) place ∙ at_last x xs

-- and its image is the last of the images
last-map : {X Y : Type 0} (f : X → Y) (o : Option X) (xs : List X) → last_or (option_map f o) (map f xs) ≡ option_map f (last_or o xs)
last-map f o [] = refl
last-map f o (x ∷ xs) = last-map f (Some x) xs

-- ---- the end of a point's slots

-- the rows of a point's slots are all its own
own_slots : (point : ℕ) (slots : List SlotRow) → own point (slots_of point slots) ≡ slots_of point slots
own_slots point [] = refl
own_slots point (x ∷ slots) =
    ap (λ b. cond b (as_entry point x ∷ own point (slots_of point slots)) (own point (slots_of point slots))) (eq-eqb point point refl)
    ∙ ap (λ l. as_entry point x ∷ l) (own_slots point slots)

-- so it stands behind the last of them
pub end_of_slots : (point : ℕ) (slots : List SlotRow) → slot_behind (option_map (as_entry point) (slice_get slots (length slots - 1))) ≡ end_of point (slots_of point slots)
end_of_slots point slots =
    ap (λ o. slot_behind (option_map (as_entry point) o)) (last_at slots)
    ∙ ap slot_behind (sym (last-map (as_entry point) None slots))
    ∙ ap (λ l. slot_behind (last_of l)) (sym (own_slots point slots))

-- it is the end of the point's rows among all
own_twice : (point : ℕ) (table : Readings) → own point (own point table) ≡ own point table
own_twice point [] = refl
own_twice point (x ∷ table) = by (eqb x.0.0 point) refl (own_twice point table)
  where
    by : (b : Bool) → eqb x.0.0 point ≡ b → own point (own point table) ≡ own point table
        → own point (cond b (x ∷ own point table) (own point table)) ≡ cond b (x ∷ own point table) (own point table)
    by true same rest = ap (λ b. cond b (x ∷ own point (own point table)) (own point (own point table))) same ∙ ap (λ l. x ∷ l) rest
    by false other rest = rest

pub end_own : (point : ℕ) (table : Readings) → end_of point (own point table) ≡ end_of point table
end_own point table = ap (λ l. slot_behind (last_of l)) (own_twice point table)

-- ---- the last row of a point

-- where a point ends at 0 it has none
pub none_behind_zero : (point : ℕ) (table : Readings) → end_of point table ≡ 0 → last_of (own point table) ≡ None
none_behind_zero point table is = by (last_of (own point table)) is
  where
    by : (o : Option (Key × Reading)) → slot_behind o ≡ 0 → o ≡ None
    by None is = refl
    by (Some row) is = absurd (omega (arith, is))

module _ (point : ℕ) where
  abbrev in_slot : ℕ → Readings → Readings
  in_slot slot table = readings_between point slot slot table

  -- of the rows of a sorted table the last of a point's stands alone in its slot
  alone : (table : Readings) → AreByKey table → (last : Key × Reading) → last_of (own point table) ≡ Some last → in_slot last.0.1 table ≡ last ∷ []
  alone [] sorted last is = absurd (none-some last is)
  alone (e ∷ es) sorted last is = by (eqb e.0.0 point) refl (own point es) refl is (alone es (both_right _ _ sorted) last)
    where
      -- a row of the point before another stands in an earlier slot
      earlier : e.0.0 ≡ point → in_slot last.0.1 es ≡ last ∷ [] → e.0.1 < last.0.1
      earlier mine there =
          let above : All (IsAbove e.0) (last ∷ []) = subst (All (IsAbove e.0)) there (All-filter (λ (row : Key × Reading). is_between point last.0.1 last.0.1 row.0) (IsAbove e.0) es (all_higher e.0 e.0 es refl (both_left _ _ sorted))) in
          let Passes = λ (row : Key × Reading). is_between point last.0.1 last.0.1 row.0 ≡ true in
          let passes : All Passes (last ∷ []) = subst (All Passes) there (filter_passes (λ (row : Key × Reading). is_between point last.0.1 last.0.1 row.0) es) in
          let parts = and_parts (eqb last.0.0 point && leb last.0.1 last.0.1) (leb last.0.1 last.0.1) (All-head Passes last [] passes) in
          let own_last : last.0.0 ≡ point = eqb-true last.0.0 point (and_parts (eqb last.0.0 point) (leb last.0.1 last.0.1) parts.0).0 in
          higher_is e.0.0 e.0.1 last.0 (All-head (IsAbove e.0) last [] above) (own_last ∙ sym mine)

      not_between : e.0.1 < last.0.1 → is_between point last.0.1 last.0.1 e.0 ≡ false
      not_between lt = grind (arith, nat_tests)

      itself : e.0.0 ≡ point → e.0.1 ≡ last.0.1 → is_between point last.0.1 last.0.1 e.0 ≡ true
      itself mine same = grind (arith, nat_tests)

      with_e : (b : Bool) → is_between point last.0.1 last.0.1 e.0 ≡ b → in_slot last.0.1 (e ∷ es) ≡ cond b (e ∷ in_slot last.0.1 es) (in_slot last.0.1 es)
      with_e b is = ap (λ c. cond c (e ∷ in_slot last.0.1 es) (in_slot last.0.1 es)) is

      by : (b : Bool) → eqb e.0.0 point ≡ b → (others : Readings) → own point es ≡ others → last_of (cond b (e ∷ own point es) (own point es)) ≡ Some last
          → (last_of (own point es) ≡ Some last → in_slot last.0.1 es ≡ last ∷ []) → in_slot last.0.1 (e ∷ es) ≡ last ∷ []
      by false other others are is rest =
          with_e false (ap (λ b. b && leb last.0.1 e.0.1 && leb e.0.1 last.0.1) other) ∙ rest is
      by true mine [] are is rest =
          let same : e ≡ last = same_Some e last (subst (λ l. last_or (Some e) l ≡ Some last) are is) in
          let none : in_slot last.0.1 es ≡ [] = sym (between_own point last.0.1 last.0.1 es) ∙ ap (in_slot last.0.1) are in
          with_e true (itself (eqb-true e.0.0 point mine) (ap (λ (row : Key × Reading). row.0.1) same)) ∙ (λ i. same i ∷ none i)
      by true mine (y ∷ ys) are is rest =
          let there = rest (ap last_of are ∙ subst (λ l. last_or (Some e) l ≡ Some last) are is) in
          with_e false (not_between (earlier (eqb-true e.0.0 point mine) there)) ∙ there

  -- so it is with the row just before the end of a point
  pub last_alone : (table : Readings) (end : ℕ) → AreByKey table → end_of point table ≡ suc end → (last : Key × Reading) × (last_of (own point table) ≡ Some last) × (readings_between point end end table ≡ last ∷ [])
  last_alone table end sorted is = by (last_of (own point table)) refl is
    where
      by : (o : Option (Key × Reading)) → last_of (own point table) ≡ o → slot_behind o ≡ suc end → (last : Key × Reading) × (last_of (own point table) ≡ Some last) × (readings_between point end end table ≡ last ∷ [])
      by None found is = absurd (omega (arith, is))
      by (Some last) found is =
          let at : last.0.1 ≡ end = omega (arith, is) in
          (last, found, subst (λ n. readings_between point n n table ≡ last ∷ []) at (alone table sorted last found))
