-- Histories after an insert or a write: their order, their points and their room.
use Rattle.std.proofs.Common.{◌≡◌, ℕ, suc, ◌+◌, ◌<◌, ◌≤◌, cond, eqb, List, [], ◌∷◌, ◌++◌, get_or, set, take, drop, inl, inr, refl, vec_len, sym, ap, subst, ◌∙◌, arith}
use Rattle.std.specs.Prelude.{All, Contains, map, count_by, vec_capacity}
use Rattle.std.specs.List.{insert}
use Rattle.std.proofs.Math.Seq.{split_at, map-set_same}
use Rattle.std.proofs.lemmas.List.{map-append, set_split, take-append-drop}
use Rattle.std.proofs.lemmas.List.Sums.{sum_by-append}
use Rattle.std.proofs.lemmas.List.Elements.{All-append, All-cons, All-take, All-drop, All-set, All-get_or, All-weaker, Contains-append_cases, Contains-append_left, Contains-append_right}
use Rattle.std.proofs.lemmas.Bool.{ne_eqb, eq-eqb}
use Rattle.poll_book.specs.declared.rows.ReadingRow.{ReadingRow}
use Rattle.poll_book.specs.declared.history.History.{History}
use Rattle.poll_book.specs.Histories.{readings_of, slots_of, slot_of, point_of, IsRising, IsAt, IsGap, AreOrdered, AreSmall, HaveRoom}
use Rattle.poll_book.proofs.Places.{rising_insert, rising_same}
use Rattle.poll_book.proofs.Puts.{readings-append}

abbrev pub count_of : List ReadingRow → ℕ → ℕ
count_of added point = count_by (λ row. eqb row.point point) added

abbrev pub HasRoom : List ReadingRow → History → Type 0
HasRoom added history = vec_len history.slots + count_of added history.point ≤ vec_capacity history.slots

-- a row more
count_more : (xs : List ReadingRow) (row : ReadingRow) (point : ℕ) → count_of (xs ++ row ∷ []) point ≡ count_of xs point + cond (eqb row.point point) 1 0
count_more xs row point = let split = sum_by-append (λ (r : ReadingRow). cond (eqb r.point point) 1 0) xs (row ∷ []) in omega (arith, split)

count_own : (xs : List ReadingRow) (row : ReadingRow) (point : ℕ) → row.point ≡ point → count_of (xs ++ row ∷ []) point ≡ count_of xs point + 1
count_own xs row point same = count_more xs row point ∙ ap (λ b. count_of xs point + cond b 1 0) (eq-eqb row.point point same)

count_other : (xs : List ReadingRow) (row : ReadingRow) (point : ℕ) → (row.point ≡ point → ⊥) → count_of (xs ++ row ∷ []) point ≡ count_of xs point
count_other xs row point other =
    let e = count_more xs row point ∙ ap (λ b. count_of xs point + cond b 1 0) (ne_eqb row.point point other) in omega (arith, e)

-- no row is of a point from a bound on that all are below
pub count_none : (rows : List ReadingRow) (bound point : ℕ) → All (λ row. row.point < bound) rows → bound ≤ point → count_of rows point ≡ 0
count_none [] bound point below le = refl
count_none (row ∷ rows) bound point below le =
    let lt : row.point < bound = below 0 row (omega arith) in
    rw (ne_eqb row.point point (omega (arith, lt, le))) (count_none rows bound point (λ k d in_range. below (suc k) d (omega (arith, in_range))) le)

module _ (hs : List History) (p at : ℕ) (new : History) (here : IsAt point_of hs p at) (same : new.point ≡ p) where
  pub points_set : map point_of (set hs at new) ≡ map point_of hs
  points_set = map-set_same point_of hs at new new (same ∙ sym (here.same new))

  -- a history with the same slots leaves the readings
  pub readings_set : new.slots.items ≡ (get_or hs at new).slots.items → readings_of (set hs at new) ≡ readings_of hs
  readings_set items =
      let old = get_or hs at new in
      let low = readings_of (take at hs) in
      let high = readings_of (drop (suc at) hs) in
      ap readings_of (set_split hs at new here.in_range)
      ∙ readings-append (take at hs) (new ∷ drop (suc at) hs)
      ∙ ap (λ l. low ++ (slots_of new.point l ++ high)) items
      ∙ ap (λ q. low ++ (slots_of q old.slots.items ++ high)) (same ∙ sym (here.same new))
      ∙ sym (readings-append (take at hs) (old ∷ drop (suc at) hs))
      ∙ ap readings_of (sym (split_at hs at new here.in_range))

  pub ordered_set : AreOrdered hs → IsRising slot_of new.slots.items → AreSmall new.slots.items → AreOrdered (set hs at new)
  ordered_set ordered rising small = record {
    points = rising_same point_of (set hs at new) hs points_set ordered.points;
    slots = All-set (λ history. IsRising slot_of history.slots.items) hs at new rising ordered.slots;
    small = All-set (λ history. AreSmall history.slots.items) hs at new small ordered.small;
  }

  -- a row that was put needs its room no more
  pub room_put : (rows : List ReadingRow) (row : ReadingRow) → row.point ≡ p → HaveRoom hs (rows ++ row ∷ [])
      → vec_len new.slots ≤ vec_len (get_or hs at new).slots + 1 → vec_capacity (get_or hs at new).slots ≤ vec_capacity new.slots
      → HaveRoom (set hs at new) rows
  room_put rows row of_p room longer capacity =
      let old = get_or hs at new in
      let was : HasRoom (rows ++ row ∷ []) old = All-get_or (HasRoom (rows ++ row ∷ [])) hs at new here.in_range room in
      let counted : count_of (rows ++ row ∷ []) old.point ≡ count_of rows old.point + 1 = count_own rows row old.point (of_p ∙ sym (here.same new)) in
      let point : count_of rows old.point ≡ count_of rows new.point = ap (count_of rows) (here.same new ∙ sym same) in
      All-set (HasRoom rows) hs at new (omega (arith, was, counted, point, longer, capacity))
      (All-weaker (HasRoom (rows ++ row ∷ [])) (HasRoom rows) (λ h has. omega (arith, has, count_more rows row h.point)) hs room)

  -- room for one row more in the history of its point
  pub room_made : (rows : List ReadingRow) (row : ReadingRow) → row.point ≡ p → HaveRoom hs rows
      → vec_len new.slots + (count_of rows p + 1) ≤ vec_capacity new.slots
      → HaveRoom (set hs at new) (rows ++ row ∷ [])
  room_made rows row of_p room enough =
      let more = rows ++ row ∷ [] in
      let own : HasRoom more new =
      let counted : count_of more new.point ≡ count_of rows new.point + 1 = count_own rows row new.point (of_p ∙ sym same) in
      let point : count_of rows new.point ≡ count_of rows p = ap (count_of rows) same in
      omega (arith, counted, point, enough) in
      let other : (h : History) → (row.point ≡ h.point → ⊥) → HasRoom rows h → HasRoom more h = λ h apart has. omega (arith, has, count_other rows row h.point apart) in
      let low : All (HasRoom more) (take at hs) =
      λ k d lt. other (get_or (take at hs) k d) (λ tied. let below = here.below k d lt in omega (arith, below, tied, of_p)) (All-take (HasRoom rows) at hs room k d lt) in
      let high : All (HasRoom more) (drop (suc at) hs) =
      λ k d lt. other (get_or (drop (suc at) hs) k d) (λ tied. let above = here.above k d lt in omega (arith, above, tied, of_p)) (All-drop (HasRoom rows) (suc at) hs room k d lt) in
      subst (All (HasRoom more)) (sym (set_split hs at new here.in_range)) (All-append (HasRoom more) (take at hs) (new ∷ drop (suc at) hs) low (All-cons (HasRoom more) new (drop (suc at) hs) own high))

module _ (hs : List History) (p at : ℕ) (new : History) (gap : IsGap point_of hs p at) (same : new.point ≡ p) where
  points_insert : map point_of (insert hs at new) ≡ map point_of (take at hs) ++ new.point ∷ map point_of (drop at hs)
  points_insert = map-append point_of (take at hs) (new ∷ drop at hs)

  -- a new history is there, and those before it stay
  pub contains_new : Contains (map point_of (insert hs at new)) p
  contains_new = subst (λ ks. Contains ks p) (sym points_insert) (Contains-append_right (map point_of (take at hs)) (new.point ∷ map point_of (drop at hs)) p (0, omega arith, same))

  pub contains_still : (q : ℕ) → Contains (map point_of hs) q → Contains (map point_of (insert hs at new)) q
  contains_still q has =
      let low = map point_of (take at hs) in
      let high = map point_of (drop at hs) in
      let parts : map point_of hs ≡ low ++ high = ap (map point_of) (sym (take-append-drop at hs)) ∙ map-append point_of (take at hs) (drop at hs) in
      subst (λ ks. Contains ks q) (sym points_insert) (elim (Contains-append_cases low high q (subst (λ ks. Contains ks q) parts has)) [
        | inl l ↦ Contains-append_left low (new.point ∷ high) q l
        | inr h ↦ Contains-append_right low (new.point ∷ high) q (Contains-append_right (new.point ∷ []) high q h)
      ])

  pub ordered_insert : AreOrdered hs → new.slots.items ≡ [] → AreOrdered (insert hs at new)
  ordered_insert ordered empty = record {
    points = rising_insert point_of hs p at gap new same ordered.points;
    slots =
        let Rises = λ (h : History). IsRising slot_of h.slots.items in
        All-append Rises (take at hs) (new ∷ drop at hs) (All-take Rises at hs ordered.slots)
        (All-cons Rises new (drop at hs) (subst (IsRising slot_of) (sym empty) (λ i j d lt in_range. absurd (omega arith))) (All-drop Rises at hs ordered.slots));
    small =
        let Small = λ (h : History). AreSmall h.slots.items in
        All-append Small (take at hs) (new ∷ drop at hs) (All-take Small at hs ordered.small)
        (All-cons Small new (drop at hs) (subst AreSmall (sym empty) (λ k d lt. absurd (omega arith))) (All-drop Small at hs ordered.small));
  }
