-- What it is to put a row into a list of rows, or to find one, where the list parts at the key.
use Rattle.std.proofs.Common.{◌≡◌, ℕ, suc, ◌<◌, cond, List, [], ◌∷◌, ◌++◌, length, get_or, set, take, drop, Some, None, refl, sym, ap, ◌∙◌}
use Rattle.std.specs.Prelude.{All, map}
use Rattle.std.specs.List.{insert}
use Rattle.std.specs.BTreeMap.{insert_entry}
use Rattle.std.specs.Ordering.{is_eq, match_ordering}
use Rattle.std.specs.declared.cmp.Ordering.{Ordering}
use Rattle.std.specs.declared.cmp.Ordering.TheVariants.{Less, Equal, Greater}
use Rattle.std.specs.FinMap.Entries as rows
use Rattle.std.proofs.Math.Seq.{split_at}
use Rattle.std.proofs.lemmas.List.{map-append, set_split, take-append-drop}
use Rattle.std.proofs.lemmas.List.Elements.{All-head, All-tail, All-map}

module _ {K X : Type 0} (cmp : K → K → Ordering) (key : K) where
  -- rows below the key stay before it
  pub put_after : (v : X) (xs ys : List (K × X)) → All (λ row. cmp key row.0 ≡ Greater) xs → rows.put cmp key v (xs ++ ys) ≡ xs ++ rows.put cmp key v ys
  put_after v [] ys h = refl
  put_after v (x ∷ xs) ys h =
      ap (λ o. rows.by_order o ((key, v) ∷ x ∷ (xs ++ ys)) ((x.0, v) ∷ (xs ++ ys)) (x ∷ rows.put cmp key v (xs ++ ys))) (All-head (λ row. cmp key row.0 ≡ Greater) x xs h)
      ∙ ap (λ l. x ∷ l) (put_after v xs ys (All-tail (λ row. cmp key row.0 ≡ Greater) x xs h))

  pub put_first : (v : X) (ys : List (K × X)) → All (λ row. cmp key row.0 ≡ Less) ys → rows.put cmp key v ys ≡ (key, v) ∷ ys
  put_first v [] h = refl
  put_first v (y ∷ ys) h = ap (λ o. rows.by_order o ((key, v) ∷ y ∷ ys) ((y.0, v) ∷ ys) (y ∷ rows.put cmp key v ys)) (All-head (λ row. cmp key row.0 ≡ Less) y ys h)

  pub put_before : (v : X) (xs ys : List (K × X)) → All (λ row. cmp key row.0 ≡ Less) ys → rows.put cmp key v (xs ++ ys) ≡ rows.put cmp key v xs ++ ys
  put_before v [] ys h = put_first v ys h
  put_before v (x ∷ xs) ys h = by (cmp key x.0) (put_before v xs ys h)
    where
      by : (o : Ordering) → rows.put cmp key v (xs ++ ys) ≡ rows.put cmp key v xs ++ ys
          → rows.by_order o ((key, v) ∷ x ∷ (xs ++ ys)) ((x.0, v) ∷ (xs ++ ys)) (x ∷ rows.put cmp key v (xs ++ ys))
          ≡ rows.by_order o ((key, v) ∷ x ∷ xs) ((x.0, v) ∷ xs) (x ∷ rows.put cmp key v xs) ++ ys
      by Less rest = refl
      by Equal rest = refl
      by Greater rest = ap (λ l. x ∷ l) rest

  pub find_after : (xs ys : List (K × X)) → All (λ row. cmp key row.0 ≡ Greater) xs → rows.find cmp key (xs ++ ys) ≡ rows.find cmp key ys
  find_after [] ys h = refl
  find_after (x ∷ xs) ys h =
      ap (λ o. cond (is_eq o) (Some x.1) (rows.find cmp key (xs ++ ys))) (All-head (λ row. cmp key row.0 ≡ Greater) x xs h) ∙ find_after xs ys (All-tail (λ row. cmp key row.0 ≡ Greater) x xs h)

  pub find_none : (ys : List (K × X)) → All (λ row. cmp key row.0 ≡ Less) ys → rows.find cmp key ys ≡ None
  find_none [] h = refl
  find_none (y ∷ ys) h =
      ap (λ o. cond (is_eq o) (Some y.1) (rows.find cmp key ys)) (All-head (λ row. cmp key row.0 ≡ Less) y ys h) ∙ find_none ys (All-tail (λ row. cmp key row.0 ≡ Less) y ys h)

-- rows that stand for the elements of a list
module _ {K X Y : Type 0} (cmp : K → K → Ordering) (as_row : Y → K × X) (key : K) (l : List Y) (at : ℕ) (below : All (λ y. cmp key (as_row y).0 ≡ Greater) (take at l)) where
  low_rows : All (λ row. cmp key row.0 ≡ Greater) (map as_row (take at l))
  low_rows = All-map (λ row. cmp key row.0 ≡ Greater) as_row (take at l) below

  -- to write over the element of the key is to put its row
  pub put_over : (y : Y) → at < length l → cmp key (as_row (get_or l at y)).0 ≡ Equal → (as_row (get_or l at y)).0 ≡ (as_row y).0
      → map as_row (set l at y) ≡ rows.put cmp key (as_row y).1 (map as_row l)
  put_over y in_range tied same =
      let old = get_or l at y in
      let v = (as_row y).1 in
      let low = map as_row (take at l) in
      let high = map as_row (drop (suc at) l) in
      let there : rows.put cmp key v (as_row old ∷ high) ≡ as_row y ∷ high =
      ap (λ o. rows.by_order o ((key, v) ∷ as_row old ∷ high) (((as_row old).0, v) ∷ high) (as_row old ∷ rows.put cmp key v high)) tied
      ∙ ap (λ k. (k, v) ∷ high) same in
      ap (map as_row) (set_split l at y in_range)
      ∙ map-append as_row (take at l) (y ∷ drop (suc at) l)
      ∙ ap (λ rest. low ++ rest) (sym there)
      ∙ sym (put_after cmp key v low (as_row old ∷ high) low_rows)
      ∙ ap (rows.put cmp key v) (sym (map-append as_row (take at l) (old ∷ drop (suc at) l)))
      ∙ ap (λ xs. rows.put cmp key v (map as_row xs)) (sym (split_at l at y in_range))

  -- to insert an element in the gap of the key is to put its row
  pub put_in : (y : Y) → (as_row y).0 ≡ key → All (λ x. cmp key (as_row x).0 ≡ Less) (drop at l)
      → map as_row (insert l at y) ≡ rows.put cmp key (as_row y).1 (map as_row l)
  put_in y is_key above =
      let v = (as_row y).1 in
      let low = map as_row (take at l) in
      let high = map as_row (drop at l) in
      map-append as_row (take at l) (y ∷ drop at l)
      ∙ ap (λ k. low ++ (k, v) ∷ high) is_key
      ∙ ap (λ rest. low ++ rest) (sym (put_first cmp key v high (All-map (λ row. cmp key row.0 ≡ Less) as_row (drop at l) above)))
      ∙ sym (put_after cmp key v low high low_rows)
      ∙ ap (rows.put cmp key v) (sym (map-append as_row (take at l) (drop at l)))
      ∙ ap (λ xs. rows.put cmp key v (map as_row xs)) (take-append-drop at l)

  -- the element of the key is found
  pub find_here : (d : Y) → at < length l → cmp key (as_row (get_or l at d)).0 ≡ Equal → rows.find cmp key (map as_row l) ≡ Some (as_row (get_or l at d)).1
  find_here d in_range tied =
      let old = get_or l at d in
      let high = map as_row (drop (suc at) l) in
      ap (λ xs. rows.find cmp key (map as_row xs)) (split_at l at d in_range)
      ∙ ap (rows.find cmp key) (map-append as_row (take at l) (old ∷ drop (suc at) l))
      ∙ find_after cmp key (map as_row (take at l)) (as_row old ∷ high) low_rows
      ∙ ap (λ o. cond (is_eq o) (Some (as_row old).1) (rows.find cmp key high)) tied

  -- and nothing in its gap
  pub find_no_row : All (λ x. cmp key (as_row x).0 ≡ Less) (drop at l) → rows.find cmp key (map as_row l) ≡ None
  find_no_row above =
      ap (λ xs. rows.find cmp key (map as_row xs)) (sym (take-append-drop at l))
      ∙ ap (rows.find cmp key) (map-append as_row (take at l) (drop at l))
      ∙ find_after cmp key (map as_row (take at l)) (map as_row (drop at l)) low_rows
      ∙ find_none cmp key (map as_row (drop at l)) (All-map (λ row. cmp key row.0 ≡ Less) as_row (drop at l) above)

-- a map's insert is a put
pub insert-put : {K X : Type 0} (cmp : K → K → Ordering) (es : List (K × X)) (key : K) (v : X) → insert_entry cmp es key v ≡ rows.put cmp key v es
insert-put cmp [] key v = refl
insert-put cmp (e ∷ es) key v = by (cmp key e.0) (insert-put cmp es key v)
  where
    by : (o : Ordering) → insert_entry cmp es key v ≡ rows.put cmp key v es
        → match_ordering o ((key, v) ∷ e ∷ es) ((e.0, v) ∷ es) (e ∷ insert_entry cmp es key v) ≡ rows.by_order o ((key, v) ∷ e ∷ es) ((e.0, v) ∷ es) (e ∷ rows.put cmp key v es)
    by Less rest = refl
    by Equal rest = refl
    by Greater rest = ap (λ l. e ∷ l) rest
