-- What becomes of the rows of a list.
use Rattle.std.proofs.Common.{◌≡◌, ◌≢◌, ◌≤◌, ◌<◌, ◌+◌, ◌⊎◌, ℕ, suc, Bool, true, false, cond, not, ltb, List, [], ◌∷◌, length, get_or, Some, None, Option, Result, Ok, Err, inl, inr, refl, sym, ap, ◌∙◌, arith, subst, ⊎_elim}
use Rattle.std.specs.Prelude.{option_map, IfOk, OnOk}
use Rattle.std.specs.List.{position, position_or_len}
use Rattle.std.proofs.lemmas.Bool.{le-leb, lt-leb, cases_lt, lt-ltb, le-ltb}
use Rattle.std.proofs.lemmas.List.{get_or_default}
use Rattle.std.proofs.lemmas.List.Sums.{position_or_len_is}
use Rattle.point_list.specs.Lists.{IsMemory}
use Rattle.point_list.specs.Resolving.{AreRowsFrom, ArePointsOf, points_of}
use Rattle.point_list.specs.declared.point.Point.{Point}
use Rattle.point_list.specs.declared.error.ListError.{ListError}
use Rattle.point_list.specs.declared.error.ListFault.TheVariants.{Memory}
use Rattle.point_list.specs.declared.point.ListRow.{ListRow}
use Rattle.poll_book.specs.declared.rows.PointRow.{PointRow}
use Rattle.office_core.specs.Loads.{Refused, Taken, agrees, differing, known_named, loading_of, loading_rows, loading_new, unknown_of, numbered_on, too_many}
use Rattle.office_core.proofs.Numbering.{length-numbered}

none_under : (o : Option ListRow) → None ≡ option_map (λ (row : ListRow). row.row) o → o ≡ None
none_under None e = refl
none_under (Some x) e = absurd (cc)

module _ (known : List PointRow) (rows : List ListRow) (agree : None ≡ option_map (λ (row : ListRow). row.row) (differing known rows))
    (new : List PointRow) (is : new ≡ numbered_on (length known) (unknown_of known (points_of rows))) where
  count : length new ≡ length (unknown_of known (points_of rows))
  count = ap length is ∙ length-numbered (length known) (unknown_of known (points_of rows))

  agreed : loading_of known (Ok rows) ≡ loading_new known rows (unknown_of known (points_of rows))
  agreed = ap (loading_rows known rows) (none_under (differing known rows) agree)

  pub taken_so : length known + length new ≤ 10000 → loading_of known (Ok rows) ≡ Taken (length rows) (unknown_of known (points_of rows))
  taken_so few =
      let n = count in
      agreed ∙ ap (λ b. cond b (Taken (length rows) (unknown_of known (points_of rows))) (Refused too_many)) (le-leb (length known + length (unknown_of known (points_of rows))) 10000 (omega arith))

  pub overfull : 10000 < length known + length new → loading_of known (Ok rows) ≡ Refused too_many
  overfull many =
      let n = count in
      agreed ∙ ap (λ b. cond b (Taken (length rows) (unknown_of known (points_of rows))) (Refused too_many)) (lt-leb (length known + length (unknown_of known (points_of rows))) 10000 (omega arith))

-- what is said of a refused list holds of what it means, where its fault isn't memory's
pub refused_so : {X E : Type 0} (m : Result (List ListRow) ListError) (e : ListError) → IsMemory e ⊎ (m ≡ Err e)
    → (told : Result X E) → OnOk told (e.fault ≢ Memory) → (P : Result (List ListRow) ListError → X → Type 0) → IfOk told (P (Err e)) → IfOk told (P m)
refused_so m e (inl memory) (Ok x) other P is = absurd (other (ap (λ (x : ListError). x.fault) memory))
refused_so m e (inr fault) (Ok x) other P is = subst (λ m. P m x) (sym fault) is
refused_so m e fault (Err y) other P is = is

-- what holds of a success holds of it in other words
pub ok_so : {X E : Type 0} (told : Result X E) (P Q : X → Type 0) → IfOk told P → ((x : X) → P x → Q x) → IfOk told Q
ok_so (Ok x) P Q is f = f x is
ok_so (Err e) P Q is f = is

-- ---- the first row that differs

-- it has the number of its place, counted from that of the first row
pub differing_at : (known : List PointRow) (n : ℕ) (rows : List ListRow) → AreRowsFrom n rows
    → option_map (λ (row : ListRow). row.row) (differing known rows)
    ≡ option_map (λ k. k + n) (position (λ (point : Point). not (agrees point (known_named known point.name))) (points_of rows))
differing_at known n [] from = refl
differing_at known n (x ∷ rows) from = by (agrees x.point (known_named known x.point.name)) (differing_at known (n + 1) rows from.1)
  where
    other : Point → Bool
    other point = not (agrees point (known_named known point.name))

    -- a place among the later rows, and where that is one more among all
    later : (k m : ℕ) → option_map (λ k. k + (n + 1)) (cond (ltb k m) (Some k) None) ≡ option_map (λ k. k + n) (cond (ltb (1 + k) (suc m)) (Some (1 + k)) None)
    later k m =
        ⊎_elim (λ (lt : k < m).
        let e : k + (n + 1) ≡ 1 + k + n = omega arith in
        ap (λ b. option_map (λ k. k + (n + 1)) (cond b (Some k) None)) (lt-ltb k m lt) ∙ ap Some e
        ∙ ap (λ b. option_map (λ k. k + n) (cond b (Some (1 + k)) None)) (sym (lt-ltb (1 + k) (suc m) (omega (arith, lt)))))
        (λ (le : m ≤ k).
        ap (λ b. option_map (λ k. k + (n + 1)) (cond b (Some k) None)) (le-ltb k m le)
        ∙ ap (λ b. option_map (λ k. k + n) (cond b (Some (1 + k)) None)) (sym (le-ltb (1 + k) (suc m) (omega (arith, le)))))
        (cases_lt k m)

    by : (b : Bool)
        → option_map (λ (row : ListRow). row.row) (differing known rows) ≡ option_map (λ k. k + (n + 1)) (position other (points_of rows))
        → option_map (λ (row : ListRow). row.row) (cond (not b) (Some x) (differing known rows))
        ≡ option_map (λ k. k + n)
        (cond (ltb (cond (not (not b)) (1 + position_or_len other (points_of rows)) 0) (suc (length (points_of rows)))) (Some (cond (not (not b)) (1 + position_or_len other (points_of rows)) 0)) None)
    by false rest =
        let first : x.row ≡ 0 + n = omega (arith, from.0) in
        ap Some first ∙ ap (λ b. option_map (λ k. k + n) (cond b (Some 0) None)) (sym (lt-ltb 0 (suc (length (points_of rows))) (omega arith)))
    by true rest = rest ∙ later (position_or_len other (points_of rows)) (length (points_of rows))

-- the first of the points that differs is at a place before which all agree
pub differs_at : (known : List PointRow) (points : List Point) (rows : List ListRow) (i : ℕ) (point : Point) → ArePointsOf rows points → i < length points
    → ((k : ℕ) (d : Point) → k < i → agrees (get_or points k d) (known_named known (get_or points k d).name) ≡ true)
    → agrees (get_or points i point) (known_named known (get_or points i point).name) ≡ false
    → Some (i + 2) ≡ option_map (λ (row : ListRow). row.row) (differing known rows)
differs_at known points rows i point are lt agree differ =
    let other : Point → Bool = λ (p : Point). not (agrees p (known_named known p.name)) in
    let here : position_or_len other points ≡ i = position_or_len_is other points i point (omega arith) (λ k less. ap not (agree k point less)) (λ less. ap not differ) in
    let found : position other points ≡ Some i = ap (λ n. cond (ltb n (length points)) (Some n) None) here ∙ ap (λ b. cond b (Some i) None) (lt-ltb i (length points) lt) in
    sym (ap (option_map (λ k. k + 2)) found) ∙ ap (λ l. option_map (λ k. k + 2) (position other l)) are.same ∙ sym (differing_at known 2 rows are.numbered)

-- none of the points differs where all agree
pub none_differs : (known : List PointRow) (points : List Point) (rows : List ListRow) → ArePointsOf rows points
    → ((k : ℕ) (d : Point) → k < length points → agrees (get_or points k d) (known_named known (get_or points k d).name) ≡ true)
    → None ≡ option_map (λ (row : ListRow). row.row) (differing known rows)
none_differs known [] rows are agree = ap (λ l. option_map (λ k. k + 2) (position (λ (p : Point). not (agrees p (known_named known p.name))) l)) are.same ∙ sym (differing_at known 2 rows are.numbered)
none_differs known (point ∷ more) rows are agree =
    let points : List Point = point ∷ more in
    let n : ℕ = length points in
    let other : Point → Bool = λ (p : Point). not (agrees p (known_named known p.name)) in
    let here : position_or_len other points ≡ n = position_or_len_is other points n point (omega arith) (λ k less. ap not (agree k point less)) (λ less. absurd (omega arith)) in
    let found : position other points ≡ None = ap (λ m. cond (ltb m n) (Some m) None) here ∙ ap (λ b. cond b (Some n) None) (le-ltb n n (omega arith)) in
    sym (ap (option_map (λ k. k + 2)) found) ∙ ap (λ l. option_map (λ k. k + 2) (position other l)) are.same ∙ sym (differing_at known 2 rows are.numbered)

-- one point more agrees
pub one_more_agrees : (known : List PointRow) (points : List Point) (i : ℕ) (point : Point) → i < length points → point ≡ get_or points i point
    → agrees point (known_named known point.name) ≡ true
    → ((k : ℕ) (d : Point) → k < i → agrees (get_or points k d) (known_named known (get_or points k d).name) ≡ true)
    → (k : ℕ) (d : Point) → k < i + 1 → agrees (get_or points k d) (known_named known (get_or points k d).name) ≡ true
one_more_agrees known points i point lt is agree before k d less =
    ⊎_elim (λ (earlier : k < i). before k d earlier)
    (λ (le : i ≤ k).
    let same : k ≡ i = omega arith in
    let there : point ≡ get_or points k d = is ∙ get_or_default points i point d lt ∙ ap (λ n. get_or points n d) (sym same) in
    subst (λ (p : Point). agrees p (known_named known p.name) ≡ true) there agree)
    (cases_lt k i)
