-- What holds of each point that a faultless record says, and of it in its place, holds of each point that a list adds.
use Rattle.std.proofs.Common.{◌≡◌, ◌+◌, ℕ, Bool, true, false, cond, leb, List, [], ◌∷◌, ◌++◌, length, Option, Some, None, Result, Ok, Err, refl}
use Rattle.std.specs.Prelude.{All, IfOk, map, is_none, ⊤}
use Rattle.std.proofs.lemmas.List.Elements.{All-nil, All-cons, All-head, All-tail, All-map, All-filter}
use Rattle.point_list.specs.Columns.{Record, field, is_device}
use Rattle.point_list.specs.Edition.{Edition}
use Rattle.point_list.specs.Header.{is_header}
use Rattle.point_list.specs.ListMeaning.{point_in, row_before, rows_said, fault_or_later, first_fault, missing_header, rows_unless, body_meaning, list_meaning}
use Rattle.point_list.specs.Lists.{fault_below, model_in, records_of}
use Rattle.point_list.specs.Resolving.{first_misplaced, list_at, misplaced, placed, point_placed, resolved_list, points_of}
use Rattle.point_list.specs.declared.error.ListError.{ListError}
use Rattle.point_list.specs.declared.error.ListFault.{ListFault}
use Rattle.point_list.specs.declared.point.ListRow.{ListRow}
use Rattle.point_list.specs.declared.point.Point.{Point}
use Rattle.point_list.specs.declared.site.Site.{Site}
use Rattle.point_list.proofs.Placing.{none_misplaced}
use Rattle.poll_book.specs.declared.rows.PointRow.{PointRow}
use Rattle.office_core.specs.Loads.{Loading, Refused, Taken, known_named, unknown_of, too_many, loading_rows, differing, loading_of, loading, numbered_on, added}

module _ (edition : Edition) (site : Site) (P : Point → Type 0)
    (says : (first : Record) → is_header edition first ≡ true → (names : List (List ℕ)) (r : Record) (point : Point)
    → fault_below (length first) (is_device site) names r ≡ None → point_in r ≡ Some point → P point)
    (places : (said : ListRow) → misplaced site said ≡ None → P said.point → P (point_placed site said)) where
  -- so are the points of these rows
  abbrev AreSo : List ListRow → Type 0
  AreSo rows = All (λ (said : ListRow). P said.point) rows

  -- those of the rows that faultless records say are
  rows_so : (first : Record) → is_header edition first ≡ true → (names : List (List ℕ)) (number : ℕ) (rs : List Record)
      → first_fault (length first) (is_device site) names number rs ≡ None → AreSo (rows_said number rs)
  rows_so first header names number [] none = All-nil (λ (said : ListRow). P said.point)
  rows_so first header names number (r ∷ rs) none =
      by_fault (fault_below (length first) (is_device site) names r) refl none (rows_so first header (names ++ field r 0 ∷ []) (number + 1) rs)
    where
      by : (o : Option Point) → point_in r ≡ o → fault_below (length first) (is_device site) names r ≡ None → AreSo (rows_said (number + 1) rs)
          → AreSo (row_before number (model_in r) o (rows_said (number + 1) rs))
      by None at own rest = rest
      by (Some point) at own rest =
          All-cons (λ (said : ListRow). P said.point) (record { row = number; point = point; model = model_in r }) (rows_said (number + 1) rs) (says first header names r point own at) rest

      by_fault : (o : Option (ListFault × ℕ)) → fault_below (length first) (is_device site) names r ≡ o
          → fault_or_later number o (first_fault (length first) (is_device site) (names ++ field r 0 ∷ []) (number + 1) rs) ≡ None
          → (first_fault (length first) (is_device site) (names ++ field r 0 ∷ []) (number + 1) rs ≡ None → AreSo (rows_said (number + 1) rs)) → AreSo (rows_said number (r ∷ rs))
      by_fault None own later rest = by (point_in r) refl own (rest later)
      by_fault (Some fault) own later rest = absurd (cc)

  -- and those of the rows that a list means
  meaning_so : (list : List Record) → IfOk (list_meaning edition (is_device site) list) AreSo
  meaning_so [] = tt
  meaning_so (first ∷ body) = by (is_header edition first) refl
    where
      by_fault : is_header edition first ≡ true → (o : Option ListError) → first_fault (length first) (is_device site) [] 2 body ≡ o → IfOk (rows_unless o (rows_said 2 body)) AreSo
      by_fault header None none = rows_so first header [] 2 body none
      by_fault header (Some e) some = tt

      by : (b : Bool) → is_header edition first ≡ b → IfOk (cond b (body_meaning (length first) (is_device site) body) (Err missing_header)) AreSo
      by true header = by_fault header (first_fault (length first) (is_device site) [] 2 body) refl
      by false other = tt

  -- the points of rows that all have a place are so there
  rows_placed : (rows : List ListRow) → All (λ (said : ListRow). misplaced site said ≡ None) rows → AreSo rows → AreSo (map (placed site) rows)
  rows_placed [] none so = All-nil (λ (said : ListRow). P said.point)
  rows_placed (said ∷ rows) none so =
      All-cons (λ (x : ListRow). P x.point) (placed site said) (map (placed site) rows)
      (places said (All-head (λ (x : ListRow). misplaced site x ≡ None) said rows none) (All-head (λ (x : ListRow). P x.point) said rows so))
      (rows_placed rows (All-tail (λ (x : ListRow). misplaced site x ≡ None) said rows none) (All-tail (λ (x : ListRow). P x.point) said rows so))

  -- and so are those of the rows that a list means at the site
  resolved_so : (m : Result (List ListRow) ListError) → IfOk m AreSo → IfOk (resolved_list site m) AreSo
  resolved_so (Err e) so = tt
  resolved_so (Ok rows) so = by (first_misplaced site rows) refl
    where
      by : (o : Option ListError) → first_misplaced site rows ≡ o → IfOk (rows_unless o (map (placed site) rows)) AreSo
      by None none = rows_placed rows (none_misplaced site rows none) so
      by (Some e) some = tt

  -- so are the points that are taken
  abbrev AreTaken : Loading → Type 0
  AreTaken (Refused reason) = ⊤
  AreTaken (Taken count new) = All P new

  -- those of rows whose points are so
  taken_so : (known : List PointRow) (rows : List ListRow) → AreSo rows → AreTaken (loading_of known (Ok rows))
  taken_so known rows so = by (differing known rows)
    where
      all : All P (unknown_of known (points_of rows))
      all = All-filter (λ (point : Point). is_none (known_named known point.name)) P (points_of rows) (All-map P (λ (said : ListRow). said.point) rows so)

      few : (b : Bool) → AreTaken (cond b (Taken (length rows) (unknown_of known (points_of rows))) (Refused too_many))
      few true = all
      few false = tt

      by : (o : Option ListRow) → AreTaken (loading_rows known rows o)
      by None = few (leb (length known + length (unknown_of known (points_of rows))) 10000)
      by (Some differs) = tt

  -- and of a list that means such rows
  loading_so : (known : List PointRow) (m : Result (List ListRow) ListError) → IfOk m AreSo → AreTaken (loading_of known m)
  loading_so known (Ok rows) so = taken_so known rows so
  loading_so known (Err e) so = tt

  -- such points make such rows of the table of points
  numbered_so : (n : ℕ) (new : List Point) → All P new → All (λ (known : PointRow). P known.point) (numbered_on n new)
  numbered_so n [] so = All-nil (λ (known : PointRow). P known.point)
  numbered_so n (point ∷ new) so =
      All-cons (λ (known : PointRow). P known.point) (record { number = n + 1; point = point }) (numbered_on (n + 1) new)
      (All-head P point new so) (numbered_so (n + 1) new (All-tail P point new so))

  rows_added : (n : ℕ) (l : Loading) → AreTaken l → All (λ (known : PointRow). P known.point) (added n l)
  rows_added n (Refused reason) so = All-nil (λ (known : PointRow). P known.point)
  rows_added n (Taken count new) so = numbered_so n new so

  -- and so are those that a list adds
  pub added_so : (n : ℕ) (known : List PointRow) (list : List ℕ) → All (λ (known : PointRow). P known.point) (added n (loading edition site known list))
  added_so n known list =
      rows_added n (loading edition site known list)
      (loading_so known (list_at edition site (records_of list)) (resolved_so (list_meaning edition (is_device site) (records_of list)) (meaning_so (records_of list))))
