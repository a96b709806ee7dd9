-- The points of a list at a site, from its rows.
use Rattle.std.proofs.Common.{◌≡◌, ◌∙◌, ◌<◌, ◌≤◌, ◌+◌, ◌⊎◌, ◌∷◌, List, [], ℕ, Bool, None, Some, Vec, Global, suc, ap, arith, get_or, inl, inr, length, map, refl, subst, sym, take, ⊎_elim}
use Rattle.std.specs.Prelude.{Err, IfErr, IfOk, Ok, Result}
use Rattle.std.proofs.lemmas.Bool.{cases_lt}
use Rattle.std.proofs.lemmas.List.{length-map, length-take}
use Rattle.point_list.specs.Columns.{Record, field, is_device}
use Rattle.point_list.specs.Edition.{Edition}
use Rattle.point_list.specs.ListMeaning.{rows_unless}
use Rattle.point_list.specs.Lists.{AreRows, IsFaultOf, IsMemory, SayRows, names_in}
use Rattle.point_list.specs.Resolving.{AreRowsFrom, ArePointsOf, first_misplaced, list_at, placed, point_placed, points_of, resolved_list}
use Rattle.point_list.specs.declared.error.ListError.{ListError}
use Rattle.point_list.specs.declared.point.ListRow.{ListRow}
use Rattle.point_list.specs.declared.point.Point.{Point}
use Rattle.point_list.specs.declared.site.Site.{Site}
use Rattle.point_list.proofs.OneMeaning.{fault_is, rows_are}
use Rattle.point_list.proofs.Rows.{few_names}

said : (number : ℕ) (body : List Record) (rows : List ListRow) → SayRows number body rows → length rows ≡ length body
said number [] [] say = refl
said number [] (x ∷ rows) say = absurd say
said number (r ∷ body) [] say = absurd say
said number (r ∷ body) (x ∷ rows) say = ap suc (said (number + 1) body rows say.1)

-- a list has at most 10,000 rows
few_rows : (edition : Edition) (known : List ℕ → Bool) (list : List Record) (rows : List ListRow) → AreRows edition known list rows → length rows ≤ 10000
few_rows edition known list rows are =
    let count = said 2 are.body rows are.say in
    ⊎_elim (λ (gt : 10000 < length are.body).
    let some = few_names (length are.first) known (names_in (take 10000 are.body)) (get_or are.body 10000 []) (are.faultless 10000 gt) in
    absurd (omega (arith, some, length-map (take 10000 are.body) (λ (r : Record). field r 0), length-take 10000 are.body)))
    (λ (le : length are.body ≤ 10000). (let n = count in omega arith))
    (cases_lt 10000 (length are.body))

-- rows that records say follow each other, and still do with their points placed
numbers_placed : (site : Site) (number : ℕ) (body : List Record) (rows : List ListRow) → SayRows number body rows → AreRowsFrom number (map (placed site) rows)
numbers_placed site number [] [] say = tt
numbers_placed site number [] (x ∷ rows) say = absurd say
numbers_placed site number (r ∷ body) [] say = absurd say
numbers_placed site number (r ∷ body) (x ∷ rows) say = (say.0.row, numbers_placed site (number + 1) body rows say.1)

-- their points
points_placed : (site : Site) (rows : List ListRow) → map (point_placed site) rows ≡ points_of (map (placed site) rows)
points_placed site [] = refl
points_placed site (x ∷ rows) = ap (λ l. point_placed site x ∷ l) (points_placed site rows)

module _ (edition : Edition) (site : Site) (list : List Record) (rows : List ListRow) (are : AreRows edition (is_device site) list rows) where
  meant : list_at edition site list ≡ rows_unless (first_misplaced site rows) (map (placed site) rows)
  meant = ap (resolved_list site) (rows_are edition (is_device site) list rows are)

  -- what resolving gives of the rows is what the list means at the site
  pub points_are : (told : Result (Vec Point Global) ListError) → IfOk told (λ v. (first_misplaced site rows ≡ None) × (v.items ≡ map (point_placed site) rows))
      → IfOk told (λ v. (at_site : List ListRow) × (list_at edition site list ≡ Ok at_site) × ArePointsOf at_site v.items)
  points_are (Ok v) is = (
    map (placed site) rows,
    meant ∙ ap (λ o. rows_unless o (map (placed site) rows)) is.0,
    record { same = is.1 ∙ points_placed site rows; numbered = numbers_placed site 2 are.body rows are.say },
  )
  points_are (Err e) is = tt

  pub points_few : (told : Result (Vec Point Global) ListError) → IfOk told (λ v. (first_misplaced site rows ≡ None) × (v.items ≡ map (point_placed site) rows))
      → IfOk told (λ v. length v.items ≤ 10000)
  points_few (Ok v) is = subst (λ n. n ≤ 10000) (sym (ap length is.1 ∙ length-map rows (point_placed site))) (few_rows edition (is_device site) list rows are)
  points_few (Err e) is = tt

  pub points_fault : (told : Result (Vec Point Global) ListError) → IfErr told (λ e. IsMemory e ⊎ (first_misplaced site rows ≡ Some e))
      → IfErr told (λ e. IsMemory e ⊎ (list_at edition site list ≡ Err e))
  points_fault (Ok v) is = tt
  points_fault (Err e) (inl memory) = inl memory
  points_fault (Err e) (inr fault) = inr (meant ∙ ap (λ o. rows_unless o (map (placed site) rows)) fault)

-- the fault of a list alone is its fault at a site
pub list_fault : (edition : Edition) (site : Site) (list : List Record) (e : ListError) → IsMemory e ⊎ IsFaultOf edition (is_device site) list e → IsMemory e ⊎ (list_at edition site list ≡ Err e)
list_fault edition site list e (inl memory) = inl memory
list_fault edition site list e (inr fault) = inr (ap (resolved_list site) (fault_is edition (is_device site) list e fault))
