-- The fault of a record, from its halves.
use Rattle.std.proofs.Common.{◌≡◌, ℕ, List, ◌++◌, Bool, true, false, cond, not, Option, Some, None, length, refl, sym, ap, ◌∙◌}
use Rattle.std.specs.Prelude.{◌==◌, is_none, nat_lt}
use Rattle.std.proofs.lemmas.List.{length-map}
use Rattle.std.specs.List.{list_any}
use Rattle.std.specs.Str.{bytes_eq}
use Rattle.sunspec.specs.declared.point_type.PointType.{PointType}
use Rattle.point_list.specs.Columns.{Record, field}
use Rattle.point_list.specs.Name.{is_name}
use Rattle.point_list.specs.Lists.{first_failed, place_checks, meaning_checks, whole_checks, fault_below, names_of, address_in, type_in, ends_in_time}
use Rattle.point_list.specs.Judged.{fault_of_name}
use Rattle.point_list.specs.declared.error.ListFault.{ListFault}
use Rattle.point_list.specs.declared.error.ListFault.TheVariants.{BadCsv, BadName, TooManyPoints, Twice}
use Rattle.point_list.specs.declared.point.ListRow.{ListRow}
use Rattle.point_list.proofs.Checks.{failed-behind, failed-front}

-- so many names as rows
count : (rows : List ListRow) → length (names_of rows) ≡ length rows
count rows = length-map rows (λ (x : ListRow). x.point.name)

-- where the point's place is right
behind_place : (columns : ℕ) (known : List ℕ → Bool) (rows : List ListRow) (r : Record) → first_failed (place_checks columns known (length rows) r) ≡ None
    → fault_below columns known (names_of rows) r ≡ first_failed (meaning_checks r ++ whole_checks (names_of rows) r)
unfolding fault_below
behind_place columns known rows r h = rw (count rows) (failed-behind (place_checks columns known (length rows) r) (meaning_checks r ++ whole_checks (names_of rows) r) h)

pub below-meaning : (columns : ℕ) (known : List ℕ → Bool) (rows : List ListRow) (r : Record) (e : ListFault × ℕ) → first_failed (place_checks columns known (length rows) r) ≡ None → first_failed (meaning_checks r) ≡ Some e
    → fault_below columns known (names_of rows) r ≡ Some e
below-meaning columns known rows r e place h = behind_place columns known rows r place ∙ failed-front (meaning_checks r) (whole_checks (names_of rows) r) e h

-- where the point's meaning is right too
behind_meaning : (columns : ℕ) (known : List ℕ → Bool) (rows : List ListRow) (r : Record) → first_failed (place_checks columns known (length rows) r) ≡ None → first_failed (meaning_checks r) ≡ None
    → fault_below columns known (names_of rows) r ≡ first_failed (whole_checks (names_of rows) r)
behind_meaning columns known rows r place meaning = behind_place columns known rows r place ∙ failed-behind (meaning_checks r) (whole_checks (names_of rows) r) meaning

unless : {A : Type 0} (b : Bool) (x y : A) → cond (not b) x y ≡ cond b y x
unless true x y = refl
unless false x y = refl

-- where it ends in time too, only its name is left
pub below-name : (columns : ℕ) (known : List ℕ → Bool) (rows : List ListRow) (r : Record) (address : ℕ) (kind : PointType) → first_failed (place_checks columns known (length rows) r) ≡ None → first_failed (meaning_checks r) ≡ None
    → address_in r ≡ Some address → type_in r ≡ Some kind → ends_in_time (Some address) (Some kind) ≡ true
    → fault_below columns known (names_of rows) r ≡ fault_of_name (names_of rows) r
below-name columns known rows r address kind place meaning a k ends =
    behind_meaning columns known rows r place meaning ∙ rw (a, k, ends) (unless (list_any (λ name. bytes_eq (field r 0) name) (names_of rows)) None (Some (Twice, 1)))

-- what the name's fault is, where it is known whether a set of those names had the name
pub fault_unless_new : (names : List (List ℕ)) (r : Record) (is_new has : Bool) → is_new ≡ not has → has ≡ list_any (λ name. bytes_eq (field r 0) name) names
    → fault_of_name names r ≡ cond is_new None (Some (Twice, 1))
fault_unless_new names r is_new has e h = rw (e, h) (sym (unless (list_any (λ name. bytes_eq (field r 0) name) names) None (Some (Twice, 1))))

-- where nothing but its name can be at fault, it is a name
pub named : (columns : ℕ) (known : List ℕ → Bool) (names : List (List ℕ)) (r : Record) → fault_below columns known names r ≡ fault_of_name names r → is_name (field r 0) ≡ true
unfolding fault_below
named columns known names r h = by (length r == columns) (nat_lt (length names) 10000) (is_name (field r 0)) (list_any (λ name. bytes_eq (field r 0) name) names) _ h
  where
    fault : Option (ListFault × ℕ) → ListFault
    fault None = Twice
    fault (Some x) = x.0

    by : (a b c d : Bool) (rest : Option (ListFault × ℕ)) → cond a (cond b (cond c rest (Some (BadName, 1))) (Some (TooManyPoints, 0))) (Some (BadCsv, 0)) ≡ cond d (Some (Twice, 1)) None → c ≡ true
    by true true true d rest h = refl
    by true true false true rest h = absurd (let e : BadName ≡ Twice = ap fault h in cc)
    by true true false false rest h = absurd (let e : false ≡ true = ap is_none h in cc)
    by true false c true rest h = absurd (let e : TooManyPoints ≡ Twice = ap fault h in cc)
    by true false c false rest h = absurd (let e : false ≡ true = ap is_none h in cc)
    by false b c true rest h = absurd (let e : BadCsv ≡ Twice = ap fault h in cc)
    by false b c false rest h = absurd (let e : false ≡ true = ap is_none h in cc)
