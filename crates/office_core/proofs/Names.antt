-- Known points have different names, so each is the one of its name.
use Rattle.std.proofs.Common.{◌≡◌, ℕ, ◌+◌, Bool, true, false, cond, not, List, [], ◌∷◌, ◌++◌, length, leb, map, find, Option, None, Some, Result, Ok, Err, inl, inr, refl, sym, ap, subst, ◌∙◌}
use Rattle.std.specs.Prelude.{◌||◌, ◌⊎◌, Contains, IfOk, is_none, ⊤}
use Rattle.std.specs.List.{list_any}
use Rattle.std.specs.Str.{bytes_eq}
use Rattle.std.proofs.lemmas.List.{map-append}
use Rattle.std.proofs.lemmas.List.Folds.{list_any-append}
use Rattle.std.proofs.lemmas.Slice.Eq.{bytes_eq-Decides}
use Rattle.point_list.specs.Columns.{Record, field, is_device}
use Rattle.point_list.specs.Edition.{Edition}
use Rattle.point_list.specs.Header.{is_header}
use Rattle.point_list.specs.ListMeaning.{body_meaning, fault_or_later, first_fault, list_meaning, missing_header, point_in, row_before, rows_said, rows_unless}
use Rattle.point_list.specs.Lists.{Check, fault_below, first_failed, meaning_checks, model_in, place_checks, records_of, whole_checks}
use Rattle.point_list.specs.Resolving.{first_misplaced, list_at, placed, points_of, resolved_list}
use Rattle.point_list.specs.declared.error.ListError.{ListError}
use Rattle.point_list.specs.declared.error.ListFault.{ListFault}
use Rattle.point_list.specs.declared.point.ListRow.{ListRow}
use Rattle.point_list.specs.declared.point.Point.{Point}
use Rattle.point_list.specs.declared.site.Site.{Site}
use Rattle.poll_book.specs.declared.rows.PointRow.{PointRow}
use Rattle.office_core.specs.History.{History, Load, Restart, Order, Void, Open, Ask, Send, Reply, Noise, is_used, points, site_of}
use Rattle.office_core.specs.Loads.{Loading, Refused, Taken, added, differing, known_named, loading, loading_of, loading_rows, numbered_on, too_many, unknown_of}
use Rattle.office_core.proofs.Elements.{among, in_none}
use Rattle.office_core.proofs.OldHistories.{point_so}

-- ---- points whose names differ

-- a name is taken from now on, too
abbrev also : (List ℕ → Bool) → List ℕ → List ℕ → Bool
also taken name other = taken other || bytes_eq other name

-- the names of points aren't taken, and differ
abbrev AreApart : (List ℕ → Bool) → List Point → Type 0
AreApart taken [] = ⊤
AreApart taken (point ∷ rest) = (taken point.name ≡ false) × AreApart (also taken point.name) rest

-- no name is taken
abbrev free : List ℕ → Bool
free name = false

-- the names that are taken behind points
abbrev behind : (List ℕ → Bool) → List Point → List ℕ → Bool
behind taken [] = taken
behind taken (point ∷ rest) = behind (also taken point.name) rest

or_false : (a b : Bool) → (a || b) ≡ false → (a ≡ false) × (b ≡ false)
or_false true b e = absurd (cc)
or_false false b e = (refl, e)

both_false : (a b : Bool) → a ≡ false → b ≡ false → (a || b) ≡ false
both_false a b e f = ap (λ (x : Bool). x || b) e ∙ f

-- where fewer names are taken, the same points are apart
fewer : (taken other : List ℕ → Bool) (ps : List Point) → ((name : List ℕ) → taken name ≡ false → other name ≡ false) → AreApart taken ps → AreApart other ps
fewer taken other [] less apart = tt
fewer taken other (point ∷ rest) less apart = (
  less point.name apart.0,
  fewer (also taken point.name) (also other point.name) rest (λ name e.
      let parts = or_false (taken name) (bytes_eq name point.name) e in
      both_false (other name) (bytes_eq name point.name) (less name parts.0) parts.1) apart.1,
)

apart_more : (taken : List ℕ → Bool) (xs ys : List Point) → AreApart taken xs → AreApart (behind taken xs) ys → AreApart taken (xs ++ ys)
apart_more taken [] ys front back = back
apart_more taken (x ∷ xs) ys front back = (front.0, apart_more (also taken x.name) xs ys front.1 back)

-- ---- the points of a list

later_none : (a b : List Check) → first_failed (a ++ b) ≡ None → first_failed b ≡ None
later_none [] b e = e
later_none (c ∷ cs) b e = by c.passes e (later_none cs b)
  where
    own : Option (ListFault × ℕ)
    own = Some (c.fault, c.column)

    by : (t : Bool) → cond t (first_failed (cs ++ b)) own ≡ None → (first_failed (cs ++ b) ≡ None → first_failed b ≡ None) → first_failed b ≡ None
    by true e rest = rest e
    by false e rest = absurd (cc)

last_passes : (c d : Check) → first_failed (c ∷ d ∷ []) ≡ None → d.passes ≡ true
last_passes c d e = by c.passes d.passes e
  where
    first : Option (ListFault × ℕ)
    first = Some (c.fault, c.column)

    second : Option (ListFault × ℕ)
    second = Some (d.fault, d.column)

    by : (a b : Bool) → cond a (cond b None second) first ≡ None → b ≡ true
    by true true f = refl
    by true false f = absurd (cc)
    by false b f = absurd (cc)

not_true : (b : Bool) → not b ≡ true → b ≡ false
not_true true e = absurd (cc)
not_true false e = refl

-- these names are taken
abbrev among_names : List (List ℕ) → List ℕ → Bool
among_names names name = list_any (λ other. bytes_eq name other) names

-- a record without a fault has a name that isn't among those before
is_new : (columns : ℕ) (known : List ℕ → Bool) (names : List (List ℕ)) (r : Record) → fault_below columns known names r ≡ None → among_names names (field r 0) ≡ false
unfolding fault_below
is_new columns known names r e =
    not_true (among_names names (field r 0))
    (last_passes _ _ (later_none (meaning_checks r) (whole_checks names r) (later_none (place_checks columns known (length names) r) (meaning_checks r ++ whole_checks names r) e)))

-- one name more is among them
one_more : (names : List (List ℕ)) (name other : List ℕ) → among_names (names ++ name ∷ []) other ≡ false → also (among_names names) name other ≡ false
one_more names name other e =
    let parts = or_false (among_names names other) (bytes_eq other name || false) (sym (list_any-append (λ x. bytes_eq other x) names (name ∷ [])) ∙ e) in
    both_false (among_names names other) (bytes_eq other name) parts.0 (or_false (bytes_eq other name) false parts.1).0

-- the points that faultless records say have different names, and none of those before
said_apart : (columns : ℕ) (known : List ℕ → Bool) (names : List (List ℕ)) (number : ℕ) (rs : List Record) → first_fault columns known names number rs ≡ None
    → AreApart (among_names names) (points_of (rows_said number rs))
said_apart columns known names number [] none = tt
said_apart columns known names number (r ∷ rs) none =
    by_fault (fault_below columns known names r) refl none (said_apart columns known (names ++ field r 0 ∷ []) (number + 1) rs)
  where
    rows : List ListRow
    rows = rows_said (number + 1) rs

    Rest : Type 0
    Rest = AreApart (among_names (names ++ field r 0 ∷ [])) (points_of rows)

    by : (o : Option Point) → point_in r ≡ o → fault_below columns known names r ≡ None → Rest → AreApart (among_names names) (points_of (row_before number (model_in r) o rows))
    by None at own rest =
        fewer (among_names (names ++ field r 0 ∷ [])) (among_names names) (points_of rows) (λ name e. (or_false (among_names names name) (bytes_eq name (field r 0)) (one_more names (field r 0) name e)).0) rest
    by (Some point) at own rest =
        let is : point.name ≡ field r 0 = (point_so r point at).0 in (
          ap (among_names names) is ∙ is_new columns known names r own,
          subst (λ (name : List ℕ). AreApart (also (among_names names) name) (points_of rows)) (sym is)
              (fewer (among_names (names ++ field r 0 ∷ [])) (also (among_names names) (field r 0)) (points_of rows) (λ name e. one_more names (field r 0) name e) rest),
        )

    by_fault : (o : Option (ListFault × ℕ)) → fault_below columns known names r ≡ o
        → fault_or_later number o (first_fault columns known (names ++ field r 0 ∷ []) (number + 1) rs) ≡ None
        → (first_fault columns known (names ++ field r 0 ∷ []) (number + 1) rs ≡ None → Rest) → AreApart (among_names names) (points_of (rows_said number (r ∷ rs)))
    by_fault None own later rest = by (point_in r) refl own (rest later)
    by_fault (Some fault) own later rest = absurd (cc)

-- points in their places have the names that they had
placed_apart : (site : Site) (taken : List ℕ → Bool) (rows : List ListRow) → AreApart taken (points_of rows) → AreApart taken (points_of (map (placed site) rows))
placed_apart site taken [] apart = tt
placed_apart site taken (said ∷ rows) apart = (apart.0, placed_apart site (also taken said.point.name) rows apart.1)

-- so the points of a list have different names
abbrev AreRowsApart : List ListRow → Type 0
AreRowsApart rows = AreApart free (points_of rows)

meaning_apart : (edition : Edition) (known : List ℕ → Bool) (list : List Record) → IfOk (list_meaning edition known list) AreRowsApart
meaning_apart edition known [] = tt
meaning_apart edition known (first ∷ body) = by (is_header edition first)
  where
    by_fault : (o : Option ListError) → first_fault (length first) known [] 2 body ≡ o → IfOk (rows_unless o (rows_said 2 body)) AreRowsApart
    by_fault None none = said_apart (length first) known [] 2 body none
    by_fault (Some e) some = tt

    by : (b : Bool) → IfOk (cond b (body_meaning (length first) known body) (Err missing_header)) AreRowsApart
    by true = by_fault (first_fault (length first) known [] 2 body) refl
    by false = tt

resolved_apart : (site : Site) (m : Result (List ListRow) ListError) → IfOk m AreRowsApart → IfOk (resolved_list site m) AreRowsApart
resolved_apart site (Err e) apart = tt
resolved_apart site (Ok rows) apart = by (first_misplaced site rows)
  where
    by : (o : Option ListError) → IfOk (rows_unless o (map (placed site) rows)) AreRowsApart
    by None = placed_apart site free rows apart
    by (Some e) = tt

-- ---- the points that a list adds

other_way : (a b : List ℕ) → bytes_eq a b ≡ false → bytes_eq b a ≡ false
other_way a b e = by (bytes_eq b a) refl
  where
    by : (t : Bool) → bytes_eq b a ≡ t → t ≡ false
    by true h = let same : b ≡ a = (bytes_eq-Decides b a).0 h in absurd (let x : false ≡ true = sym e ∙ (bytes_eq-Decides a b).1 (sym same) in cc)
    by false h = refl

-- the points of rows of the table of points
abbrev points_in : List PointRow → List Point
points_in known = map (λ (row : PointRow). row.point) known

-- a name that isn't known isn't taken behind the known points
unknown_free : (taken : List ℕ → Bool) (known : List PointRow) (name : List ℕ) → taken name ≡ false → is_none (known_named known name) ≡ true → behind taken (points_in known) name ≡ false
unknown_free taken [] name free none = free
unknown_free taken (row ∷ known) name free none =
    by (bytes_eq row.point.name name) refl none (unknown_free (also taken row.point.name) known name)
  where
    by : (b : Bool) → bytes_eq row.point.name name ≡ b → is_none (cond b (Some row) (known_named known name)) ≡ true
        → (also taken row.point.name name ≡ false → is_none (known_named known name) ≡ true → behind (also taken row.point.name) (points_in known) name ≡ false)
        → behind (also taken row.point.name) (points_in known) name ≡ false
    by true e none rest = absurd (cc)
    by false e none rest = rest (both_false (taken name) (bytes_eq name row.point.name) free (other_way row.point.name name e)) none

-- of points that are apart those that aren't known are apart, behind those that are
new_apart : (known : List PointRow) (taken other : List ℕ → Bool) (ps : List Point)
    → ((name : List ℕ) → is_none (known_named known name) ≡ true → taken name ≡ false → other name ≡ false) → AreApart taken ps → AreApart other (unknown_of known ps)
new_apart known taken other [] less apart = tt
new_apart known taken other (point ∷ rest) less apart =
    by (is_none (known_named known point.name)) refl
    (new_apart known (also taken point.name) (also other point.name) rest (λ name none e.
    let parts = or_false (taken name) (bytes_eq name point.name) e in
    both_false (other name) (bytes_eq name point.name) (less name none parts.0) parts.1) apart.1)
    (new_apart known (also taken point.name) other rest (λ name none e. less name none (or_false (taken name) (bytes_eq name point.name) e).0) apart.1)
  where
    by : (b : Bool) → is_none (known_named known point.name) ≡ b → AreApart (also other point.name) (unknown_of known rest) → AreApart other (unknown_of known rest)
        → AreApart other (cond b (point ∷ unknown_of known rest) (unknown_of known rest))
    by true none new old = (less point.name none apart.0, new)
    by false there new old = old

numbered_points_in : (n : ℕ) (ps : List Point) → points_in (numbered_on n ps) ≡ ps
numbered_points_in n [] = refl
numbered_points_in n (point ∷ ps) = ap (λ l. point ∷ l) (numbered_points_in (n + 1) ps)

-- the points that a loading adds are apart, behind those that are known
abbrev AreAdded : List PointRow → Loading → Type 0
AreAdded known l = (n : ℕ) → AreApart (behind free (points_in known)) (points_in (added n l))

taken_apart : (known : List PointRow) (rows : List ListRow) → AreRowsApart rows → AreAdded known (loading_of known (Ok rows))
taken_apart known rows apart = by (differing known rows)
  where
    new : List Point
    new = unknown_of known (points_of rows)

    is_apart : AreApart (behind free (points_in known)) new
    is_apart = new_apart known free (behind free (points_in known)) (points_of rows) (λ name none e. unknown_free free known name e none) apart

    few : (b : Bool) → AreAdded known (cond b (Taken (length rows) new) (Refused too_many))
    few true n = subst (AreApart (behind free (points_in known))) (sym (numbered_points_in n new)) is_apart
    few false n = tt

    by : (o : Option ListRow) → AreAdded known (loading_rows known rows o)
    by None = few (leb (length known + length new) 10000)
    by (Some differs) = λ n. tt

loading_apart : (known : List PointRow) (m : Result (List ListRow) ListError) → IfOk m AreRowsApart → AreAdded known (loading_of known m)
loading_apart known (Ok rows) apart n = taken_apart known rows apart n
loading_apart known (Err e) apart n = tt

-- ---- all known points

known_apart : (before : History) → AreApart free (points_in (points before))
known_apart [] = tt
known_apart (Load edition caller key list ∷ before) = by (is_used before (caller, key)) (known_apart before)
  where
    known : List PointRow
    known = points before

    more : List PointRow
    more = added (length known) (loading edition (site_of before) known list)

    by : (b : Bool) → AreApart free (points_in known) → AreApart free (points_in (cond b known (known ++ more)))
    by true earlier = earlier
    by false earlier =
        subst (AreApart free) (sym (map-append (λ (row : PointRow). row.point) known more))
        (apart_more free (points_in known) (points_in more) earlier
        (loading_apart known (list_at edition (site_of before) (records_of list))
        (resolved_apart (site_of before) (list_meaning edition (is_device (site_of before)) (records_of list)) (meaning_apart edition (is_device (site_of before)) (records_of list))) (length known)))
known_apart (Restart site ∷ before) = known_apart before
known_apart (Order caller key point value ∷ before) = known_apart before
known_apart (Void caller key point at ∷ before) = known_apart before
known_apart (Open line ∷ before) = known_apart before
known_apart (Ask c device slot read ∷ before) = known_apart before
known_apart (Send c number ∷ before) = known_apart before
known_apart (Reply c n unit ∷ before) = known_apart before
known_apart (Noise c frame ∷ before) = known_apart before

-- a row among those that are apart has a name that isn't taken
not_taken : (taken : List ℕ → Bool) (known : List PointRow) (row : PointRow) → AreApart taken (points_in known) → Contains known row → taken row.point.name ≡ false
not_taken taken [] row apart there = absurd (in_none row there)
not_taken taken (first ∷ known) row apart there =
    elim (among first known row there) [
      | inl same ↦ subst (λ (x : PointRow). taken x.point.name ≡ false) same apart.0
      | inr later ↦ (or_false (taken row.point.name) (bytes_eq row.point.name first.point.name) (not_taken (also taken first.point.name) known row apart.1 later)).0
    ]

-- and it is the first of its name
own_name : (taken : List ℕ → Bool) (known : List PointRow) (row : PointRow) → AreApart taken (points_in known) → Contains known row → known_named known row.point.name ≡ Some row
own_name taken [] row apart there = absurd (in_none row there)
own_name taken (first ∷ known) row apart there =
    elim (among first known row there) [
      | inl same ↦ by_same (bytes_eq first.point.name row.point.name) ((bytes_eq-Decides first.point.name row.point.name).1 (ap (λ (x : PointRow). x.point.name) same)) same
      | inr later ↦
          by_other (bytes_eq first.point.name row.point.name)
          (other_way row.point.name first.point.name
          (or_false (taken row.point.name) (bytes_eq row.point.name first.point.name) (not_taken (also taken first.point.name) known row apart.1 later)).1)
          (own_name (also taken first.point.name) known row apart.1 later)
    ]
  where
    by_same : (b : Bool) → b ≡ true → first ≡ row → cond b (Some first) (known_named known row.point.name) ≡ Some row
    by_same true e same = ap Some same
    by_same false e same = absurd (cc)

    by_other : (b : Bool) → b ≡ false → known_named known row.point.name ≡ Some row → cond b (Some first) (known_named known row.point.name) ≡ Some row
    by_other true e rest = absurd (cc)
    by_other false e rest = rest

-- each known point is the one of its name
pub named_so : (before : History) (row : PointRow) → Contains (points before) row → known_named (points before) row.point.name ≡ Some row
named_so before row there = own_name free (points before) row (known_apart before) there
