-- The first point of a name, by its place.
use Rattle.std.proofs.Common.{◌≡◌, ◌<◌, ◌+◌, ℕ, suc, Bool, true, false, cond, List, [], ◌∷◌, ◌++◌, length, take, get_or, Option, Some, None, refl, sym, ap, ◌∙◌, arith, length-append, length-take-le}
use Rattle.std.specs.Option.{option_or}
use Rattle.std.specs.BTreeMap.{BTreeMap, get, is_at}
use Rattle.std.specs.Cmp.Lexicographic.{slice_cmp}
use Rattle.std.specs.Ordering.{nat_cmp}
use Rattle.std.specs.Prelude.{is_some, slice_get}
use Rattle.std.specs.Str.{bytes_eq}
use Rattle.std.proofs.lemmas.List.{take_more}
use Rattle.std.proofs.lemmas.Map.Text.{is_eq-slice_cmp}
use Rattle.std.proofs.lemmas.Slice.Eq.{bytes_eq-Decides}
use Rattle.std.specs.List.{position_from}
use Rattle.poll_book.specs.declared.rows.PointRow.{PointRow}
use Rattle.office_core.specs.ByName.{is_named, row_at}
use Rattle.office_core.specs.Loads.{known_named}
use Rattle.office_core.proofs.ByDevice.{get_middle, moved}

-- one element more is the first that passes if it passes and none did before
pub position_push : {X : Type 0} (test : X → Bool) (i : ℕ) (xs : List X) (x : X)
    → position_from test i (xs ++ x ∷ []) ≡ option_or (position_from test i xs) (cond (test x) (Some (i + length xs)) None)
position_push test i [] x = ap (λ (n : ℕ). cond (test x) (Some n) None) (omega arith)
position_push {X} test i (y ∷ xs) x =
    by (test y) (position_push test (i + 1) xs x ∙ ap (λ (n : ℕ). option_or (position_from test (i + 1) xs) (cond (test x) (Some n) None)) (omega arith))
  where
    by : (b : Bool) → position_from test (i + 1) (xs ++ x ∷ []) ≡ option_or (position_from test (i + 1) xs) (cond (test x) (Some (i + suc (length xs))) None)
        → cond b (Some i) (position_from test (i + 1) (xs ++ x ∷ [])) ≡ option_or (cond b (Some i) (position_from test (i + 1) xs)) (cond (test x) (Some (i + suc (length xs))) None)
    by true e = refl
    by false e = e

-- the first of a name among the points so far and the next one
pub one_more_named : (known : List PointRow) (i : ℕ) (d : PointRow) (name : List ℕ) → i < length known
    → option_or (position_from (is_named name) 0 (take i known)) (cond (is_named name (get_or known i d)) (Some i) None) ≡ position_from (is_named name) 0 (take (i + 1) known)
one_more_named known i d name lt =
    let count = length-take-le i known (omega (arith, lt)) in
    let front : 0 + length (take i known) ≡ i = omega (arith, count) in
    ap (λ (n : ℕ). option_or (position_from (is_named name) 0 (take i known)) (cond (is_named name (get_or known i d)) (Some n) None)) (sym front)
    ∙ sym (position_push (is_named name) 0 (take i known) (get_or known i d))
    ∙ ap (position_from (is_named name) 0) (sym (take_more known i d lt))

pub nothing_there : {X : Type 0} (o : Option X) → is_some o ≡ false → o ≡ None
nothing_there None e = refl
nothing_there (Some x) e = absurd (cc)

-- a place that is put under a name that had none stands there, and the others keep theirs
pub place_put : (name other : List ℕ) (place : ℕ) (old new : BTreeMap (List ℕ) ℕ) → get (slice_cmp nat_cmp) old name ≡ None
    → get (slice_cmp nat_cmp) new other ≡ cond (is_at (slice_cmp nat_cmp name) other) (Some place) (get (slice_cmp nat_cmp) old other)
    → get (slice_cmp nat_cmp) new other ≡ option_or (get (slice_cmp nat_cmp) old other) (cond (bytes_eq name other) (Some place) None)
place_put name other place old new none updates =
    updates ∙ ap (λ (b : Bool). cond b (Some place) (get (slice_cmp nat_cmp) old other)) (is_eq-slice_cmp name other) ∙ by (bytes_eq name other) refl
  where
    kept : (o : Option ℕ) → o ≡ option_or o None
    kept None = refl
    kept (Some x) = refl

    by : (b : Bool) → bytes_eq name other ≡ b → cond b (Some place) (get (slice_cmp nat_cmp) old other) ≡ option_or (get (slice_cmp nat_cmp) old other) (cond b (Some place) None)
    by true e = ap (λ (o : Option ℕ). option_or o (Some place)) (sym none ∙ ap (get (slice_cmp nat_cmp) old) ((bytes_eq-Decides name other).0 e))
    by false e = kept (get (slice_cmp nat_cmp) old other)

-- among points that stand behind others, the first of a name stands at its place among all
found_behind : (before rest : List PointRow) (name : List ℕ) → row_at (before ++ rest) (position_from (is_named name) (length before) rest) ≡ known_named rest name
found_behind before [] name = refl
found_behind before (row ∷ rest) name =
    by (is_named name row) (get_middle before row rest)
    ((λ k. row_at (moved before row rest k) (position_from (is_named name) (length before + 1) rest))
    ∙ ap (λ (n : ℕ). row_at ((before ++ row ∷ []) ++ rest) (position_from (is_named name) n rest)) (sym (length-append before (row ∷ [])))
    ∙ found_behind (before ++ row ∷ []) rest name)
  where
    all : List PointRow
    all = before ++ row ∷ rest

    next : Option ℕ
    next = position_from (is_named name) (length before + 1) rest

    by : (b : Bool) → slice_get all (length before) ≡ Some row → row_at all next ≡ known_named rest name → row_at all (cond b (Some (length before)) next) ≡ cond b (Some row) (known_named rest name)
    by true there more = there
    by false there more = more

-- the known point of a name stands at the place of the first one
pub named_there : (known : List PointRow) (name : List ℕ) → row_at known (position_from (is_named name) 0 known) ≡ known_named known name
named_there known name = found_behind [] known name
