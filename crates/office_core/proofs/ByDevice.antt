-- The places of the points of a device, and what stands at them.
use Rattle.std.proofs.Common.{◌≡◌, ◌≤◌, ◌<◌, ◌+◌, ℕ, zero, suc, Bool, true, false, cond, ltb, List, [], ◌∷◌, ◌++◌, length, take, drop, map, get_or, Option, Some, None, Result, Ok, Err, refl, sym, ap, ◌∙◌, subst, arith, length-append, length-take-le}
use Rattle.std.specs.Prelude.{◌&&◌, ◌||◌, IfOk, Vec, filter, slice_get}
use Rattle.std.specs.BTreeMap.{BTreeMap, get, is_at}
use Rattle.std.specs.Cmp.Lexicographic.{slice_cmp}
use Rattle.std.specs.Global.{Global}
use Rattle.std.specs.List.{AllWithin, cons_option, list_any}
use Rattle.std.specs.List.Sorted.{IsNonDecreasingBy}
use Rattle.std.specs.Ordering.{nat_cmp}
use Rattle.std.specs.Str.{bytes_eq}
use Rattle.std.proofs.lemmas.Option.{slice_get-get_or, slice_get_past}
use Rattle.std.proofs.lemmas.Bool.{ltb-true, ltb-false}
use Rattle.std.proofs.lemmas.List.{append-nil, length-map, length-take, map-append, take-append-drop, take_all, take_more}
use Rattle.std.proofs.lemmas.List.Elements.{filter_map-append, filter-append}
use Rattle.std.proofs.lemmas.List.Folds.{list_any-append}
use Rattle.std.proofs.lemmas.List.Sums.{count_by-le-length, length-filter}
use Rattle.std.proofs.lemmas.Map.Text.{is_eq-slice_cmp}
use Rattle.std.proofs.lemmas.Slice.Eq.{bytes_eq-Decides}
use Rattle.read_planner.specs.declared.Read.{Read}
use Rattle.poll_book.specs.Tables.{Readings}
use Rattle.poll_book.specs.declared.rows.PointRow.{PointRow}
use Rattle.office_core.specs.ByDevice.{is_of, places_from, places_in, points_at}
use Rattle.office_core.specs.Cover.{covers, covered, given_of, some_covered, words_in}
use Rattle.office_core.specs.Lacking.{brings_new, some_lacks}

-- ---- one place more

-- one place more stands under its device's name, and under others what stood there
pub listed_put : (device other : List ℕ) (place : ℕ) (old new : BTreeMap (List ℕ) (Vec ℕ Global)) (list : Vec ℕ Global) → list.items ≡ places_in (get (slice_cmp nat_cmp) old device) ++ place ∷ []
    → get (slice_cmp nat_cmp) new other ≡ cond (is_at (slice_cmp nat_cmp device) other) (Some list) (get (slice_cmp nat_cmp) old other)
    → places_in (get (slice_cmp nat_cmp) new other) ≡ cond (bytes_eq device other) (places_in (get (slice_cmp nat_cmp) old other) ++ place ∷ []) (places_in (get (slice_cmp nat_cmp) old other))
listed_put device other place old new list items updates =
    ap places_in updates ∙ ap (λ (b : Bool). places_in (cond b (Some list) (get (slice_cmp nat_cmp) old other))) (is_eq-slice_cmp device other) ∙ by (bytes_eq device other) refl
  where
    by : (b : Bool) → bytes_eq device other ≡ b
        → places_in (cond b (Some list) (get (slice_cmp nat_cmp) old other)) ≡ cond b (places_in (get (slice_cmp nat_cmp) old other) ++ place ∷ []) (places_in (get (slice_cmp nat_cmp) old other))
    by true e = items ∙ ap (λ (name : List ℕ). places_in (get (slice_cmp nat_cmp) old name) ++ place ∷ []) ((bytes_eq-Decides device other).0 e)
    by false e = refl

-- a list that was written back as it was stands there still
pub listed_same : (device other : List ℕ) (old new : BTreeMap (List ℕ) (Vec ℕ Global)) (list : Vec ℕ Global) → list.items ≡ places_in (get (slice_cmp nat_cmp) old device)
    → get (slice_cmp nat_cmp) new other ≡ cond (is_at (slice_cmp nat_cmp device) other) (Some list) (get (slice_cmp nat_cmp) old other)
    → places_in (get (slice_cmp nat_cmp) new other) ≡ places_in (get (slice_cmp nat_cmp) old other)
listed_same device other old new list items updates =
    ap places_in updates ∙ ap (λ (b : Bool). places_in (cond b (Some list) (get (slice_cmp nat_cmp) old other))) (is_eq-slice_cmp device other) ∙ by (bytes_eq device other) refl
  where
    by : (b : Bool) → bytes_eq device other ≡ b → places_in (cond b (Some list) (get (slice_cmp nat_cmp) old other)) ≡ places_in (get (slice_cmp nat_cmp) old other)
    by true e = items ∙ ap (λ (name : List ℕ). places_in (get (slice_cmp nat_cmp) old name)) ((bytes_eq-Decides device other).0 e)
    by false e = refl

-- ---- one point more

push_by : (a b : Bool) (n m k : ℕ) (more : List ℕ) → m ≡ k → cond a (n ∷ cond b (more ++ m ∷ []) more) (cond b (more ++ m ∷ []) more) ≡ cond b (cond a (n ∷ more) more ++ k ∷ []) (cond a (n ∷ more) more)
push_by true true n m k more e = ap (λ (i : ℕ). n ∷ more ++ i ∷ []) e
push_by true false n m k more e = refl
push_by false true n m k more e = ap (λ (i : ℕ). more ++ i ∷ []) e
push_by false false n m k more e = refl

-- the place of one point more comes last, if it is of the device
pub places_push : (n : ℕ) (device : List ℕ) (known : List PointRow) (row : PointRow)
    → places_from n device (known ++ row ∷ []) ≡ cond (is_of device row) (places_from n device known ++ (n + length known) ∷ []) (places_from n device known)
places_push n device [] row = by (is_of device row) (omega arith)
  where
    by : (b : Bool) → n + 0 ≡ n → cond b (n ∷ []) [] ≡ cond b ((n + 0) ∷ []) []
    by true e = ap (λ (i : ℕ). i ∷ []) (sym e)
    by false e = refl
places_push n device (first ∷ known) row =
    rw (places_push (n + 1) device known row)
    (push_by (is_of device first) (is_of device row) n (n + 1 + length known) (n + suc (length known)) (places_from (n + 1) device known) (omega arith))

-- the places among the points so far and the next one
pub one_more_there : (known : List PointRow) (i : ℕ) (d : PointRow) (device : List ℕ) → i < length known
    → cond (is_of device (get_or known i d)) (places_from 0 device (take i known) ++ i ∷ []) (places_from 0 device (take i known)) ≡ places_from 0 device (take (i + 1) known)
one_more_there known i d device lt =
    let count = length-take-le i known (omega (arith, lt)) in
    let front : 0 + length (take i known) ≡ i = omega (arith, count) in
    ap (λ (n : ℕ). cond (is_of device (get_or known i d)) (places_from 0 device (take i known) ++ n ∷ []) (places_from 0 device (take i known))) (sym front)
    ∙ sym (places_push 0 device (take i known) (get_or known i d))
    ∙ ap (places_from 0 device) (sym (take_more known i d lt))

-- ---- what stands at them

-- past the end of the points nothing stands
at_none : (known : List PointRow) (n : ℕ) (device : List ℕ) (rest : List PointRow) → length known ≤ n → points_at known (places_from n device rest) ≡ []
at_none known n device [] le = refl
at_none known n device (row ∷ rest) le = by (is_of device row) (slice_get_past known n le) (at_none known (n + 1) device rest (omega (arith, le)))
  where
    by : (b : Bool) → slice_get known n ≡ None → points_at known (places_from (n + 1) device rest) ≡ [] → points_at known (cond b (n ∷ places_from (n + 1) device rest) (places_from (n + 1) device rest)) ≡ []
    by true none more = rw none more
    by false none more = more

pub get_middle : (before : List PointRow) (row : PointRow) (behind : List PointRow) → slice_get (before ++ row ∷ behind) (length before) ≡ Some row
get_middle [] row behind = refl
get_middle (x ∷ before) row behind = get_middle before row behind

pub moved : (before : List PointRow) (row : PointRow) (behind : List PointRow) → before ++ row ∷ behind ≡ (before ++ row ∷ []) ++ behind
moved [] row behind = refl
moved (x ∷ before) row behind = ap (λ (l : List PointRow). x ∷ l) (moved before row behind)

-- at the places of a device's points among some that stand behind others, of which so many are there, stand those of the device
at_behind : (before : List PointRow) (count : ℕ) (rest : List PointRow) (device : List ℕ) → points_at (before ++ take count rest) (places_from (length before) device rest) ≡ filter (is_of device) (take count rest)
at_behind before zero [] device = refl
at_behind before (suc count) [] device = refl
at_behind before zero (row ∷ rest) device = at_none (before ++ []) (length before) device (row ∷ rest) (let all = length-append before [] in omega (arith, all))
at_behind before (suc count) (row ∷ rest) device =
    by (is_of device row) (get_middle before row (take count rest))
    ((λ k. points_at (moved before row (take count rest) k) (places_from (length before + 1) device rest))
    ∙ ap (λ (n : ℕ). points_at ((before ++ row ∷ []) ++ take count rest) (places_from n device rest)) (sym (length-append before (row ∷ [])))
    ∙ at_behind (before ++ row ∷ []) count rest device)
  where
    all : List PointRow
    all = before ++ row ∷ take count rest

    next : List ℕ
    next = places_from (length before + 1) device rest

    by : (b : Bool) → slice_get all (length before) ≡ Some row → points_at all next ≡ filter (is_of device) (take count rest)
        → points_at all (cond b (length before ∷ next) next) ≡ cond b (row ∷ filter (is_of device) (take count rest)) (filter (is_of device) (take count rest))
    by true there more = rw there (ap (λ (l : List PointRow). row ∷ l) more)
    by false there more = more

-- of the first so many points, those of the device stand at its places
pub points_there : (count : ℕ) (known : List PointRow) (device : List ℕ) → points_at (take count known) (places_from 0 device known) ≡ filter (is_of device) (take count known)
points_there count known device = at_behind [] count known device

pub all_there : (known : List PointRow) (device : List ℕ) → points_at known (places_from 0 device known) ≡ filter (is_of device) known
all_there known device =
    subst (λ (l : List PointRow). points_at l (places_from 0 device known) ≡ filter (is_of device) l) (take_all (length known) known (omega arith)) (points_there (length known) known device)

-- each place is one from this number on
from_on : (n : ℕ) (device : List ℕ) (rest : List PointRow) (i d : ℕ) → i < length (places_from n device rest) → n ≤ get_or (places_from n device rest) i d
from_on n device [] i d lt = absurd (omega (arith, lt))
from_on n device (row ∷ rest) i d lt = by (is_of device row) i lt (from_on (n + 1) device rest)
  where
    next : List ℕ
    next = places_from (n + 1) device rest

    by : (b : Bool) (i : ℕ) → i < length (cond b (n ∷ next) next) → ((j d : ℕ) → j < length next → n + 1 ≤ get_or next j d) → n ≤ get_or (cond b (n ∷ next) next) i d
    by true zero lt more = omega arith
    by true (suc j) lt more = let high = more j d (omega (arith, lt)) in omega (arith, high)
    by false i lt more = let high = more i d lt in omega (arith, high)

-- the places of a device rise
pub places_rise : (n : ℕ) (device : List ℕ) (rest : List PointRow) → IsNonDecreasingBy (λ (place : ℕ). place) (places_from n device rest)
places_rise n device [] i j d le lt = absurd (omega (arith, lt))
places_rise n device (row ∷ rest) i j d le lt = by (is_of device row) i j le lt (places_rise (n + 1) device rest)
  where
    next : List ℕ
    next = places_from (n + 1) device rest

    by : (b : Bool) (i j : ℕ) → i ≤ j → j < length (cond b (n ∷ next) next)
        → ((i j d : ℕ) → i ≤ j → j < length next → get_or next i d ≤ get_or next j d) → get_or (cond b (n ∷ next) next) i d ≤ get_or (cond b (n ∷ next) next) j d
    by true zero zero le lt more = omega arith
    by true zero (suc j) le lt more = let high = from_on (n + 1) device rest j d (omega (arith, lt)) in omega (arith, high)
    by true (suc i) zero le lt more = absurd (omega (arith, le))
    by true (suc i) (suc j) le lt more = more i j d (omega (arith, le)) (omega (arith, lt))
    by false i j le lt more = more i j d le lt

-- where one of the places stands past some points, it and those behind it have none of them
pub none_behind : (some : List PointRow) (n : ℕ) (device : List ℕ) (rest : List PointRow) (i : ℕ) → i < length (places_from n device rest)
    → length some ≤ get_or (places_from n device rest) i 0 → points_at some (drop i (places_from n device rest)) ≡ []
none_behind some n device [] i lt le = absurd (omega (arith, lt))
none_behind some n device (row ∷ rest) i lt le = by (is_of device row) i lt le (none_behind some (n + 1) device rest)
  where
    next : List ℕ
    next = places_from (n + 1) device rest

    by : (b : Bool) (i : ℕ) → i < length (cond b (n ∷ next) next) → length some ≤ get_or (cond b (n ∷ next) next) i 0
        → ((j : ℕ) → j < length next → length some ≤ get_or next j 0 → points_at some (drop j next) ≡ [])
        → points_at some (drop i (cond b (n ∷ next) next)) ≡ []
    by true zero lt le more = rw (slice_get_past some n le) (at_none some (n + 1) device rest (omega (arith, le)))
    by true (suc j) lt le more = more j (omega (arith, lt)) le
    by false i lt le more = more i lt le

-- so the places in front of it are enough
pub front_enough : (some : List PointRow) (known : List PointRow) (device : List ℕ) (places : List ℕ) (i : ℕ) → places ≡ places_from 0 device known → i < length places → length some ≤ get_or places i 0
    → points_at some (take i places) ≡ points_at some places
front_enough some known device places i is lt le =
    let nothing : points_at some (drop i places) ≡ [] = rw is (none_behind some 0 device known i (rw is at lt) (rw is at le)) in
    sym (append-nil (points_at some (take i places)))
    ∙ ap (λ (l : List PointRow). points_at some (take i places) ++ l) (sym nothing)
    ∙ sym (filter_map-append (slice_get some) (take i places) (drop i places))
    ∙ ap (points_at some) (take-append-drop i places)

-- and so are those in front of the first one that isn't below a number of them
pub front_of : (some known : List PointRow) (device : List ℕ) (places : List ℕ) (i count : ℕ) → places ≡ places_from 0 device known → length some ≤ count
    → AllWithin (λ (place : ℕ). ltb place count ≡ false) places i (length places) → points_at some (take i places) ≡ points_at some places
front_of some known device places i count is few behind = by (ltb i (length places)) refl
  where
    by : (b : Bool) → ltb i (length places) ≡ b → points_at some (take i places) ≡ points_at some places
    by true e =
        let lt = ltb-true _ _ e in
        let high = ltb-false _ _ (behind i 0 (omega arith) lt) in
        front_enough some known device places i is lt (omega (arith, few, high))
    by false e = ap (points_at some) (take_all i places (ltb-false _ _ e))

-- ---- tests that only those of the device pass

is_left : (a b : Bool) → (a && b) ≡ true → a ≡ true
is_left true b h = refl
is_left false b h = h

pub filter_within : {X : Type 0} (p q : X → Bool) (xs : List X) → ((x : X) → p x ≡ true → q x ≡ true) → filter p (filter q xs) ≡ filter p xs
filter_within p q [] h = refl
filter_within {X} p q (x ∷ xs) h = by (p x) (q x) refl refl (filter_within p q xs h)
  where
    by : (a b : Bool) → p x ≡ a → q x ≡ b → filter p (filter q xs) ≡ filter p xs → filter p (cond b (x ∷ filter q xs) (filter q xs)) ≡ cond a (x ∷ filter p xs) (filter p xs)
    by true true pa qb more = rw pa (ap (λ (l : List X). x ∷ l) more)
    by false true pa qb more = rw pa more
    by true false pa qb more = absurd (let h : true ≡ false = sym (h x pa) ∙ qb in cc)
    by false false pa qb more = more

pub any_within : {X : Type 0} (p q : X → Bool) (xs : List X) → ((x : X) → p x ≡ true → q x ≡ true) → list_any p (filter q xs) ≡ list_any p xs
any_within p q [] h = refl
any_within {X} p q (x ∷ xs) h = by (p x) (q x) refl refl (any_within p q xs h)
  where
    by : (a b : Bool) → p x ≡ a → q x ≡ b → list_any p (filter q xs) ≡ list_any p xs → list_any p (cond b (x ∷ filter q xs) (filter q xs)) ≡ (a || list_any p xs)
    by true true pa qb more = rw pa refl
    by false true pa qb more = rw pa more
    by true false pa qb more = absurd (let h : true ≡ false = sym (h x pa) ∙ qb in cc)
    by false false pa qb more = more

covers_own : (device : List ℕ) (read : Read) (row : PointRow) → covers device read row.point ≡ true → is_of device row ≡ true
covers_own device read row h = is_left _ _ h

-- ---- one place after the other

-- what is got at a place stands there
pub row_there : {X : Type 0} (known : List X) (place : ℕ) (row : X) → true ≡ ltb place (length known) → row ≡ get_or known place row → slice_get known place ≡ Some row
row_there known place row within is = slice_get-get_or known place row (ltb-true place (length known) (sym within)) ∙ ap Some (sym is)

-- and where nothing is got, nothing does
pub none_there : {X : Type 0} (known : List X) (place : ℕ) → false ≡ ltb place (length known) → slice_get known place ≡ None
none_there known place past = slice_get_past known place (ltb-false place (length known) (sym past))

taken_at : (known : List PointRow) (places : List ℕ) (i : ℕ) → i < length places → points_at known (take (i + 1) places) ≡ points_at known (take i places) ++ points_at known (get_or places i 0 ∷ [])
taken_at known places i lt = ap (points_at known) (take_more places i 0 lt) ∙ filter_map-append (slice_get known) (take i places) (get_or places i 0 ∷ [])

-- what the places so far and the next one give
given_more : (known : List PointRow) (places : List ℕ) (i : ℕ) (device : List ℕ) (read : Read) (words : List ℕ) (o : Option PointRow) → i < length places → slice_get known (get_or places i 0) ≡ o
    → given_of (points_at known (take (i + 1) places)) device read words ≡ given_of (points_at known (take i places)) device read words ++ given_of (cons_option o []) device read words
given_more known places i device read words o lt is =
    let there = points_at known (take i places) in
    ap (λ (l : List PointRow). given_of l device read words) (taken_at known places i lt ∙ ap (λ (x : Option PointRow). there ++ cons_option x []) is)
    ∙ ap (map (λ (row : PointRow). (row, words_in read words row.point))) (filter-append (λ (row : PointRow). covers device read row.point) there (cons_option o []))
    ∙ map-append (λ (row : PointRow). (row, words_in read words row.point)) (covered there device read) (covered (cons_option o []) device read)

pub given_none : (known : List PointRow) (places : List ℕ) (i : ℕ) (device : List ℕ) (read : Read) (words : List ℕ) → i < length places → slice_get known (get_or places i 0) ≡ None
    → given_of (points_at known (take (i + 1) places)) device read words ≡ given_of (points_at known (take i places)) device read words
given_none known places i device read words lt is = given_more known places i device read words None lt is ∙ append-nil (given_of (points_at known (take i places)) device read words)

pub given_not : (known : List PointRow) (places : List ℕ) (i : ℕ) (device : List ℕ) (read : Read) (words : List ℕ) (row : PointRow) → i < length places → slice_get known (get_or places i 0) ≡ Some row
    → covers device read row.point ≡ false
    → given_of (points_at known (take (i + 1) places)) device read words ≡ given_of (points_at known (take i places)) device read words
given_not known places i device read words row lt is not =
    given_more known places i device read words (Some row) lt is
    ∙ ap (λ (b : Bool). given_of (points_at known (take i places)) device read words ++ map (λ (x : PointRow). (x, words_in read words x.point)) (cond b (row ∷ []) [])) not
    ∙ append-nil (given_of (points_at known (take i places)) device read words)

pub given_so : (known : List PointRow) (places : List ℕ) (i : ℕ) (device : List ℕ) (read : Read) (words : List ℕ) (row : PointRow) → i < length places → slice_get known (get_or places i 0) ≡ Some row
    → covers device read row.point ≡ true
    → given_of (points_at known (take (i + 1) places)) device read words ≡ given_of (points_at known (take i places)) device read words ++ (row, words_in read words row.point) ∷ []
given_so known places i device read words row lt is so =
    given_more known places i device read words (Some row) lt is
    ∙ ap (λ (b : Bool). given_of (points_at known (take i places)) device read words ++ map (λ (x : PointRow). (x, words_in read words x.point)) (cond b (row ∷ []) [])) so

-- it gives to no more points than are known
given_few : (count : ℕ) (known : List PointRow) (device : List ℕ) (read : Read) (words : List ℕ) → length (given_of (take count known) device read words) ≤ length known
given_few count known device read words =
    let test = λ (row : PointRow). covers device read row.point in
    let many = length-map {B = PointRow × List ℕ} (covered (take count known) device read) (λ (row : PointRow). (row, words_in read words row.point)) in
    let some = length-filter test (take count known) in
    let few = count_by-le-length test (take count known) in
    let front = length-take count known in
    omega (arith, many, some, few, front)

pub few_given : {E : Type 0} (told : Result (Vec (PointRow × List ℕ) Global) E) (count : ℕ) (known : List PointRow) (device : List ℕ) (read : Read) (words : List ℕ)
    → IfOk told (λ rows. rows.items ≡ given_of (take count known) device read words) → IfOk told (λ rows. length rows.items ≤ length known)
few_given (Ok rows) count known device read words is = subst (λ (l : List (PointRow × List ℕ)). length l ≤ length known) (sym is) (given_few count known device read words)
few_given (Err e) count known device read words is = tt

-- whether some pass at the places so far and the next one
pub any_more : (test : PointRow → Bool) (known : List PointRow) (places : List ℕ) (i : ℕ) → i < length places
    → list_any test (points_at known (take (i + 1) places)) ≡ (list_any test (points_at known (take i places)) || list_any test (points_at known (get_or places i 0 ∷ [])))
any_more test known places i lt = ap (list_any test) (taken_at known places i lt) ∙ list_any-append test (points_at known (take i places)) (points_at known (get_or places i 0 ∷ []))

-- where none did so far and the next doesn't, none does
pub none_more : (test : PointRow → Bool) (known : List PointRow) (places : List ℕ) (i : ℕ) → i < length places → list_any test (points_at known (take i places)) ≡ false
    → list_any test (points_at known (get_or places i 0 ∷ [])) ≡ false → list_any test (points_at known (take (i + 1) places)) ≡ false
none_more test known places i lt none not = any_more test known places i lt ∙ ap (λ (b : Bool). b || list_any test (points_at known (get_or places i 0 ∷ []))) none ∙ not

some_or : (a b c : Bool) → b ≡ true → true ≡ ((a || b) || c)
some_or true b c e = refl
some_or false true c e = refl
some_or false false c e = absurd (let h : false ≡ true = e in cc)

-- where one passes, some do
pub any_so : (test : PointRow → Bool) (known : List PointRow) (places : List ℕ) (i : ℕ) → i < length places → list_any test (points_at known (get_or places i 0 ∷ [])) ≡ true
    → true ≡ list_any test (points_at known places)
any_so test known places i lt so =
    let all : points_at known (take (i + 1) places) ++ points_at known (drop (i + 1) places) ≡ points_at known places =
    sym (filter_map-append (slice_get known) (take (i + 1) places) (drop (i + 1) places)) ∙ ap (points_at known) (take-append-drop (i + 1) places) in
    some_or (list_any test (points_at known (take i places))) (list_any test (points_at known (get_or places i 0 ∷ []))) (list_any test (points_at known (drop (i + 1) places))) so
    ∙ ap (λ (b : Bool). b || list_any test (points_at known (drop (i + 1) places))) (sym (any_more test known places i lt))
    ∙ sym (list_any-append test (points_at known (take (i + 1) places)) (points_at known (drop (i + 1) places)))
    ∙ ap (list_any test) all

-- ---- what asks for the device finds the same at its places as among all

-- a read covers the same
pub covered_there : (count : ℕ) (known : List PointRow) (device : List ℕ) (read : Read) → covered (points_at (take count known) (places_from 0 device known)) device read ≡ covered (take count known) device read
covered_there count known device read =
    ap (λ (l : List PointRow). covered l device read) (points_there count known device)
    ∙ filter_within (λ (row : PointRow). covers device read row.point) (is_of device) (take count known) (covers_own device read)

pub given_there : (count : ℕ) (known : List PointRow) (device : List ℕ) (read : Read) (words : List ℕ)
    → given_of (points_at (take count known) (places_from 0 device known)) device read words ≡ given_of (take count known) device read words
given_there count known device read words = ap (map (λ (row : PointRow). (row, words_in read words row.point))) (covered_there count known device read)

-- and some if some of all
pub some_there : (known : List PointRow) (device : List ℕ) (read : Read) → some_covered (points_at known (places_from 0 device known)) device read ≡ some_covered known device read
some_there known device read =
    ap (λ (l : List PointRow). some_covered l device read) (all_there known device)
    ∙ any_within (λ (row : PointRow). covers device read row.point) (is_of device) known (covers_own device read)

-- and lacks the same
pub lacks_there : (known : List PointRow) (table : Readings) (device : List ℕ) (slot : ℕ) (read : Read)
    → some_lacks (points_at known (places_from 0 device known)) table device slot read ≡ some_lacks known table device slot read
lacks_there known table device slot read =
    ap (λ (l : List PointRow). some_lacks l table device slot read) (all_there known device)
    ∙ any_within (brings_new table device slot read) (is_of device) known (λ row h. covers_own device read row (is_left _ _ h))
