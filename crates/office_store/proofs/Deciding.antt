-- Whether tables are an office's can be decided.
use Rattle.std.proofs.Common.{◌≡◌, ◌⊎◌, inl, inr, ℕ, pos, List, [], ◌∷◌, map, Bool, true, false, None, Some, Option, IsTrue, refl, sym, ap, ap₂, subst, ◌∙◌, T, ◌==◌, arith, option_and_then}
use Rattle.std.specs.Prelude.{⊤}
use Rattle.std.specs.List.{AllByRecursion, IsDistinct}
use Rattle.std.specs.List.Sorted.{IsPermutation}
use Rattle.std.specs.FinMap.Entries as rows
use Rattle.std.specs.declared.cmp.Ordering.{Ordering}
use Rattle.std.specs.declared.cmp.Ordering.TheVariants.{Less, Equal, Greater}
use Rattle.std.specs.Ordering.{eq_by_cmp, nat_cmp}
use Rattle.std.specs.Cmp.{IsTotalOrder}
use Rattle.std.specs.Coded.{Coded, coded_list}
use Rattle.std.proofs.lemmas.Bool.{cases_Bool}
use Rattle.std.proofs.lemmas.Bool.Decides.{nat_tests}
use Rattle.std.proofs.lemmas.List.Elements.{All-from_recursion, recursion_from_All}
use Rattle.std.proofs.lemmas.List.Sorted.{All-permutation, IsPermutation-refl, IsPermutation-sym}
use Rattle.std.proofs.lemmas.Map.Keys.{IsDistinct-from_sorted}
use Rattle.std.proofs.lemmas.Map.Views.{exact_unsigned_eq}
use base.Stored.{Gv, gnil, gnum, gcons}
use Rattle.sqlite_value.specs.declared.value.Value.{Value}
use Rattle.sqlite_value.specs.declared.value.Value.TheVariants.{Int}
use Rattle.sqlite_value.specs.contracts.row.Row as row
use Rattle.sqlite_value.specs.Order.{Row, column, value_cmp}
use Rattle.sqlite_trees.specs.Tree.{Trees, IsTable, rowid}
use Rattle.sqlite_trees.specs.View.{IsShaped, is_int}
use Rattle.sqlite_trees.specs.declared.store.Shape.TheVariants.{Table}
use Rattle.sqlite_trees.specs.Objects.{catalog_tree}
use Rattle.sqlite_schema.specs.declared.schema.Schema.{Schema}
use Rattle.sqlite_schema.specs.contracts.schema.Schema as schema
use Rattle.sqlite_catalog.specs.Listing.{Lists}
use Rattle.sqlite_catalog.proofs.ReadLemmas.{lists_once}
use Rattle.poll_book.specs.Tables.{Tables, Readings, Sums, Voids, key_cmp}
use Rattle.poll_book.specs.Requests.{Requests, request_cmp}
use Rattle.poll_book.specs.Orders.{Settings}
use Rattle.sunspec.specs.declared.word_order.WordOrder.TheVariants.{Big}
use Rattle.point_list.specs.Name.{is_name}
use Rattle.point_list.specs.Label.{is_label}
use Rattle.point_list.specs.declared.point.Point.{Point}
use Rattle.poll_book.specs.declared.rows.PointRow.{PointRow}
use Rattle.office_store.specs.Schema.{office_schema, meta_tree, point_tree, reading_tree, setting_tree, request_tree, total_tree, void_tree, swapped_tree}
use Rattle.office_store.specs.Rows.{described, kind_of, long_of, number_below, number_of, role_coded, small_of, stored_point, stored_reading, stored_setting, stored_request, stored_sum, stored_swap, stored_void, table_coded, text_that}
use Rattle.office_store.specs.Swaps.{Swaps, plain, swaps_of}
use Rattle.office_store.specs.Kept.{AreReadings, AreRequests, ArePoints, AreSettings, AreSwaps, AreTotals, AreVoids, AreNumbers, IsOffice, StandFor, number_rows}
use Rattle.office_store.proofs.ByKey.{requests_total}
use Rattle.office_store.proofs.Putting.{put_same}
use Rattle.office_store.proofs.Comparing.{and_then_some, map_some}
use Rattle.office_store.proofs.PlainPoints.{plain_sorted}
use Rattle.office_store.proofs.Showing.{same_list}
use Rattle.office_store.proofs.Slots.{keys_total}
use Rattle.office_store.proofs.Sorted.{T_true, distinct_again, keys_sorted}
use Rattle.office_store.proofs.Swapping.{given, given_back, given_sorted, plain_given}

-- it is so, or it isn't
abbrev pub Decided : Type 0 → Type 0
Decided P = P ⊎ (P → ⊥)

-- ---- equality

itself : (n : ℕ) → (n == n) ≡ true
itself n = grind (arith, nat_tests)

same_number : (m n : ℕ) → Decided (m ≡ n)
same_number m n = elim (cases_Bool (m == n)) [
  | inl same ↦ inl (exact_unsigned_eq m n same)
  | inr not ↦ inr (λ is. absurd (let bad = sym not ∙ ap (λ x. m == x) (sym is) ∙ itself m in cc))
]

same_gv : (a b : Gv) → Decided (a ≡ b)
same_gv gnil gnil = inl refl
same_gv gnil (gnum n) = inr (λ e. absurd (cc))
same_gv gnil (gcons c d) = inr (λ e. absurd (cc))
same_gv (gnum m) gnil = inr (λ e. absurd (cc))
same_gv (gnum m) (gnum n) = elim (same_number m n) [ inl is ↦ inl (ap gnum is) | inr not ↦ inr (λ e. not (cc)) ]
same_gv (gnum m) (gcons c d) = inr (λ e. absurd (cc))
same_gv (gcons a b) gnil = inr (λ e. absurd (cc))
same_gv (gcons a b) (gnum n) = inr (λ e. absurd (cc))
same_gv (gcons a b) (gcons c d) = both (same_gv a c) (same_gv b d)
  where
    both : Decided (a ≡ c) → Decided (b ≡ d) → Decided (gcons a b ≡ gcons c d)
    both (inl x) (inl y) = inl (ap₂ gcons x y)
    both (inl x) (inr not) = inr (λ e. not (cc))
    both (inr not) y = inr (λ e. not (cc))

pub same_coded : {A : Type 0} → Coded A → (a b : A) → Decided (a ≡ b)
same_coded coded a b = elim (same_gv (coded.code a) (coded.code b)) [
  | inl same ↦ inl (coded.inj a b same)
  | inr not ↦ inr (λ is. not (ap coded.code is))
]

-- ---- rows that are all in their form

module _ {E : Type 0} (f : Row → Option E) where
  all_some : (all : List Row) → Decided ((es : List E) × (map f all ≡ map Some es))
  all_some [] = inl ([], refl)
  all_some (r ∷ all) = by (f r) refl (all_some all)
    where
      by : (o : Option E) → f r ≡ o → Decided ((es : List E) × (map f all ≡ map Some es)) → Decided ((es : List E) × (map f (r ∷ all) ≡ map Some es))
      by (Some e) is (inl more) = inl (e ∷ more.0, ap₂ (λ (x : Option E) (xs : List (Option E)). x ∷ xs) is more.1)
      by (Some e) is (inr not) = inr (λ it. none it.0 it.1)
        where
          none : (es : List E) → map f (r ∷ all) ≡ map Some es → ⊥
          none [] h = absurd (cc)
          none (x ∷ xs) h = not (xs, cc)
      by None is more = inr (λ it. none it.0 it.1)
        where
          none : (es : List E) → map f (r ∷ all) ≡ map Some es → ⊥
          none [] h = absurd (cc)
          none (x ∷ xs) h = absurd (let bad : ◌≡◌ {A = Option E} None (Some x) = cc in cc)

  in_order : (test : List E → Bool) (all : List Row) → Decided ((es : List E) × (map f all ≡ map Some es) × T (test es))
  in_order test all = elim (all_some all) [
    | inr not ↦ inr (λ it. not (it.0, it.1))
    | inl some ↦ elim (cases_Bool (test some.0)) [
      | inl is ↦ inl (some.0, some.1, T_true (test some.0) is)
      | inr not ↦ inr (λ it. let same = same_list it.0 some.0 (sym it.1 ∙ some.1) in absurd (let bad = subst (λ es. T (test es)) same it.2 in let no : T false = rw not at bad in no))
    ]
  ]

-- ---- entries whose keys differ have an order

module _ {K : Type 0} (R : K → K → Ordering) where
  apart : (k : K) (ks : List K) → Decided (AllByRecursion (λ y. eq_by_cmp R k y ≡ false) ks)
  apart k [] = inl tt
  apart k (x ∷ ks) = elim (cases_Bool (eq_by_cmp R k x)) [
    | inl same ↦ inr (λ all. absurd (let bad = sym same ∙ all.0 in cc))
    | inr other ↦ elim (apart k ks) [ inl all ↦ inl (other, all) | inr not ↦ inr (λ all. not all.1) ]
  ]

  distinct : (ks : List K) → Decided (IsDistinct (eq_by_cmp R) ks)
  unfolding IsDistinct
  distinct [] = inl tt
  distinct (k ∷ ks) = elim (apart k ks) [
    | inr not ↦ inr (λ all. not all.0)
    | inl here ↦ elim (distinct ks) [ inl all ↦ inl (here, all) | inr not ↦ inr (λ all. not all.1) ]
  ]

module _ {K X : Type 0} (R : K → K → Ordering) (o : IsTotalOrder R) where
  not_found : (k : K) (es : List (K × X)) → AllByRecursion (λ (e : K × X). eq_by_cmp R k e.0 ≡ false) es → rows.find R k es ≡ None
  not_found k [] h = refl
  not_found k (e ∷ es) h = let other = h.0 in rw other (not_found k es h.1)

  of_keys : (k : K) (es : List (K × X)) → AllByRecursion (λ y. eq_by_cmp R k y ≡ false) (map (λ (e : K × X). e.0) es) → AllByRecursion (λ (e : K × X). eq_by_cmp R k e.0 ≡ false) es
  of_keys k [] h = tt
  of_keys k (e ∷ es) h = (h.0, of_keys k es h.1)

  abbrev HasOrder : List (K × X) → Type 0
  HasOrder es = (table : List (K × X)) × IsPermutation es table × T (rows.is_sorted R table)

  put_all : (es : List (K × X)) → IsDistinct (eq_by_cmp R) (map (λ (e : K × X). e.0) es) → HasOrder es
  unfolding IsDistinct
  put_all [] h = ([], IsPermutation-refl [], tt)
  put_all (e ∷ es) h =
      let more = put_all es h.1 in
      let other = recursion_from_All (λ (x : K × X). eq_by_cmp R e.0 x.0 ≡ false) more.0 (All-permutation (λ (x : K × X). eq_by_cmp R e.0 x.0 ≡ false) es more.0 more.1 (All-from_recursion (λ (x : K × X). eq_by_cmp R e.0 x.0 ≡ false) es (of_keys e.0 es h.0))) in
      (rows.put R e.0 e.1 more.0, put_same R e.0 e.1 es (e ∷ es) more.0 more.1 (not_found e.0 more.0 other) (IsPermutation-refl (e ∷ es)), rows.is_sorted-put R o e.0 e.1 more.0 more.2)

  has_order : (es : List (K × X)) → Decided (HasOrder es)
  has_order es = elim (distinct R (map (λ (e : K × X). e.0) es)) [
    | inl all ↦ inl (put_all es all)
    | inr not ↦ inr (λ it. not (distinct_again R o it.0 es (IsPermutation-sym es it.0 it.1) (IsDistinct-from_sorted R (map (λ (e : K × X). e.0) it.0) (keys_sorted R o it.0 it.2))))
  ]

-- ---- rows whose numbers rise

is_less : (o : Ordering) → Decided (o ≡ Less)
is_less Less = inl refl
is_less Equal = inr (λ e. absurd (cc))
is_less Greater = inr (λ e. absurd (cc))

is_true : (b : Bool) → Decided (IsTrue b)
is_true true = inl refl
is_true false = inr (λ e. absurd (cc))

all_decided : {X : Type 0} {P : X → Type 0} → ((x : X) → Decided (P x)) → (xs : List X) → Decided (AllByRecursion P xs)
all_decided each [] = inl tt
all_decided each (x ∷ xs) = elim (each x) [
  | inr not ↦ inr (λ all. not all.0)
  | inl here ↦ elim (all_decided each xs) [ inl all ↦ inl (here, all) | inr not ↦ inr (λ all. not all.1) ]
]

rising : (all : List Row) → Decided (IsTable all)
rising [] = inl tt
rising (r ∷ all) = elim (all_decided (λ (b : Row). is_less (value_cmp (rowid r) (rowid b))) all) [
  | inr not ↦ inr (λ it. not it.0)
  | inl here ↦ elim (rising all) [ inl more ↦ inl (here, more) | inr not ↦ inr (λ it. not it.1) ]
]

numbered : (all : List Row) → Decided (IsShaped Table all)
numbered all = elim (rising all) [
  | inr not ↦ inr (λ it. not it.0)
  | inl up ↦ elim (all_decided (λ (r : Row). is_true (is_int (rowid r))) all) [ inl ints ↦ inl (up, ints) | inr not ↦ inr (λ it. not it.1) ]
]

-- ---- the parts of a store

readings_decided : (db : Trees) → Decided ((kept : Readings) × AreReadings db kept)
readings_decided db = elim (all_some stored_reading (db reading_tree)) [
  | inr not ↦ inr (λ it. not (it.1.entries, it.1.stored))
  | inl some ↦ elim (numbered (db reading_tree)) [
    | inr not ↦ inr (λ it. not it.1.numbered)
    | inl up ↦ elim (has_order key_cmp keys_total some.0) [
      | inl it ↦ inl (it.0, record { entries = some.0; stored = some.1; numbered = up; same = it.1; sorted = it.2 })
      | inr not ↦ inr (λ it. not (it.0, subst (λ es. IsPermutation es it.0) (same_list it.1.entries some.0 (sym it.1.stored ∙ some.1)) it.1.same, it.1.sorted))
    ]
  ]
]

requests_decided : (db : Trees) → Decided ((kept : Requests) × AreRequests db kept)
requests_decided db = elim (all_some stored_request (db request_tree)) [
  | inr not ↦ inr (λ it. not (it.1.entries, it.1.stored))
  | inl some ↦ elim (has_order request_cmp requests_total some.0) [
    | inl it ↦ inl (it.0, record { entries = some.0; stored = some.1; same = it.1; sorted = it.2 })
    | inr not ↦ inr (λ it. not (it.0, subst (λ es. IsPermutation es it.0) (same_list it.1.entries some.0 (sym it.1.stored ∙ some.1)) it.1.same, it.1.sorted))
  ]
]

-- a point's row tells no order
row_is_plain : (r : Row) (p : PointRow) → stored_point r ≡ Some p → plain p ≡ p
row_is_plain r p h =
    let n = and_then_some _ (number_of (column r 0)) _ h in
    let name = and_then_some _ (text_that is_name (column r 2)) _ n.2 in
    let device = and_then_some _ (text_that is_label (column r 3)) _ name.2 in
    let rest = map_some _ (described name.0 device.0 (column r 4) (column r 5) (column r 6) (column r 7) (column r 8) (column r 9) (column r 10)) _ device.2 in
    let table = and_then_some _ (option_and_then table_coded (number_below 256 (column r 4))) _ rest.1 in
    let address = and_then_some _ (number_below 65536 (column r 5)) _ table.2 in
    let kind = and_then_some _ (kind_of (column r 6) (column r 7)) _ address.2 in
    let scale = and_then_some _ (small_of (column r 8)) _ kind.2 in
    let role = and_then_some _ (option_and_then role_coded (number_below 256 (column r 9))) _ scale.2 in
    let roll = map_some _ (long_of (column r 10)) _ role.2 in
    let big : rest.0.order ≡ Big = ap (λ (x : Point). x.order) (sym roll.2) in
    let order : p.point.order ≡ Big = ap (λ (x : PointRow). x.point.order) (sym rest.2) ∙ big in
    ap (λ o. record { number = p.number; point = record p.point { order = o } }) (sym order)

rows_are_plain : (all : List Row) (points : List PointRow) → map stored_point all ≡ map Some points → map plain points ≡ points
rows_are_plain [] [] h = refl
rows_are_plain [] (p ∷ points) h = absurd (cc)
rows_are_plain (r ∷ all) [] h = absurd (cc)
rows_are_plain (r ∷ all) (p ∷ points) h =
    let head : stored_point r ≡ Some p = cc in
    let tail : map stored_point all ≡ map Some points = cc in
    ap₂ (λ (x : PointRow) (xs : List PointRow). x ∷ xs) (row_is_plain r p head) (rows_are_plain all points tail)

same_swaps : (a b : Swaps) → Decided (a ≡ b)
same_swaps [] [] = inl refl
same_swaps [] (y ∷ b) = inr (λ e. absurd (cc))
same_swaps (x ∷ a) [] = inr (λ e. absurd (cc))
same_swaps (x ∷ a) (y ∷ b) = both (same_number x.0 y.0) (same_swaps a b)
  where
    both : Decided (x.0 ≡ y.0) → Decided (a ≡ b) → Decided (x ∷ a ≡ y ∷ b)
    both (inl p) (inl q) = inl (ap₂ (λ (n : ℕ) (xs : Swaps). (n, tt) ∷ xs) p q)
    both (inl p) (inr not) = inr (λ e. not (cc))
    both (inr not) q = inr (λ e. let first : x ≡ y = cc in not (ap (λ (z : ℕ × ⊤). z.0) first))

-- the points of the rows, in the orders of the other table's
points_decided : (db : Trees) → Decided ((kept : List PointRow) × ArePoints db kept × AreSwaps db kept)
points_decided db = elim (in_order stored_point (λ ps. rows.is_sorted nat_cmp (map (λ (p : PointRow). (p.number, p.point)) ps)) (db point_tree)) [
  | inr not ↦ inr (λ it. not (map plain it.0, it.1.stored, plain_sorted it.0 it.1.sorted))
  | inl points ↦ elim (all_some stored_swap (db swapped_tree)) [
    | inr not ↦ inr (λ it. not (swaps_of it.0, it.2.stored))
    | inl swaps ↦ elim (same_swaps (swaps_of (map (given swaps.0) points.0)) swaps.0) [
      | inl same ↦ inl (
        map (given swaps.0) points.0,
        record { stored = points.1 ∙ ap (map Some) (sym (plain_given swaps.0 points.0 ∙ rows_are_plain (db point_tree) points.0 points.1)); sorted = given_sorted swaps.0 points.0 points.2 },
        record { stored = swaps.1 ∙ ap (map Some) (sym same) },
      )
      | inr not ↦ inr (λ it.
          let plains : map plain it.0 ≡ points.0 = same_list (map plain it.0) points.0 (sym it.1.stored ∙ points.1) in
          let told : swaps_of it.0 ≡ swaps.0 = same_list (swaps_of it.0) swaps.0 (sym it.2.stored ∙ swaps.1) in
          let is : map (given swaps.0) points.0 ≡ it.0 = ap₂ (λ (s : Swaps) (ps : List PointRow). map (given s) ps) (sym told) (sym plains) ∙ given_back it.0 it.1.sorted in
          not (ap swaps_of is ∙ told))
    ]
  ]
]

settings_decided : (db : Trees) → Decided ((kept : Settings) × AreSettings db kept)
settings_decided db = elim (in_order stored_setting (λ es. rows.is_sorted nat_cmp es) (db setting_tree)) [
  | inl it ↦ inl (it.0, record { stored = it.1; sorted = it.2 })
  | inr not ↦ inr (λ it. not (it.0, it.1.stored, it.1.sorted))
]

totals_decided : (db : Trees) → Decided ((kept : Sums) × AreTotals db kept)
totals_decided db = elim (in_order stored_sum (λ es. rows.is_sorted nat_cmp es) (db total_tree)) [
  | inl it ↦ inl (it.0, record { stored = it.1; sorted = it.2 })
  | inr not ↦ inr (λ it. not (it.0, it.1.stored, it.1.sorted))
]

voids_decided : (db : Trees) → Decided ((kept : Voids) × AreVoids db kept)
voids_decided db = elim (all_some stored_void (db void_tree)) [
  | inr not ↦ inr (λ it. not (it.1.entries, it.1.stored))
  | inl some ↦ elim (has_order key_cmp keys_total some.0) [
    | inl it ↦ inl (it.0, record { entries = some.0; stored = some.1; same = it.1; sorted = it.2 })
    | inr not ↦ inr (λ it. not (it.0, subst (λ es. IsPermutation es it.0) (same_list it.1.entries some.0 (sym it.1.stored ∙ some.1)) it.1.same, it.1.sorted))
  ]
]

number_in : Value → ℕ
number_in (Int (pos n)) = n
number_in _ = 0

last_in : List Row → ℕ
last_in (version ∷ connections ∷ rest) = number_in (column connections 2)
last_in _ = 0

numbers_decided : (db : Trees) → Decided ((n : ℕ) × AreNumbers db n)
unfolding last_in number_in
numbers_decided db = elim (same_coded (coded_list row.the_row.coded) (db meta_tree) (number_rows (last_in (db meta_tree)))) [
  | inl is ↦ inl (last_in (db meta_tree), is)
  | inr not ↦ inr (λ it. not (it.1 ∙ ap number_rows (sym (ap last_in it.1))))
]

stands_decided : (db : Trees) → Decided ((kept : Tables) × StandFor db kept)
stands_decided db = elim (points_decided db) [
  | inr not ↦ inr (λ it. not (it.0.points, it.1.points, it.1.swapped))
  | inl a ↦ elim (readings_decided db) [
    | inr not ↦ inr (λ it. not (it.0.readings, it.1.readings))
    | inl b ↦ elim (settings_decided db) [
      | inr not ↦ inr (λ it. not (it.0.settings, it.1.settings))
      | inl c ↦ elim (requests_decided db) [
        | inr not ↦ inr (λ it. not (it.0.requests, it.1.requests))
        | inl d ↦ elim (numbers_decided db) [
          | inr not ↦ inr (λ it. not (it.0.connections, it.1.numbers))
          | inl e ↦ elim (totals_decided db) [
            | inr not ↦ inr (λ it. not (it.0.totals, it.1.totals))
            | inl f ↦ elim (voids_decided db) [
              | inr not ↦ inr (λ it. not (it.0.voids, it.1.voids))
              | inl g ↦ inl (
                record { points = a.0; readings = b.0; voids = g.0; totals = f.0; settings = c.0; requests = d.0; connections = e.0 },
                record { points = a.1; readings = b.1; settings = c.1; requests = d.1; totals = f.1; voids = g.1; swapped = a.2; numbers = e.1 },
              )
            ]
          ]
        ]
      ]
    ]
  ]
]

-- tables that some schema lists
pub office_decided : (db : Trees) (s : Schema) → Lists (db catalog_tree) s → Decided (IsOffice db)
office_decided db s listed = elim (same_coded schema.the_row.coded s office_schema) [
  | inr not ↦ inr (λ it. not (lists_once (db catalog_tree) s office_schema listed it.listed))
  | inl is ↦ elim (stands_decided db) [
    | inl it ↦ inl (record { listed = subst (Lists (db catalog_tree)) is listed; some = it.0; stands = it.1 })
    | inr not ↦ inr (λ it. not (it.some, it.stands))
  ]
]
