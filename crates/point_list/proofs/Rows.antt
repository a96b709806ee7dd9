-- A body of records, record by record.
use Rattle.std.proofs.Common.{◌≡◌, ◌<◌, ◌+◌, ◌||◌, ℕ, zero, suc, List, [], ◌∷◌, ◌++◌, length, map, take, get_or, refl, ap, sym, ◌∙◌, arith, subst, Option, Some, None, Bool, true, false, cond, ◌==◌, nat_lt}
use borrow.Author.Tests.{ltb-true}
use Rattle.std.proofs.lemmas.Bool.Decides.{Decides-eqb}
use Rattle.std.proofs.lemmas.List.{take_more, length-map, length-take-le, map-append}
use Rattle.std.specs.List.{list_any}
use Rattle.std.specs.Str.{bytes_eq}
use Rattle.csv.specs.Records.{Row, fields_of}
use Rattle.point_list.specs.Columns.{Record, field}
use Rattle.point_list.specs.Lists.{Says, SaysRow, SayRows, fault_below, fault_of, names_of, names_in}
use Rattle.point_list.specs.Name.{is_name}
use Rattle.point_list.specs.declared.error.ListFault.{ListFault}
use Rattle.point_list.specs.declared.error.ListFault.TheVariants.{BadCsv, BadName, TooManyPoints, UnknownDevice}
use Rattle.point_list.specs.declared.point.ListRow.{ListRow}

-- the record at a place
pub record_at : (body : List Row) (i : ℕ) (x : Row) → i < length body → x ≡ get_or body i x → get_or (map fields_of body) i [] ≡ fields_of x
record_at [] i x lt e = absurd (omega arith)
record_at (b ∷ bs) zero x lt e = ap fields_of (sym e)
record_at (b ∷ bs) (suc i) x lt e = record_at bs i x (omega arith) e

next_record : (body : List Row) (i : ℕ) (x : Row) → i < length body → x ≡ get_or body i x
    → take (i + 1) (map fields_of body) ≡ take i (map fields_of body) ++ fields_of x ∷ []
next_record body i x lt e =
    let more = take_more (map fields_of body) i [] (omega (arith, length-map body fields_of)) in
    more ∙ ap (λ (r : Record). take i (map fields_of body) ++ r ∷ []) (record_at body i x lt e)

SayRows-push : (n m : ℕ) (rs : List Record) (rows : List ListRow) (r : Record) (x : ListRow) → m ≡ n + length rs → SayRows n rs rows → SaysRow m r x → SayRows n (rs ++ r ∷ []) (rows ++ x ∷ [])
SayRows-push n m [] [] r x e say more =
    let same : m ≡ n = omega arith in
    let P : ℕ → Type 0 = λ k. SaysRow k r x in
    (subst P same more, tt)
SayRows-push n m [] (y ∷ ys) r x e say more = absurd say
SayRows-push n m (q ∷ qs) [] r x e say more = absurd say
SayRows-push n m (q ∷ qs) (y ∷ ys) r x e say more = (say.0, SayRows-push (n + 1) m qs ys r x (omega arith) say.1 more)

-- one more row
pub more_rows : (body : List Row) (i number : ℕ) (x : Row) (rows : List ListRow) (y : ListRow)
    → i < length body → x ≡ get_or body i x → number ≡ i + 2
    → SayRows 2 (take i (map fields_of body)) rows → SaysRow number (fields_of x) y
    → SayRows 2 (take (i + 1) (map fields_of body)) (rows ++ y ∷ [])
more_rows body i number x rows y lt e place say says =
    let len : length (take i (map fields_of body)) ≡ i = length-take-le i (map fields_of body) (omega (arith, length-map body fields_of)) in
    rw (next_record body i x lt e) (SayRows-push 2 number (take i (map fields_of body)) rows (fields_of x) y (omega (arith, len)) say says)

-- the record of each row, which says its point
pub row_said : (number : ℕ) (body : List Record) (rows : List ListRow) → SayRows number body rows → (k : ℕ) (d : ListRow) → k < length rows
    → (k < length body) × Says (get_or body k []) (get_or rows k d).point
row_said number [] [] say k d lt = absurd (omega (arith, lt))
row_said number [] (x ∷ xs) say k d lt = absurd say
row_said number (r ∷ rs) [] say k d lt = absurd say
row_said number (r ∷ rs) (x ∷ xs) say zero d lt = (omega arith, say.0.point)
row_said number (r ∷ rs) (x ∷ xs) say (suc k) d lt =
    let later = row_said (number + 1) rs xs say.1 k d (omega (arith, lt)) in
    (omega (arith, later.0), later.1)

-- one more name
pub more_names : (body : List Row) (i : ℕ) (x : Row) (rows : List ListRow) (y : ListRow) → i < length body → x ≡ get_or body i x
    → names_of rows ≡ names_in (take i (map fields_of body)) → Says (fields_of x) y.point
    → names_of (rows ++ y ∷ []) ≡ names_in (take (i + 1) (map fields_of body))
more_names body i x rows y lt e same says =
    rw (
      next_record body i x lt e,
      map-append (λ (r : Record). field r 0) (take i (map fields_of body)) (fields_of x ∷ []),
      map-append (λ (z : ListRow). z.point.name) rows (y ∷ []),
      same,
      says.name,
    ) refl

-- a name that is looked for is the last one or one before
pub known_more : (rows : List ListRow) (y : ListRow) (text : List ℕ)
    → list_any (λ name. bytes_eq text name) (names_of (rows ++ y ∷ [])) ≡ (bytes_eq text y.point.name || list_any (λ name. bytes_eq text name) (names_of rows))
known_more [] y text = refl
known_more (x ∷ xs) y text = rw (known_more xs y text) (middle (bytes_eq text x.point.name) (bytes_eq text y.point.name) (list_any (λ name. bytes_eq text name) (names_of xs)))
  where
    middle : (a b c : Bool) → (a || (b || c)) ≡ (b || (a || c))
    middle true true c = refl
    middle true false c = refl
    middle false true c = refl
    middle false false c = refl

-- one more faultless record, or the first that has a fault
pub more_faultless : (columns : ℕ) (known : List ℕ → Bool) (body : List Row) (i : ℕ) (x : Row) (names : List (List ℕ)) (fault : Option (ListFault × ℕ))
    → i < length body → x ≡ get_or body i x
    → names ≡ names_in (take i (map fields_of body)) → fault_below columns known names (fields_of x) ≡ fault
    → fault_of columns known (take i (map fields_of body)) (get_or (map fields_of body) i []) ≡ fault
more_faultless columns known body i x names fault lt e same h = rw (record_at body i x lt e, ← same) h

passed : {A : Type 0} (b : Bool) (x : Option A) (y : A) → cond b x (Some y) ≡ None → (b ≡ true) × (x ≡ None)
passed true x y h = (refl, h)
passed false x y h = cc

-- a faultless record has as many fields as there are columns
pub all_columns : (columns : ℕ) (known : List ℕ → Bool) (names : List (List ℕ)) (r : Record) → fault_below columns known names r ≡ None → length r ≡ columns
unfolding fault_below
all_columns columns known names r h = (Decides-eqb (length r) columns).0 (passed _ _ _ h).0

-- few points stand below a faultless record
pub few_names : (columns : ℕ) (known : List ℕ → Bool) (names : List (List ℕ)) (r : Record) → fault_below columns known names r ≡ None → length names < 10000
unfolding fault_below
few_names columns known names r h =
    let count = passed _ _ _ h in
    let few = passed _ _ _ count.1 in
    ltb-true (length names) 10000 few.0

-- the device of a faultless record is known
pub known_device : (columns : ℕ) (known : List ℕ → Bool) (names : List (List ℕ)) (r : Record) → fault_below columns known names r ≡ None → known (field r 1) ≡ true
unfolding fault_below
known_device columns known names r h =
    let count = passed (length r == columns) _ (BadCsv, 0) h in
    let few = passed (nat_lt (length names) 10000) _ (TooManyPoints, 0) count.1 in
    let name = passed (is_name (field r 0)) _ (BadName, 1) few.1 in
    (passed (known (field r 1)) _ (UnknownDevice, 2) name.1).0
