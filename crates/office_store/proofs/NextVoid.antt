-- What the query of a point's first voided slot from a slot on shows.
use Rattle.std.proofs.Common.{◌≡◌, ◌≢◌, inl, inr, ◌<◌, ℕ, pos, List, [], ◌∷◌, map, take, Bool, true, false, cond, ◌&&◌, ◌==◌, ◌^◌, None, Some, refl, sym, ap, ap₂, subst, ◌∙◌, filter, T, codes, arith}
use Rattle.std.specs.Prelude.{⊤, is_some, nat_le}
use Rattle.std.specs.List.{AllByRecursion, list_all}
use Rattle.std.specs.List.Sorted.{IsPermutation}
use Rattle.std.specs.Ordering.{eq_by_cmp, is_eq, is_lt, nat_cmp, ordering_then}
use Rattle.std.specs.declared.cmp.Ordering.TheVariants.{Less}
use Rattle.std.specs.Cmp.{nat_cmp_total, tied_itself}
use Rattle.std.specs.FinMap.Entries as rows
use Rattle.std.proofs.lemmas.Bool.Decides.{nat_tests}
use Rattle.std.proofs.lemmas.List.Elements.{All-from_recursion}
use Rattle.std.proofs.lemmas.Map.Views.{exact_unsigned_eq}
use Rattle.sqlite_tied.specs.Compute.{everything}
use Rattle.sqlite_value.specs.declared.value.Value.{Value}
use Rattle.sqlite_value.specs.declared.value.Value.TheVariants.{Null, Int}
use Rattle.sqlite_value.specs.declared.keys.Collation.TheVariants.{Binary}
use Rattle.sqlite_value.specs.Order.{Row, column}
use Rattle.sqlite_sql.specs.declared.ops.BinaryOp.TheVariants.{Compare}
use Rattle.sqlite_sql.specs.declared.ops.CompareOp.TheVariants.{Eq, Ge}
use Rattle.sqlite_sql.specs.Term.{lit, col, op2, holds}
use Rattle.sqlite_sql.specs.Ops.{binary, is_true}
use Rattle.sqlite_sql.specs.Query.{Output, Query, inner, end, output, key_cmp as sort_cmp}
use Rattle.sqlite_schema.specs.declared.command.Command.TheVariants.{Select}
use Rattle.sqlite.specs.Listing.{understood, reads_listing}
use Rattle.sqlite.specs.State.{State, Shown}
use Rattle.sqlite.proofs.Callers.{IsPlain, command_of, reads_as}
use Rattle.poll_book.specs.Tables.{Key, Tables, Voids, is_void, key_cmp}
use Rattle.office_store.specs.Schema.{office_schema, void_tree}
use Rattle.office_store.specs.Texts.{next_void_text}
use Rattle.office_store.specs.Rows.{stored_void, shown_void, number_of}
use Rattle.office_store.specs.Kept.{IsHeld}
use Rattle.office_store.specs.Ends.{ShowFrom, TellsFrom}
use Rattle.office_store.specs.declared.voids.VoidsFrom.{VoidsFrom}
use Rattle.office_store.specs.declared.voids.VoidsFrom.TheVariants.{NoneLeft}
use Rattle.office_store.proofs.Comparing.{and_then_some, at_least, compares, equals, map_some, number_is, rising, sorts}
use Rattle.office_store.proofs.Showing.{answers, picked}
use Rattle.office_store.proofs.Slots.{keys_exact, keys_total}
use Rattle.office_store.proofs.Sorted.{all_map, both_T, each_above}

-- voids of the point from the slot on, the first before the others
abbrev next_query : Query
next_query = record {
  from = inner 10 end;
  filter = op2 (Compare Eq Binary) (col 1 1) (col 0 0) ∷ op2 (Compare Ge Binary) (col 1 2) (col 0 1) ∷ [];
  group = None;
  project = col 1 1 ∷ col 1 2 ∷ [];
  distinct = false;
  collations = [];
  order = (col 1 2, rising) ∷ [];
  limit = lit (Int (pos 1));
  offset = lit (Int (pos 0));
}

abbrev pub names : List (List ℕ)
names = codes "point" ∷ codes "slot" ∷ []

next_is : (command_of (understood office_schema next_void_text) ≡ Select (record { lets = []; body = next_query }) names) × (reads_listing office_schema next_void_text ≡ false) × IsPlain (understood office_schema next_void_text)
unfolding understood everything
next_is = (refl, refl, (refl, refl))

-- the key of a void stands in its columns
pub void_columns : (r : Row) (e : Key × ⊤) → stored_void r ≡ Some e → (column r 1 ≡ Int (pos e.0.0)) × (column r 2 ≡ Int (pos e.0.1))
void_columns r e h =
    let p = and_then_some _ (number_of (column r 1)) _ h in
    let s = map_some _ (number_of (column r 2)) _ p.2 in
    (number_is (2 ^ 32) (column r 1) e.0.0 (p.1 ∙ ap (λ (x : Key × ⊤). Some x.0.0) s.2), number_is (2 ^ 32) (column r 2) e.0.1 (s.1 ∙ ap (λ (x : Key × ⊤). Some x.0.1) s.2))

-- the slot of a void that is shown stands in its column
pub slot_shown : (r : Row) (e : Key × ⊤) → shown_void r ≡ Some e → number_of (column r 1) ≡ Some e.0.1
slot_shown r e h =
    let p = and_then_some _ (number_of (column r 0)) _ h in
    let s = map_some _ (number_of (column r 1)) _ p.2 in
    s.1 ∙ ap (λ (x : Key × ⊤). Some x.0.1) s.2

both : (a b : Bool) → (a && (b && true)) ≡ (a && b)
both true true = refl
both true false = refl
both false b = refl

first_true : (a b : Bool) → (a && b) ≡ true → a ≡ true
first_true true b h = refl
first_true false b h = absurd (cc)

-- no key behind a key is the key itself
none_above : (key : Key) (table : Voids) → AllByRecursion (λ e. key_cmp key e.0 ≡ Less) table → rows.find key_cmp key table ≡ None
none_above key [] all = refl
none_above key (e ∷ table) all =
    let apart : eq_by_cmp key_cmp key e.0 ≡ false = ap is_eq all.0 in
    rw apart (none_above key table all.1)

module _ (point slot : ℕ) where
  abbrev pub given : Row
  given = Int (pos point) ∷ Int (pos slot) ∷ []

  abbrev stays : Key × ⊤ → Bool
  stays e = e.0.0 == point && nat_le slot e.0.1

  abbrev sort : Key × ⊤ → Row
  sort e = Int (pos e.0.1) ∷ []

  abbrev blank : Key × ⊤
  blank = ((0, 0), tt)

  -- the query keeps the voids of the point from the slot on, shows them, and sorts them by the slot
  agree : (r : Row) (e : Key × ⊤) → stored_void r ≡ Some e
      → (list_all (holds (given ∷ r ∷ [])) next_query.filter ≡ stays e) × (shown_void (output next_query (given ∷ r ∷ [])).1 ≡ Some e) × ((output next_query (given ∷ r ∷ [])).0 ≡ sort e)
  agree r e h =
      let it = void_columns r e h in
      let tests = λ (a b : Value). is_true (binary (Compare Eq Binary) a (Int (pos point))) && (is_true (binary (Compare Ge Binary) b (Int (pos slot))) && true) in
      let one = compares Eq e.0.0 point ∙ equals e.0.0 point in
      let two = compares Ge e.0.1 slot ∙ at_least e.0.1 slot in
      (ap₂ tests it.0 it.1 ∙ rw (one, two) (both (e.0.0 == point) (nat_le slot e.0.1)), h, ap (λ v. v ∷ []) it.1)

  own : (e : Key × ⊤) → stays e ≡ true → e.0.0 ≡ point
  own e h = exact_unsigned_eq e.0.0 point (first_true _ _ h)

  alike : (a b : Key × ⊤) → stays a ≡ true → stays b ≡ true → is_lt (sort_cmp 0 (rising ∷ []) (sort a) (sort b)) ≡ is_lt (key_cmp a.0 b.0)
  alike a b ka kb =
      let tied = ap₂ nat_cmp (own a ka) (own b kb) ∙ tied_itself nat_cmp_total point in
      sorts a.0.1 b.0.1 ∙ sym (ap (λ o. is_lt (ordering_then o (nat_cmp a.0.1 b.0.1))) tied)

  -- an answer shows the first of them, if there is one
  shows_next : (old new : State) (kept : Tables) (held : IsHeld old kept) (shown : List Row) → Shown next_void_text given old new shown
      → (xs : List Row) × (shown ≡ take 1 xs) × (map shown_void xs ≡ map Some (filter stays kept.voids))
  shows_next old new kept held shown h =
      let read = held.stands.voids in
      let a = (reads_as next_void_text given old new office_schema held.schema (Select (record { lets = []; body = next_query }) names) next_is.0 next_is.2 next_is.1 shown h).answer Null in
      let staged = picked stored_void shown_void stays sort blank (λ r. list_all (holds (given ∷ r ∷ [])) next_query.filter) (λ r. given ∷ r ∷ []) (output next_query) agree (old.now.trees void_tree) read.entries read.stored in
      let is : a.kept ≡ _ = a.distinct ∙ ap (map (output next_query)) a.grouped in
      let done = answers stored_void shown_void stays sort blank key_cmp keys_total keys_exact next_query alike read.entries kept.voids _ a.ordered read.sorted read.same staged (subst (λ k. IsPermutation k a.ordered) is a.same) a.sorted in
      (map (λ (o : Output). o.1) a.ordered, a.shown, done)

  -- ---- what the first of them tells

  abbrev IsBefore : Key × ⊤ → Type 0
  IsBefore e = e.0.0 ≡ point → e.0.1 < slot

  -- one that isn't kept stands before the slot, if it is of the point, and isn't the key itself
  lower : (e : Key × ⊤) → stays e ≡ false → IsBefore e
  lower e is at = grind (arith, nat_tests)

  other : (e : Key × ⊤) → stays e ≡ false → eq_by_cmp key_cmp (point, slot) e.0 ≡ false
  other e is = grind (arith, nat_tests)

  -- one that is kept and stands in another slot comes behind the key
  before : (e : Key × ⊤) → stays e ≡ true → e.0.1 ≢ slot → key_cmp (point, slot) e.0 ≡ Less
  before e is apart = grind (arith, nat_tests)

  -- where none is from the slot on, each stands before it
  none_left : (table : Voids) → filter stays table ≡ [] → AllByRecursion IsBefore table
  none_left [] none = tt
  none_left (e ∷ table) none = by (stays e) refl none (λ more. none_left table more)
    where
      by : (stay : Bool) → stays e ≡ stay → cond stay (e ∷ filter stays table) (filter stays table) ≡ [] → (filter stays table ≡ [] → AllByRecursion IsBefore table) → AllByRecursion IsBefore (e ∷ table)
      by true is none more = absurd (cc)
      by false is none more = (λ at. lower e is at, more none)

  -- where the first stands in the slot, the slot is voided
  here : (table rest : Voids) (e : Key × ⊤) → filter stays table ≡ e ∷ rest → e.0.1 ≡ slot → is_void table (point, slot) ≡ true
  here [] rest e kept at = absurd (cc)
  here (x ∷ table) rest e kept at = by (stays x) (eq_by_cmp key_cmp (point, slot) x.0) refl refl kept (λ more. here table rest e more at)
    where
      by : (stay equal : Bool) → stays x ≡ stay → eq_by_cmp key_cmp (point, slot) x.0 ≡ equal → cond stay (x ∷ filter stays table) (filter stays table) ≡ e ∷ rest
          → (filter stays table ≡ e ∷ rest → is_void table (point, slot) ≡ true) → is_void (x ∷ table) (point, slot) ≡ true
      by stay true stay_is equal_is kept more = rw equal_is refl
      by false false stay_is equal_is kept more = rw equal_is (more kept)
      by true false stay_is equal_is kept more =
          let first : x ≡ e = cc in
          let number : x.0.1 ≡ slot = ap (λ (y : Key × ⊤). y.0.1) first ∙ at in
          let key : x.0 ≡ (point, slot) = ap₂ (λ (p s : ℕ). (p, s)) (own x stay_is) number in
          let tied : eq_by_cmp key_cmp (point, slot) x.0 ≡ true = ap (λ k. eq_by_cmp key_cmp (point, slot) k) key ∙ ap is_eq (tied_itself keys_total (point, slot)) in
          absurd (cc)

  -- where it stands behind the slot, the slot isn't
  later : (table rest : Voids) (e : Key × ⊤) → T (rows.is_sorted key_cmp table) → filter stays table ≡ e ∷ rest → e.0.1 ≢ slot → rows.find key_cmp (point, slot) table ≡ None
  later [] rest e sorted kept apart = absurd (cc)
  later (x ∷ table) rest e sorted kept apart =
      let sides = both_T _ _ sorted in
      by (stays x) refl kept (each_above key_cmp keys_total x.0 table sides.0) (λ more. later table rest e sides.1 more apart)
    where
      by : (stay : Bool) → stays x ≡ stay → cond stay (x ∷ filter stays table) (filter stays table) ≡ e ∷ rest → AllByRecursion (λ y. key_cmp x.0 y.0 ≡ Less) table
          → (filter stays table ≡ e ∷ rest → rows.find key_cmp (point, slot) table ≡ None) → rows.find key_cmp (point, slot) (x ∷ table) ≡ None
      by true is kept above more =
          let first : x ≡ e = cc in
          let number : x.0.1 ≡ e.0.1 = ap (λ (y : Key × ⊤). y.0.1) first in
          let less : key_cmp (point, slot) x.0 ≡ Less = before x is (λ at. apart (sym number ∙ at)) in
          none_above (point, slot) (x ∷ table) (less, all_map (λ y above_x. keys_total.trans (point, slot) x.0 y.0 less above_x) table above)
      by false is kept above more = rw (other x is) (more kept)

  told : (table : Voids) → T (rows.is_sorted key_cmp table) → (shown xs : List Row) (es : Voids) → filter stays table ≡ es → shown ≡ take 1 xs → map shown_void xs ≡ map Some es
      → (it : VoidsFrom) → ShowFrom slot shown it → TellsFrom point slot table it
  told table sorted shown [] [] kept cut same it is =
      let none : it ≡ NoneLeft = subst (λ rs. ShowFrom slot rs it) cut is in
      subst (TellsFrom point slot table) (sym none) (All-from_recursion IsBefore table (none_left table kept))
  told table sorted shown [] (e ∷ es) kept cut same it is = absurd (cc)
  told table sorted shown (r ∷ xs) [] kept cut same it is = absurd (cc)
  told table sorted shown (r ∷ xs) (e ∷ es) kept cut same it is =
      let shows : shown_void r ≡ Some e = cc in
      by (slot_shown r e shows) (subst (λ rs. ShowFrom slot rs it) cut is)
    where
      by : number_of (column r 1) ≡ Some e.0.1 → ShowFrom slot (r ∷ []) it → TellsFrom point slot table it
      by at (inl (is, number)) =
          let same : e.0.1 ≡ slot = cc in
          subst (TellsFrom point slot table) (sym is) (here table es e kept same)
      by at (inr (is, number)) =
          let apart : e.0.1 ≢ slot = λ same. number (at ∙ ap (λ (n : ℕ). Some n) same) in
          subst (TellsFrom point slot table) (sym is) (ap is_some (later table es e sorted kept apart))

  -- what an answer shows is told
  pub next_shown : (old new : State) (kept : Tables) (held : IsHeld old kept) (shown : List Row) → Shown next_void_text given old new shown → (it : VoidsFrom) → ShowFrom slot shown it → TellsFrom point slot kept.voids it
  next_shown old new kept held shown h it is =
      let found = shows_next old new kept held shown h in
      told kept.voids held.stands.voids.sorted shown found.0 (filter stays kept.voids) refl found.1 found.2 it is
