-- What the query of a point's voided slots shows.
use Rattle.std.proofs.Common.{◌≡◌, ◌≤◌, ℕ, pos, negsuc, List, [], ◌∷◌, map, Bool, true, false, cond, ◌&&◌, ◌||◌, ◌==◌, None, Some, Option, option_map, unwrap_or, Ok, Err, Result, IfOk, refl, sym, ap, ap₂, subst, ◌∙◌, filter, arith}
use Rattle.std.specs.Prelude.{⊤, nat_le}
use Rattle.std.specs.List.{list_all, list_any}
use Rattle.std.specs.List.Sorted.{IsPermutation}
use Rattle.std.specs.BTreeSet.{BTreeSet, contains}
use Rattle.std.specs.Ordering.{eq_by_cmp, is_lt, nat_cmp, ordering_then}
use Rattle.std.specs.Cmp.{nat_cmp_total, tied_itself}
use Rattle.std.proofs.lemmas.Bool.Decides.{nat_tests}
use Rattle.std.proofs.lemmas.Map.Views.{exact_unsigned_eq}
use Rattle.sqlite_tied.specs.Compute.{everything}
use Rattle.sqlite_value.specs.declared.value.Value.{Value}
use Rattle.sqlite_value.specs.declared.value.Value.TheVariants.{Null, Int}
use Rattle.sqlite_value.specs.declared.keys.Collation.TheVariants.{Binary}
use Rattle.sqlite_value.specs.Order.{Row}
use Rattle.sqlite_sql.specs.declared.ops.BinaryOp.TheVariants.{Compare}
use Rattle.sqlite_sql.specs.declared.ops.CompareOp.TheVariants.{Eq, Le, Ge}
use Rattle.sqlite_sql.specs.Term.{lit, col, op2, holds}
use Rattle.sqlite_sql.specs.Ops.{binary, is_true}
use Rattle.sqlite_sql.specs.Query.{Query, inner, end, output, key_cmp as sort_cmp}
use Rattle.sqlite_schema.specs.declared.command.Command.TheVariants.{Select}
use Rattle.sqlite.specs.Listing.{understood, reads_listing}
use Rattle.sqlite.specs.State.{State, Shown}
use Rattle.sqlite.proofs.Callers.{IsPlain, command_of, reads_as}
use Rattle.poll_book.specs.Tables.{Key, Tables, Voids, is_between, is_void, key_cmp}
use Rattle.office_store.specs.Schema.{office_schema, void_tree}
use Rattle.office_store.specs.Texts.{void_slots_text}
use Rattle.office_store.specs.Rows.{stored_void, shown_void}
use Rattle.office_store.specs.Kept.{IsHeld}
use Rattle.office_store.specs.Voids.{AreVoidsOf, shows_slot}
use Rattle.office_store.proofs.Comparing.{at_least, at_most, compares, equals, rising, sorts}
use Rattle.office_store.proofs.NextVoid.{names, slot_shown, void_columns}
use Rattle.office_store.proofs.Showing.{answers, picked}
use Rattle.office_store.proofs.Slots.{all_true, keys_exact, keys_total, regroup}

abbrev slots_query : Query
slots_query = record {
  from = inner 10 end;
  filter = op2 (Compare Eq Binary) (col 1 1) (col 0 0) ∷ op2 (Compare Ge Binary) (col 1 2) (col 0 1) ∷ op2 (Compare Le Binary) (col 1 2) (col 0 2) ∷ [];
  group = None;
  project = col 1 1 ∷ col 1 2 ∷ [];
  distinct = false;
  collations = [];
  order = (col 1 2, rising) ∷ [];
  limit = lit (Int (negsuc 0));
  offset = lit (Int (pos 0));
}

slots_are : (command_of (understood office_schema void_slots_text) ≡ Select (record { lets = []; body = slots_query }) names) × (reads_listing office_schema void_slots_text ≡ false) × IsPlain (understood office_schema void_slots_text)
unfolding understood everything
slots_are = (refl, refl, (refl, refl))

-- the rows of voids show their slots
listed : (rows : List Row) (es : Voids) → map shown_void rows ≡ map Some es → (slot : ℕ) → list_any (shows_slot slot) rows ≡ list_any (λ e. e.0.1 == slot) es
listed [] [] h slot = refl
listed [] (e ∷ es) h slot = absurd (cc)
listed (r ∷ rows) [] h slot = absurd (cc)
listed (r ∷ rows) (e ∷ es) h slot =
    let head : shown_void r ≡ Some e = cc in
    let tail : map shown_void rows ≡ map Some es = cc in
    let shows : shows_slot slot r ≡ (e.0.1 == slot) = ap (λ (found : Option ℕ). unwrap_or (option_map (λ shown. shown == slot) found) false) (slot_shown r e head) in
    ap₂ (λ a b. a || b) shows (listed rows es tail slot)

module _ (point from to : ℕ) where
  abbrev pub given : Row
  given = Int (pos point) ∷ Int (pos from) ∷ Int (pos to) ∷ []

  abbrev keep : Key × ⊤ → Bool
  keep e = is_between point from to e.0

  abbrev sort : Key × ⊤ → Row
  sort e = Int (pos e.0.1) ∷ []

  abbrev blank : Key × ⊤
  blank = ((0, 0), tt)

  agree : (r : Row) (e : Key × ⊤) → stored_void r ≡ Some e
      → (list_all (holds (given ∷ r ∷ [])) slots_query.filter ≡ keep e) × (shown_void (output slots_query (given ∷ r ∷ [])).1 ≡ Some e) × ((output slots_query (given ∷ r ∷ [])).0 ≡ sort e)
  agree r e h =
      let it = void_columns r e h in
      let tests = λ (a b : Value). is_true (binary (Compare Eq Binary) a (Int (pos point))) && (is_true (binary (Compare Ge Binary) b (Int (pos from))) && (is_true (binary (Compare Le Binary) b (Int (pos to))) && true)) in
      let one = compares Eq e.0.0 point ∙ equals e.0.0 point in
      let two = compares Ge e.0.1 from ∙ at_least e.0.1 from in
      let three = compares Le e.0.1 to ∙ at_most e.0.1 to in
      (ap₂ tests it.0 it.1 ∙ rw (one, two, three) (regroup (e.0.0 == point) (nat_le from e.0.1) (nat_le e.0.1 to)), h, ap (λ v. v ∷ []) it.1)

  alike : (a b : Key × ⊤) → keep a ≡ true → keep b ≡ true → is_lt (sort_cmp 0 (rising ∷ []) (sort a) (sort b)) ≡ is_lt (key_cmp a.0 b.0)
  alike a b ka kb =
      let at_a = exact_unsigned_eq a.0.0 point (all_true _ _ _ ka) in
      let at_b = exact_unsigned_eq b.0.0 point (all_true _ _ _ kb) in
      let tied = ap₂ nat_cmp at_a at_b ∙ tied_itself nat_cmp_total point in
      sorts a.0.1 b.0.1 ∙ sym (ap (λ o. is_lt (ordering_then o (nat_cmp a.0.1 b.0.1))) tied)

  shows_between : (old new : State) (kept : Tables) (held : IsHeld old kept) (rows : List Row) → Shown void_slots_text given old new rows → map shown_void rows ≡ map Some (filter keep kept.voids)
  shows_between old new kept held rows shown =
      let read = held.stands.voids in
      let a = (reads_as void_slots_text given old new office_schema held.schema (Select (record { lets = []; body = slots_query }) names) slots_are.0 slots_are.2 slots_are.1 rows shown).answer Null in
      let staged = picked stored_void shown_void keep sort blank (λ r. list_all (holds (given ∷ r ∷ [])) slots_query.filter) (λ r. given ∷ r ∷ []) (output slots_query) agree (old.now.trees void_tree) read.entries read.stored in
      let is : a.kept ≡ _ = a.distinct ∙ ap (map (output slots_query)) a.grouped in
      let done = answers stored_void shown_void keep sort blank key_cmp keys_total keys_exact slots_query alike read.entries kept.voids _ a.ordered read.sorted read.same staged (subst (λ k. IsPermutation k a.ordered) is a.same) a.sorted in
      ap (map shown_void) a.shown ∙ done

  -- the key is that of the void just where this is kept and has the slot
  same_key : (slot : ℕ) → from ≤ slot → slot ≤ to → (e : Key × ⊤) → eq_by_cmp key_cmp (point, slot) e.0 ≡ (keep e && (e.0.1 == slot))
  same_key slot low high e = grind (arith, nat_tests)

  among : (slot : ℕ) → from ≤ slot → slot ≤ to → (table : Voids) → list_any (λ e. e.0.1 == slot) (filter keep table) ≡ is_void table (point, slot)
  among slot low high [] = refl
  among slot low high (e ∷ table) = by (keep e) (e.0.1 == slot) refl (same_key slot low high e) (among slot low high table)
    where
      by : (stay here : Bool) → (e.0.1 == slot) ≡ here → eq_by_cmp key_cmp (point, slot) e.0 ≡ (stay && (e.0.1 == slot)) → list_any (λ x. x.0.1 == slot) (filter keep table) ≡ is_void table (point, slot)
          → list_any (λ x. x.0.1 == slot) (cond stay (e ∷ filter keep table) (filter keep table)) ≡ is_void (e ∷ table) (point, slot)
      by true true is same more = rw (same, is) refl
      by true false is same more = rw (same, is) more
      by false here is same more = rw same more

  -- the slots that an answer shows are the voided ones
  pub are_voids : {E : Type 0} (old new : State) (kept : Tables) (held : IsHeld old kept) (rows : List Row) → Shown void_slots_text given old new rows
      → (made : Result (BTreeSet ℕ) E) → IfOk made (λ slots. (slot : ℕ) → contains nat_cmp slots slot ≡ list_any (shows_slot slot) rows) → IfOk made (AreVoidsOf point from to kept.voids)
  are_voids old new kept held rows shown (Ok slots) is = λ slot low high.
      is slot ∙ listed rows (filter keep kept.voids) (shows_between old new kept held rows shown) slot ∙ among slot low high kept.voids
  are_voids old new kept held rows shown (Err e) is = tt
