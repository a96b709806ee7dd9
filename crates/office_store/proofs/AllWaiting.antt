-- What the query of the orders that wait shows: those of the table, by their numbers.
use Rattle.std.proofs.Common.{◌≡◌, ℕ, pos, negsuc, List, [], ◌∷◌, map, Bool, true, false, ◌==◌, None, Some, Ok, Err, Result, Vec, Global, IfOk, refl, sym, ap, subst, ◌∙◌, arith, if◌then◌else◌}
use Rattle.std.specs.List.{list_all}
use Rattle.std.specs.List.Sorted.{IsPermutation}
use Rattle.std.specs.Ordering.{nat_cmp}
use Rattle.std.specs.Cmp.{nat_cmp_total}
use Rattle.std.proofs.lemmas.Bool.Decides.{nat_tests}
use Rattle.std.proofs.lemmas.Map.Lookups.{exact_unsigned}
use Rattle.std.proofs.lemmas.List.Sorted.{IsPermutation-refl}
use Rattle.sqlite_tied.specs.Compute.{everything}
use Rattle.sqlite_value.specs.declared.value.Value.{Value}
use Rattle.sqlite_value.specs.declared.value.Value.TheVariants.{Null, Int}
use Rattle.sqlite_value.specs.declared.keys.Collation.TheVariants.{Binary}
use Rattle.sqlite_value.specs.Order.{Row, column}
use Rattle.sqlite_sql.specs.declared.ops.BinaryOp.TheVariants.{Compare}
use Rattle.sqlite_sql.specs.declared.ops.CompareOp.TheVariants.{Eq}
use Rattle.sqlite_sql.specs.Term.{lit, col, op2, holds}
use Rattle.sqlite_sql.specs.Ops.{binary, is_true}
use Rattle.sqlite_sql.specs.Query.{Query, inner, end, output}
use Rattle.sqlite_schema.specs.declared.command.Command.TheVariants.{Select}
use Rattle.sqlite.specs.Listing.{understood, reads_listing}
use Rattle.sqlite.specs.State.{State, Shown}
use Rattle.sqlite.proofs.Callers.{IsPlain, command_of, reads_as}
use Rattle.poll_book.specs.declared.rows.OrderState.{OrderState}
use Rattle.poll_book.specs.declared.rows.OrderState.TheVariants.{Waiting, Done, Refused}
use Rattle.poll_book.specs.declared.rows.Setting.{Setting}
use Rattle.poll_book.specs.declared.rows.SettingRow.{SettingRow}
use Rattle.poll_book.specs.Tables.{Tables}
use Rattle.poll_book.specs.Orders.{as_setting, is_waiting}
use Rattle.office_store.specs.Schema.{office_schema, setting_tree}
use Rattle.office_store.specs.Texts.{waiting_text}
use Rattle.office_store.specs.Rows.{stored_setting, shown_setting, number_of, number_below, words_of, state_of, state_coded}
use Rattle.office_store.specs.Kept.{IsHeld}
use Rattle.office_store.specs.Waiting.{AreThose, waits, waiting_of}
use Rattle.office_store.proofs.ByNumber.{alone_and, natural_sorts, setting_key, setting_names, sort}
use Rattle.office_store.proofs.Comparing.{compares, equals, rising, number_is, and_then_some, map_some}
use Rattle.office_store.proofs.Showing.{picked, answers, same_list}

abbrev waiting_query : Query
waiting_query = record {
  from = inner 6 end;
  filter = op2 (Compare Eq Binary) (col 1 4) (lit (Int (pos 0))) ∷ [];
  group = None;
  project = col 1 0 ∷ col 1 2 ∷ col 1 3 ∷ col 1 4 ∷ col 1 5 ∷ [];
  distinct = false;
  collations = [];
  order = (col 1 0, rising) ∷ [];
  limit = lit (Int (negsuc 0));
  offset = lit (Int (pos 0));
}

waiting_is : (command_of (understood office_schema waiting_text) ≡ Select (record { lets = []; body = waiting_query }) setting_names) × (reads_listing office_schema waiting_text ≡ false) × IsPlain (understood office_schema waiting_text)
unfolding understood everything
waiting_is = (refl, refl, (refl, refl))

-- an order waits exactly where its state is kept as 0
coded_waits : (state code : ℕ) (standing : OrderState) → state_coded state code ≡ Some standing → (state == 0) ≡ is_waiting standing
coded_waits state code standing h = by_two (state == 2) refl (code == 0) (state == 0) refl h
  where
    by_one : (b : Bool) → (if b then Some Done else None) ≡ Some standing → false ≡ is_waiting standing
    by_one true e = let is : Done ≡ standing = cc in ap is_waiting is
    by_one false e = absurd (cc)

    by_zero : (zero : Bool) → (if zero then Some Waiting else (if state == 1 then Some Done else None)) ≡ Some standing → zero ≡ is_waiting standing
    by_zero true e = let is : Waiting ≡ standing = cc in ap is_waiting is
    by_zero false e = by_one (state == 1) e

    by_two : (two : Bool) → (state == 2) ≡ two → (plain zero : Bool) → (state == 0) ≡ zero
        → (if two then Some (Refused code) else (if plain then (if zero then Some Waiting else (if state == 1 then Some Done else None)) else None)) ≡ Some standing → (state == 0) ≡ is_waiting standing
    by_two true two plain zero at e =
        let is : Refused code ≡ standing = cc in
        let apart : (state == 0) ≡ false = grind (arith, nat_tests) in
        apart ∙ ap is_waiting is
    by_two false two true zero at e = at ∙ by_zero zero e
    by_two false two false zero at e = absurd (cc)

state_test : (r : Row) (e : ℕ × Setting) → stored_setting r ≡ Some e → is_true (binary (Compare Eq Binary) (column r 4) (Int (pos 0))) ≡ waits e
state_test r e h =
    let n = and_then_some _ (number_of (column r 0)) _ h in
    let p = and_then_some _ (number_of (column r 2)) _ n.2 in
    let w = and_then_some _ (words_of (column r 3)) _ p.2 in
    let s = map_some _ (state_of (column r 4) (column r 5)) _ w.2 in
    let state = and_then_some _ (number_below 256 (column r 4)) _ s.1 in
    let code = and_then_some _ (number_below 256 (column r 5)) _ state.2 in
    let at = number_is 256 (column r 4) state.0 state.1 in
    ap (λ (v : Value). is_true (binary (Compare Eq Binary) v (Int (pos 0)))) at ∙ compares Eq state.0 0 ∙ equals state.0 0
    ∙ coded_waits state.0 code.0 s.0 code.2 ∙ ap waits s.2

agree : (r : Row) (e : ℕ × Setting) → stored_setting r ≡ Some e
    → (list_all (holds ([] ∷ r ∷ [])) waiting_query.filter ≡ waits e) × (shown_setting (output waiting_query ([] ∷ r ∷ [])).1 ≡ Some e) × ((output waiting_query ([] ∷ r ∷ [])).0 ≡ sort e)
agree r e h = (alone_and _ ∙ state_test r e h, h, ap (λ v. v ∷ []) (setting_key r e h))

module _ (old new : State) (kept : Tables) (held : IsHeld old kept) (rows : List Row) (shown : Shown waiting_text [] old new rows) where
  shows_waiting : map shown_setting rows ≡ map Some (waiting_of kept.settings)
  shows_waiting =
      let read = held.stands.settings in
      let a = (reads_as waiting_text [] old new office_schema held.schema (Select (record { lets = []; body = waiting_query }) setting_names) waiting_is.0 waiting_is.2 waiting_is.1 rows shown).answer Null in
      let blank : ℕ × Setting = (0, record { point = 0; words = []; state = Waiting }) in
      let staged = picked stored_setting shown_setting waits sort blank (λ r. list_all (holds ([] ∷ r ∷ [])) waiting_query.filter) (λ r. [] ∷ r ∷ []) (output waiting_query) agree (old.now.trees setting_tree) kept.settings read.stored in
      let is : a.kept ≡ _ = a.distinct ∙ ap (map (output waiting_query)) a.grouped in
      let done = answers stored_setting shown_setting waits sort blank nat_cmp nat_cmp_total exact_unsigned waiting_query (natural_sorts waits) kept.settings kept.settings _ a.ordered read.sorted (IsPermutation-refl kept.settings) staged (subst (λ k. IsPermutation k a.ordered) is a.same) a.sorted in
      ap (map shown_setting) a.shown ∙ done

  -- and so do the orders that are made of the rows
  pub all_waiting : {E : Type 0} (made : Result (Vec SettingRow Global) E) → IfOk made (λ orders. map shown_setting rows ≡ map Some (map as_setting orders.items)) → IfOk made (λ orders. AreThose kept.settings (map as_setting orders.items))
  all_waiting (Ok orders) is = (held.stands.settings.sorted, same_list (map as_setting orders.items) (waiting_of kept.settings) (sym is ∙ shows_waiting))
  all_waiting (Err e) is = tt
