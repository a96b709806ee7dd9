-- What the query of a total shows.
use Rattle.std.proofs.Common.{◌≡◌, ℕ, pos, negsuc, List, [], ◌∷◌, map, Bool, true, false, ◌&&◌, None, Some, Option, refl, sym, ap, subst, ◌∙◌, codes, option_map}
use Rattle.std.specs.List.{filter, list_all}
use Rattle.std.specs.List.Sorted.{IsPermutation}
use Rattle.std.specs.Ordering.{nat_cmp, eq_by_cmp}
use Rattle.std.specs.Cmp.{nat_cmp_total}
use Rattle.std.proofs.lemmas.Map.Lookups.{exact_unsigned}
use Rattle.std.proofs.lemmas.List.Sorted.{IsPermutation-refl}
use Rattle.sqlite_tied.specs.Compute.{everything}
use Rattle.sqlite_value.specs.declared.value.Value.{Value}
use Rattle.sqlite_value.specs.declared.value.Value.TheVariants.{Null, Int}
use Rattle.sqlite_value.specs.declared.keys.Collation.TheVariants.{Binary}
use Rattle.sqlite_value.specs.Order.{Row, column}
use Rattle.sqlite_sql.specs.declared.ops.BinaryOp.TheVariants.{Compare}
use Rattle.sqlite_sql.specs.declared.ops.CompareOp.TheVariants.{Eq}
use Rattle.sqlite_sql.specs.Term.{lit, col, op2, holds}
use Rattle.sqlite_sql.specs.Ops.{binary, is_true}
use Rattle.sqlite_sql.specs.Query.{Query, inner, end, output}
use Rattle.sqlite_schema.specs.declared.command.Command.TheVariants.{Select}
use Rattle.sqlite.specs.Listing.{understood, reads_listing}
use Rattle.sqlite.specs.State.{State, Shown}
use Rattle.sqlite.proofs.Callers.{IsPlain, command_of, reads_as}
use Rattle.poll_book.specs.Tables.{Tables, sum_at}
use Rattle.poll_book.specs.Totals.{stored_total}
use Rattle.office_store.specs.Schema.{office_schema, total_tree}
use Rattle.office_store.specs.Texts.{total_text}
use Rattle.office_store.specs.Rows.{stored_sum, shown_sum, number_of, wide_of}
use Rattle.office_store.specs.Kept.{IsHeld}
use Rattle.office_store.proofs.ByNumber.{given, sort, alone_and, natural_sorts}
use Rattle.office_store.proofs.PutTotal.{total_key}
use Rattle.office_store.proofs.Comparing.{compares, rising, and_then_some, map_some}
use Rattle.office_store.proofs.Showing.{picked, answers}
use Rattle.office_store.proofs.Sorted.{flips, finds_none, finds_first}

abbrev total_query : Query
total_query = record {
  from = inner 9 end;
  filter = op2 (Compare Eq Binary) (col 1 0) (col 0 0) ∷ [];
  group = None;
  project = col 1 0 ∷ col 1 2 ∷ [];
  distinct = false;
  collations = [];
  order = (col 1 0, rising) ∷ [];
  limit = lit (Int (negsuc 0));
  offset = lit (Int (pos 0));
}

abbrev total_names : List (List ℕ)
total_names = codes "point" ∷ codes "value" ∷ []

total_is : (command_of (understood office_schema total_text) ≡ Select (record { lets = []; body = total_query }) total_names) × (reads_listing office_schema total_text ≡ false) × IsPlain (understood office_schema total_text)
unfolding understood everything
total_is = (refl, refl, (refl, refl))

module _ (number : ℕ) where
  abbrev keep : ℕ × ℕ → Bool
  keep e = eq_by_cmp nat_cmp number e.0

  agree : (r : Row) (e : ℕ × ℕ) → stored_sum r ≡ Some e
      → (list_all (holds (given number ∷ r ∷ [])) total_query.filter ≡ keep e) × (shown_sum (output total_query (given number ∷ r ∷ [])).1 ≡ Some e) × ((output total_query (given number ∷ r ∷ [])).0 ≡ sort e)
  agree r e h =
      let it = total_key r e h in
      let tests = λ (a : Value). is_true (binary (Compare Eq Binary) a (Int (pos number))) && true in
      (ap tests it ∙ alone_and _ ∙ compares Eq e.0 number ∙ flips nat_cmp nat_cmp_total e.0 number, h, ap (λ v. v ∷ []) it)

  shows_total : (old new : State) (kept : Tables) (held : IsHeld old kept) (rows : List Row) → Shown total_text (given number) old new rows → map shown_sum rows ≡ map Some (filter keep kept.totals)
  shows_total old new kept held rows shown =
      let read = held.stands.totals in
      let a = (reads_as total_text (given number) old new office_schema held.schema (Select (record { lets = []; body = total_query }) total_names) total_is.0 total_is.2 total_is.1 rows shown).answer Null in
      let blank : ℕ × ℕ = (0, 0) in
      let staged = picked stored_sum shown_sum keep sort blank (λ r. list_all (holds (given number ∷ r ∷ [])) total_query.filter) (λ r. given number ∷ r ∷ []) (output total_query) agree (old.now.trees total_tree) kept.totals read.stored in
      let is : a.kept ≡ _ = a.distinct ∙ ap (map (output total_query)) a.grouped in
      let done = answers stored_sum shown_sum keep sort blank nat_cmp nat_cmp_total exact_unsigned total_query (natural_sorts keep) kept.totals kept.totals _ a.ordered read.sorted (IsPermutation-refl kept.totals) staged (subst (λ k. IsPermutation k a.ordered) is a.same) a.sorted in
      ap (map shown_sum) a.shown ∙ done

  pub no_total : (old new : State) (kept : Tables) (held : IsHeld old kept) → Shown total_text (given number) old new [] → 0 ≡ stored_total kept.totals number
  no_total old new kept held shown =
      let none : sum_at kept.totals number ≡ None = finds_none nat_cmp number keep (λ e. refl) kept.totals (empty (filter keep kept.totals) (shows_total old new kept held [] shown)) in
      rw none refl
    where
      empty : (xs : List (ℕ × ℕ)) → ◌≡◌ {A = List (Option (ℕ × ℕ))} [] (map Some xs) → xs ≡ []
      empty [] h = refl
      empty (x ∷ xs) h = absurd (cc)

  pub one_total : (old new : State) (kept : Tables) (held : IsHeld old kept) (row : Row) → Shown total_text (given number) old new (row ∷ []) → (sum : ℕ) → wide_of (column row 1) ≡ Some sum → sum ≡ stored_total kept.totals number
  one_total old new kept held row shown sum is =
      let it = first (filter keep kept.totals) (shows_total old new kept held (row ∷ []) shown) in
      let read = map_some (λ s. (it.0.0, s)) (wide_of (column row 1)) it.0 (entry it.0 it.2) in
      let same : ◌≡◌ {A = Option ℕ} (Some sum) (Some it.0.1) = sym is ∙ read.1 ∙ ap (λ (e : ℕ × ℕ). Some e.1) read.2 in
      let found : sum_at kept.totals number ≡ Some it.0.1 = finds_first nat_cmp number keep (λ e. refl) kept.totals it.1.0 it.0 it.1.1 in
      let one : sum ≡ it.0.1 = cc in
      rw found one
    where
      first : (xs : List (ℕ × ℕ)) → map shown_sum (row ∷ []) ≡ map Some xs → (e : ℕ × ℕ) × ((rest : List (ℕ × ℕ)) × (xs ≡ e ∷ rest)) × (shown_sum row ≡ Some e)
      first [] h = absurd (cc)
      first (x ∷ xs) h = let head : shown_sum row ≡ Some x = cc in (x, (xs, refl), head)

      entry : (e : ℕ × ℕ) → shown_sum row ≡ Some e → option_map (λ s. (e.0, s)) (wide_of (column row 1)) ≡ Some e
      entry e h =
          let n = and_then_some _ (number_of (column row 0)) e h in
          let s = map_some _ (wide_of (column row 1)) e n.2 in
          ap (λ k. option_map (λ s. (k, s)) (wide_of (column row 1))) (ap (λ (x : ℕ × ℕ). x.0) (sym s.2)) ∙ n.2
