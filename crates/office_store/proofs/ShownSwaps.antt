-- What the query of the swapped points shows.
use Rattle.std.proofs.Common.{◌≡◌, ◌^◌, ℕ, pos, negsuc, List, [], ◌∷◌, map, Bool, true, false, None, Some, Ok, Err, Result, Vec, Global, IfOk, refl, sym, ap, subst, ◌∙◌, codes}
use Rattle.std.specs.Prelude.{⊤}
use Rattle.std.specs.List.Sorted.{IsPermutation}
use Rattle.std.specs.Ordering.{nat_cmp}
use Rattle.std.specs.Cmp.{nat_cmp_total}
use Rattle.std.proofs.lemmas.Map.Lookups.{exact_unsigned}
use Rattle.std.proofs.lemmas.List.Sorted.{IsPermutation-refl}
use Rattle.sqlite_tied.specs.Compute.{everything}
use Rattle.sqlite_value.specs.declared.value.Value.TheVariants.{Null, Int}
use Rattle.sqlite_value.specs.Order.{Row, column}
use Rattle.sqlite_sql.specs.Term.{lit, col}
use Rattle.sqlite_sql.specs.Query.{Query, inner, end, output}
use Rattle.sqlite_schema.specs.declared.command.Command.TheVariants.{Select}
use Rattle.sqlite.specs.Listing.{understood, reads_listing}
use Rattle.sqlite.specs.State.{State, Shown}
use Rattle.sqlite.proofs.Callers.{IsPlain, command_of, reads_as}
use Rattle.poll_book.specs.Tables.{Tables}
use Rattle.office_store.specs.Schema.{office_schema, swapped_tree}
use Rattle.office_store.specs.Texts.{swaps_text}
use Rattle.office_store.specs.Rows.{stored_swap, number_of}
use Rattle.office_store.specs.Swaps.{as_swap, swaps_of}
use Rattle.office_store.specs.declared.swaps.Swap.{Swap}
use Rattle.office_store.specs.Kept.{IsHeld}
use Rattle.office_store.proofs.Comparing.{map_some, number_is, rising}
use Rattle.office_store.proofs.ByNumber.{all_kept, natural_sorts, sort}
use Rattle.office_store.proofs.Showing.{answers, picked, same_list}
use Rattle.office_store.proofs.Swapping.{swaps_sorted}

-- the number of the point stands in its first column
pub swap_key : (r : Row) (e : ℕ × ⊤) → stored_swap r ≡ Some e → column r 0 ≡ Int (pos e.0)
swap_key r e h =
    let n = map_some _ (number_of (column r 0)) e h in
    number_is (2 ^ 32) (column r 0) e.0 (n.1 ∙ ap (λ (x : ℕ × ⊤). Some x.0) n.2)

abbrev swaps_query : Query
swaps_query = record {
  from = inner 12 end;
  filter = [];
  group = None;
  project = col 1 0 ∷ [];
  distinct = false;
  collations = [];
  order = (col 1 0, rising) ∷ [];
  limit = lit (Int (negsuc 0));
  offset = lit (Int (pos 0));
}

abbrev swaps_names : List (List ℕ)
swaps_names = codes "point" ∷ []

swaps_are : (command_of (understood office_schema swaps_text) ≡ Select (record { lets = []; body = swaps_query }) swaps_names) × (reads_listing office_schema swaps_text ≡ false) × IsPlain (understood office_schema swaps_text)
unfolding understood everything
swaps_are = (refl, refl, (refl, refl))

agree : (r : Row) (e : ℕ × ⊤) → stored_swap r ≡ Some e → (true ≡ true) × (stored_swap (output swaps_query ([] ∷ r ∷ [])).1 ≡ Some e) × ((output swaps_query ([] ∷ r ∷ [])).0 ≡ sort e)
agree r e h = (refl, h, ap (λ v. v ∷ []) (swap_key r e h))

module _ (old new : State) (kept : Tables) (held : IsHeld old kept) (rows : List Row) (shown : Shown swaps_text [] old new rows) where
  swaps_shown : map stored_swap rows ≡ map Some (swaps_of kept.points)
  swaps_shown =
      let read = held.stands.swapped in
      let table = swaps_of kept.points in
      let keep : ℕ × ⊤ → Bool = λ e. true in
      let blank : ℕ × ⊤ = (0, tt) in
      let a = (reads_as swaps_text [] old new office_schema held.schema (Select (record { lets = []; body = swaps_query }) swaps_names) swaps_are.0 swaps_are.2 swaps_are.1 rows shown).answer Null in
      let staged = picked stored_swap stored_swap keep sort blank (λ r. true) (λ r. [] ∷ r ∷ []) (output swaps_query) agree (old.now.trees swapped_tree) table read.stored in
      let is : a.kept ≡ _ = a.distinct ∙ ap (map (output swaps_query)) a.grouped in
      let sorted = swaps_sorted kept.points held.stands.points.sorted in
      let done = answers stored_swap stored_swap keep sort blank nat_cmp nat_cmp_total exact_unsigned swaps_query (natural_sorts keep) table table _ a.ordered sorted (IsPermutation-refl table) staged (subst (λ k. IsPermutation k a.ordered) is a.same) a.sorted in
      ap (map stored_swap) a.shown ∙ done ∙ ap (map Some) (all_kept table)

  -- and so do the numbers that are made of the rows
  pub all_swaps : {E : Type 0} (made : Result (Vec Swap Global) E) → IfOk made (λ swaps. map stored_swap rows ≡ map Some (map as_swap swaps.items)) → IfOk made (λ swaps. map as_swap swaps.items ≡ swaps_of kept.points)
  all_swaps (Ok swaps) is = same_list (map as_swap swaps.items) (swaps_of kept.points) (sym is ∙ swaps_shown)
  all_swaps (Err e) is = tt
