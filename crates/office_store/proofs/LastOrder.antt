-- What the query of the last order shows.
use Rattle.std.proofs.Common.{take, ◌++◌, ◌≡◌, ℕ, pos, List, [], ◌∷◌, map, Bool, true, false, None, Some, refl, sym, ap, subst, ◌∙◌, ◌^◌}
use Rattle.std.specs.List.Sorted.{IsPermutation}
use Rattle.std.specs.Ordering.{nat_cmp}
use Rattle.std.specs.Cmp.{nat_cmp_total}
use Rattle.std.proofs.lemmas.Map.Lookups.{exact_unsigned}
use Rattle.sqlite_tied.specs.Compute.{everything}
use Rattle.sqlite_value.specs.declared.value.Value.TheVariants.{Null, Int}
use Rattle.sqlite_value.specs.Order.{Row, column}
use Rattle.sqlite_sql.specs.Term.{lit, col}
use Rattle.sqlite_sql.specs.Query.{Output, Query, inner, end, output}
use Rattle.sqlite_schema.specs.declared.command.Command.TheVariants.{Select}
use Rattle.sqlite.specs.Listing.{understood, reads_listing}
use Rattle.sqlite.specs.State.{State, Shown}
use Rattle.sqlite.proofs.Callers.{IsPlain, command_of, reads_as}
use Rattle.poll_book.specs.declared.rows.Setting.{Setting}
use Rattle.poll_book.specs.declared.rows.OrderState.TheVariants.{Waiting}
use Rattle.poll_book.specs.Tables.{Tables}
use Rattle.poll_book.specs.Orders.{last_order}
use Rattle.office_store.specs.Schema.{office_schema, setting_tree}
use Rattle.office_store.specs.Texts.{last_text}
use Rattle.office_store.specs.Rows.{stored_setting, shown_setting, number_of, words_of, state_of}
use Rattle.office_store.specs.Kept.{IsHeld}
use Rattle.office_store.proofs.Comparing.{falling, sorts_down, number_is, and_then_some, map_some}
use Rattle.office_store.proofs.Showing.{picked, answers}
use Rattle.office_store.proofs.Backward.{backward, backward_same, down, down_exact, down_total, sorted_backward, twice}
use Rattle.office_store.proofs.ByNumber.{setting_key, setting_names, sort, all_kept}

abbrev last_query : Query
last_query = record {
  from = inner 6 end;
  filter = [];
  group = None;
  project = col 1 0 ∷ col 1 2 ∷ col 1 3 ∷ col 1 4 ∷ col 1 5 ∷ [];
  distinct = false;
  collations = [];
  order = (col 1 0, falling) ∷ [];
  limit = lit (Int (pos 1));
  offset = lit (Int (pos 0));
}

last_is : (command_of (understood office_schema last_text) ≡ Select (record { lets = []; body = last_query }) setting_names) × (reads_listing office_schema last_text ≡ false) × IsPlain (understood office_schema last_text)
unfolding understood everything
last_is = (refl, refl, (refl, refl))

last_end : (xs : List (ℕ × Setting)) (e : ℕ × Setting) → last_order (xs ++ e ∷ []) ≡ e.0
last_end [] e = refl
last_end (x ∷ []) e = refl
last_end (x ∷ y ∷ xs) e = last_end (y ∷ xs) e

-- the first of them is the last
last_first : (table rest : List (ℕ × Setting)) (e : ℕ × Setting) → backward table ≡ e ∷ rest → last_order table ≡ e.0
unfolding backward
last_first table rest e h = ap last_order (sym (twice table) ∙ ap backward h) ∙ last_end (backward rest) e

last_none : (table : List (ℕ × Setting)) → backward table ≡ [] → last_order table ≡ 0
unfolding backward
last_none table h = ap last_order (sym (twice table) ∙ ap backward h)

-- ---- the answer

agree : (r : Row) (e : ℕ × Setting) → stored_setting r ≡ Some e → (true ≡ true) × (shown_setting (output last_query ([] ∷ r ∷ [])).1 ≡ Some e) × ((output last_query ([] ∷ r ∷ [])).0 ≡ sort e)
agree r e h = (refl, h, ap (λ v. v ∷ []) (setting_key r e h))

shown_key : (r : Row) (e : ℕ × Setting) → shown_setting r ≡ Some e → column r 0 ≡ Int (pos e.0)
shown_key r e h =
    let n = and_then_some _ (number_of (column r 0)) _ h in
    let p = and_then_some _ (number_of (column r 1)) _ n.2 in
    let w = and_then_some _ (words_of (column r 2)) _ p.2 in
    let s = map_some _ (state_of (column r 3) (column r 4)) _ w.2 in
    number_is (2 ^ 32) (column r 0) e.0 (n.1 ∙ ap (λ (x : ℕ × Setting). Some x.0) s.2)

none_of : (xs : List Row) (es : List (ℕ × Setting)) → [] ≡ take 1 xs → map shown_setting xs ≡ map Some es → es ≡ []
none_of [] [] h same = refl
none_of [] (e ∷ es) h same = absurd (cc)
none_of (x ∷ xs) es h same = absurd (cc)

one_of : (row : Row) (xs : List Row) (es : List (ℕ × Setting)) → row ∷ [] ≡ take 1 xs → map shown_setting xs ≡ map Some es → (e : ℕ × Setting) × ((rest : List (ℕ × Setting)) × (es ≡ e ∷ rest)) × (shown_setting row ≡ Some e)
one_of row [] es h same = absurd (cc)
one_of row (x ∷ xs) [] h same = absurd (cc)
one_of row (x ∷ xs) (e ∷ es) h same =
    let first : row ≡ x = cc in
    let head : shown_setting x ≡ Some e = cc in
    (e, (es, refl), ap shown_setting first ∙ head)

module _ (old new : State) (kept : Tables) (held : IsHeld old kept) where
  shown_down : (rows : List Row) → Shown last_text [] old new rows → (xs : List Row) × (rows ≡ take 1 xs) × (map shown_setting xs ≡ map Some (backward kept.settings))
  shown_down rows shown =
      let read = held.stands.settings in
      let table = kept.settings in
      let keep : ℕ × Setting → Bool = λ e. true in
      let blank : ℕ × Setting = (0, record { point = 0; words = []; state = Waiting }) in
      let alike = λ (a b : ℕ × Setting) (ka : keep a ≡ true) (kb : keep b ≡ true). sorts_down a.0 b.0 in
      let a = (reads_as last_text [] old new office_schema held.schema (Select (record { lets = []; body = last_query }) setting_names) last_is.0 last_is.2 last_is.1 rows shown).answer Null in
      let staged = picked stored_setting shown_setting keep sort blank (λ r. true) (λ r. [] ∷ r ∷ []) (output last_query) agree (old.now.trees setting_tree) table read.stored in
      let is : a.kept ≡ _ = a.distinct ∙ ap (map (output last_query)) a.grouped in
      let done = answers stored_setting shown_setting keep sort blank (down nat_cmp) (down_total nat_cmp nat_cmp_total exact_unsigned) (down_exact nat_cmp nat_cmp_total exact_unsigned) last_query alike table (backward table) _ a.ordered (sorted_backward nat_cmp nat_cmp_total table read.sorted) (backward_same table) staged (subst (λ k. IsPermutation k a.ordered) is a.same) a.sorted in
      (map (λ (o : Output). o.1) a.ordered, a.shown, done ∙ ap (map Some) (all_kept (backward table)))

  pub no_order : Shown last_text [] old new [] → 0 ≡ last_order kept.settings
  no_order shown = let it = shown_down [] shown in sym (last_none kept.settings (none_of it.0 (backward kept.settings) it.1 it.2))

  pub one_order : (row : Row) → Shown last_text [] old new (row ∷ []) → (n : ℕ) → number_of (column row 0) ≡ Some n → n ≡ last_order kept.settings
  one_order row shown n some =
      let it = shown_down (row ∷ []) shown in
      let e = one_of row it.0 (backward kept.settings) it.1 it.2 in
      let same : Int (pos n) ≡ Int (pos e.0.0) = sym (number_is (2 ^ 32) (column row 0) n some) ∙ shown_key row e.0 e.2 in
      let number : n ≡ e.0.0 = cc in
      number ∙ sym (last_first kept.settings e.1.0 e.0 e.1.1)
