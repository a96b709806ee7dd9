-- What the query of the last connection's number shows.
use Rattle.std.proofs.Common.{◌≡◌, ℕ, pos, negsuc, List, [], ◌∷◌, map, Bool, true, false, ◌&&◌, ◌++◌, flat_map, if◌then◌else◌, None, Some, refl, sym, ap, subst, ◌∙◌, codes, ◌^◌}
use Rattle.std.specs.List.{list_all}
use Rattle.std.specs.List.Sorted.{IsPermutation}
use Rattle.sqlite_tied.specs.Compute.{everything}
use Rattle.sqlite_value.specs.declared.value.Value.TheVariants.{Null, Int, Text}
use Rattle.sqlite_value.specs.declared.keys.Collation.TheVariants.{Binary}
use Rattle.sqlite_value.specs.Order.{Row, column}
use Rattle.sqlite_value.proofs.OrderLemmas.{value_cmp-Text}
use Rattle.sqlite_sql.specs.declared.ops.BinaryOp.TheVariants.{Compare}
use Rattle.sqlite_sql.specs.declared.ops.CompareOp.TheVariants.{Eq}
use Rattle.sqlite_sql.specs.Term.{Env, lit, col, op2, holds}
use Rattle.sqlite_sql.specs.Ops.{binary, is_true}
use Rattle.sqlite_sql.specs.Query.{Query, inner, end, output, Output}
use Rattle.sqlite_schema.specs.declared.command.Command.TheVariants.{Select}
use Rattle.sqlite.specs.Listing.{understood, reads_listing}
use Rattle.sqlite.specs.State.{State, Shown}
use Rattle.sqlite.proofs.Callers.{IsPlain, command_of, reads_as, one_permutation}
use Rattle.poll_book.specs.Tables.{Tables}
use Rattle.office_store.specs.Schema.{office_schema}
use Rattle.office_store.specs.Texts.{connections_text}
use Rattle.office_store.specs.Rows.{number_of}
use Rattle.office_store.specs.Kept.{IsHeld}
use Rattle.office_store.proofs.Comparing.{number_is}

abbrev connections_query : Query
connections_query = record {
  from = inner 0 end;
  filter = op2 (Compare Eq Binary) (col 1 1) (lit (Text (codes "connections"))) ∷ [];
  group = None;
  project = col 1 2 ∷ [];
  distinct = false;
  collations = [];
  order = [];
  limit = lit (Int (negsuc 0));
  offset = lit (Int (pos 0));
}

connections_are : (command_of (understood office_schema connections_text) ≡ Select (record { lets = []; body = connections_query }) (codes "value" ∷ [])) × (reads_listing office_schema connections_text ≡ false) × IsPlain (understood office_schema connections_text)
unfolding understood everything
connections_are = (refl, refl, (refl, refl))

pub passes_not : is_true (binary (Compare Eq Binary) (Text (codes "version")) (Text (codes "connections"))) ≡ false
unfolding binary
passes_not = rw (value_cmp-Text (codes "version") (codes "connections")) refl

pub passes_itself : is_true (binary (Compare Eq Binary) (Text (codes "connections")) (Text (codes "connections"))) ≡ true
unfolding binary
passes_itself = rw (value_cmp-Text (codes "connections") (codes "connections")) refl

pub second_alone : {X : Type 0} (x y : X) (a b : Bool) → a ≡ false → b ≡ true → (if a then x ∷ [] else []) ++ ((if b then y ∷ [] else []) ++ []) ≡ y ∷ []
second_alone x y true b h k = absurd (cc)
second_alone x y false true h k = refl
second_alone x y false false h k = absurd (cc)

module _ (old new : State) (kept : Tables) (held : IsHeld old kept) where
  pub shows_connections : (rows : List Row) → Shown connections_text [] old new rows → rows ≡ (Int (pos kept.connections) ∷ []) ∷ []
  shows_connections rows shown =
      let r : Row = Int (pos 1) ∷ Text (codes "version") ∷ Int (pos 2) ∷ [] in
      let s : Row = Int (pos 2) ∷ Text (codes "connections") ∷ Int (pos kept.connections) ∷ [] in
      let a = (reads_as connections_text [] old new office_schema held.schema (Select (record { lets = []; body = connections_query }) (codes "value" ∷ [])) connections_are.0 connections_are.2 connections_are.1 rows shown).answer Null in
      let fails = ap (λ b. b && true) passes_not in
      let passes = ap (λ b. b && true) passes_itself in
      let all : List Row → List Env = λ rs. flat_map (λ r. if list_all (holds ([] ∷ r ∷ [])) connections_query.filter then ([] ∷ r ∷ []) ∷ [] else []) rs in
      let staged : a.staged ≡ ([] ∷ s ∷ []) ∷ [] = a.grouped ∙ ap all held.stands.numbers ∙ second_alone ([] ∷ r ∷ []) ([] ∷ s ∷ []) _ _ fails passes in
      let kept_is : a.kept ≡ output connections_query ([] ∷ s ∷ []) ∷ [] = a.distinct ∙ ap (map (output connections_query)) staged in
      let sorted = one_permutation (output connections_query ([] ∷ s ∷ [])) a.ordered (subst (λ k. IsPermutation k a.ordered) kept_is a.same) in
      a.shown ∙ ap (map (λ (o : Output). o.1)) sorted

  pub last_is : (row : Row) → Shown connections_text [] old new (row ∷ []) → (n : ℕ) → number_of (column row 0) ≡ Some n → n ≡ kept.connections
  last_is row shown n some =
      let all = shows_connections (row ∷ []) shown in
      let is : row ≡ Int (pos kept.connections) ∷ [] = cc in
      let same : Int (pos n) ≡ Int (pos kept.connections) = sym (number_is (2 ^ 32) (column row 0) n some) ∙ ap (λ (r : Row). column r 0) is in
      cc
