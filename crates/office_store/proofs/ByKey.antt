-- What the query of the requests by their key shows.
use Rattle.std.proofs.Common.{◌≡◌, ℕ, pos, negsuc, List, [], ◌∷◌, map, Bool, true, false, ◌&&◌, None, Some, Option, refl, sym, ap, ap₂, subst, ◌∙◌, codes, option_map, if◌then◌else◌}
use Rattle.std.specs.List.{filter, list_all}
use Rattle.std.specs.List.Sorted.{IsPermutation}
use Rattle.std.specs.Ordering.{is_lt, is_eq, nat_cmp, eq_by_cmp, ordering_then}
use Rattle.std.specs.Cmp.{IsTotalOrder, tied_itself}
use Rattle.std.specs.Cmp.Lexicographic.{slice_cmp}
use Rattle.std.specs.declared.cmp.Ordering.{Ordering}
use Rattle.std.specs.declared.cmp.Ordering.TheVariants.{Less, Equal, Greater}
use Rattle.std.proofs.lemmas.Cmp.{on_total, then_total, nat_list_cmp_total}
use Rattle.std.proofs.lemmas.Map.Lookups.{exact_pairs, exact_bytes}
use Rattle.sqlite_tied.specs.Compute.{everything}
use Rattle.sqlite_value.specs.declared.value.Value.{Value}
use Rattle.sqlite_value.specs.declared.value.Value.TheVariants.{Null, Int, Text}
use Rattle.sqlite_value.specs.declared.keys.Collation.TheVariants.{Binary}
use Rattle.sqlite_value.specs.Order.{Row, column}
use Rattle.sqlite_value.proofs.OrderLemmas.{value_cmp-Text}
use Rattle.sqlite_sql.specs.declared.ops.BinaryOp.TheVariants.{Compare}
use Rattle.sqlite_sql.specs.declared.ops.CompareOp.TheVariants.{Eq}
use Rattle.sqlite_sql.specs.Term.{lit, col, op2, holds}
use Rattle.sqlite_sql.specs.Ops.{binary, is_true, test}
use Rattle.sqlite_sql.specs.Query.{Query, inner, end, output, key_cmp as sort_cmp}
use Rattle.sqlite_schema.specs.declared.command.Command.TheVariants.{Select}
use Rattle.sqlite.specs.Listing.{understood, reads_listing}
use Rattle.sqlite.specs.State.{State, Shown}
use Rattle.sqlite.proofs.Callers.{IsPlain, command_of, reads_as}
use Rattle.poll_book.specs.Callers.{is_caller, is_key}
use Rattle.poll_book.specs.declared.requests.KeptRequest.{KeptRequest}
use Rattle.poll_book.specs.declared.requests.Body.TheVariants.{List as Bytes}
use Rattle.poll_book.specs.declared.requests.Outcome.TheVariants.{Loaded}
use Rattle.poll_book.specs.Requests.{RequestKey, request_cmp, request_at}
use Rattle.poll_book.specs.Tables.{Tables}
use Rattle.office_store.specs.Schema.{office_schema, request_tree}
use Rattle.office_store.specs.Texts.{request_text}
use Rattle.office_store.specs.Rows.{stored_request, shown_request, text_that, body_of, outcome_of}
use Rattle.office_store.specs.Kept.{IsHeld}
use Rattle.office_store.proofs.Comparing.{truth_of, and_then_some, map_some}
use Rattle.office_store.proofs.Showing.{picked, answers}
use Rattle.office_store.proofs.Sorted.{eq_is, flips, finds_none, finds_first}

abbrev request_query : Query
request_query = record {
  from = inner 7 end;
  filter = op2 (Compare Eq Binary) (col 1 1) (col 0 0) ∷ op2 (Compare Eq Binary) (col 1 2) (col 0 1) ∷ [];
  group = None;
  project = col 1 1 ∷ col 1 2 ∷ col 1 3 ∷ col 1 4 ∷ col 1 5 ∷ col 1 6 ∷ col 1 7 ∷ col 1 8 ∷ [];
  distinct = false;
  collations = [];
  order = [];
  limit = lit (Int (negsuc 0));
  offset = lit (Int (pos 0));
}

abbrev request_names : List (List ℕ)
request_names = codes "caller" ∷ codes "rkey" ∷ codes "kind" ∷ codes "body" ∷ codes "answer" ∷ codes "a" ∷ codes "b" ∷ codes "c" ∷ []

request_is : (command_of (understood office_schema request_text) ≡ Select (record { lets = []; body = request_query }) request_names) × (reads_listing office_schema request_text ≡ false) × IsPlain (understood office_schema request_text)
unfolding understood everything
request_is = (refl, refl, (refl, refl))

pub requests_total : IsTotalOrder request_cmp
requests_total = then_total (on_total (λ (k : RequestKey). k.0) nat_list_cmp_total) (on_total (λ (k : RequestKey). k.1) nat_list_cmp_total)

pub requests_exact : (x y : RequestKey) → request_cmp x y ≡ Equal → x ≡ y
requests_exact = exact_pairs (slice_cmp nat_cmp) (slice_cmp nat_cmp) exact_bytes exact_bytes

text_is : (test : List ℕ → Bool) (v : Value) (t : List ℕ) → text_that test v ≡ Some t → v ≡ Text t
text_is test (Text s) t h = elim (test s) as (λ b. (if b then Some s else None) ≡ Some t → Text s ≡ Text t) [ true ↦ λ e. cc | false ↦ λ e. absurd (cc) ] h
text_is test _ t h = absurd (cc)

-- the key of a request stands in its columns
pub request_columns : (r : Row) (e : RequestKey × KeptRequest) → stored_request r ≡ Some e → (column r 1 ≡ Text e.0.0) × (column r 2 ≡ Text e.0.1)
request_columns r e h =
    let c = and_then_some _ (text_that is_caller (column r 1)) _ h in
    let k = and_then_some _ (text_that is_key (column r 2)) _ c.2 in
    let b = and_then_some _ (body_of (column r 3) (column r 4)) _ k.2 in
    let o = map_some _ (outcome_of (column r 5) (column r 6) (column r 7) (column r 8)) _ b.2 in
    (text_is is_caller (column r 1) e.0.0 (c.1 ∙ ap (λ (x : RequestKey × KeptRequest). Some x.0.0) o.2), text_is is_key (column r 2) e.0.1 (k.1 ∙ ap (λ (x : RequestKey × KeptRequest). Some x.0.1) o.2))

test_eq : (o : Ordering) → test Eq o ≡ is_eq o
test_eq Less = refl
test_eq Equal = refl
test_eq Greater = refl

texts : (a b : List ℕ) → is_true (binary (Compare Eq Binary) (Text a) (Text b)) ≡ eq_by_cmp (slice_cmp nat_cmp) a b
unfolding binary
texts a b = rw (value_cmp-Text a b) (truth_of (test Eq (slice_cmp nat_cmp a b)) ∙ test_eq (slice_cmp nat_cmp a b))

both : (o p : Ordering) → (is_eq o && (is_eq p && true)) ≡ is_eq (ordering_then o p)
both Less p = refl
both Greater p = refl
both Equal Less = refl
both Equal Equal = refl
both Equal Greater = refl

module _ (caller key : List ℕ) where
  abbrev pub given : Row
  given = Text caller ∷ Text key ∷ []

  abbrev keep : RequestKey × KeptRequest → Bool
  keep e = eq_by_cmp request_cmp (caller, key) e.0

  abbrev sort : RequestKey × KeptRequest → Row
  sort e = []

  abbrev blank : RequestKey × KeptRequest
  blank = (([], []), record { body = Bytes []; outcome = Loaded 0 })

  agree : (r : Row) (e : RequestKey × KeptRequest) → stored_request r ≡ Some e
      → (list_all (holds (given ∷ r ∷ [])) request_query.filter ≡ keep e) × (shown_request (output request_query (given ∷ r ∷ [])).1 ≡ Some e) × ((output request_query (given ∷ r ∷ [])).0 ≡ sort e)
  agree r e h =
      let it = request_columns r e h in
      let tests = λ (a b : Value). is_true (binary (Compare Eq Binary) a (Text caller)) && (is_true (binary (Compare Eq Binary) b (Text key)) && true) in
      (ap₂ tests it.0 it.1 ∙ rw (texts e.0.0 caller, texts e.0.1 key) (both (slice_cmp nat_cmp e.0.0 caller) (slice_cmp nat_cmp e.0.1 key)) ∙ flips request_cmp requests_total e.0 (caller, key), h, refl)

  itself : (e : RequestKey × KeptRequest) → keep e ≡ true → (caller, key) ≡ e.0
  itself e h = requests_exact (caller, key) e.0 (eq_is (request_cmp (caller, key) e.0) h)

  alike : (a b : RequestKey × KeptRequest) → keep a ≡ true → keep b ≡ true → is_lt (sort_cmp 0 [] (sort a) (sort b)) ≡ is_lt (request_cmp a.0 b.0)
  alike a b ka kb = sym (ap is_lt (ap₂ request_cmp (sym (itself a ka)) (sym (itself b kb)) ∙ tied_itself requests_total (caller, key)))

  shows_request : (old new : State) (kept : Tables) (held : IsHeld old kept) (rows : List Row) → Shown request_text given old new rows → map shown_request rows ≡ map Some (filter keep kept.requests)
  shows_request old new kept held rows shown =
      let read = held.stands.requests in
      let a = (reads_as request_text given old new office_schema held.schema (Select (record { lets = []; body = request_query }) request_names) request_is.0 request_is.2 request_is.1 rows shown).answer Null in
      let staged = picked stored_request shown_request keep sort blank (λ r. list_all (holds (given ∷ r ∷ [])) request_query.filter) (λ r. given ∷ r ∷ []) (output request_query) agree (old.now.trees request_tree) read.entries read.stored in
      let is : a.kept ≡ _ = a.distinct ∙ ap (map (output request_query)) a.grouped in
      let done = answers stored_request shown_request keep sort blank request_cmp requests_total requests_exact request_query alike read.entries kept.requests _ a.ordered read.sorted read.same staged (subst (λ k. IsPermutation k a.ordered) is a.same) a.sorted in
      ap (map shown_request) a.shown ∙ done

  pub no_request : (old new : State) (kept : Tables) (held : IsHeld old kept) → Shown request_text given old new [] → None ≡ request_at kept.requests (caller, key)
  no_request old new kept held shown = sym (finds_none request_cmp (caller, key) keep (λ e. refl) kept.requests (empty (filter keep kept.requests) (shows_request old new kept held [] shown)))
    where
      empty : (xs : List (RequestKey × KeptRequest)) → ◌≡◌ {A = List (Option (RequestKey × KeptRequest))} [] (map Some xs) → xs ≡ []
      empty [] h = refl
      empty (x ∷ xs) h = absurd (cc)

  pub one_request : (old new : State) (kept : Tables) (held : IsHeld old kept) (row : Row) (more : List Row) → Shown request_text given old new (row ∷ more)
      → (found : RequestKey × KeptRequest) → shown_request row ≡ Some found → Some found.1 ≡ request_at kept.requests (caller, key)
  one_request old new kept held row more shown found is =
      let it = first (filter keep kept.requests) (shows_request old new kept held (row ∷ more) shown) in
      let same : ◌≡◌ {A = Option (RequestKey × KeptRequest)} (Some found) (Some it.0) = sym is ∙ it.2 in
      ap (option_map (λ (e : RequestKey × KeptRequest). e.1)) same ∙ sym (finds_first request_cmp (caller, key) keep (λ e. refl) kept.requests it.1.0 it.0 it.1.1)
    where
      first : (xs : List (RequestKey × KeptRequest)) → map shown_request (row ∷ more) ≡ map Some xs → (e : RequestKey × KeptRequest) × ((rest : List (RequestKey × KeptRequest)) × (xs ≡ e ∷ rest)) × (shown_request row ≡ Some e)
      first [] h = absurd (cc)
      first (x ∷ xs) h = let head : shown_request row ≡ Some x = cc in (x, (xs, refl), head)
