-- Requests under keys that were used, and under new ones.
use Rattle.std.proofs.Common.{◌≡◌, ℕ, ℤ, Bool, true, false, cond, List, [], ◌∷◌, ◌++◌, length, Some, None, refl, sym, ap, ◌∙◌, subst}
use Rattle.std.specs.Prelude.{is_some, ◌||◌}
use Rattle.std.specs.Cmp.{IsTotalOrder, tied_itself}
use Rattle.std.specs.Cmp.Lexicographic.{slice_cmp, nat_list_cmp_total}
use Rattle.std.specs.Ordering.{eq_by_cmp, is_eq, nat_cmp}
use Rattle.std.specs.Str.{bytes_eq}
use Rattle.std.specs.FinMap.Entries as rows
use Rattle.std.proofs.lemmas.Bool.{and_parts, and_from}
use Rattle.std.proofs.lemmas.Cmp.{on_total, then_total}
use Rattle.std.proofs.lemmas.Map.Lookups.{CmpEqualImpliesEq, exact_pairs, exact_bytes}
use Rattle.std.proofs.lemmas.Map.Views.{tells_apart}
use Rattle.std.proofs.lemmas.Slice.Eq.{bytes_eq-Decides}
use Rattle.point_list.specs.Edition.{Edition, Second}
use Rattle.point_list.specs.declared.site.Site.{Site}
use Rattle.poll_match.specs.Window.{Open as OpenOne, held}
use Rattle.poll_book.specs.declared.rows.PointRow.{PointRow}
use Rattle.poll_book.specs.declared.requests.Body.{Body}
use Rattle.poll_book.specs.declared.requests.Body.TheVariants as body
use Rattle.poll_book.specs.declared.requests.Outcome.{Outcome}
use Rattle.poll_book.specs.declared.requests.KeptRequest.{KeptRequest}
use Rattle.poll_book.specs.Requests.{RequestKey, Requests, request_cmp, request_at, with_request}
use Rattle.poll_book.specs.Tables.{Tables, marked}
use Rattle.poll_book.specs.Totals.{totals_of}
use Rattle.office_core.specs.declared.event.RequestAnswer.{RequestAnswer}
use Rattle.office_core.specs.declared.event.RequestAnswer.TheVariants.{Kept}
use Rattle.office_core.specs.declared.event.EventAnswer.TheVariants as answer
use Rattle.office_core.specs.Loads.{loading, outcome, added}
use Rattle.office_core.specs.Orders.{with_ordered}
use Rattle.office_core.specs.Voids.{with_voiding}
use Rattle.office_core.specs.History.{Happening, Restart, Load, Order, Void, Open, Ask, Send, Reply, Noise, History, tables, points, site_of, settings, requests, kept_readings, readings, connections, voiding, voids, is_same_key, is_used, outcome_of, ordering, first_asked}
use Rattle.office_core.specs.Answers.{answer_again, answer_of}
use Rattle.office_core.specs.Standing.{StandsFor, open_of}
use Rattle.office_core.proofs.Queries.{still_open}

-- ---- keys

pub requests_total : IsTotalOrder request_cmp
requests_total = then_total (on_total (λ (k : RequestKey). k.0) nat_list_cmp_total) (on_total (λ (k : RequestKey). k.1) nat_list_cmp_total)

pub exact_requests : CmpEqualImpliesEq request_cmp
exact_requests = exact_pairs (slice_cmp nat_cmp) (slice_cmp nat_cmp) exact_bytes exact_bytes

pub tied_key : (a : RequestKey) → eq_by_cmp request_cmp a a ≡ true
tied_key a = ap is_eq (tied_itself requests_total a)

pub equal_key : (a b : RequestKey) → is_same_key a b ≡ true → a ≡ b
equal_key a b e =
    let p = and_parts (bytes_eq a.0 b.0) (bytes_eq a.1 b.1) e in
    λ i. ((bytes_eq-Decides a.0 b.0).0 p.0 i, (bytes_eq-Decides a.1 b.1).0 p.1 i)

pub own_key : (a : RequestKey) → is_same_key a a ≡ true
own_key a = and_from (bytes_eq a.0 a.0) (bytes_eq a.1 a.1) ((bytes_eq-Decides a.0 a.0).1 refl) ((bytes_eq-Decides a.1 a.1).1 refl)

-- what is found under a key after a row was put under another or the same
at_with : (key k : RequestKey) (now : KeptRequest) (table : Requests)
    → is_some (request_at (with_request k now table) key) ≡ (is_same_key k key || is_some (request_at table key))
at_with key k now table = ap is_some (rows.find-put request_cmp requests_total key k now table) ∙ by (is_same_key k key) refl (eq_by_cmp request_cmp key k) refl
  where
    by : (a : Bool) → is_same_key k key ≡ a → (b : Bool) → eq_by_cmp request_cmp key k ≡ b
        → is_some (cond (eq_by_cmp request_cmp key k) (Some now) (request_at table key)) ≡ (is_same_key k key || is_some (request_at table key))
    by true same b is = ap (λ x. is_some (cond x (Some now) (request_at table key))) (subst (λ q. eq_by_cmp request_cmp key q ≡ true) (sym (equal_key k key same)) (tied_key key)) ∙ sym (ap (λ x. x || is_some (request_at table key)) same)
    by false other true is =
        let e : false ≡ true = sym other ∙ ap (λ q. is_same_key q key) (sym (tells_apart exact_requests key k is)) ∙ own_key key in absurd (cc)
    by false other false is = ap (λ x. is_some (cond x (Some now) (request_at table key))) is ∙ sym (ap (λ x. x || is_some (request_at table key)) other)

used_more : (before : History) (k : RequestKey) (edition : Edition) (key : RequestKey) (now : Body) → is_used before key ≡ is_some (request_at (requests before) key)
    → (is_same_key k key || is_used before key) ≡ is_some (request_at (first_asked before k edition now (requests before)) key)
used_more before k edition key now earlier = by (is_used before k) refl
  where
    new : KeptRequest
    new = record { body = now; outcome = outcome_of before edition now }

    same : (s : Bool) → is_same_key k key ≡ s → is_used before k ≡ true → (s || is_used before key) ≡ is_used before key
    same true e used = sym (ap (is_used before) (sym (equal_key k key e)) ∙ used)
    same false e used = refl

    by : (b : Bool) → is_used before k ≡ b
        → (is_same_key k key || is_used before key) ≡ is_some (request_at (cond (is_used before k) (requests before) (with_request k new (requests before))) key)
    by true used =
        same (is_same_key k key) refl used ∙ earlier
        ∙ sym (ap (λ b. is_some (request_at (cond b (requests before) (with_request k new (requests before))) key)) used)
    by false unused =
        ap (λ b. is_same_key k key || b) earlier ∙ sym (at_with key k new (requests before))
        ∙ sym (ap (λ b. is_some (request_at (cond b (requests before) (with_request k new (requests before))) key)) unused)

-- a key was used exactly where a request is kept under it
pub used_is : (before : History) (key : RequestKey) → is_used before key ≡ is_some (request_at (requests before) key)
used_is [] key = refl
used_is (Restart site ∷ before) key = used_is before key
used_is (Open line ∷ before) key = used_is before key
used_is (Ask c device slot read ∷ before) key = used_is before key
used_is (Send c number ∷ before) key = used_is before key
used_is (Reply c n unit ∷ before) key = used_is before key
used_is (Noise c frame ∷ before) key = used_is before key
used_is (Load edition caller word list ∷ before) key = used_more before (caller, word) edition key (body.List list) (used_is before key)
used_is (Order caller word point value ∷ before) key = used_more before (caller, word) Second key (body.Order point value) (used_is before key)
used_is (Void caller word point slot ∷ before) key = used_more before (caller, word) Second key (body.Void point slot) (used_is before key)

-- ---- what a request does to an office that stands for a history

-- what happens where a caller asks for this under a key
abbrev pub asking : RequestKey → Body → Happening
asking key (body.List list) = Load Second key.0 key.1 list
asking key (body.Order point value) = Order key.0 key.1 point value
asking key (body.Void point slot) = Void key.0 key.1 point slot

-- a request under a key that was used changes nothing
points_again : (before : History) (key : RequestKey) (now : Body) → is_used before key ≡ true → points (asking key now ∷ before) ≡ points before
points_again before key (body.List list) used =
    ap (λ b. cond b (points before) (points before ++ added (length (points before)) (loading Second (site_of before) (points before) list))) used
points_again before key (body.Order point value) used = refl
points_again before key (body.Void point slot) used = refl

settings_again : (before : History) (key : RequestKey) (now : Body) → is_used before key ≡ true → settings (asking key now ∷ before) ≡ settings before
settings_again before key (body.List list) used = refl
settings_again before key (body.Void point slot) used = refl
settings_again before key (body.Order point value) used =
    ap (λ b. cond b (settings before) (with_ordered (ordering before point value) (settings before))) used

requests_again : (before : History) (key : RequestKey) (now : Body) → is_used before key ≡ true → requests (asking key now ∷ before) ≡ requests before
requests_again before key (body.List list) used = ap (λ b. cond b (requests before) (with_request key (record { body = body.List list; outcome = outcome_of before Second (body.List list) }) (requests before))) used
requests_again before key (body.Order point value) used =
    ap (λ b. cond b (requests before) (with_request key (record { body = body.Order point value; outcome = outcome_of before Second (body.Order point value) }) (requests before))) used
requests_again before key (body.Void point slot) used =
    ap (λ b. cond b (requests before) (with_request key (record { body = body.Void point slot; outcome = outcome_of before Second (body.Void point slot) }) (requests before))) used

readings_again : (before : History) (key : RequestKey) (now : Body) → readings (asking key now ∷ before) ≡ readings before
readings_again before key (body.List list) = refl
readings_again before key (body.Order point value) = refl
readings_again before key (body.Void point slot) = refl

voids_again : (before : History) (key : RequestKey) (now : Body) → is_used before key ≡ true → voids (asking key now ∷ before) ≡ voids before
voids_again before key (body.List list) used = refl
voids_again before key (body.Order point value) used = refl
voids_again before key (body.Void point slot) used = ap (λ b. cond b (voids before) (with_voiding slot (voiding before point slot) (voids before))) used

connections_again : (before : History) (key : RequestKey) (now : Body) → connections (asking key now ∷ before) ≡ connections before
connections_again before key (body.List list) = refl
connections_again before key (body.Order point value) = refl
connections_again before key (body.Void point slot) = refl

tables_again : (before : History) (key : RequestKey) (now : Body) → is_used before key ≡ true → tables (asking key now ∷ before) ≡ tables before
tables_again before key now used = λ i. record {
  points = points_again before key now used i;
  readings = marked (voids_again before key now used i) (readings_again before key now i);
  voids = voids_again before key now used i;
  totals = totals_of (points_again before key now used i) (marked (voids_again before key now used i) (readings_again before key now i));
  settings = settings_again before key now used i;
  requests = requests_again before key now used i;
  connections = connections_again before key now i;
}

-- a list under a new key
pub tables_loaded : (before : History) (key : RequestKey) (list : List ℕ) → is_used before key ≡ false
    → tables (asking key (body.List list) ∷ before) ≡ record (tables before) {
      points = points before ++ added (length (points before)) (loading Second (site_of before) (points before) list);
      totals = totals_of (points before ++ added (length (points before)) (loading Second (site_of before) (points before) list)) (kept_readings before);
      requests = with_request key (record { body = body.List list; outcome = outcome (loading Second (site_of before) (points before) list) }) (requests before);
    }
tables_loaded before key list unused = λ i. record (tables before) {
  points = cond (unused i) (points before) (points before ++ added (length (points before)) (loading Second (site_of before) (points before) list));
  totals = totals_of (cond (unused i) (points before) (points before ++ added (length (points before)) (loading Second (site_of before) (points before) list))) (kept_readings before);
  requests = cond (unused i) (requests before) (with_request key (record { body = body.List list; outcome = outcome (loading Second (site_of before) (points before) list) }) (requests before));
}

-- a slot that is voided under a new key
pub tables_voided : (before : History) (key : RequestKey) (point : List ℕ) (slot : ℕ) → is_used before key ≡ false
    → tables (asking key (body.Void point slot) ∷ before) ≡ record (tables before) {
      readings = marked (with_voiding slot (voiding before point slot) (voids before)) (readings before);
      voids = with_voiding slot (voiding before point slot) (voids before);
      totals = totals_of (points before) (marked (with_voiding slot (voiding before point slot) (voids before)) (readings before));
      requests = with_request key (record { body = body.Void point slot; outcome = outcome_of before Second (body.Void point slot) }) (requests before);
    }
tables_voided before key point slot unused = λ i. record (tables before) {
  readings = marked (cond (unused i) (voids before) (with_voiding slot (voiding before point slot) (voids before))) (readings before);
  voids = cond (unused i) (voids before) (with_voiding slot (voiding before point slot) (voids before));
  totals = totals_of (points before) (marked (cond (unused i) (voids before) (with_voiding slot (voiding before point slot) (voids before))) (readings before));
  requests = cond (unused i) (requests before) (with_request key (record { body = body.Void point slot; outcome = outcome_of before Second (body.Void point slot) }) (requests before));
}

-- an order under a new key
pub tables_ordered : (before : History) (key : RequestKey) (point : List ℕ) (value : ℤ) → is_used before key ≡ false
    → tables (asking key (body.Order point value) ∷ before) ≡ record (tables before) {
      settings = with_ordered (ordering before point value) (settings before);
      requests = with_request key (record { body = body.Order point value; outcome = outcome_of before Second (body.Order point value) }) (requests before);
    }
tables_ordered before key point value unused = λ i. record (tables before) {
  settings = cond (unused i) (settings before) (with_ordered (ordering before point value) (settings before));
  requests = cond (unused i) (requests before) (with_request key (record { body = body.Order point value; outcome = outcome_of before Second (body.Order point value) }) (requests before));
}

answered_as : (before : History) (key : RequestKey) (now : Body) → answer_of before (asking key now) ≡ answer.Request (answer_again (request_at (requests before) key) now (outcome_of before Second now))
answered_as before key (body.List list) = refl
answered_as before key (body.Order point value) = refl
answered_as before key (body.Void point slot) = refl

module _ (holds : Tables → Type 0) (now : Site) (known : List PointRow) (all : List OpenOne) (before : History) (stands : StandsFor holds now known all before) where
  opened_still : (key : RequestKey) (asked : Body) (conn : ℕ) → held conn all ≡ open_of (asking key asked ∷ before) conn
  opened_still key (body.List list) conn = stands.connections conn ∙ sym (still_open before (asking key (body.List list) ∷ before) conn refl refl (λ k. refl))
  opened_still key (body.Order point value) conn = stands.connections conn ∙ sym (still_open before (asking key (body.Order point value) ∷ before) conn refl refl (λ k. refl))
  opened_still key (body.Void point slot) conn = stands.connections conn ∙ sym (still_open before (asking key (body.Void point slot) ∷ before) conn refl refl (λ k. refl))

  site_still : (key : RequestKey) (asked : Body) → now ≡ site_of (asking key asked ∷ before)
  site_still key (body.List list) = stands.site
  site_still key (body.Order point value) = stands.site
  site_still key (body.Void point slot) = stands.site

  -- a request whose key was used
  pub asked_again : (key : RequestKey) (asked : Body) (first : KeptRequest) → request_at (requests before) key ≡ Some first
      → (told : RequestAnswer) → ((outcome : Outcome) → told ≡ answer_again (Some first) asked outcome)
      → StandsFor holds now known all (asking key asked ∷ before) × (answer.Request told ≡ answer_of before (asking key asked))
  asked_again key asked first there told is =
      let used : is_used before key ≡ true = used_is before key ∙ ap is_some there in (
        record {
          tables = subst holds (sym (tables_again before key asked used)) stands.tables;
          site = site_still key asked;
          points = stands.points ∙ sym (points_again before key asked used);
          connections = opened_still key asked;
        },
        ap answer.Request (is (outcome_of before Second asked) ∙ ap (λ o. answer_again o asked (outcome_of before Second asked)) (sym there)) ∙ sym (answered_as before key asked),
      )

  unused_is : (key : RequestKey) → request_at (requests before) key ≡ None → is_used before key ≡ false
  unused_is key none = used_is before key ∙ ap is_some none

  told_first : (key : RequestKey) (asked : Body) → request_at (requests before) key ≡ None
      → answer.Request (Kept true (outcome_of before Second asked)) ≡ answer_of before (asking key asked)
  told_first key asked none = sym (answered_as before key asked ∙ ap (λ o. answer.Request (answer_again o asked (outcome_of before Second asked))) none)

  -- the first list under a key
  pub asked_list : (key : RequestKey) (list : List ℕ) → request_at (requests before) key ≡ None → (holds' : Tables → Type 0)
      → holds' (record (tables before) {
        points = points before ++ added (length (points before)) (loading Second (site_of before) (points before) list);
        totals = totals_of (points before ++ added (length (points before)) (loading Second (site_of before) (points before) list)) (kept_readings before);
        requests = with_request key (record { body = body.List list; outcome = outcome (loading Second (site_of before) (points before) list) }) (requests before);
      })
      → (known' : List PointRow) → known' ≡ known ++ added (length known) (loading Second now known list)
      → StandsFor holds' now known' all (asking key (body.List list) ∷ before)
      × (answer.Request (Kept true (outcome (loading Second now known list))) ≡ answer_of before (asking key (body.List list)))
  asked_list key list none holds' kept known' more =
      let unused = unused_is key none in (
        record {
          tables = subst holds' (sym (tables_loaded before key list unused)) kept;
          site = stands.site;
          points = more ∙ (λ i. stands.points i ++ added (length (stands.points i)) (loading Second (stands.site i) (stands.points i) list))
              ∙ sym (ap (λ b. cond b (points before) (points before ++ added (length (points before)) (loading Second (site_of before) (points before) list))) unused);
          connections = opened_still key (body.List list);
        },
        (λ i. answer.Request (Kept true (outcome (loading Second (stands.site i) (stands.points i) list)))) ∙ told_first key (body.List list) none,
      )

  -- the first order under a key
  pub asked_order : (key : RequestKey) (point : List ℕ) (value : ℤ) → request_at (requests before) key ≡ None → (holds' : Tables → Type 0)
      → holds' (record (tables before) {
        settings = with_ordered (ordering before point value) (settings before);
        requests = with_request key (record { body = body.Order point value; outcome = outcome_of before Second (body.Order point value) }) (requests before);
      })
      → StandsFor holds' now known all (asking key (body.Order point value) ∷ before)
      × (answer.Request (Kept true (outcome_of before Second (body.Order point value))) ≡ answer_of before (asking key (body.Order point value)))
  asked_order key point value none holds' kept = (
    record {
      tables = subst holds' (sym (tables_ordered before key point value (unused_is key none))) kept;
      site = stands.site;
      points = stands.points;
      connections = opened_still key (body.Order point value);
    },
    told_first key (body.Order point value) none,
  )

  -- the first void under a key
  pub asked_void : (key : RequestKey) (point : List ℕ) (slot : ℕ) → request_at (requests before) key ≡ None → (holds' : Tables → Type 0)
      → holds' (record (tables before) {
        readings = marked (with_voiding slot (voiding before point slot) (voids before)) (readings before);
        voids = with_voiding slot (voiding before point slot) (voids before);
        totals = totals_of (points before) (marked (with_voiding slot (voiding before point slot) (voids before)) (readings before));
        requests = with_request key (record { body = body.Void point slot; outcome = outcome_of before Second (body.Void point slot) }) (requests before);
      })
      → StandsFor holds' now known all (asking key (body.Void point slot) ∷ before)
      × (answer.Request (Kept true (outcome_of before Second (body.Void point slot))) ≡ answer_of before (asking key (body.Void point slot)))
  asked_void key point slot none holds' kept = (
    record {
      tables = subst holds' (sym (tables_voided before key point slot (unused_is key none))) kept;
      site = stands.site;
      points = stands.points;
      connections = opened_still key (body.Void point slot);
    },
    told_first key (body.Void point slot) none,
  )
