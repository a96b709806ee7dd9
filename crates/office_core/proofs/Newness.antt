-- What is written is new.
use Rattle.std.proofs.Common.{◌≡◌, ◌⊎◌, inl, inr, ℕ, ◌+◌, ◌≤◌, Bool, true, false, cond, List, [], ◌∷◌, ◌++◌, length, map, get_or, Some, None, Option, Result, Ok, Err, refl, sym, ap, ◌∙◌, arith, subst}
use Rattle.std.specs.Prelude.{filter, is_none, OnOk, OnErr, IfOk, MatchResult, is_err}
use Rattle.std.specs.Result.{IsErr}
use Rattle.std.specs.Ordering.{eq_by_cmp}
use Rattle.std.proofs.lemmas.List.{append-nil}
use Rattle.std.proofs.lemmas.Map.Views.{tells_apart}
use Rattle.std.proofs.lemmas.Option.{same_Some}
use Rattle.point_list.specs.declared.point.Point.{Point}
use Rattle.poll_book.specs.declared.rows.PointRow.{PointRow}
use Rattle.poll_book.specs.declared.rows.Reading.{Reading}
use Rattle.poll_book.specs.declared.rows.Setting.{Setting}
use Rattle.poll_book.specs.declared.rows.SettingRow.{SettingRow}
use Rattle.poll_book.specs.declared.rows.OrderState.{OrderState}
use Rattle.poll_book.specs.declared.rows.OrderState.TheVariants.{Waiting, Done, Refused}
use Rattle.poll_book.specs.declared.rows.Change.{Change}
use Rattle.poll_book.specs.declared.requests.RequestRow.{RequestRow}
use Rattle.poll_book.specs.Orders.{Settings, is_waiting, last_order, setting_at, with_setting}
use Rattle.poll_book.specs.Requests.{request_at, with_request}
use Rattle.poll_book.specs.Tables.{Tables, Within, Key, key_cmp, Readings, marked, reading_at, new_rows, sum_at, with_rows, with_sums}
use Rattle.poll_book.specs.Totals.{totals_of}
use Rattle.poll_book.specs.Changes.{applied, HaveTotals, as_rows, as_sums, counters, keyed, new_sums, with_order, AreNumbered, HasWords, KeepWords, AreThere, IsNew, IsNextOrSettled, IsNextOrSettledAs}
use Rattle.poll_book.proofs.Tabled.{exact_keys}
use Rattle.office_core.specs.Leavings.{LeftAfter}
use Rattle.office_core.specs.Loads.{numbered_on}
use Rattle.office_core.specs.Orders.{Ordering, Refused as NoOrder, Taken as ATaken, ordering_row, settle, settle_at, waiting_at, with_ordered}
use Rattle.office_core.specs.Keeping.{AreCovered, IsCounted, Rises, asked_change, no_change, with_given, with_readings, with_state}
use Rattle.office_core.proofs.Marks.{marked_rise}
use Rattle.office_core.proofs.Totalled.{loaded_sums, recorded_sums, stored_sum, sum_numbers, sums_there}

-- ---- points

pub numbered-append : (n m : ℕ) (xs ys : List PointRow) → m ≡ n + length xs → AreNumbered n xs → AreNumbered m ys → AreNumbered n (xs ++ ys)
numbered-append n m [] ys next first rest = subst (λ k. AreNumbered k ys) (omega arith) rest
numbered-append n m (x ∷ xs) ys next first rest = (first.0, numbered-append (n + 1) m xs ys (omega arith) first.1 rest)

pub numbered_so : (n : ℕ) (points : List Point) → AreNumbered n (numbered_on n points)
numbered_so n [] = tt
numbered_so n (point ∷ points) = (refl, numbered_so (n + 1) points)

-- ---- readings

pub rises_from : (m n : ℕ) (rows : Readings) → m ≤ n → Rises n rows → Rises m rows
rises_from m n [] le r = tt
rises_from m n (row ∷ rest) le r = let low = r.0 in (omega arith, r.1)

rises-filter : (p : Key × Reading → Bool) (n : ℕ) (rows : Readings) → Rises n rows → Rises n (filter p rows)
rises-filter p n [] r = tt
rises-filter p n (row ∷ rest) r = by (p row) (rises-filter p row.0.0 rest r.1)
  where
    by : (b : Bool) → Rises row.0.0 (filter p rest) → Rises n (cond b (row ∷ filter p rest) (filter p rest))
    by true s = (r.0, s)
    by false s = let low = r.0 in rises_from n row.0.0 (filter p rest) (omega arith) s

rises_past : (key : Key) (rows : Readings) → Rises key.0 rows → reading_at rows key ≡ None
rises_past key [] r = refl
rises_past key (row ∷ rest) r =
    let low = r.0 in
    by (eq_by_cmp key_cmp key row.0) refl (rises_past key rest (rises_from key.0 row.0.0 rest (omega arith) r.1))
  where
    by : (b : Bool) → eq_by_cmp key_cmp key row.0 ≡ b → reading_at rest key ≡ None → cond b (Some row.1) (reading_at rest key) ≡ None
    by true tied none = let same : key.0 ≡ row.0.0 = ap (λ (k : Key). k.0) (tells_apart exact_keys key row.0 tied) in let low = r.0 in absurd (omega arith)
    by false tied none = none

none_is : {T : Type 0} (o : Option T) → is_none o ≡ true → o ≡ None
none_is None e = refl
none_is (Some x) e = absurd (cc)

-- of rows with rising points those that a table lacks change nothing of it
pub rises_new : (table : Readings) (n : ℕ) (given : Readings) → Rises n given → KeepWords table (new_rows table given)
rises_new table n [] r = tt
rises_new table n (row ∷ rest) r = by (is_none (reading_at table row.0)) refl (rises_new table row.0.0 rest r.1)
  where
    by : (b : Bool) → is_none (reading_at table row.0) ≡ b → KeepWords table (new_rows table rest) → KeepWords table (cond b (row ∷ new_rows table rest) (new_rows table rest))
    by true e fresh = (
      subst (HasWords row.1.words) (sym (none_is (reading_at table row.0) e)) tt,
      rises_past row.0 (new_rows table rest) (rises-filter (λ x. is_none (reading_at table x.0)) row.0.0 rest r.1),
      fresh,
    )
    by false e fresh = fresh

-- ---- changes

pub still_numbered : (kept : Tables) → IsCounted kept → AreNumbered 0 (kept.points ++ [])
still_numbered kept counted = subst (AreNumbered 0) (sym (append-nil kept.points)) counted.points

-- what is stored is of the counters
pub of_counters : (kept : Tables) → IsCounted kept → map (λ row. row.0) kept.totals ≡ counters kept.points
of_counters kept counted = ap (map (λ (row : ℕ × ℕ). row.0)) counted.totals ∙ sum_numbers kept.points kept.readings

-- the change of a reply
pub record IsReplied (change : Change) (kept : Tables) (slot : ℕ) (covered : List (PointRow × List ℕ)) : Type 0 where
  pub alone : change ≡ record { points = []; readings = change.readings; totals = change.totals; void = None; setting = None; request = None; connections = None }
  pub readings : as_rows change.readings ≡ new_rows kept.readings (marked kept.voids (keyed slot covered))
  pub totals : as_sums change.totals ≡ new_sums kept.voids kept.readings slot covered

pub new_replied : (change : Change) (kept : Tables) (slot : ℕ) (covered : List (PointRow × List ℕ)) → IsReplied change kept slot covered → IsCounted kept
    → AreCovered kept.points slot covered → IsNew change kept
new_replied change kept slot covered is counted are = subst (λ x. IsNew x kept) (sym is.alone) (record {
  points = still_numbered kept counted;
  readings = subst (KeepWords kept.readings) (sym is.readings) (rises_new kept.readings 0 (marked kept.voids (keyed slot covered)) (marked_rise kept.voids 0 (keyed slot covered) are.rise));
  void = tt;
  totals = of_counters kept counted;
  sums = subst (AreThere kept.totals) (sym is.totals)
      (subst (λ t. AreThere t (new_sums kept.voids kept.readings slot covered)) (sym counted.totals) (sums_there kept.points kept.voids kept.readings slot covered counted.points are.known));
  setting = tt;
  request = tt;
})

pub applied_replied : (change : Change) (kept : Tables) (slot : ℕ) (covered : List (PointRow × List ℕ)) → IsReplied change kept slot covered → IsCounted kept
    → AreCovered kept.points slot covered → applied change kept ≡ with_given (keyed slot covered) kept
applied_replied change kept slot covered is counted are =
    let totals : with_sums (as_sums change.totals) kept.totals ≡ totals_of kept.points (with_rows (new_rows kept.readings (marked kept.voids (keyed slot covered))) kept.readings) =
    (λ i. with_sums (is.totals i) (counted.totals i)) ∙ recorded_sums kept.points kept.voids kept.readings slot covered counted.points counted.by_key are in
    ap (λ x. applied x kept) is.alone
    ∙ (λ i. record kept { points = append-nil kept.points i; readings = with_rows (is.readings i) kept.readings; totals = totals i })

-- what is stored of each covered counter is its total
pub totals_had : (kept : Tables) (slot : ℕ) (covered : List (PointRow × List ℕ)) → IsCounted kept → AreCovered kept.points slot covered → HaveTotals kept covered
totals_had kept slot covered counted are k d lt counts =
    let known = (get_or covered k d).0 in
    ap (λ t. sum_at t known.number) counted.totals ∙ stored_sum kept.points kept.readings known counted.points (are.known k d lt) counts

-- a reply that brings no reading leaves the tables
pub none_given : (kept : Tables) (rows : Readings) → IsCounted kept → new_rows kept.readings (marked kept.voids rows) ≡ [] → with_given rows kept ≡ kept
none_given kept rows counted none =
    ap (λ l. with_readings (with_rows l kept.readings) kept) none ∙ (λ i. record kept { totals = sym counted.totals i })

-- a change that only counts a connection
pub new_connection : (n : ℕ) (kept : Tables) → IsCounted kept → IsNew (record no_change { connections = Some n }) kept
new_connection n kept counted = record { points = still_numbered kept counted; readings = tt; void = tt; totals = of_counters kept counted; sums = tt; setting = tt; request = tt }

pub applied_connection : (n : ℕ) (kept : Tables) → applied (record no_change { connections = Some n }) kept ≡ record kept { connections = n }
applied_connection n kept = λ i. record kept { points = append-nil kept.points i; connections = n }

-- a change that only settles an order which waits
abbrev pub settling : ℕ → Setting → OrderState → Change
settling order setting state = record no_change { setting = Some (record { number = order; point = setting.point; words = setting.words; state = state }) }

waits_as : (state : OrderState) → is_waiting state ≡ true → state ≡ Waiting
waits_as Waiting e = refl
waits_as Done e = absurd (cc)
waits_as (Refused code) e = absurd (cc)

pub new_state : (order : ℕ) (setting : Setting) (state : OrderState) (kept : Tables) → setting_at kept.settings order ≡ Some setting → is_waiting setting.state ≡ true
    → is_waiting state ≡ false → IsCounted kept → IsNew (settling order setting state) kept
new_state order setting state kept there waits settled counted = record {
  points = still_numbered kept counted;
  readings = tt;
  void = tt;
  totals = of_counters kept counted;
  sums = tt;
  setting = by (is_waiting state) settled;
  request = tt;
}
  where
    by : (b : Bool) → b ≡ false → IsNextOrSettledAs b kept.settings (record { number = order; point = setting.point; words = setting.words; state = state })
    by true e = absurd (cc)
    by false e = there ∙ ap (λ (s : OrderState). Some (record setting { state = s })) (waits_as setting.state waits)

pub applied_state : (order : ℕ) (setting : Setting) (state : OrderState) (kept : Tables) → setting_at kept.settings order ≡ Some setting → is_waiting setting.state ≡ true
    → applied (settling order setting state) kept ≡ with_state order (Some state) kept
applied_state order setting state kept there waits =
    let put = with_setting order (record setting { state = state }) kept.settings in
    let settled : settle order (Some state) kept.settings ≡ put =
    ap (λ o. settle_at order state o kept.settings) there ∙ ap (λ b. cond b put kept.settings) waits in
    λ i. record kept { points = append-nil kept.points i; settings = sym settled i }

-- an order that doesn't wait, or isn't there, isn't settled
pub settled_not : (order : ℕ) (state : OrderState) (table : Settings) → waiting_at (setting_at table order) ≡ None → settle order (Some state) table ≡ table
settled_not order state table none = by (setting_at table order) none
  where
    by_wait : (setting : Setting) (b : Bool) → cond b (Some setting) None ≡ None → cond b (with_setting order (record setting { state = state }) table) table ≡ table
    by_wait setting true e = absurd (cc)
    by_wait setting false e = refl

    by : (o : Option Setting) → waiting_at o ≡ None → settle_at order state o table ≡ table
    by None e = refl
    by (Some setting) e = by_wait setting (is_waiting setting.state) e

-- and one that waits is there
pub waiting_there : (o : Option Setting) (setting : Setting) → Some setting ≡ waiting_at o → (o ≡ Some setting) × (is_waiting setting.state ≡ true)
waiting_there None setting e = absurd (cc)
waiting_there (Some found) setting e = by (is_waiting found.state) refl e
  where
    by : (b : Bool) → is_waiting found.state ≡ b → Some setting ≡ cond b (Some found) None → (Some found ≡ Some setting) × (is_waiting setting.state ≡ true)
    by true waits e = (sym e, ap (λ (s : Setting). is_waiting s.state) (same_Some setting found e) ∙ waits)
    by false waits e = absurd (cc)

-- a change that keeps a request under a key that wasn't used, with points or a setting
new_request : (points : List PointRow) (setting : Option SettingRow) (request : RequestRow) (kept : Tables) → IsCounted kept → AreNumbered (length kept.points) points
    → IsNextOrSettled kept.settings setting → request_at kept.requests (request.caller, request.key) ≡ None → IsNew (asked_change points setting request) kept
new_request points setting request kept counted numbered next unused = record {
  points = numbered-append 0 (length kept.points) kept.points points (omega arith) counted.points numbered;
  readings = tt;
  void = tt;
  totals = of_counters kept counted;
  sums = tt;
  setting = next;
  request = unused;
}

-- the row of an order is the next one
next_order : (table : Settings) (orders : ℕ) (ordering : Ordering) → orders ≡ last_order table → IsNextOrSettled table (ordering_row orders ordering)
next_order table orders (NoOrder fault) same = tt
next_order table orders (ATaken point words) same = ap (λ n. n + 1) same

-- the change of a list
pub new_loaded : (more : List PointRow) (request : RequestRow) (change : Change) (kept : Tables) → change ≡ asked_change more None request → IsCounted kept
    → AreNumbered (length kept.points) more → request_at kept.requests (request.caller, request.key) ≡ None → IsNew change kept
new_loaded more request change kept is counted numbered unused = subst (λ x. IsNew x kept) (sym is) (new_request more None request kept counted numbered tt unused)

pub applied_loaded : (more : List PointRow) (request : RequestRow) (change : Change) (kept : Tables) → change ≡ asked_change more None request → IsCounted kept
    → AreNumbered (length kept.points) more
    → applied change kept ≡ record kept {
      points = kept.points ++ more;
      totals = totals_of (kept.points ++ more) kept.readings;
      requests = with_request (request.caller, request.key) (record { body = request.body; outcome = request.outcome }) kept.requests;
    }
applied_loaded more request change kept is counted numbered =
    let all = numbered-append 0 (length kept.points) kept.points more (omega arith) counted.points numbered in
    let totals : with_sums (totals_of more []) kept.totals ≡ totals_of (kept.points ++ more) kept.readings =
    ap (with_sums (totals_of more [])) counted.totals ∙ loaded_sums kept.points more kept.readings counted.points numbered all counted.known in
    ap (λ x. applied x kept) is ∙ (λ i. record (applied (asked_change more None request) kept) { totals = totals i })

ordered_table : (table : Settings) (ordering : Ordering) → with_order (ordering_row (last_order table) ordering) table ≡ with_ordered ordering table
ordered_table table (NoOrder fault) = refl
ordered_table table (ATaken point words) = refl

-- the change of an order
pub new_ordered : (ordering : Ordering) (request : RequestRow) (change : Change) (kept : Tables) → change ≡ asked_change [] (ordering_row (last_order kept.settings) ordering) request
    → IsCounted kept → request_at kept.requests (request.caller, request.key) ≡ None → IsNew change kept
new_ordered ordering request change kept is counted unused =
    subst (λ x. IsNew x kept) (sym is) (new_request [] (ordering_row (last_order kept.settings) ordering) request kept counted tt (next_order kept.settings (last_order kept.settings) ordering refl) unused)

pub applied_ordered : (ordering : Ordering) (request : RequestRow) (change : Change) (kept : Tables) → change ≡ asked_change [] (ordering_row (last_order kept.settings) ordering) request
    → applied change kept ≡ record kept {
      settings = with_ordered ordering kept.settings;
      requests = with_request (request.caller, request.key) (record { body = request.body; outcome = request.outcome }) kept.requests;
    }
applied_ordered ordering request change kept is =
    ap (λ x. applied x kept) is
    ∙ (λ i. record kept {
      points = append-nil kept.points i;
      settings = ordered_table kept.settings ordering i;
      requests = with_request (request.caller, request.key) (record { body = request.body; outcome = request.outcome }) kept.requests;
    })

-- ---- what a crash may leave

-- a change that was tried
pub committed : {X E : Type 0} (may may' : Tables → Type 0) (made : Tables) (told : Result X E)
    → ((left : Tables) → may' left → may left ⊎ (left ≡ made)) → OnOk told ((left : Tables) → may' left → left ≡ made)
    → (left : Tables) → may' left → MatchResult told (λ _. left ≡ made) (λ _. may left ⊎ (left ≡ made))
committed may may' made (Ok x) crash durable left m = durable left m
committed may may' made (Err x) crash durable left m = crash left m

-- as the call that tried it tells it
pub left_told : {X E : Type 0} (may : Tables → Type 0) (old new left : Tables) (told : Result X E) → MatchResult told (λ _. left ≡ new) (λ _. may left ⊎ (left ≡ new))
    → LeftAfter may old new (is_err told) left
left_told may old new left (Ok x) l = inl l
left_told may old new left (Err x) l = l

-- as a refusal that is handed on
pub left_refused : {X E : Type 0} (may : Tables → Type 0) (old new left : Tables) (told : Result X E) → IsErr told → may left ⊎ (left ≡ new) → LeftAfter may old new (is_err told) left
left_refused may old new left (Ok x) e l = absurd (cc)
left_refused may old new left (Err x) e l = l

-- after calls that only read
pub left_within : (may may' : Tables → Type 0) (old new : Tables) (refused : Bool) → Within may' may → (left : Tables) → LeftAfter may' old new refused left → LeftAfter may old new refused left
left_within may may' old new true within left (inl was) = inl (within left was)
left_within may may' old new true within left (inr made) = inr made
left_within may may' old new false within left (inl made) = inl made
left_within may may' old new false within left (inr was) = inr (was.0, within left was.1)

-- what holds of a refusal
pub on_refusal : {X E P : Type 0} (Q : X → Type 0) (told : Result X E) → IsErr told → P → MatchResult told Q (λ _. P)
on_refusal Q (Ok x) e p = absurd (cc)
on_refusal Q (Err x) e p = p

pub unmet : {X E : Type 0} (P : X → Type 0) (told : Result X E) → IsErr told → IfOk told P
unmet P (Ok x) e = absurd (cc)
unmet P (Err x) e = tt

pub on_err : {X E P : Type 0} (told : Result X E) → P → OnErr told P
on_err (Ok x) p = tt
on_err (Err x) p = p
