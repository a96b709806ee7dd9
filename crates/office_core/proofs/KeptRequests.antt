-- Rows of requests are first requests, and orders are numbered from 1 on.
use Rattle.std.proofs.Common.{◌≡◌, ◌≢◌, inl, inr, ◌<◌, ◌≤◌, ℕ, suc, ◌+◌, Bool, true, false, cond, List, [], ◌∷◌, ◌++◌, length, Option, Some, None, refl, sym, ap, ◌∙◌, subst, arith}
use Rattle.std.specs.Prelude.{is_some, ◌||◌, ⊤, slice_get}
use Rattle.std.specs.Cmp.{nat_cmp_is, unsigned_tied}
use Rattle.std.specs.Ordering.{eq_by_cmp, nat_cmp}
use Rattle.std.specs.declared.cmp.Ordering.{Ordering as Rank}
use Rattle.std.specs.declared.cmp.Ordering.TheVariants.{Less, Equal, Greater}
use Rattle.std.specs.FinMap.Entries as rows
use Rattle.std.proofs.lemmas.Bool.{eqb-true, eqb-false, cases_lt}
use Rattle.std.proofs.lemmas.Cmp.{ranked}
use Rattle.std.proofs.lemmas.Map.Views.{tells_apart}
use Rattle.std.proofs.lemmas.Option.{none-some, same_Some}
use Rattle.point_list.specs.Edition.{Edition, Second}
use Rattle.poll_book.specs.declared.requests.Body.{Body}
use Rattle.poll_book.specs.declared.requests.Body.TheVariants as body
use Rattle.poll_book.specs.declared.requests.Outcome.{Outcome}
use Rattle.poll_book.specs.declared.requests.Outcome.TheVariants.{Loaded, Ordered, Voided, RefusedFor}
use Rattle.poll_book.specs.declared.requests.KeptRequest.{KeptRequest}
use Rattle.poll_book.specs.declared.rows.OrderState.{OrderState}
use Rattle.poll_book.specs.declared.rows.OrderState.TheVariants.{Waiting}
use Rattle.poll_book.specs.declared.rows.Setting.{Setting}
use Rattle.poll_book.specs.Orders.{Settings, is_waiting, setting_at, with_setting, last_order}
use Rattle.poll_book.specs.Requests.{RequestKey, Requests, request_cmp, request_at, with_request}
use Rattle.office_core.specs.Loads.{Loading, Refused as NotLoaded, Taken as IsLoaded, loading, outcome}
use Rattle.office_core.specs.Orders.{Ordering, Refused, Taken, ordered, with_ordered, settled_by, state_by, settle, settle_at}
use Rattle.office_core.specs.Voids.{Voiding, voided, Refused as NotVoided, Taken as IsVoided}
use Rattle.office_core.specs.Queries.{Query, Reads, Writes, fits}
use Rattle.office_core.specs.History.{Happening, Restart, Load, Order, Void, Open, Ask, Send, Reply, Noise, History, site_of, points, settings, requests, asked, is_answered, is_same_key, is_used, ordering, voiding, outcome_of, first_asked}
use Rattle.office_core.specs.FirstArrivals.{Happened}
use Rattle.office_core.specs.KeptRequests.{asked_for, IsFirstRequest, OrderedUnder}
use Rattle.office_core.proofs.Kept.{requests_total, exact_requests, equal_key, own_key, tied_key, used_is}
use Rattle.office_core.proofs.Standings.{step_later, or_true}

-- ---- places in a history

-- ---- keys

-- a key is used after it was asked under
asked_used : (key : RequestKey) (edition : Edition) (now : Body) (older : History) → is_used (asked_for key edition now ∷ older) key ≡ true
asked_used key edition (body.List list) older = ap (λ b. b || is_used older key) (own_key key)
asked_used key edition (body.Order point value) older = ap (λ b. b || is_used older key) (own_key key)
asked_used key edition (body.Void point slot) older = ap (λ b. b || is_used older key) (own_key key)

used_on : (later : List Happening) (older : History) (key : RequestKey) (edition : Edition) (now : Body) → is_used (later ++ asked_for key edition now ∷ older) key ≡ true
used_on [] older key by now = asked_used key by now older
used_on (Restart site ∷ later) older key by now = used_on later older key by now
used_on (Load edition caller word list ∷ later) older key by now = or_true _ _ (used_on later older key by now)
used_on (Order caller word point value ∷ later) older key by now = or_true _ _ (used_on later older key by now)
used_on (Void caller word point slot ∷ later) older key by now = or_true _ _ (used_on later older key by now)
used_on (Open line ∷ later) older key by now = used_on later older key by now
used_on (Ask c device slot read ∷ later) older key by now = used_on later older key by now
used_on (Send c number ∷ later) older key by now = used_on later older key by now
used_on (Reply c n unit ∷ later) older key by now = used_on later older key by now
used_on (Noise c frame ∷ later) older key by now = used_on later older key by now

-- and a key that was used was asked under
record WasUsed (before : History) (key : RequestKey) : Type 0 where
  older : History
  edition : Edition
  now : Body
  came : Happened before (asked_for key edition now) older

used_later : (h : Happening) (before : History) (key : RequestKey) → WasUsed before key → WasUsed (h ∷ before) key
used_later h before key u = record { older = u.older; edition = u.edition; now = u.now; came = step_later h before (asked_for key u.edition u.now) u.older u.came }

used_first : (before : History) (k : RequestKey) (edition : Edition) (key : RequestKey) (now : Body) → (is_used before key ≡ true → WasUsed before key)
    → (is_same_key k key || is_used before key) ≡ true → WasUsed (asked_for k edition now ∷ before) key
used_first before k edition key now rest e = by (is_same_key k key) refl e
  where
    by : (b : Bool) → is_same_key k key ≡ b → (b || is_used before key) ≡ true → WasUsed (asked_for k edition now ∷ before) key
    by true same f =
        let keys = equal_key k key same in
        record { older = before; edition = edition; now = now; came = record { later = []; stands = λ i. asked_for (keys i) edition now ∷ before } }
    by false other f = used_later (asked_for k edition now) before key (rest f)

used_so : (before : History) (key : RequestKey) → is_used before key ≡ true → WasUsed before key
used_so [] key e = absurd (cc)
used_so (Restart site ∷ before) key e = used_later _ before key (used_so before key e)
used_so (Load edition caller word list ∷ before) key e = used_first before (caller, word) edition key (body.List list) (λ f. used_so before key f) e
used_so (Order caller word point value ∷ before) key e = used_first before (caller, word) Second key (body.Order point value) (λ f. used_so before key f) e
used_so (Void caller word point slot ∷ before) key e = used_first before (caller, word) Second key (body.Void point slot) (λ f. used_so before key f) e
used_so (Open line ∷ before) key e = used_later _ before key (used_so before key e)
used_so (Ask c device slot read ∷ before) key e = used_later _ before key (used_so before key e)
used_so (Send c number ∷ before) key e = used_later _ before key (used_so before key e)
used_so (Reply c n unit ∷ before) key e = used_later _ before key (used_so before key e)
used_so (Noise c frame ∷ before) key e = used_later _ before key (used_so before key e)

-- no one asked under a key that wasn't used
none_asked : (before : History) (key : RequestKey) → is_used before key ≡ false → (older : History) (edition : Edition) (now : Body) → Happened before (asked_for key edition now) older → ⊥
none_asked before key unused older edition now came =
    let yes : is_used before key ≡ true = ap (λ h. is_used h key) came.stands ∙ used_on came.later older key edition now in
    absurd (cc)

unused_so : (before : History) (key : RequestKey) → ((older : History) (edition : Edition) (now : Body) → Happened before (asked_for key edition now) older → ⊥) → is_used before key ≡ false
unused_so before key none = by (is_used before key) refl
  where
    by : (b : Bool) → is_used before key ≡ b → b ≡ false
    by true e = let u = used_so before key e in absurd (none u.older u.edition u.now u.came)
    by false e = refl

-- ---- rows

abbrev told : History → Edition → Body → KeptRequest
told before edition now = record { body = now; outcome = outcome_of before edition now }

-- what is found after a request was put
at_put : (key k : RequestKey) (now : KeptRequest) (table : Requests)
    → request_at (with_request k now table) key ≡ cond (eq_by_cmp request_cmp key k) (Some now) (request_at table key)
at_put key k now table = rows.find-put request_cmp requests_total key k now table

-- a row is what it was, or of the request that came
pub row_either : {X : Type 0} (before : History) (k : RequestKey) (edition : Edition) (key : RequestKey) (now : Body) (request : KeptRequest)
    → request_at (first_asked before k edition now (requests before)) key ≡ Some request
    → (request_at (requests before) key ≡ Some request → X)
    → (is_used before k ≡ false → k ≡ key → told before edition now ≡ request → X)
    → X
row_either {X} before k edition key now request e old new = by (is_used before k) refl e
  where
    put : is_used before k ≡ false → (b : Bool) → eq_by_cmp request_cmp key k ≡ b
        → cond b (Some (told before edition now)) (request_at (requests before) key) ≡ Some request → X
    put unused true same f = new unused (sym (tells_apart exact_requests key k same)) (same_Some (told before edition now) request f)
    put unused false other f = old f

    by : (b : Bool) → is_used before k ≡ b
        → request_at (cond b (requests before) (with_request k (told before edition now) (requests before))) key ≡ Some request → X
    by true used f = old f
    by false unused f =
        put unused (eq_by_cmp request_cmp key k) refl (sym (at_put key k (told before edition now) (requests before)) ∙ f)

first_later : (h : Happening) (before : History) (key : RequestKey) (request : KeptRequest) → IsFirstRequest before key request → IsFirstRequest (h ∷ before) key request
first_later h before key request r = record {
  earlier = r.earlier;
  edition = r.edition;
  came = step_later h before (asked_for key r.edition request.body) r.earlier r.came;
  first = r.first;
  outcome = r.outcome;
}

first_more : (before : History) (k : RequestKey) (edition : Edition) (key : RequestKey) (now : Body) (request : KeptRequest)
    → (request_at (requests before) key ≡ Some request → IsFirstRequest before key request)
    → request_at (first_asked before k edition now (requests before)) key ≡ Some request → IsFirstRequest (asked_for k edition now ∷ before) key request
first_more before k edition key now request rest e =
    row_either before k edition key now request e
    (λ f. first_later (asked_for k edition now) before key request (rest f))
    (λ unused same is. record {
      earlier = before;
      edition = edition;
      came = record { later = []; stands = λ i. asked_for (same i) edition (is i).body ∷ before };
      first = none_asked before key (ap (is_used before) (sym same) ∙ unused);
      outcome = ap (λ (r : KeptRequest). r.outcome) (sym is) ∙ ap (λ (r : KeptRequest). outcome_of before edition r.body) is;
    })

row_first : (before : History) (key : RequestKey) (request : KeptRequest) → request_at (requests before) key ≡ Some request → IsFirstRequest before key request
row_first [] key request e = absurd (none-some request e)
row_first (Restart site ∷ before) key request e = first_later _ before key request (row_first before key request e)
row_first (Load edition caller word list ∷ before) key request e = first_more before (caller, word) edition key (body.List list) request (λ f. row_first before key request f) e
row_first (Order caller word point value ∷ before) key request e =
    first_more before (caller, word) Second key (body.Order point value) request (λ f. row_first before key request f) e
row_first (Void caller word point slot ∷ before) key request e =
    first_more before (caller, word) Second key (body.Void point slot) request (λ f. row_first before key request f) e
row_first (Open line ∷ before) key request e = first_later _ before key request (row_first before key request e)
row_first (Ask c device slot read ∷ before) key request e = first_later _ before key request (row_first before key request e)
row_first (Send c number ∷ before) key request e = first_later _ before key request (row_first before key request e)
row_first (Reply c n unit ∷ before) key request e = first_later _ before key request (row_first before key request e)
row_first (Noise c frame ∷ before) key request e = first_later _ before key request (row_first before key request e)

-- a row stays
stays_by : (before : History) (k : RequestKey) (edition : Edition) (key : RequestKey) (now : Body) (request : KeptRequest) → request_at (requests before) key ≡ Some request
    → request_at (first_asked before k edition now (requests before)) key ≡ Some request
stays_by before k edition key now request e = by (is_used before k) refl
  where
    used : is_used before key ≡ true
    used = used_is before key ∙ ap is_some e

    put : is_used before k ≡ false → (b : Bool) → eq_by_cmp request_cmp key k ≡ b
        → cond b (Some (told before edition now)) (request_at (requests before) key) ≡ Some request
    put unused true same =
        let no : true ≡ false = sym used ∙ ap (is_used before) (tells_apart exact_requests key k same) ∙ unused in absurd (cc)
    put unused false other = e

    by : (b : Bool) → is_used before k ≡ b
        → request_at (cond b (requests before) (with_request k (told before edition now) (requests before))) key ≡ Some request
    by true used = e
    by false unused = at_put key k (told before edition now) (requests before) ∙ put unused (eq_by_cmp request_cmp key k) refl

pub row_stays : (later : List Happening) (before : History) (key : RequestKey) (request : KeptRequest) → request_at (requests before) key ≡ Some request
    → request_at (requests (later ++ before)) key ≡ Some request
row_stays [] before key request e = e
row_stays (Restart site ∷ later) before key request e = row_stays later before key request e
row_stays (Load edition caller word list ∷ later) before key request e = stays_by (later ++ before) (caller, word) edition key (body.List list) request (row_stays later before key request e)
row_stays (Order caller word point value ∷ later) before key request e =
    stays_by (later ++ before) (caller, word) Second key (body.Order point value) request (row_stays later before key request e)
row_stays (Void caller word point slot ∷ later) before key request e =
    stays_by (later ++ before) (caller, word) Second key (body.Void point slot) request (row_stays later before key request e)
row_stays (Open line ∷ later) before key request e = row_stays later before key request e
row_stays (Ask c device slot read ∷ later) before key request e = row_stays later before key request e
row_stays (Send c number ∷ later) before key request e = row_stays later before key request e
row_stays (Reply c n unit ∷ later) before key request e = row_stays later before key request e
row_stays (Noise c frame ∷ later) before key request e = row_stays later before key request e

requests_asked : (before : History) (key : RequestKey) (edition : Edition) (now : Body) → requests (asked_for key edition now ∷ before) ≡ first_asked before key edition now (requests before)
requests_asked before key edition (body.List list) = refl
requests_asked before key edition (body.Order point value) = refl
requests_asked before key edition (body.Void point slot) = refl

row_made : (before : History) (key : RequestKey) (edition : Edition) (now : Body) → is_used before key ≡ false
    → request_at (requests (asked_for key edition now ∷ before)) key ≡ Some (told before edition now)
row_made before key edition now unused =
    let old = requests before in
    ap (λ t. request_at t key) (requests_asked before key edition now)
    ∙ ap (λ b. request_at (cond b old (with_request key (told before edition now) old)) key) unused
    ∙ at_put key key (told before edition now) old
    ∙ ap (λ b. cond b (Some (told before edition now)) (request_at old key)) (tied_key key)

-- and the first request makes it
first_row : (before : History) (key : RequestKey) (request : KeptRequest) → IsFirstRequest before key request → request_at (requests before) key ≡ Some request
first_row before key request r =
    ap (λ h. request_at (requests h) key) r.came.stands
    ∙ row_stays r.came.later (asked_for key r.edition request.body ∷ r.earlier) key request
    (row_made r.earlier key r.edition request.body (unused_so r.earlier key r.first) ∙ (λ i. Some (record { body = request.body; outcome = sym r.outcome i })))

pub kept_request : (before : History) (key : RequestKey) (request : KeptRequest)
    → (request_at (requests before) key ≡ Some request → IsFirstRequest before key request)
    × (IsFirstRequest before key request → request_at (requests before) key ≡ Some request)
kept_request before key request = (row_first before key request, first_row before key request)

-- ---- orders are numbered

-- rows numbered on from n
abbrev pub AreOrders : ℕ → Settings → Type 0
AreOrders n [] = ⊤
AreOrders n (row ∷ rest) = (row.0 ≡ n + 1) × AreOrders (n + 1) rest

last_from : (n : ℕ) (row : ℕ × Setting) (rest : Settings) → AreOrders n (row ∷ rest) → last_order (row ∷ rest) ≡ n + suc (length rest)
last_from n row [] a = let e : row.0 ≡ n + 1 = a.0 in omega arith
last_from n row (next ∷ rest) a = last_from (n + 1) next rest a.1 ∙ omega arith

pub last_is : (table : Settings) → AreOrders 0 table → last_order table ≡ length table
last_is [] a = refl
last_is (row ∷ rest) a = last_from 0 row rest a ∙ omega arith

-- one more takes the next number
put_next : (n k : ℕ) (s : Setting) (table : Settings) → AreOrders n table → k ≡ n + length table + 1
    → AreOrders n (with_setting k s table) × (length (with_setting k s table) ≡ length table + 1)
put_next n k s [] a e = ((omega arith, tt), refl)
put_next n k s (row ∷ rest) a e =
    let first : row.0 ≡ n + 1 = a.0 in
    let past : nat_cmp k row.0 ≡ Greater = sym (nat_cmp_is k row.0 Greater (omega arith)) in
    let more = put_next (n + 1) k s rest a.1 (omega arith) in
    subst (λ o. AreOrders n (rows.by_order o ((k, s) ∷ row ∷ rest) ((row.0, s) ∷ rest) (row ∷ with_setting k s rest))
    × (length (rows.by_order o ((k, s) ∷ row ∷ rest) ((row.0, s) ∷ rest) (row ∷ with_setting k s rest)) ≡ suc (length rest) + 1)) (sym past)
    ((a.0, more.0), (let l : length (with_setting k s rest) ≡ length rest + 1 = more.1 in omega arith))

-- a number that is there stays where it is
put_there : (n k : ℕ) (s : Setting) (table : Settings) → AreOrders n table → n < k → k ≤ n + length table
    → AreOrders n (with_setting k s table) × (length (with_setting k s table) ≡ length table)
put_there n k s [] a above below = absurd (omega arith)
put_there n k s (row ∷ rest) a above below =
    let first : row.0 ≡ n + 1 = a.0 in by (nat_cmp k row.0) refl (put_there (n + 1) k s rest a.1) first
  where
    by : (o : Rank) → nat_cmp k row.0 ≡ o
        → (n + 1 < k → k ≤ n + 1 + length rest → AreOrders (n + 1) (with_setting k s rest) × (length (with_setting k s rest) ≡ length rest))
        → row.0 ≡ n + 1
        → AreOrders n (rows.by_order o ((k, s) ∷ row ∷ rest) ((row.0, s) ∷ rest) (row ∷ with_setting k s rest))
        × (length (rows.by_order o ((k, s) ∷ row ∷ rest) ((row.0, s) ∷ rest) (row ∷ with_setting k s rest)) ≡ suc (length rest))
    by Less e more first = let lt : k < row.0 = ranked k row.0 Less (sym e) in absurd (omega arith)
    by Equal e more first = (a, refl)
    by Greater e more first =
        let gt : row.0 < k = ranked k row.0 Greater (sym e) in
        let m = more (omega arith) (omega arith) in
        ((a.0, m.0), ap suc m.1)

-- a number is found exactly where it is one of theirs
pub found_in : (n k : ℕ) (table : Settings) → AreOrders n table → is_some (setting_at table k) ≡ true → (n < k) × (k ≤ n + length table)
found_in n k [] a e = absurd (cc)
found_in n k (row ∷ rest) a e = by (eq_by_cmp nat_cmp k row.0) refl e (found_in (n + 1) k rest a.1) a.0
  where
    by : (b : Bool) → eq_by_cmp nat_cmp k row.0 ≡ b → is_some (cond b (Some row.1) (setting_at rest k)) ≡ true
        → (is_some (setting_at rest k) ≡ true → (n + 1 < k) × (k ≤ n + 1 + length rest)) → row.0 ≡ n + 1
        → (n < k) × (k ≤ n + suc (length rest))
    by true same f more first = let e : k ≡ row.0 = eqb-true k row.0 (sym (unsigned_tied k row.0) ∙ same) in (omega arith, omega arith)
    by false other f more first =
        let m = more f in let x : n + 1 < k = m.0 in let y : k ≤ n + 1 + length rest = m.1 in (omega arith, omega arith)

there : (n k : ℕ) (table : Settings) → AreOrders n table → n < k → k ≤ n + length table → is_some (setting_at table k) ≡ true
there n k [] a above below = absurd (omega arith)
there n k (row ∷ rest) a above below = by (eq_by_cmp nat_cmp k row.0) refl (there (n + 1) k rest a.1) a.0
  where
    by : (b : Bool) → eq_by_cmp nat_cmp k row.0 ≡ b → (n + 1 < k → k ≤ n + 1 + length rest → is_some (setting_at rest k) ≡ true) → row.0 ≡ n + 1
        → is_some (cond b (Some row.1) (setting_at rest k)) ≡ true
    by true same more first = refl
    by false other more first = let e : k ≢ row.0 = eqb-false k row.0 (sym (unsigned_tied k row.0) ∙ other) in more (omega arith) (omega arith)

-- what an order and a reply do to them
taken_next : (o : Ordering) (table : Settings) → AreOrders 0 table → AreOrders 0 (with_ordered o table) × (length table ≤ length (with_ordered o table))
taken_next (Refused fault) table a = (a, omega arith)
taken_next (Taken point words) table a =
    let new : Setting = record { point = point; words = words; state = Waiting } in
    let last : last_order table ≡ length table = last_is table a in
    let m = put_next 0 (last_order table + 1) new table a (omega arith) in
    (m.0, (let l : length (with_setting (last_order table + 1) new table) ≡ length table + 1 = m.1 in omega arith))

abbrev Same : Settings → Settings → Type 0
Same table now = AreOrders 0 now × (length now ≡ length table)

settle_same : (number : ℕ) (o : Option OrderState) (table : Settings) → AreOrders 0 table → Same table (settle number o table)
settle_same number None table a = (a, refl)
settle_same number (Some state) table a = by (setting_at table number) refl
  where
    waits : (s : Setting) → setting_at table number ≡ Some s → (b : Bool) → Same table (cond b (with_setting number (record s { state = state }) table) table)
    waits s is true =
        let in_range = found_in 0 number table a (ap is_some is) in
        put_there 0 number (record s { state = state }) table a in_range.0 (let le = in_range.1 in omega arith)
    waits s is false = (a, refl)

    by : (o : Option Setting) → setting_at table number ≡ o → Same table (settle_at number state o table)
    by None is = (a, refl)
    by (Some s) is = waits s is (is_waiting s.state)

settled_same : (o : Option Query) (unit : List ℕ) (table : Settings) → AreOrders 0 table → Same table (settled_by o unit table)
settled_same None unit table a = (a, refl)
settled_same (Some (Reads q)) unit table a = (a, refl)
settled_same (Some (Writes w)) unit table a = by (fits (Writes w) unit)
  where
    by : (b : Bool) → Same table (cond b (settle w.order (state_by w unit) table) table)
    by true = settle_same w.order (state_by w unit) table a
    by false = (a, refl)

-- the orders of a history are numbered from 1 on
pub numbered : (before : History) → AreOrders 0 (settings before)
numbered [] = tt
numbered (Restart site ∷ before) = numbered before
numbered (Load edition caller word list ∷ before) = numbered before
numbered (Open line ∷ before) = numbered before
numbered (Void caller key point at ∷ before) = numbered before
numbered (Ask c device slot read ∷ before) = numbered before
numbered (Send c number ∷ before) = numbered before
numbered (Noise c frame ∷ before) = numbered before
numbered (Order caller word point value ∷ before) = by (is_used before (caller, word)) (numbered before)
  where
    by : (b : Bool) → AreOrders 0 (settings before) → AreOrders 0 (cond b (settings before) (with_ordered (ordering before point value) (settings before)))
    by true a = a
    by false a = (taken_next (ordering before point value) (settings before) a).0
numbered (Reply c n unit ∷ before) = by (is_answered before c n) (numbered before)
  where
    by : (b : Bool) → AreOrders 0 (settings before) → AreOrders 0 (cond b (settings before) (settled_by (slice_get (asked before c) n) unit (settings before)))
    by true a = a
    by false a = (settled_same (slice_get (asked before c) n) unit (settings before) a).0

pub last_number : (before : History) → last_order (settings before) ≡ length (settings before)
last_number before = last_is (settings before) (numbered before)

-- a number is an order's exactly where it is from 1 to the last
pub is_order : (before : History) (number : ℕ)
    → (is_some (setting_at (settings before) number) ≡ true → (1 ≤ number) × (number ≤ last_order (settings before)))
    × ((1 ≤ number) × (number ≤ last_order (settings before)) → is_some (setting_at (settings before) number) ≡ true)
is_order before number =
    let last = last_number before in (
      (λ e. let in_range = found_in 0 number (settings before) (numbered before) e in
          let lt : 0 < number = in_range.0 in
          let le : number ≤ 0 + length (settings before) = in_range.1 in
          (omega arith, omega arith)),
      (λ h. let least : 1 ≤ number = h.0 in
          let most : number ≤ last_order (settings before) = h.1 in
          there 0 number (settings before) (numbered before) (omega arith) (omega arith)),
    )

-- and no reply makes or ends one
pub reply_same : (before : History) (c n : ℕ) (unit : List ℕ) → last_order (settings (Reply c n unit ∷ before)) ≡ last_order (settings before)
reply_same before c n unit =
    last_number (Reply c n unit ∷ before)
    ∙ by (is_answered before c n)
    ∙ sym (last_number before)
  where
    by : (b : Bool) → length (cond b (settings before) (settled_by (slice_get (asked before c) n) unit (settings before))) ≡ length (settings before)
    by true = refl
    by false = (settled_same (slice_get (asked before c) n) unit (settings before) (numbered before)).1

-- ---- orders and their requests

abbrev number_of : Outcome → ℕ
number_of (Loaded count) = 0
number_of (Ordered number) = number
number_of (Voided slot) = 0
number_of (RefusedFor reason) = 0

list_none : (loaded : Loading) (number : ℕ) → outcome loaded ≡ Ordered number → ⊥
list_none (NotLoaded reason) number e = absurd (cc)
list_none (IsLoaded count points) number e = absurd (cc)

void_none : (slot : ℕ) (v : Voiding) (number : ℕ) → voided slot v ≡ Ordered number → ⊥
void_none slot (NotVoided fault) number e = absurd (cc)
void_none slot (IsVoided known) number e = absurd (cc)

-- an order that is accepted takes the next number, and its setting stands
pub order_next : (o : Ordering) (table : Settings) (number : ℕ) → AreOrders 0 table → ordered (last_order table) o ≡ Ordered number
    → (number ≡ last_order table + 1) × (last_order (with_ordered o table) ≡ last_order table + 1)
order_next (Refused fault) table number a e = absurd (cc)
order_next (Taken point words) table number a e =
    let new : Setting = record { point = point; words = words; state = Waiting } in
    let last : last_order table ≡ length table = last_is table a in
    let m = put_next 0 (last_order table + 1) new table a (omega arith) in
    let long : length (with_setting (last_order table + 1) new table) ≡ length table + 1 = m.1 in
    (sym (ap number_of e), last_is (with_setting (last_order table + 1) new table) m.0 ∙ long ∙ omega arith)

ordered_next : (before : History) (edition : Edition) (now : Body) (number : ℕ) → outcome_of before edition now ≡ Ordered number → number ≡ last_order (settings before) + 1
ordered_next before edition (body.List list) number e = absurd (list_none (loading edition (site_of before) (points before) list) number e)
ordered_next before edition (body.Void point slot) number e = absurd (void_none slot (voiding before point slot) number e)
ordered_next before edition (body.Order point value) number e = (order_next (ordering before point value) (settings before) number (numbered before) e).0

ordered_last : (before : History) (key : RequestKey) (edition : Edition) (now : Body) (number : ℕ) → is_used before key ≡ false → outcome_of before edition now ≡ Ordered number
    → last_order (settings (asked_for key edition now ∷ before)) ≡ last_order (settings before) + 1
ordered_last before key edition (body.List list) number unused e = absurd (list_none (loading edition (site_of before) (points before) list) number e)
ordered_last before key edition (body.Void point slot) number unused e = absurd (void_none slot (voiding before point slot) number e)
ordered_last before key edition (body.Order point value) number unused e =
    ap (λ b. last_order (cond b (settings before) (with_ordered (ordering before point value) (settings before)))) unused
    ∙ (order_next (ordering before point value) (settings before) number (numbered before) e).1

-- no request ends an order
pub asked_longer : (before : History) (key : RequestKey) (edition : Edition) (now : Body) → last_order (settings before) ≤ last_order (settings (asked_for key edition now ∷ before))
asked_longer before key edition (body.List list) = omega arith
asked_longer before key edition (body.Void point slot) = omega arith
asked_longer before key edition (body.Order point value) = by (is_used before key)
  where
    by : (b : Bool) → last_order (settings before) ≤ last_order (cond b (settings before) (with_ordered (ordering before point value) (settings before)))
    by true = omega arith
    by false =
        let next = taken_next (ordering before point value) (settings before) (numbered before) in
        let new = with_ordered (ordering before point value) (settings before) in
        let longer : length (settings before) ≤ length new = next.1 in
        let last : last_order new ≡ length new = last_is new next.0 in
        let old : last_order (settings before) ≡ length (settings before) = last_number before in
        omega arith

-- an order has one of the numbers
ranged_more : (before : History) (k : RequestKey) (edition : Edition) (key : RequestKey) (now : Body) (number : ℕ)
    → (OrderedUnder before key number → number ≤ last_order (settings before))
    → (u : Body) → request_at (first_asked before k edition now (requests before)) key ≡ Some (record { body = u; outcome = Ordered number })
    → number ≤ last_order (settings (asked_for k edition now ∷ before))
ranged_more before k edition key now number rest u e =
    row_either before k edition key now (record { body = u; outcome = Ordered number }) e
    (λ old. let le : number ≤ last_order (settings before) = rest (u, old) in let more = asked_longer before k edition now in omega arith)
    (λ unused same is.
    let out : outcome_of before edition now ≡ Ordered number = ap (λ (r : KeptRequest). r.outcome) is in
    let next : number ≡ last_order (settings before) + 1 = ordered_next before edition now number out in
    let last = ordered_last before k edition now number unused out in
    omega arith)

ranged : (before : History) (key : RequestKey) (number : ℕ) → OrderedUnder before key number → number ≤ last_order (settings before)
ranged [] key number u = absurd (none-some _ u.1)
ranged (Restart site ∷ before) key number u = ranged before key number u
ranged (Open line ∷ before) key number u = ranged before key number u
ranged (Ask c device slot read ∷ before) key number u = ranged before key number u
ranged (Send c order ∷ before) key number u = ranged before key number u
ranged (Noise c frame ∷ before) key number u = ranged before key number u
ranged (Reply c n unit ∷ before) key number u =
    let le : number ≤ last_order (settings before) = ranged before key number u in let same = reply_same before c n unit in omega arith
ranged (Load edition caller word list ∷ before) key number u = ranged_more before (caller, word) edition key (body.List list) number (λ v. ranged before key number v) u.0 u.1
ranged (Void caller word point slot ∷ before) key number u = ranged_more before (caller, word) Second key (body.Void point slot) number (λ v. ranged before key number v) u.0 u.1
ranged (Order caller word point value ∷ before) key number u =
    ranged_more before (caller, word) Second key (body.Order point value) number (λ v. ranged before key number v) u.0 u.1

-- an order has one key
one_more : (before : History) (k : RequestKey) (edition : Edition) (a b : RequestKey) (now : Body) (number : ℕ)
    → (OrderedUnder before a number → OrderedUnder before b number → a ≡ b)
    → (u v : Body) → request_at (first_asked before k edition now (requests before)) a ≡ Some (record { body = u; outcome = Ordered number })
    → request_at (first_asked before k edition now (requests before)) b ≡ Some (record { body = v; outcome = Ordered number }) → a ≡ b
one_more before k edition a b now number rest u v e f =
    row_either before k edition a now (record { body = u; outcome = Ordered number }) e
    (λ old. row_either before k edition b now (record { body = v; outcome = Ordered number }) f
    (λ other. rest (u, old) (v, other))
    (λ unused same is. absurd (too_far a u old v is)))
    (λ unused same is. row_either before k edition b now (record { body = v; outcome = Ordered number }) f
    (λ other. absurd (too_far b v other u is))
    (λ _ again _. sym same ∙ again))
  where
    too_far : (key : RequestKey) (u : Body) → request_at (requests before) key ≡ Some (record { body = u; outcome = Ordered number })
        → (v : Body) → told before edition now ≡ record { body = v; outcome = Ordered number } → ⊥
    too_far key u old v is =
        let le : number ≤ last_order (settings before) = ranged before key number (u, old) in
        let next : number ≡ last_order (settings before) + 1 = ordered_next before edition now number (ap (λ (r : KeptRequest). r.outcome) is) in
        omega arith

pub one_key : (before : History) (a b : RequestKey) (number : ℕ) → OrderedUnder before a number → OrderedUnder before b number → a ≡ b
one_key [] a b number u v = absurd (none-some _ u.1)
one_key (Restart site ∷ before) a b number u v = one_key before a b number u v
one_key (Open line ∷ before) a b number u v = one_key before a b number u v
one_key (Ask c device slot read ∷ before) a b number u v = one_key before a b number u v
one_key (Send c order ∷ before) a b number u v = one_key before a b number u v
one_key (Reply c n unit ∷ before) a b number u v = one_key before a b number u v
one_key (Noise c frame ∷ before) a b number u v = one_key before a b number u v
one_key (Load edition caller word list ∷ before) a b number u v =
    one_more before (caller, word) edition a b (body.List list) number (λ x y. one_key before a b number x y) u.0 v.0 u.1 v.1
one_key (Void caller word point slot ∷ before) a b number u v =
    one_more before (caller, word) Second a b (body.Void point slot) number (λ x y. one_key before a b number x y) u.0 v.0 u.1 v.1
one_key (Order caller word point value ∷ before) a b number u v =
    one_more before (caller, word) Second a b (body.Order point value) number (λ x y. one_key before a b number x y) u.0 v.0 u.1 v.1

-- and a key one order
pub one_order : (before : History) (key : RequestKey) (m n : ℕ) → OrderedUnder before key m → OrderedUnder before key n → m ≡ n
one_order before key m n u v = ap (λ (r : KeptRequest). number_of r.outcome) (same_Some _ _ (sym u.1 ∙ v.1))

-- each number is the order of a request
abbrev HasKey : History → ℕ → Type 0
HasKey before number = (key : RequestKey) × OrderedUnder before key number

key_later : (h : Happening) (before : History) (number : ℕ) → HasKey before number → HasKey (h ∷ before) number
key_later h before number k = (k.0, (k.1.0, row_stays (h ∷ []) before k.0 _ k.1.1))

has_key : (before : History) (number : ℕ) → 1 ≤ number → number ≤ last_order (settings before) → HasKey before number
has_key [] number least most = absurd (omega arith)
has_key (Restart site ∷ before) number least most = key_later (Restart site) before number (has_key before number least most)
has_key (Load edition caller word list ∷ before) number least most = key_later (Load edition caller word list) before number (has_key before number least most)
has_key (Open line ∷ before) number least most = key_later (Open line) before number (has_key before number least most)
has_key (Void caller key point at ∷ before) number least most = key_later (Void caller key point at) before number (has_key before number least most)
has_key (Ask c device slot read ∷ before) number least most = key_later (Ask c device slot read) before number (has_key before number least most)
has_key (Send c order ∷ before) number least most = key_later (Send c order) before number (has_key before number least most)
has_key (Noise c frame ∷ before) number least most = key_later (Noise c frame) before number (has_key before number least most)
has_key (Reply c n unit ∷ before) number least most =
    let same = reply_same before c n unit in key_later (Reply c n unit) before number (has_key before number least (omega arith))
has_key (Order caller word point value ∷ before) number least most = by (λ le. has_key before number least le) (is_used before (caller, word)) refl most
  where
    key : RequestKey
    key = (caller, word)

    now : Body
    now = body.Order point value

    Rest : Type 0
    Rest = number ≤ last_order (settings before) → HasKey before number

    old : HasKey before number → HasKey (Order caller word point value ∷ before) number
    old k = key_later (Order caller word point value) before number k

    new : Rest → (o : Ordering) → ordering before point value ≡ o → is_used before key ≡ false
        → number ≤ last_order (with_ordered o (settings before)) → HasKey (Order caller word point value ∷ before) number
    new rest (Refused fault) is unused le = old (rest le)
    new rest (Taken at words) is unused le = elim (cases_lt (last_order (settings before)) number) [
      | inl more ↦
          let next : last_order (with_ordered (Taken at words) (settings before)) ≡ last_order (settings before) + 1 =
          (order_next (Taken at words) (settings before) (last_order (settings before) + 1) (numbered before) refl).1 in
          let number_is : last_order (settings before) + 1 ≡ number = omega arith in
          let out : outcome_of before Second now ≡ Ordered number = ap (ordered (last_order (settings before))) is ∙ ap Ordered number_is in
          (key, (now, row_made before key Second now unused ∙ (λ i. Some (record { body = now; outcome = out i }))))
      | inr less ↦ old (rest (omega arith))
    ]

    by : Rest → (b : Bool) → is_used before key ≡ b
        → number ≤ last_order (cond b (settings before) (with_ordered (ordering before point value) (settings before)))
        → HasKey (Order caller word point value ∷ before) number
    by rest true used le = old (rest le)
    by rest false unused le = new rest (ordering before point value) refl unused le

-- the orders are those of the requests
pub orders : (before : History) (number : ℕ)
    → (is_some (setting_at (settings before) number) ≡ true → (key : RequestKey) × OrderedUnder before key number)
    × ((key : RequestKey) × OrderedUnder before key number → is_some (setting_at (settings before) number) ≡ true)
orders before number = (
  (λ e. let in_range = (is_order before number).0 e in has_key before number in_range.0 in_range.1),
  (λ k. let r = row_first before k.0 (record { body = k.1.0; outcome = Ordered number }) k.1.1 in
      let next : number ≡ last_order (settings r.earlier) + 1 = ordered_next r.earlier r.edition k.1.0 number (sym r.outcome) in
      (is_order before number).1 (omega arith, ranged before k.0 number k.1)),
)
