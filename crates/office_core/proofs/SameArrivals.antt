-- Histories in which the same arrived leave the same readings and settings.
use Rattle.std.proofs.Common.{◌≡◌, ◌≤◌, ◌+◌, ℕ, Bool, true, false, ◌&&◌, T, List, [], ◌∷◌, ◌++◌, take, Option, Some, None, refl, sym, ap, ◌∙◌, subst, arith}
use Rattle.std.specs.Prelude.{Contains, option_map, slice_get}
use Rattle.std.specs.Ordering.{is_lt, nat_cmp}
use Rattle.std.specs.Cmp.{nat_cmp_is}
use Rattle.std.specs.FinMap.Entries as rows
use Rattle.std.specs.declared.cmp.Ordering.TheVariants.{Less}
use Rattle.std.proofs.lemmas.Cmp.{nat_cmp_total}
use Rattle.std.proofs.lemmas.List.{append_assoc}
use Rattle.std.proofs.lemmas.List.Elements.{Contains-append_left}
use Rattle.std.proofs.lemmas.Map.Lookups.{exact_unsigned}
use Rattle.std.proofs.lemmas.Option.{none-some, same_Some}
use Rattle.poll_book.specs.declared.rows.PointRow.{PointRow}
use Rattle.poll_book.specs.declared.rows.OrderState.{OrderState}
use Rattle.poll_book.specs.declared.rows.OrderState.TheVariants.{Waiting, Done, Refused}
use Rattle.poll_book.specs.declared.rows.Reading.{Reading}
use Rattle.poll_book.specs.declared.rows.Setting.{Setting}
use Rattle.poll_book.specs.Orders.{Settings, is_waiting, setting_at}
use Rattle.poll_book.specs.Tables.{Key, key_cmp, reading_at}
use Rattle.poll_book.specs.Totals.{is_counted}
use Rattle.poll_book.proofs.Tabled.{keys_total, exact_keys}
use Rattle.office_core.specs.Cover.{Question}
use Rattle.office_core.specs.Queries.{Query, Reads, Writes}
use Rattle.office_core.specs.History.{Happening, Reply, History, points, asked, fits_query, is_answered, given, readings, settings}
use Rattle.office_core.specs.Legal.{Legal}
use Rattle.office_core.specs.FirstArrivals.{Happened, IsQuery, Gives}
use Rattle.office_core.specs.SettledOrders.{Settles}
use Rattle.office_core.specs.SameArrivals.{Answered, HaveSameArrivals, HasEqualCopies}
use Rattle.office_core.proofs.BySlot.{readings_sorted}
use Rattle.office_core.proofs.Calls.{waiting, same_points, same_asked, same_set}
use Rattle.office_core.proofs.FirstArrivals.{at_made, query_there, query_asked, points_stay, points_of_query, fits_so, first_so as read_first, given_once, first_arrival}
use Rattle.office_core.proofs.OnePoint.{one_point}
use Rattle.office_core.proofs.KeptRequests.{AreOrders, numbered}
use Rattle.office_core.proofs.Loaded.{numbered_points}
use Rattle.office_core.proofs.SettledOrders.{send_there, write_sent, answered_by, reply_fits, first_so as write_first, settled_on, settled_so}
use Rattle.office_core.proofs.Standings.{asked_stays, answers_on}

-- ---- places in a history

-- what happened before what happened
before_that : (before : History) (h : Happening) (e : History) (k : Happening) (asking : History) → Happened before h e → Happened e k asking → Happened before k asking
before_that before h e k asking p q = record {
  later = p.later ++ h ∷ q.later;
  stands = p.stands ∙ ap (λ l. p.later ++ h ∷ l) q.stands ∙ sym (append_assoc p.later (h ∷ q.later) (k ∷ asking));
}

query_before : (before : History) (h : Happening) (e : History) (c n : ℕ) (q : Question) (asking : History) → Happened before h e → IsQuery e c n q asking → IsQuery before c n q asking
query_before before h e c n q asking p is = record {
  device = is.device;
  slot = is.slot;
  read = is.read;
  came = before_that before h e _ asking p is.came;
  accepted = is.accepted;
  count = is.count;
  is = is.is;
}

-- a reply gives words to points that are known
pub row_known : (before : History) (c n : ℕ) (unit : List ℕ) (e : History) (row : PointRow) (slot : ℕ) (words : List ℕ) → Happened before (Reply c n unit) e
    → Gives e c n unit row slot words → Contains (points before) row
row_known before c n unit e row slot words came g =
    let asked = before_that before (Reply c n unit) e _ g.replies.asking came g.replies.query.came in
    let longer = points_stay (asked.later ++ _ ∷ []) g.replies.asking in
    subst (λ l. Contains l row) (sym (ap points (asked.stands ∙ sym (append_assoc asked.later (_ ∷ []) g.replies.asking)) ∙ longer.1))
    (Contains-append_left (points g.replies.asking) longer.0 row g.known)

-- a query keeps its number from its reply on
query_on : (before : History) (c n : ℕ) (unit : List ℕ) (e : History) (q : Query) → Happened before (Reply c n unit) e → slice_get (asked e c) n ≡ Some q
    → slice_get (asked before c) n ≡ Some q
query_on before c n unit e q came at = ap (λ h. slice_get (asked h c) n) came.stands ∙ asked_stays came.later (Reply c n unit ∷ e) c n q at

-- the query that a unit fits is the one that stands there later
query_then : (before : History) (c n : ℕ) (unit : List ℕ) (e : History) (q : Query) → Happened before (Reply c n unit) e
    → fits_query (slice_get (asked e c) n) unit ≡ true → slice_get (asked before c) n ≡ Some q → slice_get (asked e c) n ≡ Some q
query_then before c n unit e q came fits at = by (slice_get (asked e c) n) refl fits
  where
    by : (o : Option Query) → slice_get (asked e c) n ≡ o → fits_query o unit ≡ true → o ≡ Some q
    by None is f = absurd (cc)
    by (Some r) is f = sym (query_on before c n unit e r came is) ∙ at

-- ---- what a reply does in the one history, the first one to its query does in the other

record Alike (one other : History) : Type 0 where
  legal : Legal other
  points : points one ≡ points other
  asked : (c : ℕ) → asked one c ≡ asked other c
  came : (c n : ℕ) (unit : List ℕ) → Answered one c n unit → Answered other c n unit
  units : (c n : ℕ) (a b : List ℕ) → Answered other c n a → Answered other c n b → a ≡ b

-- where the first unit that answers a query came
record Place (before : History) (c n : ℕ) (unit : List ℕ) (q : Query) : Type 0 where
  at : History
  came : Happened before (Reply c n unit) at
  new : is_answered at c n ≡ false
  query : slice_get (asked at c) n ≡ Some q

module _ (one other : History) (alike : Alike one other) where
  place : (c n : ℕ) (unit : List ℕ) (e : History) (q : Query) → Happened one (Reply c n unit) e → fits_query (slice_get (asked e c) n) unit ≡ true
      → slice_get (asked e c) n ≡ Some q → Place other c n unit q
  place c n unit e q came fits is =
      let there = alike.came c n unit (record { earlier = e; came = came; fits = fits }) in
      let first = answered_by other c n (ap (λ h. is_answered h c n) there.came.stands ∙ answers_on there.came.later there.earlier c n unit there.fits) in
      let same : first.unit ≡ unit = alike.units c n first.unit unit (record { earlier = first.older; came = first.came; fits = first.fits_it }) there in
      let at : slice_get (asked other c) n ≡ Some q = ap (λ qs. slice_get qs n) (sym (alike.asked c)) ∙ query_on one c n unit e q came is in
      record {
        at = first.older;
        came = subst (λ u. Happened other (Reply c n u) first.older) same first.came;
        new = first.new;
        query = query_then other c n first.unit first.older q first.came first.fits_it at;
      }

  record GivesThere (c n : ℕ) (unit : List ℕ) (row : PointRow) (slot : ℕ) (words : List ℕ) : Type 0 where
    at : History
    came : Happened other (Reply c n unit) at
    gave : Gives at c n unit row slot words

  gives_there : (c n : ℕ) (unit : List ℕ) (e : History) (row : PointRow) (slot : ℕ) (words : List ℕ) → Happened one (Reply c n unit) e
      → Gives e c n unit row slot words → GivesThere c n unit row slot words
  gives_there c n unit e row slot words came g =
      let old = g.replies.query in
      let query = query_there e c n g.q g.replies.asking old in
      let p = place c n unit e (Reads g.q) came (fits_so e c n unit g.q g.reply g.replies) query in
      let was = query_asked p.at c n g.q p.query in
      let known : points g.replies.asking ≡ points was.asking =
      sym (points_of_query one c n g.q g.replies.asking (query_before one (Reply c n unit) e c n g.q g.replies.asking came old))
      ∙ ap (take g.q.known) alike.points
      ∙ points_of_query other c n g.q was.asking (query_before other (Reply c n unit) p.at c n g.q was.asking p.came was.is) in
      record {
        at = p.at;
        came = p.came;
        gave = record {
          q = g.q;
          reply = g.reply;
          replies = record { asking = was.asking; query = was.is; spelled = g.replies.spelled };
          first = read_first p.at c n p.new;
          brings = g.brings;
          for_slot = g.for_slot;
          known = subst (λ l. Contains l row) known g.known;
          covered = g.covered;
          spells = g.spells;
        };
      }

  record SettlesThere (c n : ℕ) (unit : List ℕ) (order : ℕ) (state : OrderState) : Type 0 where
    at : History
    came : Happened other (Reply c n unit) at
    settles : Settles at c n unit order state

  settles_there : (c n : ℕ) (unit : List ℕ) (e : History) (order : ℕ) (state : OrderState) → Happened one (Reply c n unit) e → Settles e c n unit order state
      → SettlesThere c n unit order state
  settles_there c n unit e order state came z =
      let query = send_there e c n z.w z.replies.sending z.replies.send in
      let p = place c n unit e (Writes z.w) came (reply_fits e c n unit z.w z.reply z.replies) query in
      let was = write_sent p.at c n z.w p.query in
      record {
        at = p.at;
        came = p.came;
        settles = record {
          w = z.w;
          reply = z.reply;
          replies = record { sending = was.sending; send = was.is; spelled = z.replies.spelled };
          first = write_first p.at c n p.new;
          order_is = z.order_is;
          state_is = z.state_is;
        };
      }

  -- what has a reading in the one has one in the other
  reading_there : (point slot : ℕ) (x : Reading) → Legal one → reading_at (readings one) (point, slot) ≡ Some x → reading_at (readings other) (point, slot) ≡ None → ⊥
  reading_there point slot x legal e none =
      let r = (first_arrival one point slot x legal).0 e in
      let g = gives_there r.c r.n r.unit r.earlier r.row slot r.words r.came r.gave in
      given_once other g.at r.c r.n r.unit r.row slot r.words alike.legal g.came g.gave
      (ap (λ k. reading_at (given other) (k, slot)) r.number ∙ sym (at_made (given other) (point, slot)) ∙ none)

  -- an order that was settled in the one is settled in the other
  settled_there : (order : ℕ) (s t : Setting) → Legal one → setting_at (settings one) order ≡ Some s → is_waiting s.state ≡ false
      → setting_at (settings other) order ≡ Some t → is_waiting t.state ≡ false
  settled_there order s t legal e done f =
      let r = settled_so one order s legal e done in
      let z = settles_there r.c r.n r.unit r.earlier order s.state r.came r.settles in
      settled_on other z.at r.c r.n r.unit order s.state t alike.legal z.came z.settles f

-- ---- rows by number

below : (m n : ℕ) (table : Settings) → AreOrders n table → m ≤ n → T (rows.below_all nat_cmp m table)
below m n [] a le = tt
below m n (row ∷ rest) a le =
    let first : row.0 ≡ n + 1 = a.0 in
    let less : nat_cmp m row.0 ≡ Less = sym (nat_cmp_is m row.0 Less (omega arith)) in
    subst (λ o. T (is_lt o && rows.below_all nat_cmp m rest)) (sym less) (below m (n + 1) rest a.1 (omega arith))

orders_sorted : (n : ℕ) (table : Settings) → AreOrders n table → T (rows.is_sorted nat_cmp table)
orders_sorted n [] a = tt
orders_sorted n (row ∷ rest) a =
    let first : row.0 ≡ n + 1 = a.0 in both _ _ (below row.0 (n + 1) rest a.1 (omega arith)) (orders_sorted (n + 1) rest a.1)
  where
    both : (a b : Bool) → T a → T b → T (a && b)
    both true b p q = q
    both false b p q = p

-- ---- two histories in which the same arrived

module _ (one other : History) (legal : Legal one) (legal_other : Legal other) (same : HaveSameArrivals one other) (copies : HasEqualCopies one) where
  there : Alike one other
  there = record {
    legal = legal_other;
    points = same_points one other same.calls;
    asked = same_asked one other same.calls;
    came = λ c n unit. (same.units c n unit).0;
    units = λ c n a b p q. copies.units c n a b ((same.units c n a).1 p) ((same.units c n b).1 q);
  }

  back : Alike other one
  back = record {
    legal = legal;
    points = sym (same_points one other same.calls);
    asked = λ c. sym (same_asked one other same.calls c);
    came = λ c n unit. (same.units c n unit).1;
    units = copies.units;
  }

  one_reading : (point slot : ℕ) (x y : Reading) → reading_at (readings one) (point, slot) ≡ Some x → reading_at (readings other) (point, slot) ≡ Some y → x ≡ y
  one_reading point slot x y e f =
      let r = (first_arrival one point slot x legal).0 e in
      let o = (first_arrival other point slot y legal_other).0 f in
      let g = gives_there other one back o.c o.n o.unit o.earlier o.row slot o.words o.came o.gave in
      let number : r.row.number ≡ o.row.number = r.number ∙ sym o.number in
      let words : r.words ≡ o.words =
      copies.words r.earlier g.at r.c r.n o.c o.n r.unit o.unit r.row o.row slot r.words o.words r.came r.gave g.came g.gave number in
      let row : r.row ≡ o.row =
      one_point 0 (points one) r.row o.row (numbered_points one) (row_known one r.c r.n r.unit r.earlier r.row slot r.words r.came r.gave)
      (row_known one o.c o.n o.unit g.at o.row slot o.words g.came g.gave) number in
      r.is ∙ (λ i. record { words = words i; counted = is_counted (row i).point (words i) }) ∙ sym o.is

  -- the same readings
  pub same_readings : readings one ≡ readings other
  same_readings =
      rows.same_entries key_cmp keys_total exact_keys (readings one) (readings other) (readings_sorted one) (readings_sorted other)
      (λ key. by key (reading_at (readings one) key) (reading_at (readings other) key) refl refl)
    where
      by : (key : Key) (a b : Option Reading) → reading_at (readings one) key ≡ a → reading_at (readings other) key ≡ b → a ≡ b
      by key None None e f = refl
      by key (Some x) None e f = absurd (reading_there one other there key.0 key.1 x legal e f)
      by key None (Some y) e f = absurd (reading_there other one back key.0 key.1 y legal_other f e)
      by key (Some x) (Some y) e f = ap Some (one_reading key.0 key.1 x y e f)

  both_wait : (s t : OrderState) → is_waiting s ≡ true → is_waiting t ≡ true → s ≡ t
  both_wait Waiting Waiting p q = refl
  both_wait Waiting Done p q = absurd (cc)
  both_wait Waiting (Refused code) p q = absurd (cc)
  both_wait Done t p q = absurd (cc)
  both_wait (Refused code) t p q = absurd (cc)

  one_state : (order : ℕ) (s t : Setting) → setting_at (settings one) order ≡ Some s → setting_at (settings other) order ≡ Some t → s.state ≡ t.state
  one_state order s t e f = by (is_waiting s.state) (is_waiting t.state) refl refl
    where
      settled : is_waiting s.state ≡ false → is_waiting t.state ≡ false → s.state ≡ t.state
      settled p q =
          let r = settled_so one order s legal e p in
          let o = settled_so other order t legal_other f q in
          let z = settles_there other one back o.c o.n o.unit o.earlier order t.state o.came o.settles in
          copies.states r.earlier z.at r.c r.n o.c o.n r.unit o.unit order s.state t.state r.came r.settles z.came z.settles

      by : (a b : Bool) → is_waiting s.state ≡ a → is_waiting t.state ≡ b → s.state ≡ t.state
      by true true p q = both_wait s.state t.state p q
      by false b p q = settled p (settled_there one other there order s t legal e p f)
      by true false p q = let no : true ≡ false = sym p ∙ settled_there other one back order t s legal_other f q e in absurd (cc)

  -- the same settings
  pub same_settings : settings one ≡ settings other
  same_settings =
      rows.same_entries nat_cmp nat_cmp_total exact_unsigned (settings one) (settings other) (orders_sorted 0 (settings one) (numbered one)) (orders_sorted 0 (settings other) (numbered other))
      (λ order. by order (setting_at (settings one) order) (setting_at (settings other) order) refl refl (same_set one other same.calls order))
    where
      by : (order : ℕ) (a b : Option Setting) → setting_at (settings one) order ≡ a → setting_at (settings other) order ≡ b → option_map waiting a ≡ option_map waiting b → a ≡ b
      by order None None e f g = refl
      by order (Some s) None e f g = absurd (none-some (waiting s) (sym g))
      by order None (Some t) e f g = absurd (none-some (waiting t) g)
      by order (Some s) (Some t) e f g =
          let set : waiting s ≡ waiting t = same_Some (waiting s) (waiting t) g in
          let state = one_state order s t e f in
          λ i. Some (record { point = (set i).point; words = (set i).words; state = state i })
