-- In a round orders are settled, and none comes to wait.
use Rattle.std.proofs.Common.{◌≡◌, ◌⊎◌, ◌<◌, ℕ, ◌+◌, Bool, true, false, cond, List, [], ◌∷◌, Option, Some, None, inl, inr, refl, sym, ap, ◌∙◌, subst, arith, ⊎_elim}
use Rattle.std.specs.Prelude.{find, is_some, slice_get, ◌&&◌, ⊤}
use Rattle.std.specs.Cmp.{unsigned_tied}
use Rattle.std.specs.FinMap.Entries as rows
use Rattle.std.specs.Ordering.{eq_by_cmp, nat_cmp}
use Rattle.std.specs.declared.cmp.Ordering.{Ordering as Rank}
use Rattle.std.specs.declared.cmp.Ordering.TheVariants.{Less, Equal, Greater}
use Rattle.std.proofs.lemmas.Bool.{and_parts, eq-eqb, ne_eqb}
use Rattle.std.proofs.lemmas.Cmp.{ranked}
use Rattle.std.proofs.lemmas.Option.{none-some, same_Some}
use Rattle.mb_mbap.specs.declared.frame.Frame.{Frame}
use Rattle.poll_book.specs.declared.rows.OrderState.{OrderState}
use Rattle.poll_book.specs.declared.rows.PointRow.{PointRow}
use Rattle.poll_book.specs.declared.rows.Setting.{Setting}
use Rattle.poll_book.specs.Orders.{Settings, is_waiting, is_of, setting_at, with_setting, point_at, waits_on, oldest_waiting}
use Rattle.office_core.specs.Messages.{arriving}
use Rattle.office_core.specs.Orders.{settle, settle_at, settled_by, state_by}
use Rattle.office_core.specs.Queries.{Query, Reads, Writes, fits}
use Rattle.office_core.specs.History.{History, points, settings, asked, is_answered}
use Rattle.office_core.proofs.KeptRequests.{AreOrders, found_in, numbered}
use Rattle.office_net.specs.declared.job.LineJob.{LineJob}
use Rattle.office_net.specs.declared.job.LineJob.TheVariants.{Order, Read}
use Rattle.office_net.specs.Moves.{Start, Move, Asks, Passes, Comes, told, turn_of, next_order}
use Rattle.office_net.specs.Turned.{IsSettled}
use Rattle.office_net.proofs.Sorted.{IsReply, IsOther, sorted}
use Rattle.office_net.proofs.Staying.{same_points}

-- ---- settings, and later ones

-- the same orders of the same points, of which none has come to wait
abbrev AreLater : Settings → Settings → Type 0
AreLater [] [] = ⊤
AreLater [] (y ∷ ys) = ⊥
AreLater (x ∷ xs) [] = ⊥
AreLater (x ∷ xs) (y ∷ ys) = (y.0 ≡ x.0) × (y.1.point ≡ x.1.point) × (is_waiting y.1.state ≡ true → is_waiting x.1.state ≡ true) × AreLater xs ys

later_same : (table : Settings) → AreLater table table
later_same [] = tt
later_same (x ∷ xs) = (refl, refl, (λ w. w), later_same xs)

later_then : (a b c : Settings) → AreLater a b → AreLater b c → AreLater a c
later_then [] [] [] p q = tt
later_then [] [] (z ∷ zs) p q = absurd q
later_then [] (y ∷ ys) c p q = absurd p
later_then (x ∷ xs) [] c p q = absurd p
later_then (x ∷ xs) (y ∷ ys) [] p q = absurd q
later_then (x ∷ xs) (y ∷ ys) (z ∷ zs) p q = (q.0 ∙ p.0, q.1 ∙ p.1, (λ w. p.2 (q.2 w)), later_then xs ys zs p.3 q.3)

-- what the order of a number sets, changed where it waits
later_put : (n number : ℕ) (was now : Setting) (table : Settings) → AreOrders n table → setting_at table number ≡ Some was → is_waiting was.state ≡ true → now.point ≡ was.point
    → AreLater table (with_setting number now table)
later_put n number was now [] orders there waits point = absurd (none-some was there)
later_put n number was now (x ∷ xs) orders there waits point =
    by (nat_cmp number x.0) refl (later_put (n + 1) number was now xs orders.1) (found_in n number (x ∷ xs) orders (ap is_some there)).0 orders.0
  where
    same : number ≡ x.0 → x.1 ≡ was
    same is = same_Some x.1 was (sym (ap (λ b. cond b (Some x.1) (setting_at xs number)) (unsigned_tied number x.0 ∙ eq-eqb number x.0 is)) ∙ there)

    by : (o : Rank) → nat_cmp number x.0 ≡ o → (setting_at xs number ≡ Some was → is_waiting was.state ≡ true → now.point ≡ was.point → AreLater xs (with_setting number now xs))
        → n < number → x.0 ≡ n + 1
        → AreLater (x ∷ xs) (rows.by_order o ((number, now) ∷ x ∷ xs) ((x.0, now) ∷ xs) (x ∷ with_setting number now xs))
    by Less is more above first = let lt : number < x.0 = ranked number x.0 Less (sym is) in absurd (omega (arith, lt, above, first))
    by Equal is more above first =
        let at : number ≡ x.0 = ranked number x.0 Equal (sym is) in
        let own : x.1 ≡ was = same at in
        (refl, point ∙ sym (ap (λ (s : Setting). s.point) own), (λ w. ap (λ (s : Setting). is_waiting s.state) own ∙ waits), later_same xs)
    by Greater is more above first =
        let gt : x.0 < number = ranked number x.0 Greater (sym is) in
        let apart : number ≡ x.0 → ⊥ = λ e. absurd (omega (arith, gt, e)) in (
          refl,
          refl,
          (λ w. w),
          more (sym (ap (λ b. cond b (Some x.1) (setting_at xs number)) (unsigned_tied number x.0 ∙ ne_eqb number x.0 apart)) ∙ there) waits point,
        )

-- what a unit settles
later_settled : (number : ℕ) (o : Option OrderState) (table : Settings) → AreOrders 0 table → AreLater table (settle number o table)
later_settled number None table orders = later_same table
later_settled number (Some state) table orders = at (setting_at table number) refl
  where
    put : (s : Setting) → setting_at table number ≡ Some s → (b : Bool) → is_waiting s.state ≡ b → AreLater table (cond b (with_setting number (record s { state = state }) table) table)
    put s there true waits = later_put 0 number s (record s { state = state }) table orders there waits refl
    put s there false waits = later_same table

    at : (o : Option Setting) → setting_at table number ≡ o → AreLater table (settle_at number state o table)
    at None none = later_same table
    at (Some s) there = put s there (is_waiting s.state) refl

later_by : (o : Option Query) (unit : List ℕ) (table : Settings) → AreOrders 0 table → AreLater table (settled_by o unit table)
later_by None unit table orders = later_same table
later_by (Some (Reads q)) unit table orders = later_same table
later_by (Some (Writes w)) unit table orders = by (fits (Writes w) unit)
  where
    by : (b : Bool) → AreLater table (cond b (settle w.order (state_by w unit) table) table)
    by true = later_settled w.order (state_by w unit) table orders
    by false = later_same table

-- ---- in a round

frame_later : (now : History) (conn : ℕ) (frame : Frame) → AreLater (settings now) (settings (arriving now conn frame ∷ now))
frame_later now conn frame = ⊎_elim
    (λ (reply : IsReply now conn frame). subst (λ h. AreLater (settings now) (settings (h ∷ now))) (sym reply.is) (by reply.number frame.unit (is_answered now conn reply.number)))
    (λ (other : IsOther now conn frame). subst (λ h. AreLater (settings now) (settings (h ∷ now))) (sym other.is) (later_same (settings now)))
    (sorted now conn frame)
  where
    by : (n : ℕ) (unit : List ℕ) (b : Bool) → AreLater (settings now) (cond b (settings now) (settled_by (slice_get (asked now conn) n) unit (settings now)))
    by n unit true = later_same (settings now)
    by n unit false = later_by (slice_get (asked now conn) n) unit (settings now) (numbered now)

turn_later : (conn slot : ℕ) (now : History) (job : LineJob) → AreLater (settings now) (settings (turn_of conn slot now job ∷ now))
turn_later conn slot now (Order device) = later_same (settings now)
turn_later conn slot now (Read device read) = later_same (settings now)

move_later : (start : Start) (move : Move) (moves : List Move) → AreLater (settings (told start moves)) (settings (told start (move ∷ moves)))
move_later start (Asks job) moves = turn_later start.conn start.slot (told start moves) job
move_later start (Passes job) moves = later_same (settings (told start moves))
move_later start (Comes frame) moves = frame_later (told start moves) start.conn frame

all_later : (start : Start) (moves : List Move) → AreLater (settings start.before) (settings (told start moves))
all_later start [] = later_same (settings start.before)
all_later start (move ∷ moves) = later_then (settings start.before) (settings (told start moves)) (settings (told start (move ∷ moves))) (all_later start moves) (move_later start move moves)

-- ---- the oldest that waits

module _ (known : List PointRow) (device : List ℕ) where
  -- a row that waits on the device did so before
  waited : (x y : ℕ × Setting) → y.1.point ≡ x.1.point → (is_waiting y.1.state ≡ true → is_waiting x.1.state ≡ true) → waits_on known device y ≡ true → waits_on known device x ≡ true
  waited x y point up on =
      let parts = and_parts (is_waiting y.1.state) (is_of device (point_at known y.1.point)) on in
      ap (λ b. b && is_of device (point_at known x.1.point)) (up parts.0) ∙ ap (λ p. is_of device (point_at known p)) (sym point) ∙ parts.1

  still_off : (x y : ℕ × Setting) → y.1.point ≡ x.1.point → (is_waiting y.1.state ≡ true → is_waiting x.1.state ≡ true) → waits_on known device x ≡ false
      → (b : Bool) → waits_on known device y ≡ b → waits_on known device y ≡ false
  still_off x y point up off false is = is
  still_off x y point up off true is = let on : waits_on known device x ≡ true = waited x y point up is in absurd (cc)

  -- where one waits, one waited before
  some_waited : (old new : Settings) → AreLater old new → is_some (find (waits_on known device) new) ≡ true → is_some (find (waits_on known device) old) ≡ true
  some_waited [] [] later some = some
  some_waited [] (y ∷ ys) later some = absurd later
  some_waited (x ∷ xs) [] later some = absurd later
  some_waited (x ∷ xs) (y ∷ ys) later some =
      by (waits_on known device y) (waits_on known device x) (waited x y later.1 later.2) some (some_waited xs ys later.3)
    where
      by : (b a : Bool) → (b ≡ true → a ≡ true) → is_some (cond b (Some y) (find (waits_on known device) ys)) ≡ true
          → (is_some (find (waits_on known device) ys) ≡ true → is_some (find (waits_on known device) xs) ≡ true) → is_some (cond a (Some x) (find (waits_on known device) xs)) ≡ true
      by b true up some rest = refl
      by true false up some rest = let on : false ≡ true = up refl in absurd (cc)
      by false false up some rest = rest some

  -- the order that waited as the oldest is the oldest that waits, or waits no longer
  abbrev IsNextOr : Settings → ℕ → Type 0
  IsNextOr new order =
      ((setting : Setting) × (find (waits_on known device) new ≡ Some (order, setting)))
      ⊎ ((setting : Setting) × (setting_at new order ≡ Some setting) × (is_waiting setting.state ≡ false))

  oldest_later : (n : ℕ) (old new : Settings) (order : ℕ) (setting : Setting) → AreOrders n new → AreLater old new → find (waits_on known device) old ≡ Some (order, setting) → IsNextOr new order
  oldest_later n [] new order setting orders later oldest = absurd (none-some (order, setting) oldest)
  oldest_later n (x ∷ xs) [] order setting orders later oldest = absurd later
  oldest_later n (x ∷ xs) (y ∷ ys) order setting orders later oldest =
      by (waits_on known device x) refl oldest (oldest_later (n + 1) xs ys order setting orders.1 later.3) orders.0
    where
      on_device : waits_on known device x ≡ true → is_of device (point_at known y.1.point) ≡ true
      on_device on = ap (λ p. is_of device (point_at known p)) later.1 ∙ (and_parts (is_waiting x.1.state) (is_of device (point_at known x.1.point)) on).1

      -- it is this one
      here : order ≡ y.0 → waits_on known device x ≡ true → (b : Bool) → is_waiting y.1.state ≡ b → IsNextOr (y ∷ ys) order
      here at on true waits = inl (
        y.1,
        ap (λ b. cond b (Some y) (find (waits_on known device) ys)) (ap (λ b. b && is_of device (point_at known y.1.point)) waits ∙ on_device on)
            ∙ (λ i. Some (sym at i, y.1)),
      )
      here at on false waits = inr (y.1, ap (λ b. cond b (Some y.1) (setting_at ys order)) (unsigned_tied order y.0 ∙ eq-eqb order y.0 at), waits)

      -- it is a later one
      past : AreOrders (n + 1) ys → y.0 ≡ n + 1 → waits_on known device x ≡ false → IsNextOr ys order → IsNextOr (y ∷ ys) order
      past orders first off (inl next) =
          inl (next.0, ap (λ b. cond b (Some y) (find (waits_on known device) ys)) (still_off x y later.1 later.2 off (waits_on known device y) refl) ∙ next.1)
      past orders first off (inr settled) =
          let in_range = found_in (n + 1) order ys orders (ap is_some settled.1) in
          let above : n + 1 < order = in_range.0 in
          let apart : order ≡ y.0 → ⊥ = λ e. absurd (omega (arith, e, above, first)) in
          inr (settled.0, ap (λ b. cond b (Some y.1) (setting_at ys order)) (unsigned_tied order y.0 ∙ ne_eqb order y.0 apart) ∙ settled.1, settled.2)

      by : (b : Bool) → waits_on known device x ≡ b → cond b (Some x) (find (waits_on known device) xs) ≡ Some (order, setting)
          → (find (waits_on known device) xs ≡ Some (order, setting) → IsNextOr ys order) → y.0 ≡ n + 1 → IsNextOr (y ∷ ys) order
      by true on is rest first =
          let at : x.0 ≡ order = ap (λ (r : ℕ × Setting). r.0) (same_Some x (order, setting) is) in
          here (sym at ∙ sym later.0) on (is_waiting y.1.state) refl
      by false off is rest first = past orders.1 first off (rest is)

-- ---- what the laws say

pub due_begun : (start : Start) (moves : List Move) (device : List ℕ) → is_some (next_order (told start moves) device) ≡ true → is_some (next_order start.before device) ≡ true
due_begun start moves device due =
    some_waited (points start.before) device (settings start.before) (settings (told start moves)) (all_later start moves)
    (ap (λ known. is_some (oldest_waiting known device (settings (told start moves)))) (sym (same_points start moves)) ∙ due)

-- at its device's turn the order that waited as the oldest is next, or waits no longer
pub order_at_turn : (start : Start) (moves : List Move) (device : List ℕ) (order : ℕ) (setting : Setting) → next_order start.before device ≡ Some (order, setting)
    → ((now : Setting) × (next_order (told start moves) device ≡ Some (order, now))) ⊎ IsSettled (told start moves) order
order_at_turn start moves device order setting oldest =
    by (oldest_later (points start.before) device 0 (settings start.before) (settings (told start moves)) order setting (numbered (told start moves)) (all_later start moves) oldest)
  where
    by : IsNextOr (points start.before) device (settings (told start moves)) order → ((now : Setting) × (next_order (told start moves) device ≡ Some (order, now))) ⊎ IsSettled (told start moves) order
    by (inl next) = inl (next.0, ap (λ known. oldest_waiting known device (settings (told start moves))) (same_points start moves) ∙ next.1)
    by (inr done) = inr (record { setting = done.0; there = done.1; settled = done.2 })

-- what is settled stays so
settled_later : (old new : Settings) → AreLater old new → (order : ℕ) (setting : Setting) → setting_at old order ≡ Some setting → is_waiting setting.state ≡ false
    → (now : Setting) × (setting_at new order ≡ Some now) × (is_waiting now.state ≡ false)
settled_later [] new later order setting there settled = absurd (none-some setting there)
settled_later (x ∷ xs) [] later order setting there settled = absurd later
settled_later (x ∷ xs) (y ∷ ys) later order setting there settled =
    by (eq_by_cmp nat_cmp order x.0) (ap (λ n. eq_by_cmp nat_cmp order n) later.0) there (settled_later xs ys later.3 order setting)
  where
    own : (b : Bool) → is_waiting y.1.state ≡ b → x.1 ≡ setting → is_waiting y.1.state ≡ false
    own false is same = is
    own true is same = let on : true ≡ false = sym (later.2 is) ∙ ap (λ (s : Setting). is_waiting s.state) same ∙ settled in absurd (cc)

    by : (b : Bool) → eq_by_cmp nat_cmp order y.0 ≡ b → cond b (Some x.1) (setting_at xs order) ≡ Some setting
        → (setting_at xs order ≡ Some setting → is_waiting setting.state ≡ false → (now : Setting) × (setting_at ys order ≡ Some now) × (is_waiting now.state ≡ false))
        → (now : Setting) × (cond (eq_by_cmp nat_cmp order y.0) (Some y.1) (setting_at ys order) ≡ Some now) × (is_waiting now.state ≡ false)
    by true at is rest = (y.1, ap (λ b. cond b (Some y.1) (setting_at ys order)) at, own (is_waiting y.1.state) refl (same_Some x.1 setting is))
    by false at is rest =
        let (now, found, done) = rest is settled in
        (now, ap (λ b. cond b (Some y.1) (setting_at ys order)) at ∙ found, done)

pub still_settled : (start : Start) (move : Move) (moves : List Move) (order : ℕ) → IsSettled (told start moves) order → IsSettled (told start (move ∷ moves)) order
still_settled start move moves order done =
    let (now, there, settled) = settled_later (settings (told start moves)) (settings (told start (move ∷ moves))) (move_later start move moves) order done.setting done.there done.settled in
    record { setting = now; there = there; settled = settled }
