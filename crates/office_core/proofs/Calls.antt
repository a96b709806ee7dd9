-- What follows from what callers and the office did alone, whatever arrived: the site, points, lines, queries, and what
-- orders set.
use Rattle.std.proofs.Common.{◌≡◌, ℕ, ◌+◌, Bool, true, false, cond, eqb, ◌&&◌, ◌||◌, List, [], ◌∷◌, ◌++◌, length, map, Option, Some, None, refl, sym, ap, ◌∙◌}
use Rattle.std.specs.Prelude.{option_map, slice_get}
use Rattle.std.proofs.lemmas.Bool.{eqb-true}
use Rattle.std.proofs.lemmas.List.{append-nil}
use Rattle.point_list.specs.declared.site.Site.{Site}
use Rattle.poll_book.specs.declared.rows.PointRow.{PointRow}
use Rattle.poll_book.specs.declared.rows.OrderState.{OrderState}
use Rattle.poll_book.specs.declared.rows.OrderState.TheVariants.{Waiting}
use Rattle.poll_book.specs.declared.rows.Setting.{Setting}
use Rattle.poll_book.specs.Orders.{Settings, is_waiting, setting_at, with_setting, last_order}
use Rattle.poll_book.specs.Requests.{RequestKey}
use Rattle.office_core.specs.Loads.{known_named, loading, added}
use Rattle.office_core.specs.Orders.{Ordering, Refused, Taken, ordering_of, with_ordered, writing, writing_of, state_by, settle, settle_at, settled_by}
use Rattle.office_core.specs.Voids.{voiding_of, with_voiding}
use Rattle.office_core.specs.Queries.{Query, Reads, Writes, fits}
use Rattle.office_core.specs.History.{Happening, Restart, Load, Order, Void, Open, Ask, Send, Reply, Noise, History, site_of, is_same_key, is_used, points, asked, question, is_answered, settings, ordering, voids}
use Rattle.office_core.specs.SameArrivals.{calls, makes_query}
use Rattle.office_core.proofs.KeptRequests.{AreOrders, numbered, order_next, reply_same}
use Rattle.office_core.proofs.SettledOrders.{at_put}

-- the same happenings as a history, into which nothing arrived
abbrev told : List (Happening × Bool) → History
told made = map (λ (call : Happening × Bool). call.0) made

abbrev deaf : History → History
deaf before = told (calls before)

used_so : (before : History) (key : RequestKey) → is_used before key ≡ is_used (deaf before) key
used_so [] key = refl
used_so (Restart site ∷ before) key = used_so before key
used_so (Load edition caller word list ∷ before) key = ap (λ b. is_same_key (caller, word) key || b) (used_so before key)
used_so (Order caller word point value ∷ before) key = ap (λ b. is_same_key (caller, word) key || b) (used_so before key)
used_so (Void caller word point slot ∷ before) key = ap (λ b. is_same_key (caller, word) key || b) (used_so before key)
used_so (Open line ∷ before) key = used_so before key
used_so (Ask c device slot read ∷ before) key = used_so before key
used_so (Send c number ∷ before) key = used_so before key
used_so (Reply c n unit ∷ before) key = used_so before key
used_so (Noise c frame ∷ before) key = used_so before key

site_so : (before : History) → site_of before ≡ site_of (deaf before)
site_so [] = refl
site_so (Restart site ∷ before) = refl
site_so (Load edition caller word list ∷ before) = site_so before
site_so (Order caller word point value ∷ before) = site_so before
site_so (Void caller word point at ∷ before) = site_so before
site_so (Open line ∷ before) = site_so before
site_so (Ask c device slot read ∷ before) = site_so before
site_so (Send c number ∷ before) = site_so before
site_so (Reply c n unit ∷ before) = site_so before
site_so (Noise c frame ∷ before) = site_so before

points_so : (before : History) → points before ≡ points (deaf before)
points_so [] = refl
points_so (Load edition caller word list ∷ before) =
    λ i. cond (used_so before (caller, word) i) (points_so before i)
    (points_so before i ++ added (length (points_so before i)) (loading edition (site_so before i) (points_so before i) list))
points_so (Restart site ∷ before) = points_so before
points_so (Order caller word point value ∷ before) = points_so before
points_so (Void caller word point at ∷ before) = points_so before
points_so (Open line ∷ before) = points_so before
points_so (Ask c device slot read ∷ before) = points_so before
points_so (Send c number ∷ before) = points_so before
points_so (Reply c n unit ∷ before) = points_so before
points_so (Noise c frame ∷ before) = points_so before

voids_so : (before : History) → voids before ≡ voids (deaf before)
voids_so [] = refl
voids_so (Void caller word point slot ∷ before) =
    λ i. cond (used_so before (caller, word) i) (voids_so before i)
    (with_voiding slot (voiding_of (voids_so before i) (known_named (points_so before i) point) slot) (voids_so before i))
voids_so (Restart site ∷ before) = voids_so before
voids_so (Load edition caller word list ∷ before) = voids_so before
voids_so (Order caller word point value ∷ before) = voids_so before
voids_so (Open line ∷ before) = voids_so before
voids_so (Ask c device slot read ∷ before) = voids_so before
voids_so (Send c number ∷ before) = voids_so before
voids_so (Reply c n unit ∷ before) = voids_so before
voids_so (Noise c frame ∷ before) = voids_so before

-- ---- settings, but for how they stand

abbrev pub waiting : Setting → Setting
waiting s = record s { state = Waiting }

-- a reply leaves what an order sets
module _ (unit : List ℕ) (table : Settings) (order : ℕ) where
  abbrev IsSame : Settings → Type 0
  IsSame now = option_map waiting (setting_at now order) ≡ option_map waiting (setting_at table order)

  put_same : (number : ℕ) (state : OrderState) (s : Setting) → setting_at table number ≡ Some s → IsSame (with_setting number (record s { state = state }) table)
  put_same number state s e =
      ap (option_map waiting) (at_put order number (record s { state = state }) table) ∙ by (eqb order number) refl
    where
      by : (b : Bool) → eqb order number ≡ b
          → option_map waiting (cond b (Some (record s { state = state })) (setting_at table order)) ≡ option_map waiting (setting_at table order)
      by true same = ap (option_map waiting) (sym (ap (setting_at table) (eqb-true order number same) ∙ e))
      by false other = refl

  settle_same : (number : ℕ) (o : Option OrderState) → IsSame (settle number o table)
  settle_same number None = refl
  settle_same number (Some state) = by (setting_at table number) refl
    where
      waits : (s : Setting) → setting_at table number ≡ Some s → (b : Bool) → IsSame (cond b (with_setting number (record s { state = state }) table) table)
      waits s e true = put_same number state s e
      waits s e false = refl

      by : (o : Option Setting) → setting_at table number ≡ o → IsSame (settle_at number state o table)
      by None e = refl
      by (Some s) e = waits s e (is_waiting s.state)

  settled_same : (o : Option Query) → IsSame (settled_by o unit table)
  settled_same None = refl
  settled_same (Some (Reads q)) = refl
  settled_same (Some (Writes w)) = by (fits (Writes w) unit)
    where
      by : (b : Bool) → IsSame (cond b (settle w.order (state_by w unit) table) table)
      by true = settle_same w.order (state_by w unit)
      by false = refl

-- an order takes the next number
last_more : (o : Ordering) (a b : Settings) → AreOrders 0 a → AreOrders 0 b → last_order a ≡ last_order b → last_order (with_ordered o a) ≡ last_order (with_ordered o b)
last_more (Refused fault) a b of_a of_b e = e
last_more (Taken point words) a b of_a of_b e =
    (order_next (Taken point words) a (last_order a + 1) of_a refl).1 ∙ ap (λ n. n + 1) e ∙ sym (order_next (Taken point words) b (last_order b + 1) of_b refl).1

-- and sets the same
setting_more : (o : Ordering) (a b : Settings) (order : ℕ) → last_order a ≡ last_order b → option_map waiting (setting_at a order) ≡ setting_at b order
    → option_map waiting (setting_at (with_ordered o a) order) ≡ setting_at (with_ordered o b) order
setting_more (Refused fault) a b order last e = e
setting_more (Taken point words) a b order last e =
    let s : Setting = record { point = point; words = words; state = Waiting } in
    ap (option_map waiting) (at_put order (last_order a + 1) s a)
    ∙ by (eqb order (last_order a + 1))
    ∙ ap (λ n. cond (eqb order (n + 1)) (Some s) (setting_at b order)) last
    ∙ sym (at_put order (last_order b + 1) s b)
  where
    by : (c : Bool) → option_map waiting (cond c (Some (record { point = point; words = words; state = Waiting })) (setting_at a order))
        ≡ cond c (Some (record { point = point; words = words; state = Waiting })) (setting_at b order)
    by true = refl
    by false = e

last_so : (before : History) → last_order (settings before) ≡ last_order (settings (deaf before))
last_so [] = refl
last_so (Order caller word point value ∷ before) = by (is_used before (caller, word)) (used_so before (caller, word)) (last_so before)
  where
    by : (b : Bool) → b ≡ is_used (deaf before) (caller, word) → last_order (settings before) ≡ last_order (settings (deaf before))
        → last_order (cond b (settings before) (with_ordered (ordering before point value) (settings before)))
        ≡ last_order (cond (is_used (deaf before) (caller, word)) (settings (deaf before)) (with_ordered (ordering (deaf before) point value) (settings (deaf before))))
    by true used last =
        last ∙ ap (λ c. last_order (cond c (settings (deaf before)) (with_ordered (ordering (deaf before) point value) (settings (deaf before))))) used
    by false used last =
        last_more (ordering before point value) (settings before) (settings (deaf before)) (numbered before) (numbered (deaf before)) last
        ∙ (λ i. last_order (with_ordered (ordering_of (last i) (known_named (points_so before i) point) value) (settings (deaf before))))
        ∙ ap (λ c. last_order (cond c (settings (deaf before)) (with_ordered (ordering (deaf before) point value) (settings (deaf before))))) used
last_so (Reply c n unit ∷ before) = reply_same before c n unit ∙ last_so before
last_so (Restart site ∷ before) = last_so before
last_so (Load edition caller word list ∷ before) = last_so before
last_so (Open line ∷ before) = last_so before
last_so (Void caller key point at ∷ before) = last_so before
last_so (Ask c device slot read ∷ before) = last_so before
last_so (Send c number ∷ before) = last_so before
last_so (Noise c frame ∷ before) = last_so before

setting_so : (before : History) (order : ℕ) → option_map waiting (setting_at (settings before) order) ≡ setting_at (settings (deaf before)) order
setting_so [] order = refl
setting_so (Order caller word point value ∷ before) order = by (is_used before (caller, word)) (used_so before (caller, word)) (setting_so before order)
  where
    by : (b : Bool) → b ≡ is_used (deaf before) (caller, word) → option_map waiting (setting_at (settings before) order) ≡ setting_at (settings (deaf before)) order
        → option_map waiting (setting_at (cond b (settings before) (with_ordered (ordering before point value) (settings before))) order)
        ≡ setting_at (cond (is_used (deaf before) (caller, word)) (settings (deaf before)) (with_ordered (ordering (deaf before) point value) (settings (deaf before)))) order
    by true used e =
        e ∙ ap (λ c. setting_at (cond c (settings (deaf before)) (with_ordered (ordering (deaf before) point value) (settings (deaf before)))) order) used
    by false used e =
        setting_more (ordering before point value) (settings before) (settings (deaf before)) order (last_so before) e
        ∙ (λ i. setting_at (with_ordered (ordering_of (last_so before i) (known_named (points_so before i) point) value) (settings (deaf before))) order)
        ∙ ap (λ c. setting_at (cond c (settings (deaf before)) (with_ordered (ordering (deaf before) point value) (settings (deaf before)))) order) used
setting_so (Reply c n unit ∷ before) order = by (is_answered before c n) ∙ setting_so before order
  where
    by : (b : Bool) → option_map waiting (setting_at (cond b (settings before) (settled_by (slice_get (asked before c) n) unit (settings before))) order)
        ≡ option_map waiting (setting_at (settings before) order)
    by true = refl
    by false = settled_same unit (settings before) order (slice_get (asked before c) n)
setting_so (Restart site ∷ before) order = setting_so before order
setting_so (Load edition caller word list ∷ before) order = setting_so before order
setting_so (Open line ∷ before) order = setting_so before order
setting_so (Void caller key point at ∷ before) order = setting_so before order
setting_so (Ask c device slot read ∷ before) order = setting_so before order
setting_so (Send c number ∷ before) order = setting_so before order
setting_so (Noise c frame ∷ before) order = setting_so before order

-- ---- queries

-- what is written for an order doesn't depend on how it stands
writing_so : (o : Option Setting) (site : Site) (known : List PointRow) (number : ℕ) → writing_of o site known number ≡ writing_of (option_map waiting o) site known number
writing_so None site known number = refl
writing_so (Some setting) site known number = refl

-- the query that a call made over a connection, after these
abbrev made_by : Happening → Bool → History → ℕ → List Query
made_by (Ask c device slot read) made before conn = cond (eqb c conn && made) (Reads (question (site_of before) (points before) device slot read) ∷ []) []
made_by (Send c number) made before conn = cond (eqb c conn && made) (Writes (writing (site_of before) (points before) (settings before) number) ∷ []) []
made_by happening made before conn = []

abbrev asked_in : List (Happening × Bool) → ℕ → List Query
asked_in [] conn = []
asked_in (call ∷ rest) conn = asked_in rest conn ++ made_by call.0 call.1 (told rest) conn

one_more : (b : Bool) (qs : List Query) (q : Query) → cond b (qs ++ q ∷ []) qs ≡ qs ++ cond b (q ∷ []) []
one_more true qs q = refl
one_more false qs q = sym (append-nil qs)

asked_so : (before : History) (conn : ℕ) → asked before conn ≡ asked_in (calls before) conn
asked_so [] conn = refl
asked_so (Ask c device slot read ∷ before) conn =
    let made : Bool = makes_query before (Ask c device slot read) in
    one_more (eqb c conn && made) (asked before conn) (Reads (question (site_of before) (points before) device slot read))
    ∙ (λ i. asked_so before conn i ++ cond (eqb c conn && made) (Reads (question (site_so before i) (points_so before i) device slot read) ∷ []) [])
asked_so (Send c number ∷ before) conn =
    let made : Bool = makes_query before (Send c number) in
    one_more (eqb c conn && made) (asked before conn) (Writes (writing (site_of before) (points before) (settings before) number))
    ∙ ap (λ w. asked before conn ++ cond (eqb c conn && made) (Writes w ∷ []) []) (writing_so (setting_at (settings before) number) (site_of before) (points before) number)
    ∙ (λ i. asked_so before conn i ++ cond (eqb c conn && made) (Writes (writing_of (setting_so before number i) (site_so before i) (points_so before i) number) ∷ []) [])
asked_so (Restart site ∷ before) conn = asked_so before conn ∙ sym (append-nil (asked_in (calls before) conn))
asked_so (Load edition caller word list ∷ before) conn = asked_so before conn ∙ sym (append-nil (asked_in (calls before) conn))
asked_so (Order caller word point value ∷ before) conn = asked_so before conn ∙ sym (append-nil (asked_in (calls before) conn))
asked_so (Void caller word point at ∷ before) conn = asked_so before conn ∙ sym (append-nil (asked_in (calls before) conn))
asked_so (Open line ∷ before) conn = asked_so before conn ∙ sym (append-nil (asked_in (calls before) conn))
asked_so (Reply c n unit ∷ before) conn = asked_so before conn
asked_so (Noise c frame ∷ before) conn = asked_so before conn

-- ---- two histories with the same calls

module _ (one other : History) (same : calls one ≡ calls other) where
  pub same_points : points one ≡ points other
  same_points = points_so one ∙ ap (λ l. points (told l)) same ∙ sym (points_so other)

  pub same_voids : voids one ≡ voids other
  same_voids = voids_so one ∙ ap (λ l. voids (told l)) same ∙ sym (voids_so other)

  pub same_asked : (conn : ℕ) → asked one conn ≡ asked other conn
  same_asked conn = asked_so one conn ∙ ap (λ l. asked_in l conn) same ∙ sym (asked_so other conn)

  -- orders set the same
  pub same_set : (order : ℕ) → option_map waiting (setting_at (settings one) order) ≡ option_map waiting (setting_at (settings other) order)
  same_set order = setting_so one order ∙ ap (λ l. setting_at (settings (told l)) order) same ∙ sym (setting_so other order)
