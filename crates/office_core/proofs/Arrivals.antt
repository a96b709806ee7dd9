-- What the arrival of a frame does to an office that stands for a history.
use Rattle.std.proofs.Common.{◌≡◌, ◌≢◌, ℕ, zero, suc, ◌+◌, ◌%◌, ◌<◌, ◌≤◌, Bool, true, false, cond, not, eqb, List, [], ◌∷◌, ◌++◌, length, Some, None, Option, refl, sym, ap, ◌∙◌, arith, subst, ◌⊎◌, inl, inr, ⊎_elim}
use Rattle.std.specs.Prelude.{slice_get, option_map, IsSome, ◌&&◌, ◌||◌}
use Rattle.std.proofs.lemmas.Bool.{false≢true, and_parts, and_from, eqb-true, eq-eqb, ne_eqb, not-true, cases_eq}
use Rattle.std.proofs.lemmas.Option.{same_Some}
use Rattle.mb_mbap.specs.declared.frame.Frame.{Frame}
use Rattle.point_list.specs.declared.site.Site.{Site}
use Rattle.poll_match.specs.declared.asked.Matched.{Matched}
use Rattle.poll_match.specs.declared.error.MatchError.{MatchError}
use Rattle.poll_match.specs.declared.error.MatchError.TheVariants as matching
use Rattle.poll_match.specs.Window.{Open as OpenOne, held, refusal, settled_at, with_settled, with_answer, Changes}
use Rattle.poll_match.proofs.Numbers.{numbered_at, numbered_is}
use Rattle.poll_book.specs.declared.rows.PointRow.{PointRow}
use Rattle.poll_book.specs.Tables.{Tables, Readings, Voids, marked, new_rows, with_rows}
use Rattle.poll_book.specs.Totals.{totals_of}
use Rattle.office_core.specs.declared.event.Arrival.TheVariants.{Recorded, Excepted}
use Rattle.office_core.specs.declared.event.Event.TheVariants as event
use Rattle.office_core.specs.declared.event.EventAnswer.TheVariants as answer
use Rattle.office_core.specs.Errors.{refused_by}
use Rattle.office_core.specs.Cover.{excepts, given_rows}
use Rattle.office_core.specs.Queries.{Query, Reads, Writes, asked_of, exception_code, is_excepted, unit_id_of, fits}
use Rattle.office_core.specs.Orders.{settle, settled_by, state_by}
use Rattle.office_core.specs.History.{Happening, Restart, Load, Order, Void, Open, Ask, Send, Reply, Noise, History, tables, kept_readings, readings, points, voids, settings, requests, connections, open_line, asked, is_answered, fits_query, given, given_by}
use Rattle.office_core.specs.Answers.{answer_of, unit_answer, frame_answer, reply_frame}
use Rattle.office_core.specs.Legal.{MayHappen, IsTimely, IsNoise}
use Rattle.poll_book.specs.Orders.{Settings}
use Rattle.office_core.specs.Keeping.{with_given, with_readings, with_state}
use Rattle.office_core.specs.Standing.{queries_from, queries, open_one, open_of, StandsFor, Sees}
use Rattle.office_core.proofs.Marks.{new_marked, new_to_marked, rows_marked}
use Rattle.office_core.proofs.Rows.{readings_more, readings_same}
use Rattle.office_core.proofs.Queries.{length-queries, still_open, open-settled}
use Rattle.office_core.proofs.Naming.{named_by, number_by, line_by, refusal_is, refused_told, Accepted, accepted_told, reply_told}

-- ---- the tables after a reply

-- the tables with what a reply brings that answers
abbrev pub recorded : List PointRow → Query → List ℕ → Tables → Tables
recorded known (Reads q) unit kept = cond (excepts q.read unit) kept (with_given (given_rows known q unit) kept)
recorded known (Writes w) unit kept = with_state w.order (state_by w unit) kept

abbrev with_more : History → Readings → Settings → Tables
with_more before more set = record { points = points before; readings = marked (voids before) (with_rows (given before ++ more) []); voids = voids before; totals = totals_of (points before) (marked (voids before) (with_rows (given before ++ more) [])); settings = set; requests = requests before; connections = connections before }

none_more : (before : History) (set : Settings) → with_more before [] set ≡ record (tables before) { settings = set }
none_more before set = ap (λ r. record (tables before) { readings = marked (voids before) r; totals = totals_of (points before) (marked (voids before) r); settings = set }) (readings_same (given before))

-- what is new goes into what is kept
kept_more : (before : History) (rows : Readings)
    → marked (voids before) (with_rows (given before ++ rows) []) ≡ with_rows (new_rows (kept_readings before) (marked (voids before) rows)) (kept_readings before)
kept_more before rows =
    let table = readings before in
    ap (marked (voids before)) (readings_more (given before) rows)
    ∙ rows_marked (voids before) (new_rows table rows) table
    ∙ ap (λ l. with_rows l (kept_readings before)) (sym (new_to_marked (voids before) table (marked (voids before) rows) ∙ new_marked (voids before) table rows))

-- how many are new doesn't depend on which slots are voided
pub told_marked : (voids : Voids) (table : Readings) (known : List PointRow) (query : Query) (unit : List ℕ) → unit_answer (marked voids table) known query unit ≡ unit_answer table known query unit
told_marked voids table known (Reads q) unit =
    ap (λ (l : Readings). cond (is_excepted (Reads q) unit) (answer.Arrived (Excepted (exception_code unit))) (answer.Arrived (Recorded (length l)))) (new_to_marked voids table (given_rows known q unit))
told_marked voids table known (Writes w) unit = refl

-- a reply that doesn't fit its query gives nothing, and settles nothing
unfit_gives : (known : List PointRow) (q : Query) (unit : List ℕ) → fits q unit ≡ false → given_by known (Some q) unit ≡ []
unfit_gives known (Reads q) unit unfit = ap (λ b. cond (b && not (excepts q.read unit)) (given_rows known q unit) []) unfit
unfit_gives known (Writes w) unit unfit = refl

unfit_settles : (q : Query) (unit : List ℕ) (set : Settings) → fits q unit ≡ false → settled_by (Some q) unit set ≡ set
unfit_settles (Reads q) unit set unfit = refl
unfit_settles (Writes w) unit set unfit = ap (λ b. cond b (settle w.order (state_by w unit) set) set) unfit

-- what the first answering reply to a query brings, and another one
abbrev after_reply : History → Bool → Option Query → List ℕ → Tables
after_reply before answered query unit =
    with_more before (cond answered [] (given_by (points before) query unit)) (cond answered (settings before) (settled_by query unit (settings before)))

-- a reply to a query that was answered, or one that doesn't fit, changes nothing
pub tables_same : (before : History) (c n : ℕ) (unit : List ℕ) (q : Query) → slice_get (asked before c) n ≡ Some q
    → (is_answered before c n ≡ true) ⊎ (fits q unit ≡ false) → tables (Reply c n unit ∷ before) ≡ tables before
tables_same before c n unit q is (inl answered) =
    ap (λ b. after_reply before b (slice_get (asked before c) n) unit) answered ∙ none_more before (settings before)
tables_same before c n unit q is (inr unfit) =
    ap (λ o. after_reply before (is_answered before c n) o unit) is
    ∙ (λ i. with_more before (cond (is_answered before c n) [] (unfit_gives (points before) q unit unfit i)) (cond (is_answered before c n) (settings before) (unfit_settles q unit (settings before) unfit i)))
    ∙ by (is_answered before c n)
  where
    by : (b : Bool) → with_more before (cond b [] []) (cond b (settings before) (settings before)) ≡ tables before
    by true = none_more before (settings before)
    by false = none_more before (settings before)

-- the first answering reply brings what it does
pub tables_more : (before : History) (c n : ℕ) (unit : List ℕ) (q : Query) → slice_get (asked before c) n ≡ Some q
    → is_answered before c n ≡ false → fits q unit ≡ true → tables (Reply c n unit ∷ before) ≡ recorded (points before) q unit (tables before)
tables_more before c n unit q is fresh fit =
    ap (λ b. after_reply before b (slice_get (asked before c) n) unit) fresh
    ∙ ap (λ o. after_reply before false o unit) is
    ∙ by q fit
  where
    read : (rows : Readings) (b : Bool) → with_more before (cond (true && not b) rows []) (settings before) ≡ cond b (tables before) (with_given rows (tables before))
    read rows true = none_more before (settings before)
    read rows false = ap (λ r. with_readings r (tables before)) (kept_more before rows)

    by : (q : Query) → fits q unit ≡ true → after_reply before false (Some q) unit ≡ recorded (points before) q unit (tables before)
    by (Reads q) fit =
        ap (λ b. with_more before (cond (b && not (excepts q.read unit)) (given_rows (points before) q unit) []) (settings before)) fit
        ∙ read (given_rows (points before) q unit) (excepts q.read unit)
    by (Writes w) fit =
        ap (λ b. with_more before [] (cond b (settle w.order (state_by w unit) (settings before)) (settings before))) fit
        ∙ none_more before (settle w.order (state_by w unit) (settings before))

-- ---- what is answered after a reply

answered_rest : (b a f : Bool) → (b ≡ true → (a ≡ true) ⊎ (f ≡ false)) → ((b && f) || a) ≡ a
answered_rest true true f h = elim f as (λ f. (f || true) ≡ true) [ true ↦ refl | false ↦ refl ]
answered_rest true false f h = ⊎_elim (λ e. absurd (false≢true e)) (λ (e : f ≡ false). ap (λ x. x || false) e) (h refl)
answered_rest false a f h = refl

grouped : (a b f : Bool) → (a && (b && f)) ≡ ((a && b) && f)
grouped true b f = refl
grouped false b f = refl

-- a reply that doesn't count answers nothing
answered_same : (before : History) (c n : ℕ) (unit : List ℕ) (q : Query) → slice_get (asked before c) n ≡ Some q
    → (is_answered before c n ≡ true) ⊎ (fits q unit ≡ false) → (other k : ℕ) → is_answered (Reply c n unit ∷ before) other k ≡ is_answered before other k
answered_same before c n unit q is counts other k =
    ap (λ b. b || is_answered before other k) (grouped (eqb c other) (eqb n k) (fits_query (slice_get (asked before other) k) unit))
    ∙ answered_rest (eqb c other && eqb n k) (is_answered before other k) (fits_query (slice_get (asked before other) k) unit)
    (λ same.
    let p = and_parts (eqb c other) (eqb n k) same in
    let x : c ≡ other = eqb-true c other p.0 in
    let y : n ≡ k = eqb-true n k p.1 in
    ⊎_elim
    (λ (a : is_answered before c n ≡ true). inl (ap (λ (z : ℕ × ℕ). is_answered before z.0 z.1) (λ i. (sym x i, sym y i)) ∙ a))
    (λ (u : fits q unit ≡ false). inr (ap (λ (z : ℕ × ℕ). fits_query (slice_get (asked before z.0) z.1) unit) (λ i. (sym x i, sym y i)) ∙ ap (λ o. fits_query o unit) is ∙ u))
    counts)

-- and no reply answers anything of another connection
answered_other : (before : History) (c n : ℕ) (unit : List ℕ) (other k : ℕ) → other ≢ c → is_answered (Reply c n unit ∷ before) other k ≡ is_answered before other k
answered_other before c n unit other k apart =
    ap (λ b. (b && (eqb n k && fits_query (slice_get (asked before other) k) unit)) || is_answered before other k) (ne_eqb c other (λ e. apart (sym e)))

-- ---- the open connections after a reply

-- queries past the one that is answered stay
past_queries : (before : History) (c n : ℕ) (unit : List ℕ) (m : ℕ) (qs : List Query) → n < m
    → queries_from (Reply c n unit ∷ before) c m qs ≡ queries_from before c m qs
past_queries before c n unit m [] lt = refl
past_queries before c n unit m (q ∷ qs) lt =
    let off : is_answered (Reply c n unit ∷ before) c m ≡ is_answered before c m =
    ap (λ b. b || is_answered before c m)
    (grouped (eqb c c) (eqb n m) (fits_query (slice_get (asked before c) m) unit)
    ∙ ap (λ b. (eqb c c && b) && fits_query (slice_get (asked before c) m) unit) (ne_eqb n m (λ e. absurd (omega arith)))
    ∙ none (eqb c c) (fits_query (slice_get (asked before c) m) unit)) in
    λ i. record { asked = asked_of q; settled = off i } ∷ past_queries before c n unit (m + 1) qs (omega arith) i
  where
    none : (a f : Bool) → ((a && false) && f) ≡ false
    none true f = refl
    none false f = refl

settled_queries : (before : History) (c n : ℕ) (unit : List ℕ) (q : Query) → slice_get (asked before c) n ≡ Some q → fits q unit ≡ true
    → (k m : ℕ) (qs : List Query) → n ≡ m + k → queries_from (Reply c n unit ∷ before) c m qs ≡ settled_at k (queries_from before c m qs)
settled_queries before c n unit q is fit k m [] at = refl
settled_queries before c n unit q is fit zero m (p ∷ qs) at =
    let same : n ≡ m = omega arith in
    let on : is_answered (Reply c n unit ∷ before) c m ≡ true =
    (λ i. (eq-eqb c c refl i && (eq-eqb n m same i && fits_query (slice_get (asked before c) (sym same i)) unit)) || is_answered before c m)
    ∙ ap (λ o. fits_query o unit || is_answered before c m) is ∙ ap (λ b. b || is_answered before c m) fit in
    λ i. record { asked = asked_of p; settled = on i } ∷ past_queries before c n unit (m + 1) qs (omega arith) i
settled_queries before c n unit q is fit (suc k) m (p ∷ qs) at =
    let apart : n ≢ m = λ e. absurd (omega arith) in
    let off : is_answered (Reply c n unit ∷ before) c m ≡ is_answered before c m =
    (λ i. (eq-eqb c c refl i && (ne_eqb n m apart i && fits_query (slice_get (asked before c) m) unit)) || is_answered before c m) in
    λ i. record { asked = asked_of p; settled = off i } ∷ settled_queries before c n unit q is fit k (m + 1) qs (omega arith) i

-- the connection with that query settled
open_answered : (before : History) (c n : ℕ) (unit : List ℕ) (q : Query) → slice_get (asked before c) n ≡ Some q → fits q unit ≡ true
    → length (asked before c) ≤ n + 65536 → with_answer n (open_of before c) ≡ open_of (Reply c n unit ∷ before) c
open_answered before c n unit q is fit near = by (open_line before c)
  where
    all : List Matched
    all = queries before c

    by : (o : Option ℕ) → option_map (with_settled n) (option_map (open_one c all) o) ≡ option_map (open_one c (queries (Reply c n unit ∷ before) c)) o
    by None = refl
    by (Some line) =
        let count : length all ≡ length (asked before c) = length-queries before c 0 (asked before c) in
        ap Some (open-settled c line n all (omega (arith, count, near)) ∙ ap (λ l. open_one c l line) (sym (settled_queries before c n unit q is fit n 0 (asked before c) (omega arith))))

-- ---- a frame that the office sees

-- is answered as its happening
pub seen_told : (before : History) (happening : Happening) (conn : ℕ) (frame : Frame) → MayHappen before happening → Sees before happening (event.Arrive conn frame)
    → answer_of before happening ≡ frame_answer before conn frame
seen_told before (Restart site) conn frame may sees = absurd sees
seen_told before (Load edition caller key list) conn frame may sees = absurd sees
seen_told before (Order caller key point value) conn frame may sees = absurd sees
seen_told before (Void caller key point at) conn frame may sees = absurd sees
seen_told before (Send c number) conn frame may sees = absurd sees
seen_told before (Open line) conn frame may sees = absurd sees
seen_told before (Ask c device slot read) conn frame may sees = absurd sees
seen_told before (Reply c n unit) conn frame may sees = reply_told before c n unit may.1 ∙ λ i. frame_answer before (sym sees.0 i) (sym sees.1 i)
seen_told before (Noise c noise) conn frame may sees = λ i. frame_answer before (sym sees.0 i) (sym sees.1 i)

own_unit : (n : ℕ) → not (eqb n n) ≡ false
own_unit n = ap not (eq-eqb n n refl)

some_at : (xs : List Query) (n : ℕ) → n < length xs → (q : Query) × (slice_get xs n ≡ Some q)
some_at [] n h = absurd (omega arith)
some_at (x ∷ xs) zero h = (x, refl)
some_at (x ∷ xs) (suc n) h = some_at xs n (omega arith)

late : (x y z : Bool) (e : MatchError) → x ≡ false → cond x (Some matching.WrongUnit) (cond y (Some matching.Repeat) (cond z (Some matching.WrongReply) None)) ≡ Some e
    → (y ≡ true) ⊎ (z ≡ true)
late true y z e p h = absurd (cc)
late false true z e p h = inl refl
late false false true e p h = inr refl
late false false false e p h = absurd (cc)

-- of a reply in time only a repeat or a wrong reply is refused
reply_late : (before : History) (c n : ℕ) (unit : List ℕ) (q : Query) (e : MatchError) → slice_get (asked before c) n ≡ Some q → IsTimely before c n
    → refusal (open_of before c) (reply_frame n (slice_get (asked before c) n) unit) ≡ Some e → (is_answered before c n ≡ true) ⊎ (fits q unit ≡ false)
reply_late before c n unit q e is timely refused =
    ⊎_elim (λ (a : is_answered before c n ≡ true). inl a) (λ (u : not (fits q unit) ≡ true). inr (not-true (fits q unit) u))
    (late (not (eqb (unit_id_of q) (unit_id_of q))) (is_answered before c n) (not (fits q unit)) e (own_unit (unit_id_of q))
    (sym (there (open_line before c) timely.0) ∙ sym (refusal_is before c (reply_frame n (Some q) unit))
    ∙ ap (λ o. refusal (open_of before c) (reply_frame n o unit)) (sym is) ∙ refused))
  where
    there : (o : Option ℕ) → IsSome o → line_by before c o (reply_frame n (Some q) unit) ≡ named_by before c n (Some q) (reply_frame n (Some q) unit)
    there None some = absurd (cc)
    there (Some line) some =
        ap (λ o. number_by before c o (reply_frame n (Some q) unit)) (numbered_at (n % 65536) (length (asked before c)) n timely.1 timely.2 refl)
        ∙ ap (λ o. named_by before c n o (reply_frame n (Some q) unit)) is

-- no noise is accepted
noisy : (before : History) (c : ℕ) (noise : Frame) (n : ℕ) (q : Query) → IsNoise before c noise → Accepted before c noise n q → ⊥
noisy before c noise n q (inl shut) a = let e : Some a.line ≡ None = sym a.is_open ∙ shut in absurd (cc)
noisy before c noise n q (inr quiet) a =
    let near = numbered_is noise.transaction (length (asked before c)) n a.number in
    false≢true (sym (quiet n q a.query near.1 near.2) ∙ and_from (eqb noise.unit_id (unit_id_of q)) (fits q noise.unit) a.unit_id a.fit)

-- the tables after an accepted frame
pub arrival_tables : (before : History) (happening : Happening) (conn : ℕ) (frame : Frame) (n : ℕ) (q : Query) → MayHappen before happening → Sees before happening (event.Arrive conn frame)
    → Accepted before conn frame n q → tables (happening ∷ before) ≡ recorded (points before) q frame.unit (tables before)
arrival_tables before (Restart site) conn frame n q may sees a = absurd sees
arrival_tables before (Load edition caller key list) conn frame n q may sees a = absurd sees
arrival_tables before (Order caller key point value) conn frame n q may sees a = absurd sees
arrival_tables before (Void caller key point at) conn frame n q may sees a = absurd sees
arrival_tables before (Open line) conn frame n q may sees a = absurd sees
arrival_tables before (Ask c device slot read) conn frame n q may sees a = absurd sees
arrival_tables before (Send c number) conn frame n q may sees a = absurd sees
arrival_tables before (Reply c m unit) conn frame n q may sees a =
    by may.1 (subst (λ (x : ℕ × Frame). Accepted before x.0 x.1 n q) (λ i. (sees.0 i, sees.1 i)) a)
    ∙ ap (λ (f : Frame). recorded (points before) q f.unit (tables before)) (sym sees.1)
  where
    by : IsTimely before c m → Accepted before c (reply_frame m (slice_get (asked before c) m) unit) n q
        → tables (Reply c m unit ∷ before) ≡ recorded (points before) q unit (tables before)
    by timely a =
        let same : n ≡ m = same_Some n m (sym a.number ∙ numbered_at (m % 65536) (length (asked before c)) m timely.1 timely.2 refl) in
        tables_more before c m unit q (ap (slice_get (asked before c)) (sym same) ∙ a.query) (ap (is_answered before c) (sym same) ∙ a.fresh) a.fit
arrival_tables before (Noise c noise) conn frame n q may sees a =
    absurd (noisy before c noise n q may.1 (subst (λ (x : ℕ × Frame). Accepted before x.0 x.1 n q) (λ i. (sees.0 i, sees.1 i)) a))

module _ (holds : Tables → Type 0) (now : Site) (known : List PointRow) (all : List OpenOne) (before : History) (stands : StandsFor holds now known all before) where
  -- a refused frame changes nothing
  pub arrival_refused : (happening : Happening) (conn : ℕ) (frame : Frame) (e : MatchError) → MayHappen before happening → Sees before happening (event.Arrive conn frame)
      → refusal (held conn all) frame ≡ Some e → StandsFor holds now known all (happening ∷ before) × (answer.Refused (refused_by e) ≡ answer_of before happening)
  arrival_refused happening conn frame e may sees refused =
      let found = ap (λ o. refusal o frame) (sym (stands.connections conn)) ∙ refused in
      (by happening may sees found, sym (seen_told before happening conn frame may sees ∙ refused_told before conn frame e found))
    where
      by : (h : Happening) → MayHappen before h → Sees before h (event.Arrive conn frame) → refusal (open_of before conn) frame ≡ Some e → StandsFor holds now known all (h ∷ before)
      by (Restart site) may sees found = absurd sees
      by (Load edition caller key list) may sees found = absurd sees
      by (Order caller key point value) may sees found = absurd sees
      by (Void caller key point at) may sees found = absurd sees
      by (Send c number) may sees found = absurd sees
      by (Open line) may sees found = absurd sees
      by (Ask c device slot read) may sees found = absurd sees
      by (Reply c n unit) may sees found =
          let at = some_at (asked before c) n may.1.1 in
          let counts = reply_late before c n unit at.0 e at.1 may.1 ((λ i. refusal (open_of before (sym sees.0 i)) (sym sees.1 i)) ∙ found) in
          record {
            tables = subst holds (sym (tables_same before c n unit at.0 at.1 counts)) stands.tables;
            site = stands.site;
            points = stands.points;
            connections = λ d. stands.connections d ∙ sym (still_open before (Reply c n unit ∷ before) d refl refl (answered_same before c n unit at.0 at.1 counts d));
          }
      by (Noise c noise) may sees found = record {
        tables = stands.tables;
        site = stands.site;
        points = stands.points;
        connections = λ d. stands.connections d ∙ sym (still_open before (Noise c noise ∷ before) d refl refl (λ k. refl));
      }

  -- an accepted frame is the first answering reply to its query
  pub arrival_accepted : (happening : Happening) (conn : ℕ) (frame : Frame) (n : ℕ) (q : Query) → MayHappen before happening → Sees before happening (event.Arrive conn frame)
      → Accepted before conn frame n q → (holds' : Tables → Type 0) → holds' (recorded (points before) q frame.unit (tables before))
      → (all' : List OpenOne) → Changes conn (with_answer n) all all'
      → StandsFor holds' now known all' (happening ∷ before) × (unit_answer (readings before) (points before) q frame.unit ≡ answer_of before happening)
  arrival_accepted happening conn frame n q may sees a holds' new all' settled =
      (by happening may sees, sym (seen_told before happening conn frame may sees ∙ accepted_told before conn frame n q a))
    where
      by : (h : Happening) → MayHappen before h → Sees before h (event.Arrive conn frame) → StandsFor holds' now known all' (h ∷ before)
      by (Restart site) may sees = absurd sees
      by (Load edition caller key list) may sees = absurd sees
      by (Order caller key point value) may sees = absurd sees
      by (Void caller key point at) may sees = absurd sees
      by (Send c number) may sees = absurd sees
      by (Open line) may sees = absurd sees
      by (Ask c device slot read) may sees = absurd sees
      by (Reply c m unit) may sees =
          by_reply c m unit may.1 (subst (λ (x : ℕ × Frame). Accepted before x.0 x.1 n q) (λ i. (sees.0 i, sees.1 i)) a)
          (subst (λ (f : Frame). holds' (recorded (points before) q f.unit (tables before))) sees.1 new) (subst (λ d. Changes d (with_answer n) all all') sees.0 settled)
        where
          by_reply : (c m : ℕ) (unit : List ℕ) → IsTimely before c m → Accepted before c (reply_frame m (slice_get (asked before c) m) unit) n q
              → holds' (recorded (points before) q unit (tables before)) → Changes c (with_answer n) all all' → StandsFor holds' now known all' (Reply c m unit ∷ before)
          by_reply c m unit timely a new settled =
              let same : n ≡ m = same_Some n m (sym a.number ∙ numbered_at (m % 65536) (length (asked before c)) m timely.1 timely.2 refl) in
              let is : slice_get (asked before c) m ≡ Some q = ap (slice_get (asked before c)) (sym same) ∙ a.query in
              let fresh : is_answered before c m ≡ false = ap (is_answered before c) (sym same) ∙ a.fresh in
              record {
                tables = subst holds' (sym (tables_more before c m unit q is fresh a.fit)) new;
                site = stands.site;
                points = stands.points;
                connections = λ d. ⊎_elim
                    (λ (at : d ≡ c). subst (λ x. held x all' ≡ open_of (Reply c m unit ∷ before) x) (sym at)
                    (settled.that ∙ (λ i. with_answer (same i) (stands.connections c i)) ∙ open_answered before c m unit q is a.fit timely.2))
                    (λ (apart : d ≢ c). settled.others d apart ∙ stands.connections d
                    ∙ sym (still_open before (Reply c m unit ∷ before) d refl refl (λ k. answered_other before c m unit d k apart)))
                    (cases_eq d c);
              }
      by (Noise c noise) may sees = absurd (noisy before c noise n q may.1 (subst (λ (x : ℕ × Frame). Accepted before x.0 x.1 n q) (λ i. (sees.0 i, sees.1 i)) a))
