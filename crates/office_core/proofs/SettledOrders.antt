-- An order is sent while it is the oldest that waits, and the earliest reply that settles it says how it stands.
use Rattle.std.proofs.Common.{◌≡◌, ◌≢◌, ◌<◌, ◌≤◌, ℕ, ◌+◌, Bool, true, false, cond, not, eqb, leb, List, [], ◌∷◌, ◌++◌, length, Option, Some, None, inl, inr, refl, sym, ap, ◌∙◌, subst, arith}
use Rattle.std.specs.Prelude.{find, is_some, is_none, slice_get, ◌&&◌, ◌||◌}
use Rattle.std.specs.Cmp.{unsigned_tied}
use Rattle.std.specs.FinMap.Entries as rows
use Rattle.std.specs.Ordering.{eq_by_cmp, nat_cmp}
use Rattle.std.proofs.lemmas.Bool.{and_parts, eqb-true, eq-eqb, ne_eqb}
use Rattle.std.proofs.lemmas.Cmp.{nat_cmp_total}
use Rattle.std.proofs.lemmas.Option.{none-some, same_Some}
use Rattle.mb_pdu.specs.declared.reply.Reply.{Reply as AReply}
use Rattle.mb_pdu.specs.declared.reply.Reply.TheVariants.{Bits, Registers, Written, Excepted}
use Rattle.mb_pdu.specs.Replies.{IsBytes}
use Rattle.mb_pdu.proofs.Answered.{answered}
use Rattle.mb_pdu.proofs.Tells.{told}
use Rattle.point_list.specs.declared.site.Site.{Site}
use Rattle.read_planner.specs.declared.Read.{Read}
use Rattle.point_list.specs.Edition.{Second}
use Rattle.poll_match.specs.Queries.{write_request}
use Rattle.poll_book.specs.declared.requests.Body.TheVariants as body
use Rattle.poll_book.specs.declared.rows.PointRow.{PointRow}
use Rattle.poll_book.specs.declared.rows.OrderState.{OrderState}
use Rattle.poll_book.specs.declared.rows.OrderState.TheVariants.{Waiting, Done, Refused as RefusedBy}
use Rattle.poll_book.specs.declared.rows.Setting.{Setting}
use Rattle.poll_book.specs.Orders.{Settings, is_waiting, setting_at, with_setting, last_order, point_at, waits_on, oldest_waiting}
use Rattle.office_core.specs.declared.error.OfficeError.{OfficeError}
use Rattle.office_core.specs.declared.error.OfficeError.TheVariants as error
use Rattle.office_core.specs.declared.site.Target.{Target}
use Rattle.office_core.specs.Sites.{target}
use Rattle.office_core.specs.Queries.{Writing, Query, Reads, Writes, fits}
use Rattle.office_core.specs.Orders.{Ordering, Refused, Taken, with_ordered, send_fault, send_fault_of, send_fault_at, send_fault_on, is_number, state_by, settle, settle_at, settled_by, writing_at, writing_of}
use Rattle.office_core.specs.Keeping.{reply_state}
use Rattle.office_core.specs.History.{Happening, Restart, Load, Order, Void, Open, Ask, Send, Reply, Noise, History, site_of, points, settings, open_line, ask_fault, question, asked, fits_query, is_answered, is_used, ordering}
use Rattle.office_core.specs.Legal.{Legal}
use Rattle.office_core.specs.FirstArrivals.{Happened}
use Rattle.office_core.specs.SettledOrders.{IsSend, IsOldest, IsReplyToSend, IsFirstToSend, Settles, IsSettledBy}
use Rattle.office_core.proofs.KeptRequests.{AreOrders, found_in, is_order, last_is, numbered, asked_longer, reply_same}
use Rattle.office_core.proofs.Standings.{step_later, legal_at, get_last, get_either, asked_stays, answers_on}
use Rattle.office_core.proofs.Sends.{sends, sent_one}
use Rattle.office_core.proofs.Written.{state_is}

-- ---- what is sent

-- a row that is the first to pass stands under its number
found_row : (n : ℕ) (p : ℕ × Setting → Bool) (table : Settings) (row : ℕ × Setting) → AreOrders n table → find p table ≡ Some row
    → setting_at table row.0 ≡ Some row.1
found_row n p [] row a e = absurd (none-some row e)
found_row n p (x ∷ rest) row a e = by (p x) (λ f. found_row (n + 1) p rest row a.1 f) e
  where
    by : (b : Bool) → (find p rest ≡ Some row → setting_at rest row.0 ≡ Some row.1) → cond b (Some x) (find p rest) ≡ Some row
        → cond (eq_by_cmp nat_cmp row.0 x.0) (Some x.1) (setting_at rest row.0) ≡ Some row.1
    by true more f =
        let same : x ≡ row = same_Some x row f in
        ap (λ b. cond b (Some x.1) (setting_at rest row.0)) (unsigned_tied row.0 x.0 ∙ eq-eqb row.0 x.0 (ap (λ (r : ℕ × Setting). r.0) (sym same)))
        ∙ ap (λ (r : ℕ × Setting). Some r.1) same
    by false more f =
        let there = more f in
        let in_range = found_in (n + 1) row.0 rest a.1 (ap is_some there) in
        let past : n + 1 < row.0 = in_range.0 in
        let first : x.0 ≡ n + 1 = a.0 in
        let apart : row.0 ≢ x.0 = λ e. omega arith in
        ap (λ b. cond b (Some x.1) (setting_at rest row.0)) (unsigned_tied row.0 x.0 ∙ ne_eqb row.0 x.0 apart)
        ∙ there

-- what a send that is accepted passes
passed : (x y z w : Bool) → cond x (Some error.WrongLine) (cond y (Some error.Settled) (cond z (Some error.NotNext) (cond w (Some error.Exhausted) None))) ≡ None
    → (y ≡ false) × (z ≡ false)
passed true y z w e = absurd (cc)
passed false true z w e = absurd (cc)
passed false false true w e = absurd (cc)
passed false false false w e = (refl, refl)

not_off : (b : Bool) → not b ≡ false → b ≡ true
not_off true e = refl
not_off false e = absurd (cc)

module _ (line : ℕ) (site : Site) (known : List PointRow) (table : Settings) (made number : ℕ) where
  -- the order waits and is the next
  record IsPassed (setting : Setting) (point : PointRow) : Type 0 where
    waits : is_waiting setting.state ≡ true
    next : is_number (oldest_waiting known point.point.device table) number ≡ true

  by_target : (setting : Setting) (point : PointRow) (o : Option Target)
      → send_fault_on o line setting.state (is_number (oldest_waiting known point.point.device table) number) made ≡ None → IsPassed setting point
  by_target setting point None e = absurd (cc)
  by_target setting point (Some to) e =
      let p = passed (not (eqb to.line line)) (not (is_waiting setting.state)) (not (is_number (oldest_waiting known point.point.device table) number)) (leb 4294967295 made) e in
      record { waits = not_off (is_waiting setting.state) p.0; next = not_off (is_number (oldest_waiting known point.point.device table) number) p.1 }

  -- and it has its setting and its point
  record Passes : Type 0 where
    setting : Setting
    there : setting_at table number ≡ Some setting
    point : PointRow
    of : point_at known setting.point ≡ Some point
    passes : IsPassed setting point

  by_point : (setting : Setting) → setting_at table number ≡ Some setting → (o : Option PointRow) → point_at known setting.point ≡ o
      → send_fault_at o line site known table made number setting.state ≡ None → Passes
  by_point setting is None none e = absurd (cc)
  by_point setting is (Some point) of e =
      record { setting = setting; there = is; point = point; of = of; passes = by_target setting point (target site point.point.device) e }

  by_setting : (o : Option Setting) → setting_at table number ≡ o → send_fault_of o line site known table made number ≡ None → Passes
  by_setting None none e = absurd (cc)
  by_setting (Some setting) is e = by_point setting is (point_at known setting.point) refl e

-- the first row that waits is that of the order
is_row : (o : Option (ℕ × Setting)) (number : ℕ) (setting : Setting) → is_number o number ≡ true
    → ((row : ℕ × Setting) → o ≡ Some row → row.0 ≡ number → row.1 ≡ setting) → o ≡ Some (number, setting)
is_row None number setting e same = absurd (cc)
is_row (Some row) number setting e same =
    let numbers : row.0 ≡ number = eqb-true row.0 number e in
    λ i. Some (numbers i, same row refl numbers i)

oldest_by : (before : History) (c number made : ℕ) (o : Option ℕ)
    → send_fault o (site_of before) (points before) (settings before) made number ≡ None → IsOldest before number
oldest_by before c number made None e = absurd (cc)
oldest_by before c number made (Some line) e =
    let p = by_setting line (site_of before) (points before) (settings before) made number (setting_at (settings before) number) refl e in
    record {
      setting = p.setting;
      there = p.there;
      waits = p.passes.waits;
      point = p.point;
      of = p.of;
      oldest = is_row (oldest_waiting (points before) p.point.point.device (settings before)) number p.setting p.passes.next
          (λ row is same. same_Some row.1 p.setting
          (sym (found_row 0 (waits_on (points before) p.point.point.device) (settings before) row (numbered before) is)
          ∙ ap (setting_at (settings before)) same
          ∙ p.there));
    }

pub oldest : (before : History) (c n : ℕ) (w : Writing) (sending : History) (send : IsSend before c n w sending) → IsOldest sending send.number
oldest before c n w sending send = oldest_by sending c send.number (length (asked sending c)) (open_line sending c) send.accepted

-- ---- queries

same_write : (a b : Writing) → Writes a ≡ Writes b → a ≡ b
same_write a b e = ap by e
  where
    by : Query → Writing
    by (Writes w) = w
    by (Reads q) = a

abbrev ask_made : History → ℕ → List ℕ → Read → Bool
ask_made before c device read = is_none (ask_fault (open_line before c) (site_of before) (points before) (length (asked before c)) device read)

abbrev asks : History → List ℕ → ℕ → Read → Query
asks before device slot read = Reads (question (site_of before) (points before) device slot read)

-- what was sent is among the queries of its connection
pub send_there : (before : History) (c n : ℕ) (w : Writing) (sending : History) → IsSend before c n w sending → slice_get (asked before c) n ≡ Some (Writes w)
send_there before c n w sending is =
    let old : List Query = asked sending c in
    let new : Query = Writes (sends sending is.number) in
    let at : slice_get (asked (Send c is.number ∷ sending) c) (length (asked sending c)) ≡ Some new =
    ap (λ qs. slice_get qs (length old)) (sent_one sending c is.number (ap is_none is.accepted)) ∙ get_last old new in
    ap (λ h. slice_get (asked h c) n) is.came.stands
    ∙ asked_stays is.came.later (Send c is.number ∷ sending) c n (Writes w)
    (ap (λ m. slice_get (asked (Send c is.number ∷ sending) c) m) (sym is.count) ∙ at ∙ ap (λ (x : Writing). Some (Writes x)) (sym is.is))

pub record WasSent (before : History) (c n : ℕ) (w : Writing) : Type 0 where
  pub sending : History
  pub is : IsSend before c n w sending

sent_later : (h : Happening) (before : History) (c n : ℕ) (w : Writing) → WasSent before c n w → WasSent (h ∷ before) c n w
sent_later h before c n w was = record {
  sending = was.sending;
  is = record {
    number = was.is.number;
    came = step_later h before (Send c was.is.number) was.sending was.is.came;
    accepted = was.is.accepted;
    count = was.is.count;
    is = was.is.is;
  };
}

abbrev refusal : History → ℕ → ℕ → Option OfficeError
refusal before c number = send_fault (open_line before c) (site_of before) (points before) (settings before) (length (asked before c)) number

-- and each write of a connection was sent
pub write_sent : (before : History) (c n : ℕ) (w : Writing) → slice_get (asked before c) n ≡ Some (Writes w) → WasSent before c n w
write_sent [] c n w e = absurd (none-some (Writes w) e)
write_sent (Restart site ∷ before) c n w e = sent_later (Restart site) before c n w (write_sent before c n w e)
write_sent (Load edition caller key list ∷ before) c n w e = sent_later (Load edition caller key list) before c n w (write_sent before c n w e)
write_sent (Order caller key point value ∷ before) c n w e = sent_later (Order caller key point value) before c n w (write_sent before c n w e)
write_sent (Void caller key point at ∷ before) c n w e = sent_later (Void caller key point at) before c n w (write_sent before c n w e)
write_sent (Open line ∷ before) c n w e = sent_later (Open line) before c n w (write_sent before c n w e)
write_sent (Reply d m unit ∷ before) c n w e = sent_later (Reply d m unit) before c n w (write_sent before c n w e)
write_sent (Noise d frame ∷ before) c n w e = sent_later (Noise d frame) before c n w (write_sent before c n w e)
write_sent (Ask d device slot read ∷ before) c n w e = by (λ f. write_sent before c n w f) (eqb d c && ask_made before d device read) e
  where
    by : (slice_get (asked before c) n ≡ Some (Writes w) → WasSent before c n w) → (b : Bool)
        → slice_get (cond b (asked before c ++ asks before device slot read ∷ []) (asked before c)) n ≡ Some (Writes w) → WasSent (Ask d device slot read ∷ before) c n w
    by rest true f = elim (get_either (asked before c) (asks before device slot read) n (Writes w) f) [
      | inl there ↦ sent_later (Ask d device slot read) before c n w (rest there)
      | inr last ↦ let e : Writes w ≡ asks before device slot read = last.1 in absurd (cc)
    ]
    by rest false f = sent_later (Ask d device slot read) before c n w (rest f)
write_sent (Send d number ∷ before) c n w e = by (λ f. write_sent before c n w f) (eqb d c) (refusal before d number) refl refl e
  where
    later : WasSent before c n w → WasSent (Send d number ∷ before) c n w
    later was = sent_later (Send d number) before c n w was

    here : d ≡ c → refusal before d number ≡ None → (length (asked before c) ≡ n) × (w ≡ sends before number) → WasSent (Send d number ∷ before) c n w
    here same accepted last = record {
      sending = before;
      is = record {
        number = number;
        came = record { later = []; stands = λ i. Send (same i) number ∷ before };
        accepted = subst (λ m. refusal before m number ≡ None) same accepted;
        count = last.0;
        is = last.1;
      };
    }

    by : (slice_get (asked before c) n ≡ Some (Writes w) → WasSent before c n w) → (a : Bool) (o : Option OfficeError) → eqb d c ≡ a → refusal before d number ≡ o
        → slice_get (cond (a && is_none o) (asked before c ++ Writes (sends before number) ∷ []) (asked before c)) n ≡ Some (Writes w)
        → WasSent (Send d number ∷ before) c n w
    by rest true None same accepted f = elim (get_either (asked before c) (Writes (sends before number)) n (Writes w) f) [
      | inl there ↦ later (rest there)
      | inr last ↦ here (eqb-true d c same) accepted (last.0, same_write w (sends before number) last.1)
    ]
    by rest true (Some fault) same refused f = later (rest f)
    by rest false o other fault f = later (rest f)

-- ---- replies

-- a query that was answered has a place where the first unit that fits it stands
pub record HasFit (before : History) (c n : ℕ) : Type 0 where
  pub older : History
  pub unit : List ℕ
  pub came : Happened before (Reply c n unit) older
  pub fits_it : fits_query (slice_get (asked older c) n) unit ≡ true
  pub new : is_answered older c n ≡ false

fit_later : (h : Happening) (before : History) (c n : ℕ) → HasFit before c n → HasFit (h ∷ before) c n
fit_later h before c n f = record {
  older = f.older;
  unit = f.unit;
  came = step_later h before (Reply c n f.unit) f.older f.came;
  fits_it = f.fits_it;
  new = f.new;
}

pub answered_by : (before : History) (c n : ℕ) → is_answered before c n ≡ true → HasFit before c n
answered_by [] c n e = absurd (cc)
answered_by (Restart site ∷ before) c n e = fit_later (Restart site) before c n (answered_by before c n e)
answered_by (Load edition caller key list ∷ before) c n e = fit_later (Load edition caller key list) before c n (answered_by before c n e)
answered_by (Order caller key point value ∷ before) c n e = fit_later (Order caller key point value) before c n (answered_by before c n e)
answered_by (Void caller key point at ∷ before) c n e = fit_later (Void caller key point at) before c n (answered_by before c n e)
answered_by (Open line ∷ before) c n e = fit_later (Open line) before c n (answered_by before c n e)
answered_by (Ask d device slot read ∷ before) c n e = fit_later (Ask d device slot read) before c n (answered_by before c n e)
answered_by (Send d number ∷ before) c n e = fit_later (Send d number) before c n (answered_by before c n e)
answered_by (Noise d frame ∷ before) c n e = fit_later (Noise d frame) before c n (answered_by before c n e)
answered_by (Reply d m unit ∷ before) c n e =
    by (λ f. answered_by before c n f) (eqb d c && (eqb m n && fits_query (slice_get (asked before c) n) unit)) (is_answered before c n) refl refl e
  where
    by : (is_answered before c n ≡ true → HasFit before c n)
        → (b old : Bool) → (eqb d c && (eqb m n && fits_query (slice_get (asked before c) n) unit)) ≡ b → is_answered before c n ≡ old → (b || old) ≡ true
        → HasFit (Reply d m unit ∷ before) c n
    by rest b true now is f = fit_later (Reply d m unit) before c n (rest is)
    by rest true false now is f =
        let a = and_parts (eqb d c) _ now in
        let b = and_parts (eqb m n) _ a.1 in
        let same_c : d ≡ c = eqb-true d c a.0 in
        let same_n : m ≡ n = eqb-true m n b.0 in
        record {
          older = before;
          unit = unit;
          came = record { later = []; stands = λ i. Reply (same_c i) (same_n i) unit ∷ before };
          fits_it = b.1;
          new = is;
        }
    by rest false false now is f = absurd (cc)

-- a reply to what was sent fits it
pub reply_fits : (earlier : History) (c n : ℕ) (unit : List ℕ) (w : Writing) (reply : AReply) → IsReplyToSend earlier c n unit w reply
    → fits_query (slice_get (asked earlier c) n) unit ≡ true
reply_fits earlier c n unit w reply is =
    ap (λ o. fits_query o unit) (send_there earlier c n w is.sending is.send) ∙ answered (write_request w.address w.payload) reply unit is.spelled

pub first_so : (before : History) (c n : ℕ) → is_answered before c n ≡ false → IsFirstToSend before c n
first_so before c n e older unit w reply came is =
    let yes : is_answered before c n ≡ true =
    ap (λ h. is_answered h c n) came.stands ∙ answers_on came.later older c n unit (reply_fits older c n unit w reply is) in
    absurd (cc)

-- a unit that fits what was sent is a reply to it
record IsOne (earlier : History) (c n : ℕ) (unit : List ℕ) (w : Writing) : Type 0 where
  reply : AReply
  is : IsReplyToSend earlier c n unit w reply

one_of : (earlier : History) (c n : ℕ) (unit : List ℕ) (w : Writing) → IsBytes unit → slice_get (asked earlier c) n ≡ Some (Writes w)
    → fits (Writes w) unit ≡ true → IsOne earlier c n unit w
one_of earlier c n unit w bytes is e =
    let spelled = told (write_request w.address w.payload) unit bytes e in
    let was = write_sent earlier c n w is in
    record { reply = spelled.0; is = record { sending = was.sending; send = was.is; spelled = spelled.1 } }

-- where no reply to what was sent came, it isn't answered
unanswered : (before : History) (c n : ℕ) (w : Writing) → Legal before → slice_get (asked before c) n ≡ Some (Writes w) → IsFirstToSend before c n
    → is_answered before c n ≡ false
unanswered before c n w legal is first = by (is_answered before c n) refl
  where
    at : HasFit before c n → ⊥
    at f = queried (slice_get (asked f.older c) n) refl f.fits_it
      where
        legal_there : Legal (Reply c n f.unit ∷ f.older)
        legal_there = legal_at before (Reply c n f.unit) f.older f.came legal

        later : (q : Query) → slice_get (asked f.older c) n ≡ Some q → q ≡ Writes w
        later q there = same_Some q (Writes w)
            (sym (ap (λ h. slice_get (asked h c) n) f.came.stands ∙ asked_stays f.came.later (Reply c n f.unit ∷ f.older) c n q there) ∙ is)

        queried : (o : Option Query) → slice_get (asked f.older c) n ≡ o → fits_query o f.unit ≡ true → ⊥
        queried None there fit = absurd (cc)
        queried (Some q) there fit =
            let same = later q there in
            let one = one_of f.older c n f.unit w legal_there.0.0 (there ∙ ap Some same) (ap (λ x. fits x f.unit) (sym same) ∙ fit) in
            first f.older f.unit w one.reply f.came one.is

    by : (b : Bool) → is_answered before c n ≡ b → b ≡ false
    by true e = absurd (at (answered_by before c n e))
    by false e = refl

-- ---- settings

pub at_put : (key k : ℕ) (s : Setting) (table : Settings) → setting_at (with_setting k s table) key ≡ cond (eqb key k) (Some s) (setting_at table key)
at_put key k s table =
    rows.find-put nat_cmp nat_cmp_total key k s table ∙ ap (λ b. cond b (Some s) (setting_at table key)) (unsigned_tied key k)

-- a setting that was settled stays
module _ (order : ℕ) (setting : Setting) (done : is_waiting setting.state ≡ false) where
  stays_ordered : (o : Ordering) (table : Settings) → AreOrders 0 table → setting_at table order ≡ Some setting → setting_at (with_ordered o table) order ≡ Some setting
  stays_ordered (Refused fault) table a e = e
  stays_ordered (Taken point words) table a e =
      let new : Setting = record { point = point; words = words; state = Waiting } in
      let last : last_order table ≡ length table = last_is table a in
      let in_range = found_in 0 order table a (ap is_some e) in
      let le : order ≤ 0 + length table = in_range.1 in
      let apart : order ≢ last_order table + 1 = λ e. omega arith in
      at_put order (last_order table + 1) new table
      ∙ ap (λ b. cond b (Some new) (setting_at table order)) (ne_eqb order (last_order table + 1) apart)
      ∙ e

  stays_settled : (number : ℕ) (o : Option OrderState) (table : Settings) → setting_at table order ≡ Some setting → setting_at (settle number o table) order ≡ Some setting
  stays_settled number None table e = e
  stays_settled number (Some state) table e = by (setting_at table number) refl
    where
      new : Setting → Setting
      new s = record s { state = state }

      put : (s : Setting) → setting_at table number ≡ Some s → is_waiting s.state ≡ true → (b : Bool) → eqb order number ≡ b
          → cond b (Some (new s)) (setting_at table order) ≡ Some setting
      put s is waits true same =
          let equal : s ≡ setting = same_Some s setting (sym is ∙ ap (setting_at table) (sym (eqb-true order number same)) ∙ e) in
          let no : true ≡ false = sym waits ∙ ap (λ (x : Setting). is_waiting x.state) equal ∙ done in
          absurd (cc)
      put s is waits false other = e

      waiting : (s : Setting) → setting_at table number ≡ Some s → (b : Bool) → is_waiting s.state ≡ b
          → setting_at (cond b (with_setting number (new s) table) table) order ≡ Some setting
      waiting s is true waits = at_put order number (new s) table ∙ put s is waits (eqb order number) refl
      waiting s is false settled = e

      by : (o : Option Setting) → setting_at table number ≡ o → setting_at (settle_at number state o table) order ≡ Some setting
      by None is = e
      by (Some s) is = waiting s is (is_waiting s.state) refl

  stays_by : (o : Option Query) (unit : List ℕ) (table : Settings) → setting_at table order ≡ Some setting → setting_at (settled_by o unit table) order ≡ Some setting
  stays_by None unit table e = e
  stays_by (Some (Reads q)) unit table e = e
  stays_by (Some (Writes w)) unit table e = by (fits (Writes w) unit)
    where
      by : (b : Bool) → setting_at (cond b (settle w.order (state_by w unit) table) table) order ≡ Some setting
      by true = stays_settled w.order (state_by w unit) table e
      by false = e

  pub never_changes : (before : History) (later : List Happening) → setting_at (settings before) order ≡ Some setting → setting_at (settings (later ++ before)) order ≡ Some setting
  never_changes before [] e = e
  never_changes before (Restart site ∷ later) e = never_changes before later e
  never_changes before (Load edition caller key list ∷ later) e = never_changes before later e
  never_changes before (Open line ∷ later) e = never_changes before later e
  never_changes before (Void caller key point at ∷ later) e = never_changes before later e
  never_changes before (Ask c device slot read ∷ later) e = never_changes before later e
  never_changes before (Send c number ∷ later) e = never_changes before later e
  never_changes before (Noise c frame ∷ later) e = never_changes before later e
  never_changes before (Order caller key point value ∷ later) e =
      by (is_used (later ++ before) (caller, key)) (never_changes before later e)
    where
      by : (b : Bool) → setting_at (settings (later ++ before)) order ≡ Some setting
          → setting_at (cond b (settings (later ++ before)) (with_ordered (ordering (later ++ before) point value) (settings (later ++ before)))) order ≡ Some setting
      by true f = f
      by false f = stays_ordered (ordering (later ++ before) point value) (settings (later ++ before)) (numbered (later ++ before)) f
  never_changes before (Reply c n unit ∷ later) e =
      by (is_answered (later ++ before) c n) (never_changes before later e)
    where
      by : (b : Bool) → setting_at (settings (later ++ before)) order ≡ Some setting
          → setting_at (cond b (settings (later ++ before)) (settled_by (slice_get (asked (later ++ before) c) n) unit (settings (later ++ before)))) order ≡ Some setting
      by true f = f
      by false f = stays_by (slice_get (asked (later ++ before) c) n) unit (settings (later ++ before)) f

-- ---- what a reply that settles does

some_of : (o : Option Setting) → is_some o ≡ true → (s : Setting) × (o ≡ Some s)
some_of None e = absurd (cc)
some_of (Some s) e = (s, refl)

-- no reply makes an order wait
not_waiting : (reply : AReply) (state : OrderState) → reply_state reply ≡ Some state → is_waiting state ≡ false
not_waiting (Bits bits) state e = ap is_waiting (sym (same_Some Done state e))
not_waiting (Registers words) state e = ap is_waiting (sym (same_Some Done state e))
not_waiting Written state e = ap is_waiting (sym (same_Some Done state e))
not_waiting (Excepted code) state e = by (eqb code 5 || eqb code 6) e
  where
    by : (b : Bool) → cond b None (Some (RefusedBy code)) ≡ Some state → is_waiting state ≡ false
    by true f = absurd (none-some state f)
    by false f = ap is_waiting (sym (same_Some (RefusedBy code) state f))

longer_on : (later : List Happening) (before : History) → last_order (settings before) ≤ last_order (settings (later ++ before))
longer_on [] before = omega arith
longer_on (Restart site ∷ later) before = longer_on later before
longer_on (Load edition caller key list ∷ later) before = longer_on later before
longer_on (Open line ∷ later) before = longer_on later before
longer_on (Void caller key point at ∷ later) before = longer_on later before
longer_on (Ask c device slot read ∷ later) before = longer_on later before
longer_on (Send c number ∷ later) before = longer_on later before
longer_on (Noise c frame ∷ later) before = longer_on later before
longer_on (Reply c n unit ∷ later) before = let same = reply_same (later ++ before) c n unit in let rest = longer_on later before in omega arith
longer_on (Order caller key point value ∷ later) before =
    let more : last_order (settings (later ++ before)) ≤ last_order (settings (Order caller key point value ∷ later ++ before)) =
    asked_longer (later ++ before) (caller, key) Second (body.Order point value) in
    let rest = longer_on later before in omega arith

order_at : (o : Option PointRow) (site : Site) (number : ℕ) (words : List ℕ) → (writing_at o site number words).order ≡ number
order_at None site number words = refl
order_at (Some point) site number words = refl

order_of : (o : Option Setting) (site : Site) (known : List PointRow) (number : ℕ) → (writing_of o site known number).order ≡ number
order_of None site known number = refl
order_of (Some setting) site known number = order_at (point_at known setting.point) site number setting.words

-- an order that was sent has its setting
sent_set : (earlier : History) (c n : ℕ) (w : Writing) (sending : History) → IsSend earlier c n w sending → is_some (setting_at (settings earlier) w.order) ≡ true
sent_set earlier c n w sending send =
    let is : w.order ≡ send.number =
    ap (λ (x : Writing). x.order) send.is ∙ order_of (setting_at (settings sending) send.number) (site_of sending) (points sending) send.number in
    let old = (is_order sending send.number).0 (ap is_some (oldest earlier c n w sending send).there) in
    let least : 1 ≤ send.number = old.0 in
    let most : send.number ≤ last_order (settings sending) = old.1 in
    let longer : last_order (settings sending) ≤ last_order (settings (send.came.later ++ Send c send.number ∷ sending)) =
    longer_on send.came.later (Send c send.number ∷ sending) in
    let same : last_order (settings earlier) ≡ last_order (settings (send.came.later ++ Send c send.number ∷ sending)) =
    ap (λ h. last_order (settings h)) send.came.stands in
    (is_order earlier w.order).1 (omega arith, omega arith)

-- the setting of an order after a reply that settles it
abbrev settled_as : OrderState → Setting → Setting
settled_as state s = cond (is_waiting s.state) (record s { state = state }) s

settles_makes : (older : History) (c n : ℕ) (unit : List ℕ) (order : ℕ) (state : OrderState) (s : Setting) → Legal older → Settles older c n unit order state
    → setting_at (settings older) order ≡ Some s → setting_at (settings (Reply c n unit ∷ older)) order ≡ Some (settled_as state s)
settles_makes older c n unit order state s legal z e =
    let table : Settings = settings older in
    let query = send_there older c n z.w z.replies.sending z.replies.send in
    ap (λ b. setting_at (cond b table (settled_by (slice_get (asked older c) n) unit table)) order) (unanswered older c n z.w legal query z.first)
    ∙ ap (λ o. setting_at (settled_by o unit table) order) query
    ∙ ap (λ b. setting_at (cond b (settle z.w.order (state_by z.w unit) table) table) order) (answered (write_request z.w.address z.w.payload) z.reply unit z.replies.spelled)
    ∙ ap (λ o. setting_at (settle z.w.order o table) order) (sym (state_is z.w unit z.reply z.replies.spelled) ∙ z.state_is)
    ∙ ap (λ k. setting_at (settle k (Some state) table) order) z.order_is
    ∙ ap (λ o. setting_at (settle_at order state o table) order) e
    ∙ by (is_waiting s.state)
  where
    by : (b : Bool) → setting_at (cond b (with_setting order (record s { state = state }) (settings older)) (settings older)) order ≡ Some (cond b (record s { state = state }) s)
    by true =
        at_put order order (record s { state = state }) (settings older)
        ∙ ap (λ b. cond b (Some (record s { state = state })) (setting_at (settings older) order)) (eq-eqb order order refl)
    by false = e

settled_done : (state : OrderState) (s : Setting) → is_waiting state ≡ false → is_waiting (settled_as state s).state ≡ false
settled_done state s done = by (is_waiting s.state) refl
  where
    by : (b : Bool) → is_waiting s.state ≡ b → is_waiting (cond b (record s { state = state }) s).state ≡ false
    by true waits = done
    by false settled = settled

settling_set : (older : History) (c n : ℕ) (unit : List ℕ) (order : ℕ) (state : OrderState) → Settles older c n unit order state
    → (s : Setting) × (setting_at (settings older) order ≡ Some s)
settling_set older c n unit order state z =
    some_of (setting_at (settings older) order)
    (ap (λ k. is_some (setting_at (settings older) k)) (sym z.order_is) ∙ sent_set older c n z.w z.replies.sending z.replies.send)

-- after it the order waits no more
pub settled_on : (before older : History) (c n : ℕ) (unit : List ℕ) (order : ℕ) (state : OrderState) (s : Setting) → Legal before
    → Happened before (Reply c n unit) older → Settles older c n unit order state → setting_at (settings before) order ≡ Some s → is_waiting s.state ≡ false
settled_on before older c n unit order state s legal came z e =
    let old = settling_set older c n unit order state z in
    let now = settles_makes older c n unit order state old.0 (legal_at before (Reply c n unit) older came legal).2 z old.1 in
    let done = settled_done state old.0 (not_waiting z.reply state z.state_is) in
    let stays = never_changes order (settled_as state old.0) done (Reply c n unit ∷ older) came.later now in
    let same : settled_as state old.0 ≡ s =
    same_Some (settled_as state old.0) s (sym stays ∙ ap (λ h. setting_at (settings h) order) (sym came.stands) ∙ e) in
    ap (λ (x : Setting). is_waiting x.state) (sym same) ∙ done

-- ---- which reply settled an order

settled_later : (h : Happening) (before : History) (order : ℕ) (state : OrderState) → IsSettledBy before order state → IsSettledBy (h ∷ before) order state
settled_later h before order state r = record {
  earlier = r.earlier;
  c = r.c;
  n = r.n;
  unit = r.unit;
  came = step_later h before (Reply r.c r.n r.unit) r.earlier r.came;
  settles = r.settles;
  earliest = r.earliest;
}

-- a reply to an order that waits
settled_now : (before : History) (c n : ℕ) (unit : List ℕ) (order : ℕ) (s : Setting) (state : OrderState) (w : Writing) → Legal (Reply c n unit ∷ before)
    → is_answered before c n ≡ false → slice_get (asked before c) n ≡ Some (Writes w) → fits (Writes w) unit ≡ true → state_by w unit ≡ Some state
    → w.order ≡ order → setting_at (settings before) order ≡ Some s → is_waiting s.state ≡ true → IsSettledBy (Reply c n unit ∷ before) order state
settled_now before c n unit order s state w legal new query fit by_unit same is waits =
    let one = one_of before c n unit w legal.0.0 query fit in
    record {
      earlier = before;
      c = c;
      n = n;
      unit = unit;
      came = record { later = []; stands = refl };
      settles = record {
        w = w;
        reply = one.reply;
        replies = one.is;
        first = first_so before c n new;
        order_is = same;
        state_is = state_is w unit one.reply one.is.spelled ∙ by_unit;
      };
      earliest = λ older d m other was came z.
          let done = settled_on before older d m other order was s legal.2 came z is in
          let no : true ≡ false = sym waits ∙ done in
          absurd (cc);
    }

-- what a unit does to a setting, where it fits a write that wasn't answered
module _ (before : History) (c n : ℕ) (unit : List ℕ) (order : ℕ) (setting : Setting) (legal : Legal (Reply c n unit ∷ before))
    (rest : setting_at (settings before) order ≡ Some setting → IsSettledBy before order setting.state)
    (new : is_answered before c n ≡ false) (w : Writing) (query : slice_get (asked before c) n ≡ Some (Writes w)) (fit : fits (Writes w) unit ≡ true) where
  put : (state : OrderState) → state_by w unit ≡ Some state → (s : Setting) → setting_at (settings before) w.order ≡ Some s → is_waiting s.state ≡ true
      → (b : Bool) → eqb order w.order ≡ b → cond b (Some (record s { state = state })) (setting_at (settings before) order) ≡ Some setting
      → IsSettledBy (Reply c n unit ∷ before) order setting.state
  put state is s at waits true same f =
      let now : record s { state = state } ≡ setting = same_Some (record s { state = state }) setting f in
      let number : w.order ≡ order = sym (eqb-true order w.order same) in
      settled_now before c n unit order s setting.state w legal new query fit (is ∙ ap (λ (x : Setting). Some x.state) now) number
      (ap (setting_at (settings before)) (sym number) ∙ at) waits
  put state is s at waits false other f = settled_later (Reply c n unit) before order setting.state (rest f)

  waiting : (state : OrderState) → state_by w unit ≡ Some state → (s : Setting) → setting_at (settings before) w.order ≡ Some s
      → (b : Bool) → is_waiting s.state ≡ b → setting_at (cond b (with_setting w.order (record s { state = state }) (settings before)) (settings before)) order ≡ Some setting
      → IsSettledBy (Reply c n unit ∷ before) order setting.state
  waiting state is s at true waits f =
      put state is s at waits (eqb order w.order) refl (sym (at_put order w.order (record s { state = state }) (settings before)) ∙ f)
  waiting state is s at false settled f = settled_later (Reply c n unit) before order setting.state (rest f)

  set : (state : OrderState) → state_by w unit ≡ Some state → (o : Option Setting) → setting_at (settings before) w.order ≡ o
      → setting_at (settle_at w.order state o (settings before)) order ≡ Some setting → IsSettledBy (Reply c n unit ∷ before) order setting.state
  set state is None at f = settled_later (Reply c n unit) before order setting.state (rest f)
  set state is (Some s) at f = waiting state is s at (is_waiting s.state) refl f

  stated : (o : Option OrderState) → state_by w unit ≡ o → setting_at (settle w.order o (settings before)) order ≡ Some setting
      → IsSettledBy (Reply c n unit ∷ before) order setting.state
  stated None is f = settled_later (Reply c n unit) before order setting.state (rest f)
  stated (Some state) is f = set state is (setting_at (settings before) w.order) refl f

-- an order that doesn't wait was settled by a reply
pub settled_so : (before : History) (order : ℕ) (setting : Setting) → Legal before → setting_at (settings before) order ≡ Some setting
    → is_waiting setting.state ≡ false → IsSettledBy before order setting.state
settled_so [] order setting legal e done = absurd (none-some setting e)
settled_so (Restart site ∷ before) order setting legal e done = settled_later (Restart site) before order setting.state (settled_so before order setting legal.2 e done)
settled_so (Load edition caller key list ∷ before) order setting legal e done =
    settled_later (Load edition caller key list) before order setting.state (settled_so before order setting legal.2 e done)
settled_so (Open line ∷ before) order setting legal e done = settled_later (Open line) before order setting.state (settled_so before order setting legal.2 e done)
settled_so (Void caller key point at ∷ before) order setting legal e done = settled_later (Void caller key point at) before order setting.state (settled_so before order setting legal.2 e done)
settled_so (Ask c device slot read ∷ before) order setting legal e done =
    settled_later (Ask c device slot read) before order setting.state (settled_so before order setting legal.2 e done)
settled_so (Send c number ∷ before) order setting legal e done = settled_later (Send c number) before order setting.state (settled_so before order setting legal.2 e done)
settled_so (Noise c frame ∷ before) order setting legal e done = settled_later (Noise c frame) before order setting.state (settled_so before order setting legal.2 e done)
settled_so (Order caller key point value ∷ before) order setting legal e done =
    by (λ f. settled_so before order setting legal.2 f done) (is_used before (caller, key)) e
  where
    Rest : Type 0
    Rest = setting_at (settings before) order ≡ Some setting → IsSettledBy before order setting.state

    old : IsSettledBy before order setting.state → IsSettledBy (Order caller key point value ∷ before) order setting.state
    old r = settled_later (Order caller key point value) before order setting.state r

    new : Rest → (b : Bool) → is_waiting setting.state ≡ false → (s : Setting) → is_waiting s.state ≡ true
        → cond b (Some s) (setting_at (settings before) order) ≡ Some setting → IsSettledBy (Order caller key point value ∷ before) order setting.state
    new rest true done s waits f =
        let no : true ≡ false = sym waits ∙ ap (λ (x : Setting). is_waiting x.state) (same_Some s setting f) ∙ done in absurd (cc)
    new rest false done s waits f = old (rest f)

    ordered_by : Rest → (o : Ordering) → setting_at (with_ordered o (settings before)) order ≡ Some setting → IsSettledBy (Order caller key point value ∷ before) order setting.state
    ordered_by rest (Refused fault) f = old (rest f)
    ordered_by rest (Taken at words) f =
        let s : Setting = record { point = at; words = words; state = Waiting } in
        let k : ℕ = last_order (settings before) + 1 in
        new rest (eqb order k) done s refl (sym (at_put order k s (settings before)) ∙ f)

    by : Rest → (b : Bool) → setting_at (cond b (settings before) (with_ordered (ordering before point value) (settings before))) order ≡ Some setting
        → IsSettledBy (Order caller key point value ∷ before) order setting.state
    by rest true f = old (rest f)
    by rest false f = ordered_by rest (ordering before point value) f
settled_so (Reply c n unit ∷ before) order setting legal e done =
    by (λ f. settled_so before order setting legal.2 f done) (is_answered before c n) refl e
  where
    Rest : Type 0
    Rest = setting_at (settings before) order ≡ Some setting → IsSettledBy before order setting.state

    old : IsSettledBy before order setting.state → IsSettledBy (Reply c n unit ∷ before) order setting.state
    old r = settled_later (Reply c n unit) before order setting.state r

    fitting : Rest → is_answered before c n ≡ false → (w : Writing) → slice_get (asked before c) n ≡ Some (Writes w) → (b : Bool) → fits (Writes w) unit ≡ b
        → setting_at (cond b (settle w.order (state_by w unit) (settings before)) (settings before)) order ≡ Some setting
        → IsSettledBy (Reply c n unit ∷ before) order setting.state
    fitting rest new w query true fit f = stated before c n unit order setting legal rest new w query fit (state_by w unit) refl f
    fitting rest new w query false fit f = old (rest f)

    queried : Rest → is_answered before c n ≡ false → (o : Option Query) → slice_get (asked before c) n ≡ o
        → setting_at (settled_by o unit (settings before)) order ≡ Some setting → IsSettledBy (Reply c n unit ∷ before) order setting.state
    queried rest new None query f = old (rest f)
    queried rest new (Some (Reads q)) query f = old (rest f)
    queried rest new (Some (Writes w)) query f = fitting rest new w query (fits (Writes w) unit) refl f

    by : Rest → (b : Bool) → is_answered before c n ≡ b
        → setting_at (cond b (settings before) (settled_by (slice_get (asked before c) n) unit (settings before))) order ≡ Some setting
        → IsSettledBy (Reply c n unit ∷ before) order setting.state
    by rest true answered f = old (rest f)
    by rest false new f = queried rest new (slice_get (asked before c) n) refl f

-- and the earliest reply that settles an order says how it stands
abbrev StandsAs : History → ℕ → OrderState → Type 0
StandsAs before order state = (setting : Setting) × (setting_at (settings before) order ≡ Some setting) × (setting.state ≡ state)

stands_so : (before : History) (order : ℕ) (state : OrderState) → Legal before → IsSettledBy before order state → StandsAs before order state
stands_so before order state legal r =
    let z = r.settles in
    let legal_earlier : Legal r.earlier = (legal_at before (Reply r.c r.n r.unit) r.earlier r.came legal).2 in
    let old = settling_set r.earlier r.c r.n r.unit order state z in
    let s : Setting = old.0 in
    let now = settles_makes r.earlier r.c r.n r.unit order state s legal_earlier z old.1 in
    let done = settled_done state s (not_waiting z.reply state z.state_is) in
    let stays = never_changes order (settled_as state s) done (Reply r.c r.n r.unit ∷ r.earlier) r.came.later now in
    (settled_as state s, ap (λ h. setting_at (settings h) order) r.came.stands ∙ stays, by legal_earlier s old.1 (is_waiting s.state) refl)
  where
    by : Legal r.earlier → (s : Setting) → setting_at (settings r.earlier) order ≡ Some s → (b : Bool) → is_waiting s.state ≡ b
        → (cond b (record s { state = state }) s).state ≡ state
    by l s is true waits = refl
    by l s is false settled =
        let was = settled_so r.earlier order s l is settled in
        absurd (r.earliest was.earlier was.c was.n was.unit s.state was.came was.settles)

pub settled : (before : History) (order : ℕ) (state : OrderState) → Legal before → is_waiting state ≡ false
    → (StandsAs before order state → IsSettledBy before order state) × (IsSettledBy before order state → StandsAs before order state)
settled before order state legal done = (
  (λ h. let is : h.0.state ≡ state = h.2 in
      subst (IsSettledBy before order) is (settled_so before order h.0 legal h.1 (ap is_waiting is ∙ done))),
  (λ r. stands_so before order state legal r),
)

-- while it waits, none came
pub waits : (before : History) (order : ℕ) (setting : Setting) → Legal before → setting_at (settings before) order ≡ Some setting → setting.state ≡ Waiting
    → (state : OrderState) → IsSettledBy before order state → ⊥
waits before order setting legal e waiting state r =
    let done = settled_on before r.earlier r.c r.n r.unit order state setting legal r.came r.settles e in
    let no : true ≡ false = sym (ap is_waiting waiting) ∙ done in
    absurd (cc)
