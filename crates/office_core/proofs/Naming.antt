-- What the matcher finds for a frame is what the history says of it.
use Rattle.std.proofs.Common.{◌≡◌, ℕ, ◌%◌, Bool, true, false, cond, not, eqb, List, length, Some, None, Option, refl, sym, ap, ◌∙◌, arith}
use Rattle.std.specs.Prelude.{slice_get, option_map, is_none, IsSome}
use Rattle.std.proofs.lemmas.Option.{same_Some}
use Rattle.mb_pdu.specs.Replies.{spells_reply}
use Rattle.mb_pdu.specs.declared.reply.Reply.{Reply}
use Rattle.mb_mbap.specs.declared.frame.Frame.{Frame}
use Rattle.poll_match.specs.declared.asked.Asked.{Asked}
use Rattle.poll_match.specs.declared.asked.Matched.{Matched}
use Rattle.poll_match.specs.declared.error.MatchError.{MatchError}
use Rattle.poll_match.specs.declared.error.MatchError.TheVariants as matching
use Rattle.poll_match.specs.Queries.{request_of}
use Rattle.poll_match.specs.Window.{Open as OpenOne, Names, refusal, number_refusal, named_refusal, query_refusal, query_at, numbered}
use Rattle.poll_match.proofs.Numbers.{numbered_at, numbered_is}
use Rattle.poll_match.proofs.Windows.{query_kept}
use Rattle.office_core.specs.declared.error.OfficeError.TheVariants as error
use Rattle.office_core.specs.declared.event.EventAnswer.{EventAnswer}
use Rattle.office_core.specs.declared.event.EventAnswer.TheVariants as answer
use Rattle.office_core.specs.Errors.{refused_by}
use Rattle.office_core.specs.Queries.{Query, asked_of, unit_id_of, fits}
use Rattle.office_core.specs.History.{History, points, readings, open_line, asked, is_answered}
use Rattle.office_core.specs.Answers.{unit_answer, query_answer, number_answer, frame_answer, reply_frame}
use Rattle.office_core.specs.Legal.{IsTimely}
use Rattle.office_core.specs.Standing.{queries, open_one, open_of}
use Rattle.office_core.proofs.Queries.{length-queries, get_query}

-- ---- the refusal, by the history

abbrev pub named_by : History → ℕ → ℕ → Option Query → Frame → Option MatchError
named_by before conn n None frame = Some matching.NoQuery
named_by before conn n (Some q) frame = query_refusal (record { asked = asked_of q; settled = is_answered before conn n }) frame

abbrev pub number_by : History → ℕ → Option ℕ → Frame → Option MatchError
number_by before conn None frame = Some matching.NoQuery
number_by before conn (Some n) frame = named_by before conn n (slice_get (asked before conn) n) frame

abbrev pub line_by : History → ℕ → Option ℕ → Frame → Option MatchError
line_by before conn None frame = Some matching.NoConnection
line_by before conn (Some line) frame = number_by before conn (numbered frame.transaction (length (asked before conn))) frame

named_is : (before : History) (conn n : ℕ) (o : Option Query) (frame : Frame)
    → named_refusal (option_map (λ (q : Query). record { asked = asked_of q; settled = is_answered before conn n }) o) frame ≡ named_by before conn n o frame
named_is before conn n None frame = refl
named_is before conn n (Some q) frame = refl

number_is : (before : History) (conn line : ℕ) (frame : Frame) (o : Option ℕ) → numbered frame.transaction (length (asked before conn)) ≡ o
    → number_refusal (open_one conn (queries before conn) line) o frame ≡ number_by before conn o frame
number_is before conn line frame None names = refl
number_is before conn line frame (Some n) names =
    let all = queries before conn in
    let count : length all ≡ length (asked before conn) = length-queries before conn 0 (asked before conn) in
    let near = numbered_is frame.transaction (length (asked before conn)) n names in
    let le = near.1 in
    ap (λ o. named_refusal o frame) (query_kept (open_one conn all line) all n refl refl (omega (arith, count, le)) ∙ get_query before conn n)
    ∙ named_is before conn n (slice_get (asked before conn) n) frame

-- what the matcher refuses is what the history refuses
pub refusal_is : (before : History) (conn : ℕ) (frame : Frame) → refusal (open_of before conn) frame ≡ line_by before conn (open_line before conn) frame
refusal_is before conn frame = by (open_line before conn)
  where
    by : (o : Option ℕ) → refusal (option_map (open_one conn (queries before conn)) o) frame ≡ line_by before conn o frame
    by None = refl
    by (Some line) =
        ap (λ m. number_refusal (open_one conn (queries before conn) line) (numbered frame.transaction m) frame) (length-queries before conn 0 (asked before conn))
        ∙ number_is before conn line frame (numbered frame.transaction (length (asked before conn))) refl

-- ---- a frame that is refused

refused_named : (x y z : Bool) (told : EventAnswer) (e : MatchError)
    → cond x (Some matching.WrongUnit) (cond y (Some matching.Repeat) (cond z (Some matching.WrongReply) None)) ≡ Some e
    → cond x (answer.Refused error.WrongUnit) (cond y (answer.Refused error.Repeat) (cond z (answer.Refused error.WrongReply) told)) ≡ answer.Refused (refused_by e)
refused_named true y z told e h = ap (λ x. answer.Refused (refused_by x)) (same_Some matching.WrongUnit e h)
refused_named false true z told e h = ap (λ x. answer.Refused (refused_by x)) (same_Some matching.Repeat e h)
refused_named false false true told e h = ap (λ x. answer.Refused (refused_by x)) (same_Some matching.WrongReply e h)
refused_named false false false told e h = absurd (cc)

-- is answered so
pub refused_told : (before : History) (conn : ℕ) (frame : Frame) (e : MatchError) → refusal (open_of before conn) frame ≡ Some e
    → frame_answer before conn frame ≡ answer.Refused (refused_by e)
refused_told before conn frame e refused = by (open_line before conn) (sym (refusal_is before conn frame) ∙ refused)
  where
    by_query : (n : ℕ) (o : Option Query) → named_by before conn n o frame ≡ Some e
        → query_answer (readings before) (points before) (is_answered before conn n) o frame ≡ answer.Refused (refused_by e)
    by_query n None h = ap (λ x. answer.Refused (refused_by x)) (same_Some matching.NoQuery e h)
    by_query n (Some q) h =
        refused_named (not (eqb frame.unit_id (unit_id_of q))) (is_answered before conn n) (not (fits q frame.unit)) (unit_answer (readings before) (points before) q frame.unit) e h

    by_number : (o : Option ℕ) → number_by before conn o frame ≡ Some e → number_answer before conn o frame ≡ answer.Refused (refused_by e)
    by_number None h = ap (λ x. answer.Refused (refused_by x)) (same_Some matching.NoQuery e h)
    by_number (Some n) h = by_query n (slice_get (asked before conn) n) h

    by : (o : Option ℕ) → line_by before conn o frame ≡ Some e
        → cond (is_none o) (answer.Refused error.NoConnection) (number_answer before conn (numbered frame.transaction (length (asked before conn))) frame) ≡ answer.Refused (refused_by e)
    by None h = ap (λ x. answer.Refused (refused_by x)) (same_Some matching.NoConnection e h)
    by (Some line) h = by_number (numbered frame.transaction (length (asked before conn))) h

-- ---- a frame that is accepted

-- it names a query of an open connection, which isn't answered, and its unit answers it
pub record Accepted (before : History) (conn : ℕ) (frame : Frame) (n : ℕ) (q : Query) : Type 0 where
  pub line : ℕ
  pub is_open : open_line before conn ≡ Some line
  pub number : numbered frame.transaction (length (asked before conn)) ≡ Some n
  pub query : slice_get (asked before conn) n ≡ Some q
  pub unit_id : eqb frame.unit_id (unit_id_of q) ≡ true
  pub fresh : is_answered before conn n ≡ false
  pub fit : fits q frame.unit ≡ true

passed : (x y z : Bool) → cond x (Some matching.WrongUnit) (cond y (Some matching.Repeat) (cond z (Some matching.WrongReply) None)) ≡ None
    → (x ≡ false) × (y ≡ false) × (z ≡ false)
passed true y z h = absurd (cc)
passed false true z h = absurd (cc)
passed false false true h = absurd (cc)
passed false false false h = (refl, refl, refl)

off : (b : Bool) → not b ≡ false → b ≡ true
off true e = refl
off false e = absurd (cc)

-- what the matcher found is so in the history
pub accepted : (before : History) (conn : ℕ) (frame : Frame) → refusal (open_of before conn) frame ≡ None → (n : ℕ) × ((q : Query) × Accepted before conn frame n q)
accepted before conn frame none = by (open_line before conn) refl (sym (refusal_is before conn frame) ∙ none)
  where
    by_query : (line n : ℕ) → open_line before conn ≡ Some line → numbered frame.transaction (length (asked before conn)) ≡ Some n
        → (o : Option Query) → slice_get (asked before conn) n ≡ o → named_by before conn n o frame ≡ None → (m : ℕ) × ((q : Query) × Accepted before conn frame m q)
    by_query line n l m None at h = absurd (cc)
    by_query line n l m (Some q) at h =
        let p = passed (not (eqb frame.unit_id (unit_id_of q))) (is_answered before conn n) (not (fits q frame.unit)) h in
        (n, (q, record { line = line; is_open = l; number = m; query = at; unit_id = off (eqb frame.unit_id (unit_id_of q)) p.0; fresh = p.1; fit = off (fits q frame.unit) p.2 }))

    by_number : (line : ℕ) → open_line before conn ≡ Some line → (o : Option ℕ) → numbered frame.transaction (length (asked before conn)) ≡ o
        → number_by before conn o frame ≡ None → (m : ℕ) × ((q : Query) × Accepted before conn frame m q)
    by_number line l None m h = absurd (cc)
    by_number line l (Some n) m h = by_query line n l m (slice_get (asked before conn) n) refl h

    by : (o : Option ℕ) → open_line before conn ≡ o → line_by before conn o frame ≡ None → (m : ℕ) × ((q : Query) × Accepted before conn frame m q)
    by None l h = absurd (cc)
    by (Some line) l h = by_number line l (numbered frame.transaction (length (asked before conn))) refl h

chosen : (x y z : Bool) (a b c told : EventAnswer) → x ≡ false → y ≡ false → z ≡ false → cond x a (cond y b (cond z c told)) ≡ told
chosen true y z a b c told p q r = absurd (cc)
chosen false true z a b c told p q r = absurd (cc)
chosen false false true a b c told p q r = absurd (cc)
chosen false false false a b c told p q r = refl

-- and is answered as its unit
pub accepted_told : (before : History) (conn : ℕ) (frame : Frame) (n : ℕ) (q : Query) → Accepted before conn frame n q
    → frame_answer before conn frame ≡ unit_answer (readings before) (points before) q frame.unit
accepted_told before conn frame n q a =
    ap (λ o. cond (is_none o) (answer.Refused error.NoConnection) (number_answer before conn (numbered frame.transaction (length (asked before conn))) frame)) a.is_open
    ∙ ap (λ o. number_answer before conn o frame) a.number
    ∙ ap (λ o. query_answer (readings before) (points before) (is_answered before conn n) o frame) a.query
    ∙ chosen (not (eqb frame.unit_id (unit_id_of q))) (is_answered before conn n) (not (fits q frame.unit)) (answer.Refused error.WrongUnit) (answer.Refused error.Repeat)
    (answer.Refused error.WrongReply) (unit_answer (readings before) (points before) q frame.unit) (ap not a.unit_id) a.fresh (ap not a.fit)

-- what is found of it is the query's
pub found_is : (before : History) (conn : ℕ) (frame : Frame) (n : ℕ) (q : Query) (number : ℕ) (query : Asked) (reply : Reply) → Accepted before conn frame n q
    → Names (open_of before conn) frame number query reply → (number ≡ n) × (query ≡ asked_of q) × spells_reply (request_of query) reply frame.unit
found_is before conn frame n q number query reply a names =
    let all = queries before conn in
    let count : length all ≡ length (asked before conn) = length-queries before conn 0 (asked before conn) in
    let on : names.on ≡ open_one conn all a.line = same_Some names.on (open_one conn all a.line) (sym names.is_open ∙ ap (option_map (open_one conn all)) a.is_open) in
    let numbers : Some n ≡ Some number = sym a.number ∙ ap (numbered frame.transaction) (sym count) ∙ ap (λ (o : OpenOne). numbered frame.transaction o.made) (sym on) ∙ names.numbered_so in
    let same : n ≡ number = same_Some n number numbers in
    let near = numbered_is frame.transaction (length (asked before conn)) n a.number in
    let le = near.1 in
    let there = query_kept (open_one conn all a.line) all n refl refl (omega (arith, count, le)) ∙ get_query before conn n
    ∙ ap (option_map (λ (p : Query). record { asked = asked_of p; settled = is_answered before conn n })) a.query in
    let found = sym names.query ∙ (λ i. query_at (on i) (sym same i)) ∙ there in
    (sym same, ap (λ (m : Matched). m.asked) (same_Some (record { asked = query; settled = false }) (record { asked = asked_of q; settled = is_answered before conn n }) found), names.spelled)

-- ---- a reply in time is answered as its frame

is_open : (o : Option ℕ) → IsSome o → is_none o ≡ false
is_open None some = absurd (cc)
is_open (Some line) some = refl

pub reply_told : (before : History) (c n : ℕ) (unit : List ℕ) → IsTimely before c n
    → query_answer (readings before) (points before) (is_answered before c n) (slice_get (asked before c) n) (reply_frame n (slice_get (asked before c) n) unit)
    ≡ frame_answer before c (reply_frame n (slice_get (asked before c) n) unit)
reply_told before c n unit timely =
    let frame = reply_frame n (slice_get (asked before c) n) unit in
    sym (ap (λ b. cond b (answer.Refused error.NoConnection) (number_answer before c (numbered frame.transaction (length (asked before c))) frame)) (is_open (open_line before c) timely.0)
    ∙ ap (λ o. number_answer before c o frame) (numbered_at (n % 65536) (length (asked before c)) n timely.1 timely.2 refl))
