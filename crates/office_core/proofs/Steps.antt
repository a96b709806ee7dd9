-- Each call of an office, as a step of its history.
use Rattle.std.proofs.Common.{◌≡◌, ℕ, ℤ, ◌+◌, true, false, cond, List, [], ◌∷◌, ◌++◌, length, Some, None, Option, refl, sym, ap, ◌∙◌, subst}
use Rattle.std.specs.Prelude.{is_none, is_some, take, slice_get, IsSome, ⊤}
use Rattle.std.proofs.lemmas.Bool.{false≢true}
use Rattle.mb_pdu.specs.Replies.{spells_reply}
use Rattle.mb_pdu.specs.declared.reply.Reply.{Reply as UnitReply}
use Rattle.mb_pdu.specs.declared.reply.Reply.TheVariants.{Bits, Registers, Written, Excepted}
use Rattle.mb_mbap.specs.declared.frame.Frame.{Frame}
use Rattle.point_list.specs.declared.site.Site.{Site}
use Rattle.read_planner.specs.declared.Read.{Read}
use Rattle.point_list.specs.Edition.{First, Second}
use Rattle.poll_match.specs.declared.asked.Asked.{Asked}
use Rattle.poll_match.specs.declared.error.MatchError.{MatchError}
use Rattle.poll_match.specs.Queries.{request_of}
use Rattle.poll_match.specs.Window.{Open as OpenOne, held, refusal, Names, with_answer, with_query, Changes, fresh}
use Rattle.poll_book.specs.declared.rows.PointRow.{PointRow}
use Rattle.poll_book.specs.Tables.{AreByKey, Tables, Readings, marked, new_rows}
use Rattle.poll_book.specs.Changes.{keyed}
use Rattle.poll_book.specs.Totals.{totals_of}
use Rattle.office_core.specs.declared.error.OfficeError.{OfficeError}
use Rattle.office_core.specs.declared.event.Arrival.{Arrival}
use Rattle.office_core.specs.declared.event.Arrival.TheVariants as arrival
use Rattle.office_core.specs.declared.event.Event.{Event}
use Rattle.office_core.specs.declared.event.Event.TheVariants as event
use Rattle.office_core.specs.declared.event.EventAnswer.{EventAnswer}
use Rattle.office_core.specs.declared.event.EventAnswer.TheVariants as answer
use Rattle.office_core.specs.Errors.{refused_by}
use Rattle.office_core.specs.Sites.{device_name, line_place}
use Rattle.poll_book.specs.declared.requests.Body.TheVariants as body
use Rattle.poll_book.specs.declared.requests.Body.{Body}
use Rattle.poll_book.specs.declared.requests.Outcome.{Outcome}
use Rattle.poll_book.specs.declared.requests.KeptRequest.{KeptRequest}
use Rattle.poll_book.specs.Orders.{last_order}
use Rattle.poll_book.specs.Requests.{RequestKey, request_at, with_request}
use Rattle.office_core.specs.declared.event.RequestAnswer.{RequestAnswer}
use Rattle.office_core.specs.declared.event.RequestAnswer.TheVariants.{Kept}
use Rattle.office_core.specs.Cover.{Question, cells, excepts, given_named, given_rows, reply_cells}
use Rattle.office_core.specs.Queries.{Query, Reads, Writes, Writing, asked_of, exception_code, query_frame}
use Rattle.office_core.specs.Orders.{ordered, ordering_of, send_fault, with_ordered, writing}
use Rattle.office_core.specs.Voids.{voided, voiding_of, with_voiding}
use Rattle.office_core.specs.Loads.{known_named, loading, outcome, added}
use Rattle.office_core.specs.History.{Happening, Restart, Load, Order, Void, Open, Ask, Send, Reply, Noise, History, tables, points, site_of, settings, requests, connections, open_line, open_fault, asked, ask_fault, question, kept_readings, readings, voids}
use Rattle.office_core.specs.Answers.{answer_again, answer_of, unit_answer}
use Rattle.office_core.specs.Keeping.{IsCopy, asking_of, with_given, with_state, rows_at, brought, arrival_of}
use Rattle.office_core.specs.Standing.{StandsFor, IsFormer, Closes, Sees, Goes, is_store}
use Rattle.office_core.specs.Legal.{MayHappen}
use Rattle.office_core.proofs.Cells.{cells_spelled, exception_spelled, bits_plain, words_plain, no_echo}
use Rattle.office_core.proofs.Loaded.{restarted}
use Rattle.office_core.proofs.CountedTables.{counted_tables}
use Rattle.office_core.proofs.BySlot.{readings_sorted}
use Rattle.office_core.proofs.Kept.{asked_again, asked_list, asked_order, asked_void}
use Rattle.office_core.proofs.Written.{state_is, written_told}
use Rattle.office_core.proofs.Naming.{accepted, found_is}
use Rattle.office_core.proofs.Arrivals.{recorded, told_marked, arrival_refused, arrival_accepted, arrival_tables}
use Rattle.office_core.proofs.Asks.{asks, ask_refused, ask_made_so}
use Rattle.office_core.proofs.Opens.{open_refused, open_made_so}
use Rattle.office_core.proofs.Sends.{sends, send_refused, send_made_so}
use Rattle.office_core.proofs.Placed.{placed}

-- what goes from less goes from more
pub goes_from : (old mid new : History → Type 0) (seen : Event) (told : EventAnswer) → ((before : History) → old before → mid before) → Goes mid new seen told → Goes old new seen told
goes_from old mid new seen told within goes = record {
  refused = λ before o store. goes.refused before (within before o) store;
  happened = λ before happening o may sees taken. goes.happened before happening (within before o) may sees taken;
}

-- ---- what a reply brings is what its unit says

rows_are : (site : Site) (known : List PointRow) (q : Question) (unit : List ℕ) (reply : UnitReply) → device_name site q.place ≡ Some q.device → cells q.read unit ≡ reply_cells reply
    → rows_at site known (asking_of q.place q.slot q.read q.known) reply ≡ given_rows known q unit
rows_are site known q unit reply named same =
    (λ i. keyed q.slot (given_named (take q.known known) (named i) q.read (sym same i)))

plain_brought : (known : List PointRow) (q : Question) (unit : List ℕ) (kept : Tables) (rows : Readings) → excepts q.read unit ≡ false → rows ≡ given_rows known q unit
    → with_given rows kept ≡ recorded known (Reads q) unit kept
plain_brought known q unit kept rows plain is =
    ap (λ (l : Readings). with_given l kept) is ∙ sym (ap (λ b. cond b kept (with_given (given_rows known q unit) kept)) plain)

plain_told : (known : List PointRow) (q : Question) (unit : List ℕ) (table rows : Readings) → excepts q.read unit ≡ false → rows ≡ given_rows known q unit
    → answer.Arrived (arrival.Recorded (length (new_rows table rows))) ≡ unit_answer table known (Reads q) unit
plain_told known q unit table rows plain is =
    ap (λ (l : Readings). answer.Arrived (arrival.Recorded (length (new_rows table l)))) is
    ∙ sym (ap (λ b. cond b (answer.Arrived (arrival.Excepted (exception_code unit))) (answer.Arrived (arrival.Recorded (length (new_rows table (given_rows known q unit)))))) plain)

module _ (site : Site) (known : List PointRow) (unit : List ℕ) (kept : Tables) where
  module _ (q : Question) (named : device_name site q.place ≡ Some q.device) where
    abbrev rows : UnitReply → Readings
    rows reply = rows_at site known (asking_of q.place q.slot q.read q.known) reply

    read_brought : (reply : UnitReply) → spells_reply (request_of (asked_of (Reads q))) reply unit → brought site known (asked_of (Reads q)) reply kept ≡ recorded known (Reads q) unit kept
    read_brought (Bits bits) spelled =
        let plain = bits_plain q.read bits unit spelled in
        plain_brought known q unit kept (rows (Bits bits)) plain (rows_are site known q unit (Bits bits) named (cells_spelled q.read (Bits bits) unit spelled plain).0)
    read_brought (Registers words) spelled =
        let plain = words_plain q.read words unit spelled in
        plain_brought known q unit kept (rows (Registers words)) plain (rows_are site known q unit (Registers words) named (cells_spelled q.read (Registers words) unit spelled plain).0)
    read_brought Written spelled = absurd (no_echo q.read unit spelled)
    read_brought (Excepted code) spelled = sym (ap (λ b. cond b kept (with_given (given_rows known q unit) kept)) (exception_spelled q.read code unit spelled).0)

    read_told : (reply : UnitReply) → spells_reply (request_of (asked_of (Reads q))) reply unit
        → answer.Arrived (arrival_of site known (asked_of (Reads q)) reply kept) ≡ unit_answer kept.readings known (Reads q) unit
    read_told (Bits bits) spelled =
        let plain = bits_plain q.read bits unit spelled in
        plain_told known q unit kept.readings (rows (Bits bits)) plain (rows_are site known q unit (Bits bits) named (cells_spelled q.read (Bits bits) unit spelled plain).0)
    read_told (Registers words) spelled =
        let plain = words_plain q.read words unit spelled in
        plain_told known q unit kept.readings (rows (Registers words)) plain (rows_are site known q unit (Registers words) named (cells_spelled q.read (Registers words) unit spelled plain).0)
    read_told Written spelled = absurd (no_echo q.read unit spelled)
    read_told (Excepted code) spelled =
        let e = exception_spelled q.read code unit spelled in
        ap (λ c. answer.Arrived (arrival.Excepted c)) (sym e.1)
        ∙ sym (ap (λ b. cond b (answer.Arrived (arrival.Excepted (exception_code unit))) (answer.Arrived (arrival.Recorded (length (new_rows kept.readings (given_rows known q unit)))))) e.0)

  -- a read's device stands at its place
  abbrev pub IsPlaced : Query → Type 0
  IsPlaced (Reads q) = device_name site q.place ≡ Some q.device
  IsPlaced (Writes w) = ⊤

  pub brought_is : (query : Query) → IsPlaced query → (reply : UnitReply) → spells_reply (request_of (asked_of query)) reply unit
      → brought site known (asked_of query) reply kept ≡ recorded known query unit kept
  brought_is (Reads q) named reply spelled = read_brought q named reply spelled
  brought_is (Writes w) named reply spelled = ap (λ s. with_state w.order s kept) (state_is w unit reply spelled)

  pub told_is : (query : Query) → IsPlaced query → (reply : UnitReply) → spells_reply (request_of (asked_of query)) reply unit
      → answer.Arrived (arrival_of site known (asked_of query) reply kept) ≡ unit_answer kept.readings known query unit
  told_is (Reads q) named reply spelled = read_told q named reply spelled
  told_is (Writes w) named reply spelled = written_told w unit kept.readings known reply spelled

module _ (holds : Tables → Type 0) (now : Site) (known : List PointRow) (all : List OpenOne) where
  -- the office's copy of the points
  pub copy_of : (before : History) → StandsFor holds now known all before → IsCopy known (tables before)
  copy_of before stands = (stands.points, counted_tables before)

  -- ---- what the store refuses

  -- the same tables and connections stand for the same
  pub same_stands : (holds' : Tables → Type 0) (all' : List OpenOne) → ((conn : ℕ) → held conn all' ≡ held conn all) → (before : History)
      → (holds (tables before) → holds' (tables before)) → StandsFor holds now known all before → StandsFor holds' now known all' before
  same_stands holds' all' same before keeps stands = record {
    tables = keeps stands.tables;
    site = stands.site;
    points = stands.points;
    connections = λ conn. same conn ∙ stands.connections conn;
  }

  pub store_goes : (holds' : Tables → Type 0) → ((kept : Tables) → holds kept → IsCopy known kept → holds' kept) → (all' : List OpenOne) → ((conn : ℕ) → held conn all' ≡ held conn all)
      → (seen : Event) (told : EventAnswer) → is_store told ≡ true → Goes (StandsFor holds now known all) (StandsFor holds' now known all') seen told
  store_goes holds' keeps all' same seen told store = record {
    refused = λ before stands _. same_stands holds' all' same before (λ h. keeps (tables before) h (copy_of before stands)) stands;
    happened = λ before happening stands may sees off. absurd (false≢true (sym off ∙ store));
  }

  -- ---- arrivals

  pub arrival_refused_goes : (conn : ℕ) (frame : Frame) (e : MatchError) → refusal (held conn all) frame ≡ Some e
      → Goes (StandsFor holds now known all) (StandsFor holds now known all) (event.Arrive conn frame) (answer.Refused (refused_by e))
  arrival_refused_goes conn frame e refused = record {
    refused = λ before stands _. stands;
    happened = λ before happening stands may sees _. arrival_refused holds now known all before stands happening conn frame e may sees refused;
  }

  at_place : (before : History) → StandsFor holds now known all before → (conn n : ℕ) (q : Query) → IsSome (open_line before conn) → slice_get (asked before conn) n ≡ Some q
      → IsPlaced now known [] (tables before) q
  at_place before stands conn n (Reads q) some at = ap (λ s. device_name s q.place) stands.site ∙ placed before conn n q some at
  at_place before stands conn n (Writes w) some at = tt

  pub arrival_goes : (conn : ℕ) (frame : Frame) (number : ℕ) (query : Asked) (reply : UnitReply) → refusal (held conn all) frame ≡ None → Names (held conn all) frame number query reply
      → (holds' : Tables → Type 0) → ((kept : Tables) → holds kept → IsCopy known kept → holds' (brought now known query reply kept))
      → (all' : List OpenOne) → Changes conn (with_answer number) all all'
      → (told : Arrival) → ((kept : Tables) → holds kept → told ≡ arrival_of now known query reply kept)
      → Goes (StandsFor holds now known all) (StandsFor holds' now known all') (event.Arrive conn frame) (answer.Arrived told)
  arrival_goes conn frame number query reply none names holds' new all' settled told is = record {
    refused = λ before stands store. absurd (false≢true store);
    happened = λ before happening stands may sees _.
        let was = sym (stands.connections conn) in
        let found = accepted before conn frame (ap (λ o. refusal o frame) was ∙ none) in
        let n = found.0 in
        let q = found.1.0 in
        let a = found.1.1 in
        let here = found_is before conn frame n q number query reply a (subst (λ o. Names o frame number query reply) (sym was) names) in
        let named : IsPlaced now known frame.unit (tables before) q = at_place before stands conn n q (ap is_some a.is_open) a.query in
        let spelled : spells_reply (request_of (asked_of q)) reply frame.unit = subst (λ (x : Asked). spells_reply (request_of x) reply frame.unit) here.1 here.2 in
        let kept = tables before in
        let as_unit : brought now known query reply kept ≡ recorded (points before) q frame.unit kept =
        ap (λ (x : Asked). brought now known x reply kept) here.1 ∙ brought_is now known frame.unit kept q named reply spelled ∙ ap (λ l. recorded l q frame.unit kept) stands.points in
        let done = arrival_accepted holds now known all before stands happening conn frame n q may sees a holds'
        (subst holds' as_unit (new kept stands.tables (copy_of before stands))) all' (subst (λ m. Changes conn (with_answer m) all all') here.0 settled) in (
          done.0,
          ap answer.Arrived (is kept stands.tables) ∙ ap (λ (x : Asked). answer.Arrived (arrival_of now known x reply kept)) here.1
              ∙ told_is now known frame.unit kept q named reply spelled ∙ ap (λ l. unit_answer kept.readings l q frame.unit) stands.points ∙ told_marked (voids before) (readings before) (points before) q frame.unit ∙ done.1,
        );
  }

  -- the tables with what an accepted frame brings
  pub arrival_made : (conn : ℕ) (frame : Frame) (number : ℕ) (query : Asked) (reply : UnitReply) → refusal (held conn all) frame ≡ None → Names (held conn all) frame number query reply
      → (before : History) (happening : Happening) → StandsFor holds now known all before → MayHappen before happening → Sees before happening (event.Arrive conn frame)
      → brought now known query reply (tables before) ≡ tables (happening ∷ before)
  arrival_made conn frame number query reply none names before happening stands may sees =
      let was = sym (stands.connections conn) in
      let found = accepted before conn frame (ap (λ o. refusal o frame) was ∙ none) in
      let n = found.0 in
      let q = found.1.0 in
      let a = found.1.1 in
      let here = found_is before conn frame n q number query reply a (subst (λ o. Names o frame number query reply) (sym was) names) in
      let named : IsPlaced now known frame.unit (tables before) q = at_place before stands conn n q (ap is_some a.is_open) a.query in
      let spelled : spells_reply (request_of (asked_of q)) reply frame.unit = subst (λ (x : Asked). spells_reply (request_of x) reply frame.unit) here.1 here.2 in
      ap (λ (x : Asked). brought now known x reply (tables before)) here.1
      ∙ brought_is now known frame.unit (tables before) q named reply spelled
      ∙ ap (λ l. recorded l q frame.unit (tables before)) stands.points
      ∙ sym (arrival_tables before happening conn frame n q may sees a)

  -- ---- asks

  pub ask_refused_goes : (conn : ℕ) (device : List ℕ) (slot : ℕ) (read : Read) (e : OfficeError)
      → ((before : History) → StandsFor holds now known all before → ask_fault (open_line before conn) now known (length (asked before conn)) device read ≡ Some e)
      → Goes (StandsFor holds now known all) (StandsFor holds now known all) (event.Ask conn device slot read) (answer.Refused e)
  ask_refused_goes conn device slot read e fault = record {
    refused = λ before stands _. stands;
    happened = λ before happening stands may sees _. by before happening stands sees;
  }
    where
      by : (before : History) (h : Happening) → StandsFor holds now known all before → Sees before h (event.Ask conn device slot read)
          → StandsFor holds now known all (h ∷ before) × (answer.Refused e ≡ answer_of before h)
      by before (Restart site) stands sees = absurd sees
      by before (Load edition caller key list) stands sees = absurd sees
      by before (Order caller key point value) stands sees = absurd sees
      by before (Void caller key point at) stands sees = absurd sees
      by before (Send c number) stands sees = absurd sees
      by before (Open line) stands sees = absurd sees
      by before (Ask c d s r) stands sees =
          ask_refused holds now known all before stands c d s r e
          ((λ i. ask_fault (open_line before (sym sees.0 i)) (sym stands.site i) (sym stands.points i) (length (asked before (sym sees.0 i))) (sym sees.1 i) (sym sees.3 i)) ∙ fault before stands)
      by before (Reply c n unit) stands sees = absurd sees
      by before (Noise c frame) stands sees = absurd sees

  pub asked_goes : (conn : ℕ) (device : List ℕ) (slot : ℕ) (read : Read) (frame : Frame)
      → ((before : History) → StandsFor holds now known all before → ask_fault (open_line before conn) now known (length (asked before conn)) device read ≡ None)
      → ((before : History) → StandsFor holds now known all before → frame ≡ query_frame (length (asked before conn)) (Reads (question now known device slot read)))
      → (all' : List OpenOne) → Changes conn (with_query (asked_of (Reads (question now known device slot read)))) all all'
      → Goes (StandsFor holds now known all) (StandsFor holds now known all') (event.Ask conn device slot read) (answer.Query frame)
  asked_goes conn device slot read frame fault is all' queried = record {
    refused = λ before stands store. absurd (false≢true store);
    happened = λ before happening stands may sees _. by before happening stands sees;
  }
    where
      by : (before : History) (h : Happening) → StandsFor holds now known all before → Sees before h (event.Ask conn device slot read)
          → StandsFor holds now known all' (h ∷ before) × (answer.Query frame ≡ answer_of before h)
      by before (Restart site) stands sees = absurd sees
      by before (Load edition caller key list) stands sees = absurd sees
      by before (Order caller key point value) stands sees = absurd sees
      by before (Void caller key point at) stands sees = absurd sees
      by before (Send c number) stands sees = absurd sees
      by before (Open line) stands sees = absurd sees
      by before (Ask c d s r) stands sees =
          let same : question now known device slot read ≡ asks before d s r = λ i. question (stands.site i) (stands.points i) (sees.1 i) (sees.2 i) (sees.3 i) in
          let done = ask_made_so holds now known all before stands c d s r
          ((λ i. ask_fault (open_line before (sym sees.0 i)) (sym stands.site i) (sym stands.points i) (length (asked before (sym sees.0 i))) (sym sees.1 i) (sym sees.3 i)) ∙ fault before stands)
          all' (subst (λ (x : ℕ × Question). Changes x.0 (with_query (asked_of (Reads x.1))) all all') (λ i. (sees.0 i, same i)) queried) in
          (done.0, ap answer.Query (is before stands ∙ λ i. query_frame (length (asked before (sees.0 i))) (Reads (same i))) ∙ done.1)
      by before (Reply c n unit) stands sees = absurd sees
      by before (Noise c noise) stands sees = absurd sees

  -- ---- opens

  pub open_refused_goes : (name : List ℕ) (e : OfficeError)
      → ((before : History) → StandsFor holds now known all before → open_fault (line_place now name) (connections before) ≡ Some e)
      → (holds' : Tables → Type 0) → ((kept : Tables) → holds kept → IsCopy known kept → holds' kept)
      → Goes (StandsFor holds now known all) (StandsFor holds' now known all) (event.Open name) (answer.Refused e)
  open_refused_goes name e fault holds' keeps = record {
    refused = λ before stands _. same_stands holds' all (λ conn. refl) before (λ h. keeps (tables before) h (copy_of before stands)) stands;
    happened = λ before happening stands may sees _. by before happening stands sees;
  }
    where
      by : (before : History) (h : Happening) → StandsFor holds now known all before → Sees before h (event.Open name)
          → StandsFor holds' now known all (h ∷ before) × (answer.Refused e ≡ answer_of before h)
      by before (Restart site) stands sees = absurd sees
      by before (Load edition caller key list) stands sees = absurd sees
      by before (Order caller key point value) stands sees = absurd sees
      by before (Void caller key point at) stands sees = absurd sees
      by before (Send c number) stands sees = absurd sees
      by before (Open line) stands sees =
          open_refused holds' now known all before (same_stands holds' all (λ conn. refl) before (λ h. keeps (tables before) h (copy_of before stands)) stands) line e
          ((λ i. open_fault (line_place (sym stands.site i) (sym sees i)) (connections before)) ∙ fault before stands)
      by before (Ask c d s r) stands sees = absurd sees
      by before (Reply c n unit) stands sees = absurd sees
      by before (Noise c frame) stands sees = absurd sees

  pub opened_goes : (name : List ℕ) (line new : ℕ) → line_place now name ≡ Some line
      → ((before : History) → StandsFor holds now known all before → (new ≡ connections before + 1) × (open_fault (line_place now name) (connections before) ≡ None))
      → (holds' : Tables → Type 0) → ((kept : Tables) → holds kept → IsCopy known kept → holds' (record kept { connections = new }))
      → (former : Option ℕ) → IsFormer line all former → (all1 all' : List OpenOne) → Changes new (fresh new line) all all1 → Closes former all1 all'
      → Goes (StandsFor holds now known all) (StandsFor holds' now known all') (event.Open name) (answer.Opened new)
  opened_goes name line new place made holds' kept former is_former all1 all' opens closes = record {
    refused = λ before stands store. absurd (false≢true store);
    happened = λ before happening stands may sees _. by before happening stands sees;
  }
    where
      by : (before : History) (h : Happening) → StandsFor holds now known all before → Sees before h (event.Open name)
          → StandsFor holds' now known all' (h ∷ before) × (answer.Opened new ≡ answer_of before h)
      by before (Restart site) stands sees = absurd sees
      by before (Load edition caller key list) stands sees = absurd sees
      by before (Order caller key point value) stands sees = absurd sees
      by before (Void caller key point at) stands sees = absurd sees
      by before (Send c number) stands sees = absurd sees
      by before (Open l) stands sees =
          let m = made before stands in
          let there : line_place (site_of before) l ≡ Some line = (λ i. line_place (sym stands.site i) (sym sees i)) ∙ place in
          let fault : open_fault (line_place (site_of before) l) (connections before) ≡ None = (λ i. open_fault (line_place (sym stands.site i) (sym sees i)) (connections before)) ∙ m.1 in
          let done = open_made_so holds now known all before stands l line fault there former is_former all1 all'
          (subst (λ n. Changes n (fresh n line) all all1) m.0 opens) closes
          holds' (subst (λ n. holds' (record (tables before) { connections = n })) m.0 (kept (tables before) stands.tables (copy_of before stands))) in
          (done.0, ap answer.Opened m.0 ∙ done.1)
      by before (Ask c d s r) stands sees = absurd sees
      by before (Reply c n unit) stands sees = absurd sees
      by before (Noise c frame) stands sees = absurd sees

  -- the tables with the connection that is opened
  pub opened_made : (name : List ℕ) (line new : ℕ) → line_place now name ≡ Some line
      → ((before : History) → StandsFor holds now known all before → (new ≡ connections before + 1) × (open_fault (line_place now name) (connections before) ≡ None))
      → (before : History) (happening : Happening) → StandsFor holds now known all before → Sees before happening (event.Open name)
      → record (tables before) { connections = new } ≡ tables (happening ∷ before)
  opened_made name line new place made before (Restart site) stands sees = absurd sees
  opened_made name line new place made before (Load edition caller key list) stands sees = absurd sees
  opened_made name line new place made before (Order caller key point value) stands sees = absurd sees
  opened_made name line new place made before (Void caller key point at) stands sees = absurd sees
  opened_made name line new place made before (Open l) stands sees =
      let m = made before stands in
      let fault : open_fault (line_place (site_of before) l) (connections before) ≡ None = (λ i. open_fault (line_place (sym stands.site i) (sym sees i)) (connections before)) ∙ m.1 in
      ap (λ n. record (tables before) { connections = n }) m.0
      ∙ ap (λ b. record (tables before) { connections = cond b (connections before + 1) (connections before) }) (sym (ap is_none fault))
  opened_made name line new place made before (Ask c d s r) stands sees = absurd sees
  opened_made name line new place made before (Send c n) stands sees = absurd sees
  opened_made name line new place made before (Reply c n unit) stands sees = absurd sees
  opened_made name line new place made before (Noise c frame) stands sees = absurd sees

  -- ---- sends

  pub send_refused_goes : (conn number : ℕ) (e : OfficeError) (holds' : Tables → Type 0) → ((kept : Tables) → holds kept → holds' kept)
      → ((before : History) → StandsFor holds now known all before → send_fault (open_line before conn) now known (settings before) (length (asked before conn)) number ≡ Some e)
      → Goes (StandsFor holds now known all) (StandsFor holds' now known all) (event.Send conn number) (answer.Refused e)
  send_refused_goes conn number e holds' keeps fault = record {
    refused = λ before stands _. moved before stands;
    happened = λ before happening stands may sees _. by before happening stands sees;
  }
    where
      moved : (before : History) → StandsFor holds now known all before → StandsFor holds' now known all before
      moved before stands = same_stands holds' all (λ c. refl) before (keeps (tables before)) stands

      by : (before : History) (h : Happening) → StandsFor holds now known all before → Sees before h (event.Send conn number)
          → StandsFor holds' now known all (h ∷ before) × (answer.Refused e ≡ answer_of before h)
      by before (Restart site) stands sees = absurd sees
      by before (Load edition caller key list) stands sees = absurd sees
      by before (Order caller key point value) stands sees = absurd sees
      by before (Void caller key point at) stands sees = absurd sees
      by before (Open line) stands sees = absurd sees
      by before (Ask c d s r) stands sees = absurd sees
      by before (Send c m) stands sees =
          send_refused holds' now known all before (moved before stands) c m e
          ((λ i. send_fault (open_line before (sym sees.0 i)) (sym stands.site i) (sym stands.points i) (settings before) (length (asked before (sym sees.0 i))) (sym sees.1 i)) ∙ fault before stands)
      by before (Reply c n unit) stands sees = absurd sees
      by before (Noise c frame) stands sees = absurd sees

  pub sent_goes : (conn number : ℕ) (frame : Frame) (holds' : Tables → Type 0) → ((kept : Tables) → holds kept → holds' kept)
      → ((before : History) → StandsFor holds now known all before → send_fault (open_line before conn) now known (settings before) (length (asked before conn)) number ≡ None)
      → ((before : History) → StandsFor holds now known all before → frame ≡ query_frame (length (asked before conn)) (Writes (writing now known (settings before) number)))
      → (all' : List OpenOne)
      → ((before : History) → StandsFor holds now known all before → Changes conn (with_query (asked_of (Writes (writing now known (settings before) number)))) all all')
      → Goes (StandsFor holds now known all) (StandsFor holds' now known all') (event.Send conn number) (answer.Query frame)
  sent_goes conn number frame holds' keeps fault is all' queried = record {
    refused = λ before stands store. absurd (false≢true store);
    happened = λ before happening stands may sees _. by before happening stands sees;
  }
    where
      by : (before : History) (h : Happening) → StandsFor holds now known all before → Sees before h (event.Send conn number)
          → StandsFor holds' now known all' (h ∷ before) × (answer.Query frame ≡ answer_of before h)
      by before (Restart site) stands sees = absurd sees
      by before (Load edition caller key list) stands sees = absurd sees
      by before (Order caller key point value) stands sees = absurd sees
      by before (Void caller key point at) stands sees = absurd sees
      by before (Open line) stands sees = absurd sees
      by before (Ask c d s r) stands sees = absurd sees
      by before (Send c m) stands sees =
          let same : writing now known (settings before) number ≡ sends before m = λ i. writing (stands.site i) (stands.points i) (settings before) (sees.1 i) in
          let done = send_made_so holds' now known all before (same_stands holds' all (λ c. refl) before (keeps (tables before)) stands) c m
          ((λ i. send_fault (open_line before (sym sees.0 i)) (sym stands.site i) (sym stands.points i) (settings before) (length (asked before (sym sees.0 i))) (sym sees.1 i)) ∙ fault before stands)
          all' (subst (λ (x : ℕ × Writing). Changes x.0 (with_query (asked_of (Writes x.1))) all all') (λ i. (sees.0 i, same i)) (queried before stands)) in
          (done.0, ap answer.Query (is before stands ∙ λ i. query_frame (length (asked before (sees.0 i))) (Writes (same i))) ∙ done.1)
      by before (Reply c n unit) stands sees = absurd sees
      by before (Noise c noise) stands sees = absurd sees

  -- ---- requests and restarts

  -- what is seen of a request
  abbrev pub seen_of : RequestKey → Body → Event
  seen_of key (body.List list) = event.Load key.0 key.1 list
  seen_of key (body.Order point value) = event.Order key.0 key.1 point value
  seen_of key (body.Void point slot) = event.Void key.0 key.1 point slot

  abbrev Unused : RequestKey → History → Type 0
  Unused key before = StandsFor holds now known all before × (request_at (requests before) key ≡ None)

  pub again_goes : (key : RequestKey) (asked : Body) (first : KeptRequest) (holds' : Tables → Type 0) → ((kept : Tables) → holds kept → holds' kept)
      → ((kept : Tables) → holds kept → request_at kept.requests key ≡ Some first)
      → (told : RequestAnswer) → ((outcome : Outcome) → told ≡ answer_again (Some first) asked outcome)
      → Goes (StandsFor holds now known all) (StandsFor holds' now known all) (seen_of key asked) (answer.Request told)
  again_goes key (body.List list) first holds' keeps there told is = record {
    refused = λ before stands store. absurd (false≢true store);
    happened = λ before happening stands may sees _. by before happening stands sees;
  }
    where
      by : (before : History) (h : Happening) → StandsFor holds now known all before → Sees before h (event.Load key.0 key.1 list)
          → StandsFor holds' now known all (h ∷ before) × (answer.Request told ≡ answer_of before h)
      by before (Restart site) stands sees = absurd sees
      by before (Load First c k l) stands sees = let no : Second ≡ First = sees.3 in absurd (cc)
      by before (Load Second c k l) stands sees =
          asked_again holds' now known all before (same_stands holds' all (λ c. refl) before (keeps (tables before)) stands) (c, k) (body.List l) first
          ((λ i. request_at (requests before) (sym sees.0 i, sym sees.1 i)) ∙ there (tables before) stands.tables) told
          (λ outcome. is outcome ∙ λ i. answer_again (Some first) (body.List (sees.2 i)) outcome)
      by before (Order c k p v) stands sees = absurd sees
      by before (Void c k p s) stands sees = absurd sees
      by before (Open line) stands sees = absurd sees
      by before (Ask c d s r) stands sees = absurd sees
      by before (Send c m) stands sees = absurd sees
      by before (Reply c n unit) stands sees = absurd sees
      by before (Noise c frame) stands sees = absurd sees
  again_goes key (body.Order point value) first holds' keeps there told is = record {
    refused = λ before stands store. absurd (false≢true store);
    happened = λ before happening stands may sees _. by before happening stands sees;
  }
    where
      by : (before : History) (h : Happening) → StandsFor holds now known all before → Sees before h (event.Order key.0 key.1 point value)
          → StandsFor holds' now known all (h ∷ before) × (answer.Request told ≡ answer_of before h)
      by before (Restart site) stands sees = absurd sees
      by before (Load edition c k l) stands sees = absurd sees
      by before (Order c k p v) stands sees =
          asked_again holds' now known all before (same_stands holds' all (λ c. refl) before (keeps (tables before)) stands) (c, k) (body.Order p v) first
          ((λ i. request_at (requests before) (sym sees.0 i, sym sees.1 i)) ∙ there (tables before) stands.tables) told
          (λ outcome. is outcome ∙ λ i. answer_again (Some first) (body.Order (sees.2 i) (sees.3 i)) outcome)
      by before (Void c k p s) stands sees = absurd sees
      by before (Open line) stands sees = absurd sees
      by before (Ask c d s r) stands sees = absurd sees
      by before (Send c m) stands sees = absurd sees
      by before (Reply c n unit) stands sees = absurd sees
      by before (Noise c frame) stands sees = absurd sees
  again_goes key (body.Void point slot) first holds' keeps there told is = record {
    refused = λ before stands store. absurd (false≢true store);
    happened = λ before happening stands may sees _. by before happening stands sees;
  }
    where
      by : (before : History) (h : Happening) → StandsFor holds now known all before → Sees before h (event.Void key.0 key.1 point slot)
          → StandsFor holds' now known all (h ∷ before) × (answer.Request told ≡ answer_of before h)
      by before (Restart site) stands sees = absurd sees
      by before (Load edition c k l) stands sees = absurd sees
      by before (Order c k p v) stands sees = absurd sees
      by before (Void c k p s) stands sees =
          asked_again holds' now known all before (same_stands holds' all (λ c. refl) before (keeps (tables before)) stands) (c, k) (body.Void p s) first
          ((λ i. request_at (requests before) (sym sees.0 i, sym sees.1 i)) ∙ there (tables before) stands.tables) told
          (λ outcome. is outcome ∙ λ i. answer_again (Some first) (body.Void (sees.2 i) (sees.3 i)) outcome)
      by before (Open line) stands sees = absurd sees
      by before (Ask c d s r) stands sees = absurd sees
      by before (Send c m) stands sees = absurd sees
      by before (Reply c n unit) stands sees = absurd sees
      by before (Noise c frame) stands sees = absurd sees

  pub loaded_goes : (caller key list : List ℕ) (holds' : Tables → Type 0)
      → ((kept : Tables) → holds kept → IsCopy known kept → request_at kept.requests (caller, key) ≡ None
      → holds' (record kept {
        points = kept.points ++ added (length known) (loading Second now known list);
        totals = totals_of (kept.points ++ added (length known) (loading Second now known list)) kept.readings;
        requests = with_request (caller, key) (record { body = body.List list; outcome = outcome (loading Second now known list) }) kept.requests;
      }))
      → (known' : List PointRow) → known' ≡ known ++ added (length known) (loading Second now known list)
      → Goes (Unused (caller, key)) (StandsFor holds' now known' all) (event.Load caller key list) (answer.Request (Kept true (outcome (loading Second now known list))))
  loaded_goes caller key list holds' kept known' more = record {
    refused = λ before stands store. absurd (false≢true store);
    happened = λ before happening stands may sees _. by before happening stands sees;
  }
    where
      by : (before : History) (h : Happening) → Unused (caller, key) before → Sees before h (event.Load caller key list)
          → StandsFor holds' now known' all (h ∷ before) × (answer.Request (Kept true (outcome (loading Second now known list))) ≡ answer_of before h)
      by before (Restart site) stands sees = absurd sees
      by before (Load First c k l) (stands, none) sees = let no : Second ≡ First = sees.3 in absurd (cc)
      by before (Load Second c k l) (stands, none) sees =
          let new = subst (λ (x : List ℕ × List ℕ × List ℕ × Site × List PointRow). holds' (record (tables before) {
            points = points before ++ added (length x.4) (loading Second x.3 x.4 x.2);
            totals = totals_of (points before ++ added (length x.4) (loading Second x.3 x.4 x.2)) (kept_readings before);
            requests = with_request (x.0, x.1) (record { body = body.List x.2; outcome = outcome (loading Second x.3 x.4 x.2) }) (requests before);
          })) (λ i. (sees.0 i, sees.1 i, sees.2 i, stands.site i, stands.points i)) (kept (tables before) stands.tables (copy_of before stands) none) in
          let done = asked_list holds now known all before stands (c, k) l ((λ i. request_at (requests before) (sym sees.0 i, sym sees.1 i)) ∙ none) holds' new
          known' (more ∙ ap (λ (x : List ℕ). known ++ added (length known) (loading Second now known x)) sees.2) in
          (done.0, ap (λ (x : List ℕ). answer.Request (Kept true (outcome (loading Second now known x)))) sees.2 ∙ done.1)
      by before (Order c k p v) stands sees = absurd sees
      by before (Void c k p s) stands sees = absurd sees
      by before (Open line) stands sees = absurd sees
      by before (Ask c d s r) stands sees = absurd sees
      by before (Send c m) stands sees = absurd sees
      by before (Reply c n unit) stands sees = absurd sees
      by before (Noise c frame) stands sees = absurd sees

  pub ordered_goes : (caller key point : List ℕ) (value : ℤ) (holds' : Tables → Type 0) (told : Outcome)
      → ((kept : Tables) → holds kept → told ≡ ordered (last_order kept.settings) (ordering_of (last_order kept.settings) (known_named known point) value))
      → ((kept : Tables) → holds kept → IsCopy known kept → request_at kept.requests (caller, key) ≡ None
      → holds' (record kept {
        settings = with_ordered (ordering_of (last_order kept.settings) (known_named known point) value) kept.settings;
        requests = with_request (caller, key) (record { body = body.Order point value; outcome = told }) kept.requests;
      }))
      → Goes (Unused (caller, key)) (StandsFor holds' now known all) (event.Order caller key point value) (answer.Request (Kept true told))
  ordered_goes caller key point value holds' told is kept = record {
    refused = λ before stands store. absurd (false≢true store);
    happened = λ before happening stands may sees _. by before happening stands sees;
  }
    where
      by : (before : History) (h : Happening) → Unused (caller, key) before → Sees before h (event.Order caller key point value)
          → StandsFor holds' now known all (h ∷ before) × (answer.Request (Kept true told) ≡ answer_of before h)
      by before (Restart site) stands sees = absurd sees
      by before (Load edition c k l) stands sees = absurd sees
      by before (Order c k p v) (stands, none) sees =
          let orders : ℕ = last_order (settings before) in
          let same : told ≡ ordered orders (ordering_of orders (known_named (points before) p) v) =
          is (tables before) stands.tables ∙ (λ i. ordered orders (ordering_of orders (known_named (stands.points i) (sees.2 i)) (sees.3 i))) in
          let new = subst (λ (x : List ℕ × List ℕ × List ℕ × ℤ × List PointRow × Outcome). holds' (record (tables before) {
            settings = with_ordered (ordering_of orders (known_named x.4 x.2) x.3) (settings before);
            requests = with_request (x.0, x.1) (record { body = body.Order x.2 x.3; outcome = x.5 }) (requests before);
          })) (λ i. (sees.0 i, sees.1 i, sees.2 i, sees.3 i, stands.points i, same i)) (kept (tables before) stands.tables (copy_of before stands) none) in
          let done = asked_order holds now known all before stands (c, k) p v ((λ i. request_at (requests before) (sym sees.0 i, sym sees.1 i)) ∙ none) holds' new in
          (done.0, ap (λ o. answer.Request (Kept true o)) same ∙ done.1)
      by before (Void c k p s) stands sees = absurd sees
      by before (Open line) stands sees = absurd sees
      by before (Ask c d s r) stands sees = absurd sees
      by before (Send c m) stands sees = absurd sees
      by before (Reply c n unit) stands sees = absurd sees
      by before (Noise c frame) stands sees = absurd sees

  pub voided_goes : (caller key point : List ℕ) (slot : ℕ) (holds' : Tables → Type 0) (told : Outcome)
      → ((kept : Tables) → holds kept → told ≡ voided slot (voiding_of kept.voids (known_named known point) slot))
      → ((kept : Tables) (table : Readings) → holds kept → IsCopy known kept → AreByKey table → kept.readings ≡ marked kept.voids table
      → request_at kept.requests (caller, key) ≡ None
      → holds' (record kept {
        readings = marked (with_voiding slot (voiding_of kept.voids (known_named known point) slot) kept.voids) table;
        voids = with_voiding slot (voiding_of kept.voids (known_named known point) slot) kept.voids;
        totals = totals_of kept.points (marked (with_voiding slot (voiding_of kept.voids (known_named known point) slot) kept.voids) table);
        requests = with_request (caller, key) (record { body = body.Void point slot; outcome = told }) kept.requests;
      }))
      → Goes (Unused (caller, key)) (StandsFor holds' now known all) (event.Void caller key point slot) (answer.Request (Kept true told))
  voided_goes caller key point slot holds' told is kept = record {
    refused = λ before stands store. absurd (false≢true store);
    happened = λ before happening stands may sees _. by before happening stands sees;
  }
    where
      by : (before : History) (h : Happening) → Unused (caller, key) before → Sees before h (event.Void caller key point slot)
          → StandsFor holds' now known all (h ∷ before) × (answer.Request (Kept true told) ≡ answer_of before h)
      by before (Restart site) stands sees = absurd sees
      by before (Load edition c k l) stands sees = absurd sees
      by before (Order c k p v) stands sees = absurd sees
      by before (Void c k p s) (stands, none) sees =
          let same : told ≡ voided s (voiding_of (voids before) (known_named (points before) p) s) =
          is (tables before) stands.tables ∙ (λ i. voided (sees.3 i) (voiding_of (voids before) (known_named (stands.points i) (sees.2 i)) (sees.3 i))) in
          let new = subst (λ (x : List ℕ × List ℕ × List ℕ × ℕ × List PointRow × Outcome). holds' (record (tables before) {
            readings = marked (with_voiding x.3 (voiding_of (voids before) (known_named x.4 x.2) x.3) (voids before)) (readings before);
            voids = with_voiding x.3 (voiding_of (voids before) (known_named x.4 x.2) x.3) (voids before);
            totals = totals_of (points before) (marked (with_voiding x.3 (voiding_of (voids before) (known_named x.4 x.2) x.3) (voids before)) (readings before));
            requests = with_request (x.0, x.1) (record { body = body.Void x.2 x.3; outcome = x.5 }) (requests before);
          })) (λ i. (sees.0 i, sees.1 i, sees.2 i, sees.3 i, stands.points i, same i))
          (kept (tables before) (readings before) stands.tables (copy_of before stands) (readings_sorted before) refl none) in
          let done = asked_void holds now known all before stands (c, k) p s ((λ i. request_at (requests before) (sym sees.0 i, sym sees.1 i)) ∙ none) holds' new in
          (done.0, ap (λ o. answer.Request (Kept true o)) same ∙ done.1)
      by before (Open line) stands sees = absurd sees
      by before (Ask c d s r) stands sees = absurd sees
      by before (Send c m) stands sees = absurd sees
      by before (Reply c n unit) stands sees = absurd sees
      by before (Noise c frame) stands sees = absurd sees

  pub restarted_goes : Goes (StandsFor holds now known all) (StandsFor holds now known []) event.Restart answer.Restarted
  restarted_goes = record {
    refused = λ before stands store. absurd (false≢true store);
    happened = λ before happening stands may sees _. by before happening stands sees;
  }
    where
      by : (before : History) (h : Happening) → StandsFor holds now known all before → Sees before h event.Restart
          → StandsFor holds now known [] (h ∷ before) × (answer.Restarted ≡ answer_of before h)
      by before (Restart site) stands sees =
          (subst (λ s. StandsFor holds s known [] (Restart site ∷ before)) (sees ∙ sym stands.site) (restarted holds site known before stands.tables stands.points), refl)
      by before (Load edition caller key list) stands sees = absurd sees
      by before (Order caller key point value) stands sees = absurd sees
      by before (Void caller key point at) stands sees = absurd sees
      by before (Send c number) stands sees = absurd sees
      by before (Open line) stands sees = absurd sees
      by before (Ask c d s r) stands sees = absurd sees
      by before (Reply c n unit) stands sees = absurd sees
      by before (Noise c frame) stands sees = absurd sees
