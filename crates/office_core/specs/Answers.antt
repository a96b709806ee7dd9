-- What is answered to what happens.
use Rattle.std.specs.Prelude.{ℕ, ◌+◌, ◌%◌, Bool, true, false, not, ◌&&◌, if◌then◌else◌, ◌==◌, List, [], ◌∷◌, length, Option, Some, None, is_none, slice_get}
use Rattle.std.specs.Ordering.{int_eq}
use Rattle.std.specs.Str.{bytes_eq}
use Rattle.mb_mbap.specs.declared.frame.Frame.{Frame}
use Rattle.point_list.specs.Edition.{Edition, Second}
use Rattle.poll_match.specs.Window.{numbered}
use Rattle.poll_book.specs.declared.rows.PointRow.{PointRow}
use Rattle.poll_book.specs.declared.requests.Body.{Body}
use Rattle.poll_book.specs.declared.requests.Body.TheVariants as body
use Rattle.poll_book.specs.declared.requests.Outcome.{Outcome}
use Rattle.poll_book.specs.declared.requests.KeptRequest.{KeptRequest}
use Rattle.poll_book.specs.Requests.{RequestKey, request_at}
use Rattle.poll_book.specs.Tables.{Readings, new_rows}
use Rattle.office_core.specs.declared.error.OfficeError.{OfficeError}
use Rattle.office_core.specs.declared.error.OfficeError.TheVariants as error
use Rattle.office_core.specs.declared.event.Arrival.TheVariants.{Recorded, Settled, Excepted}
use Rattle.office_core.specs.declared.event.RequestAnswer.{RequestAnswer}
use Rattle.office_core.specs.declared.event.RequestAnswer.TheVariants.{Kept, KeyReused}
use Rattle.office_core.specs.declared.event.EventAnswer.{EventAnswer}
use Rattle.office_core.specs.declared.event.EventAnswer.TheVariants as answer
use Rattle.office_core.specs.Sites.{line_place}
use Rattle.office_core.specs.Cover.{given_rows}
use Rattle.office_core.specs.Queries.{Query, Reads, Writes, unit_id_of, fits, is_excepted, exception_code, query_frame}
use Rattle.office_core.specs.Orders.{send_fault, writing}
use Rattle.office_core.specs.History.{Happening, Restart, Load, Order, Void, Open, Ask, Send, Reply, Noise, History, site_of, points, connections, open_line, open_fault, ask_fault, question, asked, is_answered, settings, requests, outcome_of, readings}

abbrev pub refused_or : Option OfficeError → EventAnswer → EventAnswer
refused_or None told = told
refused_or (Some fault) told = answer.Refused fault

-- ---- requests

-- a list of the same bytes, an order of the same value for a point of the same name, or the same slot of such a point
abbrev pub same_body : Body → Body → Bool
same_body (body.List a) (body.List b) = bytes_eq a b
same_body (body.Order p a) (body.Order q b) = bytes_eq p q && int_eq a b
same_body (body.Void p a) (body.Void q b) = bytes_eq p q && a == b
same_body (body.List a) (body.Order q b) = false
same_body (body.List a) (body.Void q b) = false
same_body (body.Order p a) (body.List b) = false
same_body (body.Order p a) (body.Void q b) = false
same_body (body.Void p a) (body.List b) = false
same_body (body.Void p a) (body.Order q b) = false

-- the first outcome under a key is told again to the same request, and any other is refused
abbrev pub answer_again : Option KeptRequest → Body → Outcome → RequestAnswer
answer_again None now outcome = Kept true outcome
answer_again (Some first) now outcome = if same_body first.body now then Kept false first.outcome else KeyReused

abbrev pub request_answer : History → RequestKey → Edition → Body → EventAnswer
request_answer before key edition now = answer.Request (answer_again (request_at (requests before) key) now (outcome_of before edition now))

-- ---- arrivals

-- to a unit that answers the query
abbrev pub normal_answer : Readings → List PointRow → Query → List ℕ → EventAnswer
normal_answer table known (Reads q) unit = answer.Arrived (Recorded (length (new_rows table (given_rows known q unit))))
normal_answer table known (Writes w) unit = answer.Arrived Settled

abbrev pub unit_answer : Readings → List PointRow → Query → List ℕ → EventAnswer
unit_answer table known query unit =
    if is_excepted query unit then answer.Arrived (Excepted (exception_code unit)) else normal_answer table known query unit

-- to a frame that names the query
abbrev pub named_answer : Readings → List PointRow → Bool → Query → Frame → EventAnswer
named_answer table known answered query frame =
    if not (frame.unit_id == unit_id_of query) then answer.Refused error.WrongUnit
    else if answered then answer.Refused error.Repeat
    else if not (fits query frame.unit) then answer.Refused error.WrongReply
    else unit_answer table known query frame.unit

abbrev pub query_answer : Readings → List PointRow → Bool → Option Query → Frame → EventAnswer
query_answer table known answered None frame = answer.Refused error.NoQuery
query_answer table known answered (Some query) frame = named_answer table known answered query frame

abbrev pub number_answer : History → ℕ → Option ℕ → Frame → EventAnswer
number_answer before conn None frame = answer.Refused error.NoQuery
number_answer before conn (Some n) frame =
    query_answer (readings before) (points before) (is_answered before conn n) (slice_get (asked before conn) n) frame

-- to a frame, which names the newest query with its transaction as remainder
abbrev pub frame_answer : History → ℕ → Frame → EventAnswer
frame_answer before conn frame =
    if is_none (open_line before conn) then answer.Refused error.NoConnection
    else number_answer before conn (numbered frame.transaction (length (asked before conn))) frame

abbrev pub unit_id_at : Option Query → ℕ
unit_id_at None = 0
unit_id_at (Some query) = unit_id_of query

-- the frame of a reply, which is all that the office sees of it
abbrev pub reply_frame : ℕ → Option Query → List ℕ → Frame
reply_frame n query unit = record { transaction = n % 65536; unit_id = unit_id_at query; unit = unit }

-- ---- all

-- the answer to what happens after that history
abbrev pub answer_of : History → Happening → EventAnswer
answer_of before (Restart site) = answer.Restarted
answer_of before (Load edition caller key list) = request_answer before (caller, key) edition (body.List list)
answer_of before (Order caller key point value) = request_answer before (caller, key) Second (body.Order point value)
answer_of before (Void caller key point slot) = request_answer before (caller, key) Second (body.Void point slot)
answer_of before (Open line) = refused_or (open_fault (line_place (site_of before) line) (connections before)) (answer.Opened (connections before + 1))
answer_of before (Ask c device slot read) =
    refused_or (ask_fault (open_line before c) (site_of before) (points before) (length (asked before c)) device read)
    (answer.Query (query_frame (length (asked before c)) (Reads (question (site_of before) (points before) device slot read))))
answer_of before (Send c number) =
    refused_or (send_fault (open_line before c) (site_of before) (points before) (settings before) (length (asked before c)) number)
    (answer.Query (query_frame (length (asked before c)) (Writes (writing (site_of before) (points before) (settings before) number))))
answer_of before (Reply c n unit) =
    query_answer (readings before) (points before) (is_answered before c n) (slice_get (asked before c) n) (reply_frame n (slice_get (asked before c) n) unit)
answer_of before (Noise c frame) = frame_answer before c frame

-- the answers to what happens from there on
abbrev pub answers_of : History → List Happening → List EventAnswer
answers_of before [] = []
answers_of before (happening ∷ rest) = answer_of before happening ∷ answers_of (happening ∷ before) rest
