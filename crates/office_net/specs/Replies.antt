-- What a request over HTTP makes happen, and what is answered to it.
use Rattle.std.specs.Prelude.{ℕ, Bool, true, nat_lt, length, List, [], ◌∷◌, Option, Some, None, map, codes, pos, if◌then◌else◌}
use Rattle.sunspec.specs.Text.{scaled}
use Rattle.point_list.specs.declared.point.Point.{Point}
use Rattle.point_list.specs.declared.site.Site.{Site}
use Rattle.point_list.specs.Edition.{Second}
use Rattle.poll_book.specs.declared.requests.Body.{Body}
use Rattle.poll_book.specs.declared.requests.Body.TheVariants as body
use Rattle.poll_book.specs.declared.requests.Outcome.{Outcome}
use Rattle.poll_book.specs.declared.requests.Outcome.TheVariants.{Loaded, Ordered, Voided, RefusedFor}
use Rattle.poll_book.specs.declared.requests.Reason.{Reason}
use Rattle.poll_book.specs.declared.requests.KeptRequest.{KeptRequest}
use Rattle.poll_book.specs.declared.rows.OrderState.{OrderState}
use Rattle.poll_book.specs.declared.rows.OrderState.TheVariants.{Waiting}
use Rattle.poll_book.specs.declared.rows.PointRow.{PointRow}
use Rattle.poll_book.specs.declared.rows.Reading.{Reading}
use Rattle.poll_book.specs.RequestTexts.{request_fault_text}
use Rattle.poll_book.specs.Requests.{request_at}
use Rattle.poll_book.specs.Tables.{Key, Readings, readings_between}
use Rattle.poll_book.specs.Totals.{is_counter}
use Rattle.office_core.specs.declared.event.EventAnswer.{EventAnswer}
use Rattle.office_core.specs.declared.event.EventAnswer.TheVariants as told
use Rattle.office_core.specs.declared.event.RequestAnswer.{RequestAnswer}
use Rattle.office_core.specs.declared.event.RequestAnswer.TheVariants.{Kept, KeyReused}
use Rattle.office_core.specs.Answers.{answer_of}
use Rattle.office_core.specs.Fitting.{point_text}
use Rattle.office_core.specs.History.{Happening, Load, Order, Void, History, kept_readings, points, requests, site_of, total}
use Rattle.office_core.specs.Loads.{known_named}
use Rattle.office_core.specs.Offices.{order_state_of}
use Rattle.office_http.specs.Answers.{answer_text, error_text, first_status, list_refused_text, one_text, order_text, page_head, plain_answer, points_text, readings_text, refusal_text, total_text, void_text}
use Rattle.office_http.specs.declared.heard.Page.{Page}
use Rattle.office_http.specs.declared.heard.Page.TheVariants as shown
use Rattle.office_http.specs.declared.heard.Refusal.TheVariants.{NotFound}
use Rattle.office_http.specs.declared.status.Status.TheVariants.{Done, Conflict, Unprocessable}
use Rattle.office_http.specs.Meanings.{Meaning, nothing, refused, load, order, void, order_under, readings_of, report_of, total_of, page}
use Rattle.office_report.specs.Reports.{report_text}

-- ---- what happens

-- a list comes, an order or a void; a query makes nothing happen
abbrev pub event_of : Meaning → Option Happening
event_of (load caller key list) = Some (Load Second caller key list)
event_of (order caller key point value) = Some (Order caller key point value)
event_of (void caller key point slot) = Some (Void caller key point slot)
event_of _ = None

abbrev pub with_event : Option Happening → History → History
with_event None now = now
with_event (Some happening) now = happening ∷ now

-- the history after what a request makes happen
abbrev pub after_request : Meaning → History → History
after_request meaning now = with_event (event_of meaning) now

-- ---- answers to requests

abbrev pub not_found : List ℕ
not_found = refusal_text NotFound

-- why a list was refused, and where
abbrev pub list_refusal : Reason → List ℕ
list_refusal reason = answer_text Unprocessable [] (list_refused_text reason.row reason.column (request_fault_text reason.fault))

-- why an order or a void was refused
abbrev pub order_refusal : Reason → List ℕ
order_refusal reason = answer_text Unprocessable [] (one_text (codes "refused") (request_fault_text reason.fault))

-- what became of a request, told the first time or again; a void tells of its point
abbrev pub outcome_reply : (Reason → List ℕ) → List ℕ → Bool → Outcome → List ℕ
outcome_reply refusal point first (Loaded count) = answer_text (first_status first) [] (points_text count)
outcome_reply refusal point first (Ordered number) = answer_text (first_status first) [] (order_text number Waiting)
outcome_reply refusal point first (Voided slot) = answer_text (first_status first) [] (void_text point slot)
outcome_reply refusal point first (RefusedFor reason) = refusal reason

abbrev pub request_reply : (Reason → List ℕ) → List ℕ → RequestAnswer → List ℕ
request_reply refusal point (Kept first outcome) = outcome_reply refusal point first outcome
request_reply refusal point KeyReused = answer_text Conflict [] (error_text (codes "key reused"))

abbrev pub event_reply : (Reason → List ℕ) → List ℕ → EventAnswer → List ℕ
event_reply refusal point (told.Request answer) = request_reply refusal point answer
event_reply refusal point _ = []

-- ---- answers to queries

-- how the order of a number stands
abbrev pub state_reply : ℕ → Option OrderState → List ℕ
state_reply number None = not_found
state_reply number (Some state) = answer_text Done [] (order_text number state)

-- what became of an order
abbrev pub order_reply : History → Outcome → List ℕ
order_reply now (Loaded count) = not_found
order_reply now (Ordered number) = state_reply number (order_state_of now number)
order_reply now (Voided slot) = not_found
order_reply now (RefusedFor reason) = order_refusal reason

-- a key of a list or of a void is no order's
abbrev pub body_reply : History → Body → Outcome → List ℕ
body_reply now (body.List list) outcome = not_found
body_reply now (body.Order point value) outcome = order_reply now outcome
body_reply now (body.Void point slot) outcome = not_found

abbrev pub under_reply : History → Option KeptRequest → List ℕ
under_reply now None = not_found
under_reply now (Some request) = body_reply now request.body request.outcome

-- a slot, and what a point shows in it
abbrev pub shown_row : Point → Key × Reading → ℕ × Option (List ℕ)
shown_row point row = (row.0.1, point_text point row.1.words)

abbrev pub rows_reply : List ℕ → Point → Readings → List ℕ
rows_reply name point rows = answer_text Done [] (readings_text name (map (shown_row point) rows))

abbrev pub readings_reply : History → List ℕ → ℕ → ℕ → Option PointRow → List ℕ
readings_reply now name from to None = not_found
readings_reply now name from to (Some known) = rows_reply name known.point (readings_between known.number from to (kept_readings now))

-- a point that isn't a counter has no total
abbrev pub total_reply : History → List ℕ → Option PointRow → List ℕ
total_reply now name None = not_found
total_reply now name (Some known) =
    if is_counter known.point.role then answer_text Done [] (total_text name (scaled (pos (total now known)) known.point.scale)) else not_found

-- the text of a report as it stands
abbrev pub report_reply : Option (List ℕ) → List ℕ
report_reply None = not_found
report_reply (Some text) = plain_answer text

-- a site has what a page is of
abbrev pub has_page : Site → Page → Bool
has_page site (shown.Device at) = nat_lt at (length site.devices)
has_page site _ = true

-- the head of what is shown piece by piece
abbrev pub page_reply : Site → Page → List ℕ
page_reply site one = if has_page site one then page_head one else not_found

-- ---- all

-- the bytes that are answered after that history
abbrev pub reply_text : History → Meaning → List ℕ
reply_text now nothing = []
reply_text now (refused why) = refusal_text why
reply_text now (load caller key list) = event_reply list_refusal [] (answer_of now (Load Second caller key list))
reply_text now (order caller key point value) = event_reply order_refusal point (answer_of now (Order caller key point value))
reply_text now (void caller key point slot) = event_reply order_refusal point (answer_of now (Void caller key point slot))
reply_text now (order_under caller key) = under_reply now (request_at (requests now) (caller, key))
reply_text now (readings_of point from to) = readings_reply now point from to (known_named (points now) point)
reply_text now (total_of point) = total_reply now point (known_named (points now) point)
reply_text now (report_of point from to) = report_reply (report_text now point from to)
reply_text now (page shown) = page_reply (site_of now) shown
