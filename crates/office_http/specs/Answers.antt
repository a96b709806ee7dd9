-- The bytes of an answer (RFC 9112, section 4), whose body is compact JSON with its members in the order of their names.
use Rattle.std.specs.Prelude.{ℕ, List, [], ◌++◌, length, map, codes, decimal, Option, Some, None, if◌then◌else◌, Bool}
use Rattle.serde_json.specs.Data.{Data, null, string, number, array, object, unsigned, no_items, item, member, no_members}
use Rattle.serde_json.specs.View.{items_of}
use Rattle.serde_json.specs.Written.{compact_text}
use Rattle.poll_book.specs.declared.rows.OrderState.{OrderState}
use Rattle.poll_book.specs.declared.rows.OrderState.TheVariants as state
use Rattle.office_http.specs.declared.heard.Methods.{Methods}
use Rattle.office_http.specs.declared.heard.Methods.TheVariants.{Get, Put, GetPut}
use Rattle.office_http.specs.declared.heard.Page.{Page}
use Rattle.office_http.specs.declared.heard.Page.TheVariants as page
use Rattle.office_http.specs.declared.heard.Refusal.{Refusal}
use Rattle.office_http.specs.declared.heard.Refusal.TheVariants as refusal
use Rattle.office_http.specs.declared.status.Status.{Status}
use Rattle.office_http.specs.declared.status.Status.TheVariants.{Done, Created, BadRequest, NotFound, NotAllowed, Conflict, LengthRequired, TooLarge, Unprocessable}

-- the code and its phrase
abbrev pub status_text : Status → List ℕ
status_text Done = codes "200 OK"
status_text Created = codes "201 Created"
status_text BadRequest = codes "400 Bad Request"
status_text NotFound = codes "404 Not Found"
status_text NotAllowed = codes "405 Method Not Allowed"
status_text Conflict = codes "409 Conflict"
status_text LengthRequired = codes "411 Length Required"
status_text TooLarge = codes "413 Content Too Large"
status_text Unprocessable = codes "422 Unprocessable Content"

-- the type of a body (RFC 9110, section 8.3)
abbrev pub json_type : List ℕ
json_type = codes "application/json"

abbrev pub text_type : List ℕ
text_type = codes "text/plain; charset=utf-8"

-- the whole answer of its parts; `allow` is a line of its own, or nothing
abbrev pub answer_of_parts : List ℕ → List ℕ → ℕ → List ℕ → List ℕ → List ℕ
answer_of_parts status kind len allow body =
    codes "HTTP/1.1 " ++ status ++ codes "\r\nContent-Type: " ++ kind ++ codes "\r\nContent-Length: " ++ decimal len
    ++ codes "\r\nConnection: close\r\n" ++ allow ++ codes "\r\n" ++ body

abbrev pub answer_text : Status → List ℕ → List ℕ → List ℕ
answer_text status allow body = answer_of_parts (status_text status) json_type (length body) allow body

-- a text as it stands
abbrev pub plain_answer : List ℕ → List ℕ
plain_answer body = answer_of_parts (status_text Done) text_type (length body) [] body

-- ---- what is shown piece by piece

abbrev pub page_type : Page → List ℕ
page_type page.Points = json_type
page_type page.Metrics = codes "application/openmetrics-text; version=1.0.0; charset=utf-8"
page_type page.Office = codes "text/html; charset=utf-8"
page_type (page.Device place) = codes "text/html; charset=utf-8"

-- the head before the pieces, which end with the connection (RFC 9112, section 6.3)
abbrev pub page_head : Page → List ℕ
page_head shown = codes "HTTP/1.1 200 OK\r\nContent-Type: " ++ page_type shown ++ codes "\r\nConnection: close\r\n\r\n"

-- ---- bodies

-- a body with one text
abbrev pub one_text : List ℕ → List ℕ → List ℕ
one_text name text = compact_text (object (member name (string text) no_members))

abbrev pub error_text : List ℕ → List ℕ
error_text text = one_text (codes "error") text

abbrev pub points_text : ℕ → List ℕ
points_text count = compact_text (object (member (codes "points") (number (unsigned count)) no_members))

-- {"column":C,"refused":TEXT,"row":R}
abbrev pub list_refused_text : ℕ → ℕ → List ℕ → List ℕ
list_refused_text row column text =
    codes "{\"column\":" ++ decimal column ++ codes ",\"refused\":" ++ compact_text (string text) ++ codes ",\"row\":" ++ decimal row ++ codes "}"

abbrev pub state_text : ℕ → List ℕ → List ℕ
state_text order name = compact_text (object (member (codes "order") (number (unsigned order)) (member (codes "state") (string name) no_members)))

abbrev pub refused_order_text : ℕ → ℕ → List ℕ
refused_order_text order code =
    compact_text (object (member (codes "code") (number (unsigned code)) (member (codes "order") (number (unsigned order)) (member (codes "state") (string (codes "refused")) no_members))))

-- how an order stands
abbrev pub order_text : ℕ → OrderState → List ℕ
order_text order state.Waiting = state_text order (codes "waiting")
order_text order state.Done = state_text order (codes "done")
order_text order (state.Refused code) = refused_order_text order code

abbrev pub total_text : List ℕ → List ℕ → List ℕ
total_text point total = compact_text (object (member (codes "point") (string point) (member (codes "total") (string total) no_members)))

-- a void that was accepted
abbrev pub void_text : List ℕ → ℕ → List ℕ
void_text point slot = compact_text (object (member (codes "point") (string point) (member (codes "slot") (number (unsigned slot)) no_members)))

-- a value as text; null where the device has none
abbrev pub value_data : Option (List ℕ) → Data
value_data (Some text) = string text
value_data None = null

-- a slot and its value
abbrev pub reading_data : ℕ × Option (List ℕ) → Data
reading_data reading = array (item (number (unsigned reading.0)) (item (value_data reading.1) no_items))

-- a point's name and a list
abbrev pub listed_data : List ℕ → Data → Data
listed_data point list = object (member (codes "point") (string point) (member (codes "readings") list no_members))

abbrev pub readings_text : List ℕ → List (ℕ × Option (List ℕ)) → List ℕ
readings_text point readings = compact_text (listed_data point (array (items_of (map reading_data readings))))

-- ---- refusals

abbrev pub methods_text : Methods → List ℕ
methods_text Get = codes "Allow: GET\r\n"
methods_text Put = codes "Allow: PUT\r\n"
methods_text GetPut = codes "Allow: GET, PUT\r\n"

-- the answer to a request that asks for nothing
abbrev pub refusal_text : Refusal → List ℕ
refusal_text refusal.BadRequest = answer_text BadRequest [] (error_text (codes "bad request"))
refusal_text refusal.NotFound = answer_text NotFound [] (error_text (codes "not found"))
refusal_text (refusal.NotAllowed methods) = answer_text NotAllowed (methods_text methods) (error_text (codes "method"))
refusal_text refusal.LengthRequired = answer_text LengthRequired [] (error_text (codes "length required"))
refusal_text refusal.TooLarge = answer_text TooLarge [] (error_text (codes "too large"))

-- what is answered where the store or memory refused
abbrev pub unavailable_text : List ℕ
unavailable_text =
    codes "HTTP/1.1 503 Service Unavailable\r\nContent-Type: application/json\r\nContent-Length: 17\r\nConnection: close\r\n\r\n{\"error\":\"store\"}"

abbrev pub first_status : Bool → Status
first_status is_first = if is_first then Created else Done
