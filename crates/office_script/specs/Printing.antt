-- What is printed of answers, and of an office's tables at the end.
use Rattle.std.specs.Prelude.{ℕ, zero, suc, List, [], ◌∷◌, ◌++◌, Option, Some, None, if◌then◌else◌, flat_map, map, codes, decimal, pos, unwrap_or}
use Rattle.hex.specs.Hex.{encode_upper}
use Rattle.sunspec.specs.Text.{scaled}
use Rattle.point_list.specs.declared.point.Point.{Point}
use Rattle.mb_mbap.specs.Stream.{spelled}
use Rattle.poll_book.specs.declared.rows.PointRow.{PointRow}
use Rattle.poll_book.specs.declared.rows.Reading.{Reading}
use Rattle.poll_book.specs.declared.shown.ShownReading.{ShownReading}
use Rattle.poll_book.specs.Changes.{as_row}
use Rattle.poll_book.specs.Tables.{Key, Readings, Sums, Tables, readings_between}
use Rattle.poll_book.specs.Totals.{is_counter, stored_total}
use Rattle.poll_book.specs.declared.rows.OrderState.{OrderState}
use Rattle.poll_book.specs.declared.rows.OrderState.TheVariants.{Waiting, Done, Refused}
use Rattle.poll_book.specs.declared.rows.Setting.{Setting}
use Rattle.poll_book.specs.Orders.{Settings, last_order, setting_at}
use Rattle.office_report.specs.Outcomes.{request_text}
use Rattle.office_core.specs.Fitting.{point_text}
use Rattle.office_core.specs.declared.error.OfficeError.{OfficeError}
use Rattle.office_core.specs.declared.error.OfficeError.TheVariants as error
use Rattle.office_core.specs.declared.event.RequestAnswer.{RequestAnswer}
use Rattle.office_core.specs.declared.event.Arrival.{Arrival}
use Rattle.office_core.specs.declared.event.Arrival.TheVariants.{Recorded, Settled, Excepted}
use Rattle.office_core.specs.declared.event.EventAnswer.{EventAnswer}
use Rattle.office_core.specs.declared.event.EventAnswer.TheVariants as answer

abbrev pub line_end : List ℕ
line_end = 10 ∷ []

-- a line of words and a number
abbrev pub numbered_line : List ℕ → ℕ → List ℕ
numbered_line words number = words ++ decimal number ++ line_end

-- ---- bytes

-- a space and a byte, in upper case
abbrev pub spaced_byte : ℕ → List ℕ
spaced_byte b = 32 ∷ encode_upper (b ∷ [])

-- ---- answers

-- the name of a refusal
abbrev pub refusal_name : OfficeError → List ℕ
refusal_name error.NoConnection = codes "NoConnection"
refusal_name error.WrongLine = codes "WrongLine"
refusal_name error.NoRead = codes "NoRead"
refusal_name error.NoOrder = codes "NoOrder"
refusal_name error.Settled = codes "Settled"
refusal_name error.NotNext = codes "NotNext"
refusal_name error.Exhausted = codes "Exhausted"
refusal_name error.SiteDiffers = codes "SiteDiffers"
refusal_name error.NoQuery = codes "NoQuery"
refusal_name error.WrongUnit = codes "WrongUnit"
refusal_name error.Repeat = codes "Repeat"
refusal_name error.WrongReply = codes "WrongReply"
refusal_name (error.Store fault) = codes "Store"

abbrev pub refusal_line : List ℕ → List ℕ
refusal_line why = codes "refused " ++ why ++ line_end

-- what a request is answered
abbrev pub request_line : RequestAnswer → List ℕ
request_line told = request_text told ++ line_end

abbrev pub arrival_line : Arrival → List ℕ
arrival_line (Recorded count) = numbered_line (codes "recorded ") count
arrival_line Settled = codes "settled" ++ line_end
arrival_line (Excepted code) = numbered_line (codes "excepted ") code

-- the line that an answer prints
abbrev pub answer_line : EventAnswer → List ℕ
answer_line (answer.Request told) = request_line told
answer_line (answer.Opened conn) = numbered_line (codes "connection ") conn
answer_line (answer.Query frame) = codes "query" ++ flat_map spaced_byte (spelled frame) ++ line_end
answer_line (answer.Arrived arrival) = arrival_line arrival
answer_line answer.Restarted = codes "restarted" ++ line_end
answer_line (answer.Refused fault) = refusal_line (refusal_name fault)

-- where a line is of another form
abbrev pub fault_line : ℕ → List ℕ
fault_line number = numbered_line (codes "fault line ") number

-- ---- the report

-- the text of a reading, a dash where the point is not implemented
abbrev pub reading_text : Point → Reading → List ℕ
reading_text point reading = unwrap_or (point_text point reading.words) (45 ∷ [])

abbrev pub reading_line : PointRow → Key × Reading → List ℕ
reading_line known row =
    codes "reading " ++ known.point.name ++ 32 ∷ decimal row.0.1 ++ 32 ∷ reading_text known.point row.1 ++ line_end

-- the readings that are shown with their marks
abbrev pub readings_in : List ShownReading → Readings
readings_in shown = map (λ (one : ShownReading). as_row one.reading) shown

-- all readings of a point, by slot
abbrev pub reading_lines : Readings → PointRow → List ℕ
reading_lines table known = flat_map (reading_line known) (readings_between known.number 0 4294967295 table)

-- what is stored of how far a counter went, with its scale; nothing for another point
abbrev pub total_line : Sums → PointRow → List ℕ
total_line totals known =
    if is_counter known.point.role
    then codes "total " ++ known.point.name ++ 32 ∷ scaled (pos (stored_total totals known.number)) known.point.scale ++ line_end
    else []

-- how an order stands
abbrev pub state_text : OrderState → List ℕ
state_text Waiting = codes "waiting"
state_text Done = codes "done"
state_text (Refused code) = codes "refused " ++ decimal code

abbrev pub order_line : ℕ → OrderState → List ℕ
order_line number state = codes "order " ++ decimal number ++ 32 ∷ state_text state ++ line_end

-- the line of the order of this number, where there is one
abbrev pub order_line_of : ℕ → Option Setting → List ℕ
order_line_of number None = []
order_line_of number (Some setting) = order_line number setting.state

-- the orders from 1 to this number
abbrev pub orders_to : Settings → ℕ → List ℕ
orders_to table zero = []
orders_to table (suc n) = orders_to table n ++ order_line_of (suc n) (setting_at table (suc n))

-- all orders by number
abbrev pub order_lines : Settings → List ℕ
order_lines table = orders_to table (last_order table)

-- the readings of all points, and then the totals of the counters, by the numbers of the points, and then the orders
abbrev pub report_of : Tables → List ℕ
report_of kept =
    flat_map (reading_lines kept.readings) kept.points ++ flat_map (total_line kept.totals) kept.points ++ order_lines kept.settings
