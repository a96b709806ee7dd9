-- What a row of each table stands for, if it is in the form.
use Rattle.std.specs.Prelude.{◌≡◌, ⊤, ◌≤◌, ℕ, ℤ, pos, negsuc, ◌+◌, ◌*◌, ◌/◌, ◌%◌, ◌^◌, ◌&&◌, nat_lt, nat_le, ◌==◌, Bool, true, false, List, [], ◌∷◌, length, take, drop, Option, Some, None, option_and_then, option_map, if◌then◌else◌}
use Rattle.std.specs.Str.{is_utf8}
use Rattle.std.specs.Int.{w32, w64, w128, from_be_bytes, cast_signed}
use Rattle.sqlite_value.specs.declared.value.Value.{Value}
use Rattle.sqlite_value.specs.declared.value.Value.TheVariants.{Int, Text, Blob}
use Rattle.sqlite_value.specs.Order.{Row, column}
use Rattle.mb_pdu.specs.declared.table.Table.{Table}
use Rattle.mb_pdu.specs.declared.table.Table.TheVariants.{Coil, Discrete, Input, Holding}
use Rattle.sunspec.specs.PointType.{row, coded, IsSized}
use Rattle.sunspec.specs.Text.{IsScale}
use Rattle.sunspec.specs.declared.point_type.PointType.{PointType}
use Rattle.sunspec.specs.declared.point_type.PointType.TheVariants.{Str}
use Rattle.sunspec.specs.declared.word_order.WordOrder.TheVariants.{Big}
use Rattle.point_list.specs.Name.{is_name}
use Rattle.point_list.specs.Label.{is_label}
use Rattle.point_list.specs.Columns.{same, holds_bits, is_bit, is_scaled, can_be_written, can_be_set, greatest_of}
use Rattle.point_list.specs.declared.point.Point.{Point}
use Rattle.point_list.specs.declared.point.Role.{Role}
use Rattle.point_list.specs.declared.point.Role.TheVariants.{Gauge, Counter, Setting as Set}
use Rattle.poll_book.specs.declared.rows.PointRow.{PointRow}
use Rattle.poll_book.specs.declared.rows.Reading.{Reading}
use Rattle.poll_book.specs.declared.rows.ReadingRow.{ReadingRow}
use Rattle.poll_book.specs.declared.rows.Setting.{Setting}
use Rattle.poll_book.specs.declared.rows.OrderState.{OrderState}
use Rattle.poll_book.specs.declared.rows.OrderState.TheVariants.{Waiting, Done, Refused}
use Rattle.poll_book.specs.Tables.{Key}
use Rattle.poll_book.specs.Changes.{as_row}
use Rattle.poll_book.specs.Callers.{is_caller, is_key}
use Rattle.poll_book.specs.Requests.{RequestKey}
use Rattle.poll_book.specs.declared.requests.KeptRequest.{KeptRequest}
use Rattle.poll_book.specs.declared.requests.Body.{Body}
use Rattle.poll_book.specs.declared.requests.Body.TheVariants as body
use Rattle.poll_book.specs.declared.requests.Outcome.{Outcome}
use Rattle.poll_book.specs.declared.requests.Outcome.TheVariants.{Loaded, Ordered, Voided, RefusedFor}
use Rattle.poll_book.specs.declared.requests.RequestFault.{RequestFault}
use Rattle.poll_book.specs.declared.requests.RequestFault.TheVariants as fault
use Rattle.point_list.specs.declared.error.ListFault.TheVariants.{BadCsv, BadHeader, BadName, UnknownDevice, BadTable, BadAddress, BadType, LeftOutType, BadLength, BadScale, BadRole, BadRoll, Twice, TooManyPoints, NoModel, PastModel, BadWords}

-- ---- values

-- a number below a limit
abbrev pub number_below : ℕ → Value → Option ℕ
number_below limit (Int (pos n)) = if nat_lt n limit then Some n else None
number_below limit _ = None

abbrev pub number_of : Value → Option ℕ
number_of = number_below (2 ^ 32)

-- a number of eight bits with a sign
abbrev pub small_of : Value → Option ℤ
small_of (Int (pos n)) = if nat_lt n 128 then Some (pos n) else None
small_of (Int (negsuc n)) = if nat_lt n 128 then Some (negsuc n) else None
small_of _ = None

abbrev pub flag_of : Value → Option Bool
flag_of (Int (pos n)) = if n == 0 then Some false else (if n == 1 then Some true else None)
flag_of _ = None

abbrev pub bytes_of : Value → Option (List ℕ)
bytes_of (Blob b) = Some b
bytes_of _ = None

-- a text that passes a test
abbrev pub text_that : (List ℕ → Bool) → Value → Option (List ℕ)
text_that test (Text t) = if test t then Some t else None
text_that test _ = None

-- eight bytes, most significant first
abbrev pub long_of : Value → Option ℕ
long_of (Blob b) = if length b == 8 then Some (from_be_bytes w64 b) else None
long_of _ = None

-- two bytes a register, most significant first
abbrev pub registers_in : List ℕ → Option (List ℕ)
registers_in [] = Some []
registers_in (high ∷ []) = None
registers_in (high ∷ low ∷ more) = option_map (λ words. (high * 256 + low) ∷ words) (registers_in more)

abbrev pub register_bytes : List ℕ → List ℕ
register_bytes [] = []
register_bytes (word ∷ words) = (word / 256) ∷ (word % 256) ∷ register_bytes words

-- 1 to 125 of them
abbrev pub words_of : Value → Option (List ℕ)
words_of (Blob b) = if nat_lt 0 (length b) && nat_le (length b) 250 then registers_in b else None
words_of _ = None

-- ---- points

abbrev pub table_coded : ℕ → Option Table
table_coded n = if n == 1 then Some Coil else (if n == 2 then Some Discrete else (if n == 3 then Some Holding else (if n == 4 then Some Input else None)))

abbrev pub role_coded : ℕ → Option Role
role_coded n = if n == 1 then Some Gauge else (if n == 2 then Some Counter else (if n == 3 then Some Set else None))

-- a string has any number of registers that a byte holds, another type its own
abbrev pub sized : ℕ → PointType → Option PointType
sized len (Str registers) = Some (Str len)
sized len kind = if (row kind).registers == len then Some kind else None

abbrev pub kind_of : Value → Value → Option PointType
kind_of kind len = option_and_then (λ k. option_and_then (λ n. option_and_then (sized n) (coded k)) (number_below 256 len)) (number_below 256 kind)

-- the columns of a point after its name and its device. Its order stands in another table
abbrev pub described : List ℕ → List ℕ → Value → Value → Value → Value → Value → Value → Value → Option Point
described name device table address kind len scale role roll =
    option_and_then (λ t. option_and_then (λ a. option_and_then (λ k. option_and_then (λ s. option_and_then (λ r. option_map
    (λ m. record { name = name; device = device; table = t; address = a; kind = k; scale = s; role = r; roll = m; order = Big })
    (long_of roll)) (option_and_then role_coded (number_below 256 role))) (small_of scale)) (kind_of kind len)) (number_below 65536 address)) (option_and_then table_coded (number_below 256 table))

-- of the columns from a place on, of which the first is the number's
abbrev pub point_from : Value → ℕ → Row → Option PointRow
point_from number at r =
    option_and_then (λ n. option_and_then (λ name. option_and_then (λ device. option_map (λ p. record { number = n; point = p })
    (described name device (column r (at + 2)) (column r (at + 3)) (column r (at + 4)) (column r (at + 5)) (column r (at + 6)) (column r (at + 7)) (column r (at + 8))))
    (text_that is_label (column r (at + 1)))) (text_that is_name (column r at))) (number_of number)

-- of a row of the table, whose first value is the key and whose second stands for it, and of a row that a query shows
abbrev pub stored_point : Row → Option PointRow
stored_point r = point_from (column r 0) 2 r

abbrev pub shown_point : Row → Option PointRow
shown_point r = point_from (column r 0) 1 r

-- a table of bits holds bits, and one of registers everything else
abbrev pub holds : Table → PointType → Bool
holds table kind = same (holds_bits table) (is_bit kind)

-- a counter's type counts, and a setting's can be set, in a table that can be written
abbrev pub can_be : Role → Table → PointType → Bool
can_be Gauge table kind = true
can_be Counter table kind = (row kind).counts
can_be Set table kind = can_be_written table && can_be_set kind

-- a counter's roll is 1 to the greatest number of its bits, and another point has none
abbrev pub can_roll_at : Role → PointType → ℕ → Bool
can_roll_at Counter kind roll = nat_le 1 roll && nat_le roll (greatest_of kind)
can_roll_at role kind roll = roll == 0

-- what a list of points says of one beside the forms of its columns: its type has a size and stands in its table, the
-- last of its registers has an address, only what is scaled has a scale, and its type and table can have its role and
-- its roll
pub record CanBeListed (point : Point) : Type 0 where
  pub sized : IsSized point.kind
  pub held : holds point.table point.kind ≡ true
  pub inside : point.address + (row point.kind).registers ≤ 65536
  pub scale : IsScale point.scale
  pub scaled : is_scaled point.kind ≡ false → point.scale ≡ pos 0
  pub role : can_be point.role point.table point.kind ≡ true
  pub roll : can_roll_at point.role point.kind point.roll ≡ true

-- ---- readings

abbrev pub reading_from : ℕ → Row → Option (Key × Reading)
reading_from at r =
    option_and_then (λ p. option_and_then (λ s. option_and_then (λ w. option_map (λ c. ((p, s), record { words = w; counted = c })) (flag_of (column r (at + 3)))) (words_of (column r (at + 2)))) (number_of (column r (at + 1)))) (number_of (column r at))

abbrev pub stored_reading : Row → Option (Key × Reading)
stored_reading = reading_from 1

abbrev pub shown_reading : Row → Option (Key × Reading)
shown_reading = reading_from 0

-- these values are those of a reading's row
pub record IsRowOf (row : ReadingRow) (values : Row) : Type 0 where
  pub are : values ≡ Int (pos row.point) ∷ Int (pos row.slot) ∷ Blob (register_bytes row.words) ∷ Int (if row.counted then pos 1 else pos 0) ∷ []
  pub reads : shown_reading values ≡ Some (as_row row)

-- ---- voids

abbrev pub stored_void : Row → Option (Key × ⊤)
stored_void r = option_and_then (λ p. option_map (λ s. ((p, s), tt)) (number_of (column r 2))) (number_of (column r 1))

abbrev pub shown_void : Row → Option (Key × ⊤)
shown_void r = option_and_then (λ p. option_map (λ s. ((p, s), tt)) (number_of (column r 1))) (number_of (column r 0))

-- ---- swapped points

-- of a row of the table and of one that a query shows, whose first values are the same
abbrev pub stored_swap : Row → Option (ℕ × ⊤)
stored_swap r = option_map (λ n. (n, tt)) (number_of (column r 0))

-- ---- totals

-- sixteen bytes, most significant first
abbrev pub wide_of : Value → Option ℕ
wide_of (Blob b) = if length b == 16 then Some (from_be_bytes w128 b) else None
wide_of _ = None

abbrev pub sum_from : Value → ℕ → Row → Option (ℕ × ℕ)
sum_from number at r = option_and_then (λ n. option_map (λ s. (n, s)) (wide_of (column r at))) (number_of number)

abbrev pub stored_sum : Row → Option (ℕ × ℕ)
stored_sum r = sum_from (column r 0) 2 r

abbrev pub shown_sum : Row → Option (ℕ × ℕ)
shown_sum r = sum_from (column r 0) 1 r

-- ---- settings

-- 0 waits, 1 is done and 2 refused, with the exception's code; else the code is 0
abbrev pub state_coded : ℕ → ℕ → Option OrderState
state_coded state code = if state == 2 then Some (Refused code) else (if code == 0 then (if state == 0 then Some Waiting else (if state == 1 then Some Done else None)) else None)

abbrev pub state_of : Value → Value → Option OrderState
state_of state code = option_and_then (λ s. option_and_then (state_coded s) (number_below 256 code)) (number_below 256 state)

abbrev pub setting_from : Value → ℕ → Row → Option (ℕ × Setting)
setting_from number at r =
    option_and_then (λ n. option_and_then (λ p. option_and_then (λ w. option_map (λ s. (n, record { point = p; words = w; state = s })) (state_of (column r (at + 2)) (column r (at + 3)))) (words_of (column r (at + 1)))) (number_of (column r at))) (number_of number)

abbrev pub stored_setting : Row → Option (ℕ × Setting)
stored_setting r = setting_from (column r 0) 2 r

abbrev pub shown_setting : Row → Option (ℕ × Setting)
shown_setting r = setting_from (column r 0) 1 r

-- ---- requests

-- the reasons, by the codes of their texts
abbrev pub reason_coded : ℕ → Option RequestFault
reason_coded n =
    if n == 1 then Some (fault.List BadCsv) else (if n == 2 then Some (fault.List BadHeader) else (if n == 3 then Some (fault.List BadName) else (if n == 4 then Some (fault.List UnknownDevice)
    else (if n == 5 then Some (fault.List BadTable) else (if n == 6 then Some (fault.List BadAddress) else (if n == 7 then Some (fault.List BadType) else (if n == 8 then Some (fault.List LeftOutType)
    else (if n == 9 then Some (fault.List BadLength) else (if n == 10 then Some (fault.List BadScale) else (if n == 11 then Some (fault.List BadRole) else (if n == 12 then Some (fault.List BadRoll)
    else (if n == 13 then Some (fault.List Twice) else (if n == 14 then Some (fault.List TooManyPoints) else (if n == 16 then Some (fault.List NoModel) else (if n == 18 then Some (fault.List PastModel) else (if n == 19 then Some (fault.List BadWords) else (if n == 20 then Some fault.PointDiffers else (if n == 21 then Some fault.UnknownPoint
    else (if n == 22 then Some fault.NotASetting else (if n == 23 then Some fault.OutOfRange else (if n == 24 then Some fault.TooManyOrders
    else (if n == 25 then Some fault.NotACounter else (if n == 26 then Some fault.TooManyVoids else None)))))))))))))))))))))))

-- 1 loaded rows, 2 ordered a number, 3 refused for a reason at a row and a column, 4 voided a slot. Unused numbers are 0
abbrev pub outcome_coded : ℕ → ℕ → ℕ → ℕ → Option Outcome
outcome_coded answer a b c =
    if answer == 3 then option_map (λ f. RefusedFor (record { fault = f; row = b; column = c })) (reason_coded a)
    else (if b == 0 && c == 0 then (if answer == 1 then Some (Loaded a) else (if answer == 2 then Some (Ordered a) else (if answer == 4 then Some (Voided a) else None))) else None)

abbrev pub outcome_of : Value → Value → Value → Value → Option Outcome
outcome_of answer a b c =
    option_and_then (λ k. option_and_then (λ x. option_and_then (λ y. option_and_then (outcome_coded k x y) (number_below 256 c)) (number_of b)) (number_of a)) (number_below 256 answer)

-- 1 the bytes of a list, 2 the value of an order in sixteen bytes, in two's complement and most significant first, and the point's name,
-- 3 the slot of a void in four bytes, most significant first, and the point's name
abbrev pub body_coded : ℕ → List ℕ → Option Body
body_coded kind bytes =
    if kind == 1 then Some (body.List bytes)
    else (if kind == 2 && (nat_le 16 (length bytes) && is_utf8 (drop 16 bytes)) then Some (body.Order (drop 16 bytes) (cast_signed w128 (from_be_bytes w128 (take 16 bytes))))
    else (if kind == 3 && (nat_le 4 (length bytes) && is_utf8 (drop 4 bytes)) then Some (body.Void (drop 4 bytes) (from_be_bytes w32 (take 4 bytes))) else None))

abbrev pub body_of : Value → Value → Option Body
body_of kind bytes = option_and_then (λ k. option_and_then (body_coded k) (bytes_of bytes)) (number_below 256 kind)

abbrev pub request_from : ℕ → Row → Option (RequestKey × KeptRequest)
request_from at r =
    option_and_then (λ caller. option_and_then (λ key. option_and_then (λ b. option_map (λ o. ((caller, key), record { body = b; outcome = o }))
    (outcome_of (column r (at + 4)) (column r (at + 5)) (column r (at + 6)) (column r (at + 7)))) (body_of (column r (at + 2)) (column r (at + 3)))) (text_that is_key (column r (at + 1)))) (text_that is_caller (column r at))

abbrev pub stored_request : Row → Option (RequestKey × KeptRequest)
stored_request = request_from 1

abbrev pub shown_request : Row → Option (RequestKey × KeptRequest)
shown_request = request_from 0
