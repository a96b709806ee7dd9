-- What queries ask, and which frames answer them.
use Rattle.std.specs.Prelude.{ℕ, Bool, true, ◌&&◌, ◌==◌, List, [], ◌∷◌, length, get_or, if◌then◌else◌, ⊤}
use Rattle.mb_pdu.specs.declared.request.Request.{Request}
use Rattle.mb_pdu.specs.declared.request.Request.TheVariants.{WriteCoil, WriteRegister, WriteRegisters}
use Rattle.mb_pdu.specs.Replies.{answers}
use Rattle.mb_mbap.specs.declared.frame.Frame.{Frame}
use Rattle.read_planner.specs.Read.{IsReadFunction, is_valid_read, read_request}
use Rattle.sunspec.specs.PointType.{row}
use Rattle.sunspec.specs.declared.point_type.PointType.{PointType}
use Rattle.sunspec.specs.declared.point_type.Content.{Content}
use Rattle.sunspec.specs.declared.point_type.Content.TheVariants.{Bit as Cell}
use Rattle.poll_match.specs.declared.asked.Payload.{Payload}
use Rattle.poll_match.specs.declared.asked.Payload.TheVariants.{Coil, One, Two, Four}
use Rattle.poll_match.specs.declared.asked.Asked.{Asked}
use Rattle.poll_match.specs.declared.asked.Asked.TheVariants.{Read, Write}

-- ---- what is written (Modbus Application Protocol V1.1b3, sections 6.5, 6.6 and 6.12)

-- the word at a place, 0 where there is none
abbrev pub word_at : List ℕ → ℕ → ℕ
word_at words k = get_or words k 0

-- one register is written by function 06, two by function 16, any other number of them as four by function 16
abbrev pub registers_payload : List ℕ → Payload
registers_payload words =
    if length words == 1 then One (word_at words 0)
    else if length words == 2 then Two (word_at words 0 ∷ word_at words 1 ∷ [])
    else Four (word_at words 0 ∷ word_at words 1 ∷ word_at words 2 ∷ word_at words 3 ∷ [])

-- a bit is written by function 05, and is on where its word is 1
abbrev pub payload_of : Content → List ℕ → Payload
payload_of Cell words = Coil (word_at words 0 == 1)
payload_of content words = registers_payload words

-- how words of a type are written
abbrev pub payload : PointType → List ℕ → Payload
payload kind words = payload_of (row kind).content words

-- several registers are two or four
abbrev pub is_valid_payload : Payload → Bool
is_valid_payload (Coil on) = true
is_valid_payload (One word) = true
is_valid_payload (Two words) = length words == 2
is_valid_payload (Four words) = length words == 4

abbrev pub write_request : ℕ → Payload → Request
write_request address (Coil on) = WriteCoil address on
write_request address (One word) = WriteRegister address word
write_request address (Two words) = WriteRegisters address words
write_request address (Four words) = WriteRegisters address words

-- ---- what is asked

-- a read has one of the four reading functions; each payload can be written
abbrev pub CanBeAsked : Asked → Type 0
CanBeAsked (Read unit_id device slot read known) = IsReadFunction read.function
CanBeAsked (Write unit_id order address payload) = ⊤

-- a read has a quantity within its limit too, and a payload of several registers two words or four
abbrev pub is_valid : Asked → Bool
is_valid (Read unit_id device slot read known) = is_valid_read read
is_valid (Write unit_id order address payload) = is_valid_payload payload

abbrev pub request_of : Asked → Request
request_of (Read unit_id device slot read known) = read_request read
request_of (Write unit_id order address payload) = write_request address payload

abbrev pub unit_id_of : Asked → ℕ
unit_id_of (Read unit_id device slot read known) = unit_id
unit_id_of (Write unit_id order address payload) = unit_id

-- a frame answers a query: its unit identifier is the query's, and its unit spells a reply to the query's request
abbrev pub frame_answers : Asked → Frame → Bool
frame_answers asked frame = frame.unit_id == unit_id_of asked && answers (request_of asked) frame.unit
