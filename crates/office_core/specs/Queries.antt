-- Queries: reads, and writes of settings; and which units answer them.
use Rattle.std.specs.Prelude.{ℕ, ◌%◌, ◌*◌, Bool, List, [], ◌∷◌, ◌++◌, length, slice_index, ⊤}
use Rattle.mb_pdu.specs.Grammar.{coil_text}
use Rattle.mb_pdu.specs.Packing.{two, words_text}
use Rattle.mb_pdu.specs.Replies.{answers, is_exception, function_of}
use Rattle.mb_pdu.specs.declared.reply.Reply.{Reply}
use Rattle.mb_pdu.specs.declared.reply.Reply.TheVariants.{Written, Excepted}
use Rattle.mb_mbap.specs.declared.frame.Frame.{Frame}
use Rattle.read_planner.specs.declared.Read.{Read}
use Rattle.poll_match.specs.declared.asked.Asked.{Asked}
use Rattle.poll_match.specs.declared.asked.Asked.TheVariants as asked
use Rattle.poll_match.specs.declared.asked.Payload.{Payload}
use Rattle.poll_match.specs.declared.asked.Payload.TheVariants.{Coil, One, Two, Four}
use Rattle.poll_match.specs.Queries.{request_of, unit_id_of as asked_unit_id}
use Rattle.office_core.specs.Cover.{Question, Brings}

-- what is written for an order: to which device, where and what
pub record Writing : Type 0 where
  pub order : ℕ
  pub unit_id : ℕ
  pub address : ℕ
  pub payload : Payload

pub data Query : Type 0 where
  Reads : (question : Question) → Query
  Writes : (writing : Writing) → Query

-- what is kept of it
abbrev pub asked_of : Query → Asked
asked_of (Reads q) = asked.Read q.unit_id q.place q.slot q.read q.known
asked_of (Writes w) = asked.Write w.unit_id w.order w.address w.payload

abbrev pub unit_id_of : Query → ℕ
unit_id_of query = asked_unit_id (asked_of query)

-- a unit spells a reply to the query
abbrev pub fits : Query → List ℕ → Bool
fits query unit = answers (request_of (asked_of query)) unit

-- and that reply is an exception
abbrev pub is_excepted : Query → List ℕ → Bool
is_excepted query unit = is_exception (function_of (request_of (asked_of query))) unit

abbrev pub exception_code : List ℕ → ℕ
exception_code unit = slice_index unit 1

-- ---- the bytes of a query

-- the request of a read (Modbus Application Protocol V1.1b3, sections 6.1 to 6.4)
abbrev pub read_text : Read → List ℕ
read_text read = read.function ∷ two read.span.start ++ two read.span.quantity

-- several registers (section 6.12)
abbrev pub registers_text : ℕ → List ℕ → List ℕ
registers_text address words = (16 ∷ two address ++ two (length words) ++ (2 * length words) ∷ []) ++ words_text words

-- the request of a write (sections 6.5, 6.6 and 6.12)
abbrev pub write_text : ℕ → Payload → List ℕ
write_text address (Coil on) = 5 ∷ two address ++ coil_text on
write_text address (One word) = 6 ∷ two address ++ two word
write_text address (Two words) = registers_text address words
write_text address (Four words) = registers_text address words

abbrev pub query_text : Query → List ℕ
query_text (Reads q) = read_text q.read
query_text (Writes w) = write_text w.address w.payload

-- the frame of query number n
abbrev pub query_frame : ℕ → Query → Frame
query_frame n query = record { transaction = n % 65536; unit_id = unit_id_of query; unit = query_text query }

-- ---- what is kept of a query, and a reply to it that was read

-- a reply to a read: an exception, or one that brings what the read asks for
abbrev pub AnswersRead : Read → Reply → Type 0
AnswersRead read (Excepted code) = ⊤
AnswersRead read reply = Brings read reply

-- a reply to a write: an exception, or its echo
abbrev pub AnswersWrite : Reply → Type 0
AnswersWrite (Excepted code) = ⊤
AnswersWrite Written = ⊤
AnswersWrite reply = ⊥

abbrev pub Answers : Asked → Reply → Type 0
Answers (asked.Read unit_id place slot read known) reply = AnswersRead read reply
Answers (asked.Write unit_id order address payload) reply = AnswersWrite reply
