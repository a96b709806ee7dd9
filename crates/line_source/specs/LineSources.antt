-- What a read over a line asks, which frame answers it, and what is known of a source over a line.
use Rattle.std.specs.Prelude.{◌≡◌, ℕ, ◌<◌, ◌≤◌, ◌+◌, List, [], ◌∷◌, ◌++◌, All, Option, Some, None, length, drop}
use Rattle.std.specs.Io.KnownBytes.{Consumes}
use Rattle.mb_pdu.specs.declared.request.Span.{Span}
use Rattle.mb_pdu.specs.declared.request.Request.TheVariants.{ReadHolding}
use Rattle.mb_pdu.specs.declared.reply.Reply.{Reply}
use Rattle.mb_pdu.specs.declared.reply.Reply.TheVariants.{Registers, Excepted}
use Rattle.mb_pdu.specs.Grammar.{span_text}
use Rattle.mb_pdu.specs.Replies.{spells_reply}
use Rattle.mb_mbap.specs.declared.frame.Frame.{Frame}
use Rattle.mb_mbap.specs.declared.counted.Counted.{Counted}
use Rattle.mb_mbap.specs.Feeding.{StandsFor}
use Rattle.line_source.specs.declared.source.LineSource.{LineSource}

-- ---- what contracts see of a source

abbrev pub reader_of : {R W : Type 0} → LineSource R W → Counted R
reader_of source = source.reader

abbrev pub writer_of : {R W : Type 0} → LineSource R W → Counted W
writer_of source = source.writer

-- the frames that came behind the last answer and weren't looked at yet
abbrev pub waiting_of : {R W : Type 0} → LineSource R W → List Frame
waiting_of source = source.waiting

-- the bytes of a frame that isn't whole yet, or none after a bad header
abbrev pub held_by : {R W : Type 0} → LineSource R W → Option (List ℕ)
held_by source = source.stream

abbrev pub unit_of : {R W : Type 0} → LineSource R W → ℕ
unit_of source = source.unit_id

-- the transaction of the next query
abbrev pub next_of : {R W : Type 0} → LineSource R W → ℕ
next_of source = source.next

-- how many reads failed
abbrev pub failed_of : {R W : Type 0} → LineSource R W → ℕ
failed_of source = source.failures

-- ---- a query and its answer

abbrev pub span_of : ℕ → ℕ → Span
span_of start quantity = record { start = start; quantity = quantity }

-- the frame that asks for registers: function 03, their first address, and how many they are
abbrev pub query_of : ℕ → ℕ → Span → Frame
query_of transaction unit_id span = record { transaction = transaction; unit_id = unit_id; unit = span_text 3 span }

-- the query that a source makes next
abbrev pub next_query : {R W : Type 0} → LineSource R W → Span → Frame
next_query source span = query_of (next_of source) (unit_of source) span

-- a frame answers a query with this reply: it has the query's transaction and unit identifier, and
-- its unit spells the reply
pub record IsAnswer (query : Frame) (span : Span) (reply : Reply) (frame : Frame) : Type 0 where
  pub transaction : frame.transaction ≡ query.transaction
  pub unit_id : frame.unit_id ≡ query.unit_id
  pub unit : spells_reply (ReadHolding span) reply frame.unit

-- a frame doesn't answer a query
abbrev pub IsOther : Frame → Span → Frame → Type 0
IsOther query span frame = (reply : Reply) → IsAnswer query span reply frame → ⊥

-- of these frames the first that answers has this reply, and those behind it are left
pub record FirstAnswers (query : Frame) (span : Span) (reply : Reply) (frames left : List Frame) : Type 0 where
  pub skipped : List Frame
  pub frame : Frame
  pub split : frames ≡ skipped ++ frame ∷ left
  pub others : All (IsOther query span) skipped
  pub answer : IsAnswer query span reply frame

-- of these frames the first that answers has this reply, and those behind it are left; or none answers, and none is left
abbrev pub Tells : Frame → Span → Option Reply → List Frame → List Frame → Type 0
Tells query span (Some reply) frames left = FirstAnswers query span reply frames left
Tells query span None frames left = All (IsOther query span) frames × (left ≡ [])

-- the same with the place of the frame
abbrev pub Answers : Frame → Span → Option (ℕ × Reply) → List Frame → Type 0
Answers query span (Some (place, reply)) frames = (place < length frames) × FirstAnswers query span reply frames (drop (place + 1) frames)
Answers query span None frames = All (IsOther query span) frames

-- the reply that a read's answer comes from: these registers, or that one of them isn't there
abbrev pub reply_of : Option (List ℕ) → Reply
reply_of (Some words) = Registers words
reply_of None = Excepted 2

-- ---- what was read

-- these bytes, fed next of whatever stream, complete these frames
abbrev pub Completes : Option (List ℕ) → Option (List ℕ) → List ℕ → List Frame → Type 0
Completes held held' bytes frames =
    (stream : List ℕ) (before : List Frame) → StandsFor held stream before → StandsFor held' (stream ++ bytes) (before ++ frames)

-- bytes were read, 65,536 at most, and so are the frames that they complete
pub record Hears (told : List Frame → Type 0) (held held' : Option (List ℕ)) (unread left : Option (List ℕ)) (count : ℕ) : Type 0 where
  pub bytes : List ℕ
  pub frames : List Frame
  pub consumed : Consumes unread left bytes
  pub counted : length bytes ≡ count
  pub completes : Completes held held' bytes frames
  pub told_of : told frames

-- so many bytes at most were read, and of the frames that waited and those that the bytes complete, the first that
-- answers has this reply, and those behind it wait
abbrev pub HearsReply : Frame → Span → Reply → List Frame → List Frame → Option (List ℕ) → Option (List ℕ) → Option (List ℕ) → Option (List ℕ) → Type 0
HearsReply query span reply waiting waiting' held held' unread left =
    (count : ℕ) × (count ≤ 65536) × Hears (λ frames. FirstAnswers query span reply (waiting ++ frames) waiting') held held' unread left count
