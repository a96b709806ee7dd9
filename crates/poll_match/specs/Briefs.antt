-- Replies without bits, which take an eighth of the room.
use Rattle.std.specs.Prelude.{◌≡◌, Bool, true, false, ◌||◌, ◌==◌, Option, Some, None, option_and_then, Result, Ok, Err}
use Rattle.mb_pdu.specs.declared.reply.Reply.{Reply}
use Rattle.mb_pdu.specs.declared.reply.Reply.TheVariants as reply
use Rattle.mb_mbap.specs.declared.frame.Frame.{Frame}
use Rattle.poll_match.specs.declared.asked.Asked.{Asked}
use Rattle.poll_match.specs.declared.asked.Asked.TheVariants.{Read, Write}
use Rattle.poll_match.specs.declared.asked.Matched.{Matched}
use Rattle.poll_match.specs.declared.brief.BriefReply.{BriefReply}
use Rattle.poll_match.specs.declared.brief.BriefReply.TheVariants.{Registers, Written, Excepted}
use Rattle.poll_match.specs.declared.brief.FoundBrief.{FoundBrief}
use Rattle.poll_match.specs.declared.error.MatchError.{MatchError}
use Rattle.poll_match.specs.Window.{KeepsQuery, Names, Open, numbered, query_at, refusal}

-- the reply that a brief one is
abbrev pub whole : BriefReply → Reply
whole (Registers words) = reply.Registers words
whole Written = reply.Written
whole (Excepted code) = reply.Excepted code

-- coils and discrete inputs are bits
abbrev pub reads_bits : Asked → Bool
reads_bits (Read unit_id device slot read known) = (read.function == 1) || (read.function == 2)
reads_bits (Write unit_id order address payload) = false

abbrev pub asks_bits : Option Matched → Bool
asks_bits None = false
asks_bits (Some query) = reads_bits query.asked

-- the kept query that a frame names
abbrev pub named : Option Open → Frame → Option Matched
named None frame = None
named (Some on) frame = option_and_then (query_at on) (numbered frame.transaction on.made)

-- of a frame that names a query of bits nothing is told, else the query with the reply, or the first refusal
abbrev pub FindsBriefly : Option Open → Frame → Result (Option FoundBrief) MatchError → Type 0
FindsBriefly former frame (Err fault) = (asks_bits (named former frame) ≡ false) × (refusal former frame ≡ Some fault)
FindsBriefly former frame (Ok None) = asks_bits (named former frame) ≡ true
FindsBriefly former frame (Ok (Some found)) = (asks_bits (named former frame) ≡ false) × (refusal former frame ≡ None)
    × Names former frame found.number found.asked (whole found.reply) × KeepsQuery former found.number
