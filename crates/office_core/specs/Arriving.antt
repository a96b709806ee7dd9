-- A reply to a query of a connection.
use Rattle.std.specs.Prelude.{◌≡◌, ℕ, List, None}
use Rattle.mb_mbap.specs.declared.frame.Frame.{Frame}
use Rattle.mb_pdu.specs.declared.reply.Reply.{Reply}
use Rattle.poll_match.specs.declared.asked.Asked.{Asked}
use Rattle.poll_match.specs.Window.{Names, Open, held, refusal}

-- a frame that isn't refused names this query, and brings this reply to it
abbrev pub IsAnswered : List Open → ℕ → Frame → ℕ → Asked → Reply → Type 0
IsAnswered all conn frame number asked reply = (refusal (held conn all) frame ≡ None) × Names (held conn all) frame number asked reply
