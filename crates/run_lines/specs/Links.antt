-- What waits over a line's connection.
use Rattle.std.specs.Prelude.{ℕ, List, [], ◌++◌, Option, Some, None, is_some}
use Rattle.std.specs.List.{flat_map}
use Rattle.mb_mbap.specs.declared.frame.Frame.{Frame}
use Rattle.mb_mbap.specs.Stream.{spelled}
use Rattle.run_lines.specs.declared.link.Link.{Link}
use Rattle.run_lines.specs.declared.round.Round.{Round}
use Rattle.run_lines.specs.declared.window.Query.{Query}
use Rattle.run_lines.specs.Wires.{Standing, Up, Wire}

-- the bytes that wait to be written
abbrev pub waiting_in : Link → List ℕ
waiting_in link = link.out

-- the queries that are neither answered nor given up
abbrev pub asked_in : Link → List Query
asked_in link = link.window

-- the frames that came and weren't taken
abbrev pub frames_in : Link → List Frame
frames_in link = link.frames.items

-- the part of a frame that came
abbrev pub held_in : Option (List ℕ) → List ℕ
held_in None = []
held_in (Some held) = held

-- the bytes that are of no frame that was taken
abbrev pub unread_in : Link → List ℕ
unread_in link = flat_map spelled (frames_in link) ++ held_in link.stream

-- the slot of the round that is under way
abbrev pub slot_of : Option Round → Option ℕ
slot_of None = None
slot_of (Some round) = Some round.slot

-- how the connection stands
abbrev pub standing_of : Link → Standing
standing_of link = record { conn = link.conn; left = link.out; unread = unread_in link; reading = is_some link.stream; waiting = link.window; round = slot_of link.round }

abbrev pub wire_of : Link → Wire
wire_of link = Up (standing_of link)

-- a frame before what is unread
abbrev pub before : Frame → Standing → Standing
before frame at = record at { unread = spelled frame ++ at.unread }
