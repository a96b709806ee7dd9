-- What happened, as an office's events tell it: any event that comes can be told so.
use Rattle.std.specs.Prelude.{ℕ, ◌≤◌, Option, Some, None, if◌then◌else◌, length, slice_get}
use Rattle.mb_pdu.specs.Replies.{IsBytes}
use Rattle.mb_mbap.specs.declared.frame.Frame.{Frame}
use Rattle.point_list.specs.Edition.{Second}
use Rattle.poll_match.specs.Window.{numbered}
use Rattle.office_core.specs.declared.event.Event.{Event}
use Rattle.office_core.specs.declared.event.Event.TheVariants as event
use Rattle.office_core.specs.Queries.{Query}
use Rattle.office_core.specs.History.{Happening, Restart, Load, Order, Void, Open, Ask, Send, Reply, Noise, History, site_of, open_line, asked}
use Rattle.office_core.specs.Legal.{AreWords, IsNumber, frame_answers}

-- a frame that answers the query that it names is a reply to it, and any other is noise
abbrev pub answering : ℕ → Frame → ℕ → Option Query → Happening
answering conn frame number None = Noise conn frame
answering conn frame number (Some query) = if frame_answers query frame then Reply conn number frame.unit else Noise conn frame

abbrev pub naming : History → ℕ → Frame → Option ℕ → Happening
naming before conn frame None = Noise conn frame
naming before conn frame (Some number) = answering conn frame number (slice_get (asked before conn) number)

abbrev pub arriving_over : History → ℕ → Frame → Option ℕ → Happening
arriving_over before conn frame None = Noise conn frame
arriving_over before conn frame (Some line) = naming before conn frame (numbered frame.transaction (length (asked before conn)))

-- a frame that comes over a connection
abbrev pub arriving : History → ℕ → Frame → Happening
arriving before conn frame = arriving_over before conn frame (open_line before conn)

-- what happened where an office sees this
abbrev pub happening_of : History → Event → Happening
happening_of before (event.Load caller key list) = Load Second caller key list
happening_of before (event.Order caller key point value) = Order caller key point value
happening_of before (event.Void caller key point slot) = Void caller key point slot
happening_of before (event.Open line) = Open line
happening_of before (event.Ask conn device slot read) = Ask conn device slot read
happening_of before (event.Send conn number) = Send conn number
happening_of before (event.Arrive conn frame) = arriving before conn frame
happening_of before event.Restart = Restart (site_of before)

-- a caller's or a device's message: its texts are bytes, and its numbers are of their types
abbrev pub IsMessage : Event → Type 0
IsMessage (event.Load caller key list) = IsBytes list × AreWords (caller, key)
IsMessage (event.Order caller key point value) = IsBytes point × IsNumber value × AreWords (caller, key)
IsMessage (event.Void caller key point slot) = IsBytes point × (slot ≤ 4294967295) × AreWords (caller, key)
IsMessage (event.Open line) = IsBytes line
IsMessage (event.Ask conn device slot read) = IsBytes device × (conn ≤ 4294967295) × (slot ≤ 4294967295)
IsMessage (event.Send conn number) = (conn ≤ 4294967295) × (number ≤ 4294967295)
IsMessage (event.Arrive conn frame) = IsBytes frame.unit
IsMessage event.Restart = ⊥
