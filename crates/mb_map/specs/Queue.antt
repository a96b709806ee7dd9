-- What a simulator keeps between its calls: devices with their own identifiers, and a queue of held replies.
use Rattle.std.specs.Prelude.{◌≡◌, ◌≢◌, List, ◌++◌, map, filter, ℕ, ◌-◌, Bool, true, not, ◌&&◌, nat_lt, [], ◌∷◌, ◌==◌, Option, Some, None, AllPairs}
use Rattle.mb_mbap.specs.declared.frame.Frame.{Frame}
use Rattle.mb_map.specs.declared.held.Held.{Held}
use Rattle.mb_map.specs.declared.step.Step.{Step}
use Rattle.mb_map.specs.declared.step.Step.TheVariants.{Hold}
use Rattle.mb_map.specs.Schedule.{Devices, Serves, own}
use Rattle.std.specs.List.{list_any}
use Rattle.std.specs.Option.{option_to_list}
use Rattle.mb_map.specs.Tables.{Tables}

-- no unit identifier stands twice
abbrev pub differ : Devices → Bool
differ [] = true
differ (d ∷ devices) = not (list_any (λ (e : ℕ × Tables). e.0 == d.0) devices) && differ devices

-- a reply that is held waits for some frames
abbrev pub is_sound : Step → Bool
is_sound (Hold frames) = nat_lt 0 frames
is_sound step = true

-- the same, of any two devices
abbrev pub HaveOwnIds : Devices → Type 0
HaveOwnIds devices = AllPairs (λ (a b : ℕ × Tables). a.0 ≢ b.0) devices

-- what is held of a reply by its step
abbrev pub held_by : Step → Frame → Option Held
held_by (Hold frames) reply = Some (record { left = frames; reply = reply })
held_by step reply = None

-- a held reply that leaves with the next frame
abbrev pub is_due : Held → Bool
is_due h = h.left == 1

abbrev pub is_later : Held → Bool
is_later h = not (is_due h)

abbrev pub held_reply : Held → Frame
held_reply h = h.reply

-- the same reply one frame later
abbrev pub closer : Held → Held
closer h = record { left = h.left - 1; reply = h.reply }

-- one frame on the queue: its request is performed, its own reply leaves and then the ones that are due, the others
-- come closer, and a reply that is held goes to the end
abbrev pub PassesOn : Devices → Step → List Held → Frame → Devices → List Held → List Frame → Type 0
PassesOn before step held frame after now_held given = (reply : Frame) × Serves before frame reply after
    × (given ≡ own step reply ++ map held_reply (filter is_due held))
    × (now_held ≡ map closer (filter is_later held) ++ option_to_list (held_by step reply))
