-- Counts of bytes that went.
use Rattle.std.specs.Prelude.{ℕ, ◌≤◌, ◌<◌, ⊤}
use Rattle.run_beat.specs.declared.sockets.Came.{Came}
use Rattle.run_beat.specs.declared.sockets.Came.TheVariants as came
use Rattle.run_beat.specs.declared.sockets.Sent.{Sent}
use Rattle.run_beat.specs.declared.sockets.Sent.TheVariants as sent

-- what came has one byte at least, and room
abbrev pub CameWithin : ℕ → Came → Type 0
CameWithin room (came.Bytes count) = (0 < count) × (count ≤ room)
CameWithin room _ = ⊤

-- what was sent has one byte at least, and was there
abbrev pub SentWithin : ℕ → Sent → Type 0
SentWithin there (sent.Bytes count) = (0 < count) × (count ≤ there)
SentWithin there _ = ⊤
