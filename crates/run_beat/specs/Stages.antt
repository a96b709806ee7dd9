-- What a line's stage says of its time.
use Rattle.std.specs.Prelude.{◌≢◌, ℕ, Option, None, Some, ⊤}
use Rattle.run_beat.specs.declared.beat.Stage.{Stage}
use Rattle.run_beat.specs.declared.beat.Stage.TheVariants.{Closed, Connecting, Resting, Polling}

-- when something is due
abbrev pub due_in : Stage → Option ℕ
due_in (Closed until) = Some until
due_in (Connecting until) = Some until
due_in (Resting polled) = None
due_in (Polling slot until) = Some until

-- a round is under way
abbrev pub IsPolling : Stage → Type 0
IsPolling (Polling slot until) = ⊤
IsPolling _ = ⊥

-- a connection stands, no round is under way, and the last one over it was not of this slot
abbrev pub WantsIn : Stage → ℕ → Type 0
WantsIn (Resting polled) slot = polled ≢ Some slot
WantsIn _ slot = ⊥

-- a round under way is given up at another moment
abbrev pub renewed : Stage → ℕ → Stage
renewed (Polling slot until) moment = Polling slot moment
renewed stage moment = stage

-- a round under way ends
abbrev pub rested : Stage → Stage
rested (Polling slot until) = Resting (Some slot)
rested stage = stage

-- the last round over the connection counts no more
abbrev pub unpolled : Stage → Stage
unpolled (Resting polled) = Resting None
unpolled stage = stage
