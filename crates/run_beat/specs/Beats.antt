-- When a line is due, in milliseconds since the run began.
use Rattle.std.specs.Prelude.{◌≡◌, ◌≤◌, ◌+◌, ℕ, List, [], ◌∷◌, Option, None, Some, max, ⊤}
use Rattle.run_beat.specs.declared.beat.Stage.{Stage}
use Rattle.run_beat.specs.declared.beat.Beat.{Beat}
use Rattle.run_beat.specs.Stages.{WantsIn, due_in}

abbrev pub stage_of : Beat → Stage
stage_of beat = beat.stage

-- for how long it is left alone, or was before this connection
abbrev pub delay_of : Beat → ℕ
delay_of beat = beat.delay

-- for how long its devices are waited for
abbrev pub timeout_of : Beat → ℕ
timeout_of beat = beat.timeout

-- when something is due
abbrev pub due_of : Beat → Option ℕ
due_of beat = due_in beat.stage

-- something is due at this moment
abbrev pub IsDue : Beat → ℕ → Type 0
IsDue beat now = (moment : ℕ) × (due_of beat ≡ Some moment) × (moment ≤ now)

-- no slot before this one is to be begun
abbrev pub from_of : Beat → ℕ
from_of beat = beat.from

-- a round of this slot is to be begun
abbrev pub Wants : Beat → ℕ → Type 0
Wants beat slot = WantsIn beat.stage slot × (beat.from ≤ slot)

-- something is due no later than the timeout, or the longest delay, from this moment on
abbrev pub IsSoon : Beat → ℕ → Type 0
IsSoon beat now = (moment : ℕ) × (due_of beat ≡ Some moment) × (moment ≤ now + max beat.timeout 64000)

-- the timeout and the delay stay
abbrev pub KeepsTimes : Beat → Beat → Type 0
KeepsTimes old new = (new.timeout ≡ old.timeout) × (new.delay ≡ old.delay)

-- ---- slots, one behind another

-- a call that begins this slot, or none
abbrev pub Begins : Beat → Option ℕ → Beat → Type 0
Begins old None new = new.from ≡ old.from
Begins old (Some slot) new = (old.from ≤ slot) × (new.from ≡ slot)

-- calls one behind another, the last one first, with the slots that they begin
abbrev pub Calls : Beat → List (Option ℕ) → Beat → Type 0
Calls old [] new = new ≡ old
Calls old (begun ∷ calls) new = (between : Beat) × Calls old calls between × Begins between begun new

-- the slots that are begun
abbrev pub begun_by : List (Option ℕ) → List ℕ
begun_by [] = []
begun_by (None ∷ calls) = begun_by calls
begun_by (Some slot ∷ calls) = slot ∷ begun_by calls

-- none is before the one that was begun before it
abbrev pub NeverFall : List ℕ → Type 0
NeverFall (later ∷ earlier ∷ slots) = (earlier ≤ later) × NeverFall (earlier ∷ slots)
NeverFall _ = ⊤
