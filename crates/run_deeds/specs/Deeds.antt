-- What an office that stays up does, deed by deed: with its store, and with its sockets.
use Rattle.std.specs.Prelude.{◌≡◌, ◌≢◌, ◌⊎◌, ⊤, ℕ, List, [], ◌∷◌, Option, Some, None, map, flat_map}
use Rattle.poll_book.specs.declared.keeper.Neighbours.{Ghosts}
use Rattle.poll_book.specs.Tables.{Tables, Within}
use Rattle.run_beat.specs.declared.sockets.Source.{Source}
use Rattle.run_beat.specs.Acts.{Act, Begins, Reads, Ends, Writes, Finishes, Closes}
use Rattle.office_core.specs.declared.office.Office.{Office}
use Rattle.office_core.specs.Following.{Follows, MayLeave}
use Rattle.office_core.specs.History.{Happening, History}
use Rattle.office_core.specs.Offices.{keeper_of}
use Rattle.office_core.specs.Proceeding.{AreOf, Did, LeftBySteps, Missed, Step, stepped}
use Rattle.office_http.specs.Meanings.{Meaning}
use Rattle.office_net.specs.Replies.{event_of}
use Rattle.run_deeds.specs.Doings.{Runs}

-- what became of what a caller asked for
pub data Became : Type 0 where
  -- it was done
  Done : Meaning → Became
  -- it was refused by the store or memory, and nothing happened
  Undone : Meaning → Became
  -- it wasn't tried
  Untried : Became

pub data Deed : Type 0 where
  -- something is done with a socket
  With : Act → Deed
  -- something happens over a line, or the store refuses it
  Over : Source → Step → Deed
  -- a line begins the round of a slot, or its round ends
  Starts : Source → (slot : ℕ) → Deed
  Rests : Source → Deed
  -- the queries of a line's device are given up
  GivesUpOn : Source → (device : ℕ) → Deed
  -- what a caller asked for came to that, and these bytes are the answer
  Replies : Source → Became → List ℕ → Deed
  -- these bytes are put behind an answer, which shows a page
  Shows : Source → List ℕ → Deed

abbrev pub source_of_act : Act → Source
source_of_act (Begins source) = source
source_of_act (Reads source bytes) = source
source_of_act (Ends source) = source
source_of_act (Writes source bytes) = source
source_of_act (Finishes source) = source
source_of_act (Closes source) = source

-- the line or caller of a deed
abbrev pub source_of : Deed → Source
source_of (With act) = source_of_act act
source_of (Over source step) = source
source_of (Starts source slot) = source
source_of (Rests source) = source
source_of (GivesUpOn source device) = source
source_of (Replies source became text) = source
source_of (Shows source text) = source

-- what happens, or is refused
abbrev pub steps_made : (Happening → Step) → Option Happening → List Step
steps_made make None = []
steps_made make (Some event) = make event ∷ []

abbrev pub steps_in : Deed → List Step
steps_in (With act) = []
steps_in (Over source step) = step ∷ []
steps_in (Starts source slot) = []
steps_in (Rests source) = []
steps_in (GivesUpOn source device) = []
steps_in (Replies source (Done meaning) text) = steps_made Did (event_of meaning)
steps_in (Replies source (Undone meaning) text) = steps_made Missed (event_of meaning)
steps_in (Replies source Untried text) = []
steps_in (Shows source text) = []

abbrev pub steps_of : List Deed → List Step
steps_of = flat_map steps_in

-- what is done with sockets
abbrev pub acts_in : Deed → List Act
acts_in (With act) = act ∷ []
acts_in _ = []

abbrev pub acts_of : List Deed → List Act
acts_of = flat_map acts_in

abbrev pub Is : Source → Source → Type 0
Is source some = some ≡ source

-- of another one
abbrev pub IsNot : Source → Source → Type 0
IsNot source some = some ≢ source

-- all are of such lines or callers
abbrev pub AllOf : (Source → Type 0) → List Deed → Type 0
AllOf of [] = ⊤
AllOf of (deed ∷ deeds) = of (source_of deed) × AllOf of deeds

abbrev pub ActsOf : (Source → Type 0) → List Act → Type 0
ActsOf of [] = ⊤
ActsOf of (act ∷ acts) = of (source_of_act act) × ActsOf of acts

abbrev pub with_all : List Act → List Deed
with_all = map With

-- deeds from a history on, the newest first: they are what a run does, the office stands for what they lead to, and a stop leaves
-- what their events leave
pub record Deeds (stands : History → Type 0) (might may : Tables → Type 0) (acted : List Act → Type 0) (kept : List Deed → Type 0) (now : History) : Type 0 where
  pub deeds : List Deed
  pub are : AreOf Runs now (steps_of deeds)
  pub follows : stands (stepped now (steps_of deeds))
  pub leaves : Within may (LeftBySteps might now (steps_of deeds))
  pub has_acted : acted (acts_of deeds)
  pub has_kept : kept deeds

-- whatever history the office followed, it goes on by deeds to one that it follows, unless its keeper failed to undo a change
abbrev pub GoesBy : {K : Type 0} {g : Ghosts K} → Office K g → Office K g → (List Act → Type 0) → (History → List Deed → Type 0) → Type 0
GoesBy {g = g} old new acted kept =
    g.is_clean (keeper_of new) → g.is_clean (keeper_of old)
    × ((now : History) → Follows old now → Deeds (Follows new) (MayLeave old) (MayLeave new) acted (kept now) now)

module _ {S : Type 0} (moves : History → S → Deed → S → Type 0) where
  -- what a deed of a line or caller makes of how that stands; the deeds of others change nothing of it
  abbrev pub Next : Source → History → S → Deed → S → Type 0
  Next source now before deed after = ((source_of deed ≡ source) × moves now before deed after) ⊎ ((source_of deed ≢ source) × (after ≡ before))

  -- deeds, the newest first, make that of it
  abbrev pub Passes : Source → History → S → List Deed → S → Type 0
  Passes source now before [] after = after ≡ before
  Passes source now before (deed ∷ deeds) after =
      (between : S) × Passes source now before deeds between × Next source (stepped now (steps_of deeds)) between deed after

  -- what is done with its socket alone makes that of it
  abbrev pub PassesBy : Source → (List Act → Type 0) → S → S → Type 0
  PassesBy source acted before after = (acts : List Act) × acted acts × ActsOf (Is source) acts × ((now : History) → Passes source now before (with_all acts) after)

  -- its part of a run
  abbrev pub PartOf : {K : Type 0} {g : Ghosts K} → Source → Office K g → Office K g → (List Act → Type 0) → S → S → Type 0
  PartOf source old new acted before after = GoesBy old new acted (λ now deeds. AllOf (Is source) deeds × Passes source now before deeds after)
