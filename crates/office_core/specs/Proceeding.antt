-- How an office goes on by many calls, whoever makes them, where each does what is of a kind: which events may be made
-- of a history.
use Rattle.std.specs.Prelude.{true, false, List, [], ◌∷◌, ⊤}
use Rattle.poll_book.specs.declared.keeper.Neighbours.{Ghosts}
use Rattle.poll_book.specs.Tables.{Tables, Within}
use Rattle.office_core.specs.declared.office.Office.{Office}
use Rattle.office_core.specs.History.{Happening, History, tables}
use Rattle.office_core.specs.Leavings.{LeftAfter}
use Rattle.office_core.specs.Offices.{keeper_of}
use Rattle.office_core.specs.Following.{Follows, MayLeave}

-- something happened, or it was refused
pub data Step : Type 0 where
  Did : (event : Happening) → Step
  Missed : (event : Happening) → Step

-- the history as steps leave it, the newest first
abbrev pub stepped : History → List Step → History
stepped now [] = now
stepped now (Did event ∷ steps) = event ∷ stepped now steps
stepped now (Missed event ∷ steps) = stepped now steps

-- what a crash may leave after them, from what it might leave before
abbrev pub LeftBySteps : (Tables → Type 0) → History → List Step → Tables → Type 0
LeftBySteps might now [] = might
LeftBySteps might now (Did event ∷ steps) =
    LeftAfter (LeftBySteps might now steps) (tables (stepped now steps)) (tables (event ∷ stepped now steps)) false
LeftBySteps might now (Missed event ∷ steps) =
    LeftAfter (LeftBySteps might now steps) (tables (stepped now steps)) (tables (event ∷ stepped now steps)) true

-- each step's event is of the kind, at the history at which it happened or was refused
abbrev pub AreOf : (History → Happening → Type 0) → History → List Step → Type 0
AreOf kind now [] = ⊤
AreOf kind now (Did event ∷ steps) = kind (stepped now steps) event × AreOf kind now steps
AreOf kind now (Missed event ∷ steps) = kind (stepped now steps) event × AreOf kind now steps

-- steps of a kind that lead on from a history to one that is stood for
pub record Course (kind : History → Happening → Type 0) (stands : History → Type 0) (might may : Tables → Type 0) (now : History) : Type 0 where
  pub steps : List Step
  pub are : AreOf kind now steps
  pub follows : stands (stepped now steps)
  pub leaves : Within may (LeftBySteps might now steps)

abbrev pub Proceeds : (History → Happening → Type 0) → (History → Type 0) → (History → Type 0) → (Tables → Type 0) → (Tables → Type 0) → Type 0
Proceeds kind stood stands might may = (now : History) → stood now → Course kind stands might may now

-- whatever history the one followed, it goes on by steps of a kind to one that the other follows, unless its keeper
-- failed to undo a change
abbrev pub GoesAlong : {K : Type 0} {g : Ghosts K} → (History → Happening → Type 0) → Office K g → Office K g → Type 0
GoesAlong {g = g} kind office office' =
    g.is_clean (keeper_of office') → g.is_clean (keeper_of office) × Proceeds kind (Follows office) (Follows office') (MayLeave office) (MayLeave office')

-- the kind of nothing at all
abbrev pub Nothing : History → Happening → Type 0
Nothing now event = ⊥
