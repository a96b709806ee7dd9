-- How an office goes on by one call, told as what happened.
use Rattle.std.specs.Prelude.{◌≡◌, ◌≢◌, false, [], ◌∷◌, Result, MatchResult}
use Rattle.poll_book.specs.declared.keeper.Neighbours.{Ghosts}
use Rattle.poll_book.specs.Tables.{Tables, Within}
use Rattle.office_core.specs.declared.office.Office.{Office}
use Rattle.office_core.specs.declared.event.EventAnswer.{EventAnswer}
use Rattle.office_core.specs.declared.event.EventAnswer.TheVariants.{Refused}
use Rattle.office_core.specs.declared.error.OfficeError.{OfficeError}
use Rattle.office_core.specs.History.{Happening, History, tables}
use Rattle.office_core.specs.Answers.{answer_of}
use Rattle.office_core.specs.Leavings.{LeftAfter}
use Rattle.office_core.specs.Legal.{Legal}
use Rattle.office_core.specs.Offices.{Stands, keeper_of}
use Rattle.office_core.specs.Standing.{is_store}

-- an office that stands for a history which may be, and which has begun
abbrev pub Follows : {K : Type 0} {g : Ghosts K} → Office K g → History → Type 0
Follows office now = Stands office now × Legal now × (now ≢ [])

-- a crash may leave these tables of it
abbrev pub MayLeave : {K : Type 0} {g : Ghosts K} → Office K g → Tables → Type 0
MayLeave {g = g} office = g.may_leave (keeper_of office)

-- nothing happened
pub record Stays (stood stands : History → Type 0) (might may : Tables → Type 0) : Type 0 where
  pub follows : (now : History) → stood now → stands now
  pub leaves : Within may might

-- something happened, and was answered so
pub record Happens (stood stands : History → Type 0) (might may : Tables → Type 0) (event : History → Happening) (told : EventAnswer) : Type 0 where
  pub follows : (now : History) → stood now → stands (event now ∷ now)
  pub answered : (now : History) → stood now → told ≡ answer_of now (event now)
  pub leaves : (now : History) → stood now → Within may (LeftAfter might (tables now) (tables (event now ∷ now)) false)

-- something was refused so, and changed nothing
pub record Fails (stood stands : History → Type 0) (might may : Tables → Type 0) (event : History → Happening) (told : EventAnswer) : Type 0 where
  pub follows : (now : History) → stood now → stands now
  pub answered : is_store told ≡ false → (now : History) → stood now → told ≡ answer_of now (event now)
  pub leaves : (now : History) → stood now → Within may (LeftAfter might (tables now) (tables (event now ∷ now)) (is_store told))

-- a call of which this event happened, or was refused
abbrev pub Went : {K X : Type 0} {g : Ghosts K} → Office K g → Office K g → (History → Happening) → (X → EventAnswer) → Result X OfficeError → Type 0
Went old new event tell result = MatchResult result
    (λ x. Happens (Follows old) (Follows new) (MayLeave old) (MayLeave new) event (tell x))
    (λ e. Fails (Follows old) (Follows new) (MayLeave old) (MayLeave new) event (Refused e))
