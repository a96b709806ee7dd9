-- What a call that makes a query, or takes a reply, makes of an office.
use Rattle.std.specs.Prelude.{◌≡◌, ◌⊎◌, Bool, true, false, ◌∷◌, Option, Some, None}
use Rattle.mb_mbap.specs.declared.frame.Frame.{Frame}
use Rattle.poll_book.specs.declared.keeper.Neighbours.{Ghosts}
use Rattle.poll_book.specs.Tables.{Within}
use Rattle.office_core.specs.declared.office.Office.{Office}
use Rattle.office_core.specs.declared.event.EventAnswer.{EventAnswer}
use Rattle.office_core.specs.declared.event.EventAnswer.TheVariants.{Query, Refused}
use Rattle.office_core.specs.declared.error.OfficeError.{OfficeError}
use Rattle.office_core.specs.Answers.{answer_of}
use Rattle.office_core.specs.Errors.{is_of_store}
use Rattle.office_core.specs.Following.{Follows, MayLeave}
use Rattle.office_core.specs.History.{Happening, History, tables}
use Rattle.office_core.specs.Leavings.{LeftAfter}
use Rattle.office_core.specs.Offices.{keeper_of}
use Rattle.office_core.specs.Proceeding.{GoesAlong, Nothing}
use Rattle.office_core.specs.Standing.{is_store}

-- whatever history the office followed, one event of a kind happened, to which it answers this
abbrev pub Answered : {K : Type 0} {g : Ghosts K} → (History → Happening → Type 0) → Office K g → Office K g → EventAnswer → Type 0
Answered {g = g} kind old new told =
    g.is_clean (keeper_of new) → g.is_clean (keeper_of old)
    × ((now : History) → Follows old now → (event : Happening) × kind now event × (answer_of now event ≡ told)
    × Follows new (event ∷ now) × Within (MayLeave new) (LeftAfter (MayLeave old) (tables now) (tables (event ∷ now)) false))

-- so one happened, to which it answers this query; or nothing did, and there is none
abbrev pub Makes : {K : Type 0} {g : Ghosts K} → (History → Happening → Type 0) → Office K g → Office K g → Option Frame → Type 0
Makes kind old new None = GoesAlong Nothing old new
Makes kind old new (Some query) = Answered kind old new (Query query)

-- nothing happened, or one event of the kind was refused
abbrev pub Misses : {K : Type 0} {g : Ghosts K} → (History → Happening → Type 0) → Office K g → Office K g → Type 0
Misses {g = g} kind old new =
    g.is_clean (keeper_of new) → g.is_clean (keeper_of old)
    × ((now : History) → Follows old now → Follows new now
    × (Within (MayLeave new) (MayLeave old)
    ⊎ ((event : Happening) × kind now event × Within (MayLeave new) (LeftAfter (MayLeave old) (tables now) (tables (event ∷ now)) true))))

-- why none happened: the store refused to say whether one may, or one is answered by this refusal
abbrev pub IsRefusal : {K : Type 0} {g : Ghosts K} → (History → Happening → Type 0) → Office K g → Office K g → OfficeError → Type 0
IsRefusal {g = g} kind old new e =
    g.is_clean (keeper_of new) → (now : History) → Follows old now
    → (is_of_store e ≡ true) ⊎ ((event : Happening) × kind now event × (answer_of now event ≡ Refused e))

-- what an event came to: where the store refused it nothing happened, and else it did, and this is its answer
abbrev pub CameTo : {K : Type 0} {g : Ghosts K} → Office K g → Office K g → History → Happening → EventAnswer → Bool → Type 0
CameTo old new now event told true = Follows new now × Within (MayLeave new) (LeftAfter (MayLeave old) (tables now) (tables (event ∷ now)) true)
CameTo old new now event told false =
    (answer_of now event ≡ told) × Follows new (event ∷ now) × Within (MayLeave new) (LeftAfter (MayLeave old) (tables now) (tables (event ∷ now)) false)

-- whatever history the office followed, one event of a kind came to this
abbrev pub Tries : {K : Type 0} {g : Ghosts K} → (History → Happening → Type 0) → Office K g → Office K g → EventAnswer → Type 0
Tries {g = g} kind old new told =
    g.is_clean (keeper_of new) → g.is_clean (keeper_of old)
    × ((now : History) → Follows old now → (event : Happening) × kind now event × CameTo old new now event told (is_store told))
