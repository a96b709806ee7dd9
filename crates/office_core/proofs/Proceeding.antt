-- Calls one behind the other, whoever makes them.
use Rattle.std.proofs.Common.{◌≡◌, true, false, List, [], ◌∷◌, ◌++◌, Result, Ok, Err, refl, sym, ap, subst}
use Rattle.poll_book.specs.declared.keeper.Neighbours.{Ghosts}
use Rattle.poll_book.specs.Tables.{Tables, Within}
use Rattle.office_core.specs.declared.office.Office.{Office}
use Rattle.office_core.specs.declared.error.OfficeError.{OfficeError}
use Rattle.office_core.specs.declared.event.EventAnswer.{EventAnswer}
use Rattle.office_core.specs.declared.event.EventAnswer.TheVariants.{Refused}
use Rattle.office_core.specs.Following.{Fails, Follows, Happens, MayLeave, Stays, Went}
use Rattle.office_core.specs.History.{Happening, History, tables}
use Rattle.office_core.specs.Leavings.{LeftAfter}
use Rattle.office_core.specs.Offices.{OnlyAsked, keeper_of}
use Rattle.office_core.specs.Proceeding.{AreOf, Did, GoesAlong, LeftBySteps, Missed, Nothing, Proceeds, Step, stepped}
use Rattle.office_core.specs.Standing.{is_store}
use Rattle.office_core.proofs.Following.{left_more, left_refused, stays_so}

-- ---- one call

-- nothing happened
pub still : (kind : History → Happening → Type 0) (stood stands : History → Type 0) (might may : Tables → Type 0) → Stays stood stands might may → Proceeds kind stood stands might may
still kind stood stands might may stays now s = record { steps = []; are = tt; follows = stays.follows now s; leaves = stays.leaves }

-- something did
pub did : (kind : History → Happening → Type 0) (stood stands : History → Type 0) (might may : Tables → Type 0) (event : History → Happening) (told : EventAnswer)
    → ((now : History) → stood now → kind now (event now)) → Happens stood stands might may event told → Proceeds kind stood stands might may
did kind stood stands might may event told of happens now s = record { steps = Did (event now) ∷ []; are = (of now s, tt); follows = happens.follows now s; leaves = happens.leaves now s }

-- it was refused
pub missed : (kind : History → Happening → Type 0) (stood stands : History → Type 0) (might may : Tables → Type 0) (event : History → Happening) (told : EventAnswer)
    → ((now : History) → stood now → kind now (event now)) → Fails stood stands might may event told → Proceeds kind stood stands might may
missed kind stood stands might may event told of fails now s = record {
  steps = Missed (event now) ∷ [];
  are = (of now s, tt);
  follows = fails.follows now s;
  leaves = λ left may_be. left_refused might (tables now) (tables (event now ∷ now)) (is_store told) left (fails.leaves now s left may_be);
}

-- ---- calls, and then more

pub stepped_then : (now : History) (last first : List Step) → stepped now (last ++ first) ≡ stepped (stepped now first) last
stepped_then now [] first = refl
stepped_then now (Did event ∷ last) first = ap (λ (h : History). event ∷ h) (stepped_then now last first)
stepped_then now (Missed event ∷ last) first = stepped_then now last first

-- from less, more steps leave less
pub left_by_more : (might may : Tables → Type 0) (now : History) (steps : List Step) → Within might may → Within (LeftBySteps might now steps) (LeftBySteps may now steps)
left_by_more might may now [] within = within
left_by_more might may now (Did event ∷ steps) within =
    left_more (LeftBySteps might now steps) (LeftBySteps may now steps) (tables (stepped now steps)) (tables (event ∷ stepped now steps)) false (left_by_more might may now steps within)
left_by_more might may now (Missed event ∷ steps) within =
    left_more (LeftBySteps might now steps) (LeftBySteps may now steps) (tables (stepped now steps)) (tables (event ∷ stepped now steps)) true (left_by_more might may now steps within)

pub left_by_then : (might : Tables → Type 0) (now : History) (last first : List Step)
    → Within (LeftBySteps (LeftBySteps might now first) (stepped now first) last) (LeftBySteps might now (last ++ first))
left_by_then might now [] first left l = l
left_by_then might now (Did event ∷ last) first left l =
    subst (λ (h : History). LeftAfter (LeftBySteps might now (last ++ first)) (tables h) (tables (event ∷ h)) false left) (sym (stepped_then now last first))
    (left_more (LeftBySteps (LeftBySteps might now first) (stepped now first) last) (LeftBySteps might now (last ++ first))
    (tables (stepped (stepped now first) last)) (tables (event ∷ stepped (stepped now first) last)) false (left_by_then might now last first) left l)
left_by_then might now (Missed event ∷ last) first left l =
    subst (λ (h : History). LeftAfter (LeftBySteps might now (last ++ first)) (tables h) (tables (event ∷ h)) true left) (sym (stepped_then now last first))
    (left_more (LeftBySteps (LeftBySteps might now first) (stepped now first) last) (LeftBySteps might now (last ++ first))
    (tables (stepped (stepped now first) last)) (tables (event ∷ stepped (stepped now first) last)) true (left_by_then might now last first) left l)

pub are_then : (kind : History → Happening → Type 0) (now : History) (last first : List Step) → AreOf kind (stepped now first) last → AreOf kind now first → AreOf kind now (last ++ first)
are_then kind now [] first of begun = begun
are_then kind now (Did event ∷ last) first of begun = (subst (λ (h : History). kind h event) (sym (stepped_then now last first)) of.0, are_then kind now last first of.1 begun)
are_then kind now (Missed event ∷ last) first of begun = (subst (λ (h : History). kind h event) (sym (stepped_then now last first)) of.0, are_then kind now last first of.1 begun)

pub and_then : (kind : History → Happening → Type 0) (one two three : History → Type 0) (might may may' : Tables → Type 0)
    → Proceeds kind one two might may → Proceeds kind two three may may' → Proceeds kind one three might may'
and_then kind one two three might may may' first second now s =
    let begun = first now s in
    let ended = second (stepped now begun.steps) begun.follows in
    record {
      steps = ended.steps ++ begun.steps;
      are = are_then kind now ended.steps begun.steps ended.are begun.are;
      follows = subst three (sym (stepped_then now ended.steps begun.steps)) ended.follows;
      leaves = λ left may_be.
          left_by_then might now ended.steps begun.steps left
          (left_by_more may (LeftBySteps might now begun.steps) (stepped now begun.steps) ended.steps begun.leaves left (ended.leaves left may_be));
    }

-- ---- steps of a wider kind

are_wider : (kind wider : History → Happening → Type 0) → ((now : History) (event : Happening) → kind now event → wider now event)
    → (now : History) (steps : List Step) → AreOf kind now steps → AreOf wider now steps
are_wider kind wider is now [] of = tt
are_wider kind wider is now (Did event ∷ steps) of = (is (stepped now steps) event of.0, are_wider kind wider is now steps of.1)
are_wider kind wider is now (Missed event ∷ steps) of = (is (stepped now steps) event of.0, are_wider kind wider is now steps of.1)

pub along_wider : {K : Type 0} {g : Ghosts K} (kind wider : History → Happening → Type 0) (old new : Office K g)
    → ((now : History) (event : Happening) → kind now event → wider now event) → GoesAlong kind old new → GoesAlong wider old new
along_wider kind wider old new is along clean =
    let went = along clean in (
      went.0,
      λ now follows.
          let course = went.1 now follows in
          record { steps = course.steps; are = are_wider kind wider is now course.steps course.are; follows = course.follows; leaves = course.leaves },
    )

-- where nothing is done, nothing of another kind is
pub along_of_none : {K : Type 0} {g : Ghosts K} {kind : History → Happening → Type 0} (old new : Office K g) → GoesAlong Nothing old new → GoesAlong kind old new
along_of_none {kind = kind} old new = along_wider Nothing kind old new (λ now event none. absurd none)

-- ---- offices

pub along_still : {K : Type 0} {g : Ghosts K} {kind : History → Happening → Type 0} (office : Office K g) → GoesAlong kind office office
along_still office clean = (clean, λ now follows. record { steps = []; are = tt; follows = follows; leaves = λ left may. may })

pub along_then : {K : Type 0} {g : Ghosts K} {kind : History → Happening → Type 0} (one two three : Office K g) → GoesAlong kind one two → GoesAlong kind two three → GoesAlong kind one three
along_then {kind = kind} one two three first second clean =
    let later = second clean in
    let earlier = first later.0 in
    (earlier.0, and_then kind (Follows one) (Follows two) (Follows three) (MayLeave one) (MayLeave two) (MayLeave three) earlier.1 later.1)

-- an office that was only asked
pub along_asked : {K : Type 0} {g : Ghosts K} {kind : History → Happening → Type 0} (old new : Office K g) → (g.is_clean (keeper_of new) → g.is_clean (keeper_of old)) → OnlyAsked old new → GoesAlong kind old new
along_asked {kind = kind} old new before asked clean = (before clean, still kind (Follows old) (Follows new) (MayLeave old) (MayLeave new) (stays_so old new asked clean))

-- a call of which an event of the kind happened, or was refused
pub went_along : {K X : Type 0} {g : Ghosts K} (kind : History → Happening → Type 0) (old new : Office K g) (event : History → Happening) (tell : X → EventAnswer) (told : Result X OfficeError)
    → ((now : History) → Follows old now → kind now (event now)) → Went old new event tell told → Proceeds kind (Follows old) (Follows new) (MayLeave old) (MayLeave new)
went_along kind old new event tell (Ok x) of happens = did kind (Follows old) (Follows new) (MayLeave old) (MayLeave new) event (tell x) of happens
went_along kind old new event tell (Err e) of fails = missed kind (Follows old) (Follows new) (MayLeave old) (MayLeave new) event (Refused e) of fails
