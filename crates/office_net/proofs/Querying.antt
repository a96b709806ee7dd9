-- Queries that calls make, call behind call.
use Rattle.std.proofs.Common.{◌≡◌, ◌⊎◌, inl, inr, Bool, true, false, ℕ, List, [], ◌∷◌, Option, Some, None, Result, Ok, Err, refl, sym, subst}
use Rattle.std.specs.Prelude.{IfErr, IfOk, IsErr, MatchResult, is_some}
use Rattle.mb_mbap.specs.declared.frame.Frame.{Frame}
use Rattle.poll_book.specs.declared.keeper.Neighbours.{Ghosts}
use Rattle.poll_book.specs.Tables.{Within}
use Rattle.office_core.specs.declared.office.Office.{Office}
use Rattle.office_core.specs.declared.error.OfficeError.{OfficeError}
use Rattle.office_core.specs.declared.event.Arrival.{Arrival}
use Rattle.office_core.specs.declared.event.EventAnswer.{EventAnswer}
use Rattle.office_core.specs.declared.event.EventAnswer.TheVariants.{Arrived, Query, Refused}
use Rattle.office_core.specs.Answers.{answer_of}
use Rattle.office_core.specs.Errors.{is_of_store}
use Rattle.office_core.specs.Following.{Fails, Follows, Happens, MayLeave, Went}
use Rattle.office_core.specs.History.{Happening, History, tables}
use Rattle.office_core.specs.Leavings.{LeftAfter}
use Rattle.office_core.specs.Messages.{arriving}
use Rattle.office_core.specs.Offices.{arrived, keeper_of}
use Rattle.office_core.specs.Proceeding.{AreOf, Course, Did, GoesAlong, LeftBySteps, Missed, Nothing, Step, stepped}
use Rattle.office_core.specs.Standing.{is_store}
use Rattle.office_core.proofs.Following.{left_more, left_refused}
use Rattle.office_core.proofs.Proceeding.{along_then, still}
use Rattle.office_net.specs.Counting.{Learnt}
use Rattle.office_net.specs.Kinds.{Hears, Turn}
use Rattle.office_net.specs.Moves.{is_due, turn_of}
use Rattle.office_net.specs.Querying.{Answered, CameTo, IsRefusal, Makes, Misses, Tries}
use Rattle.office_net.specs.Turning.{TurnFails, Turns}
use Rattle.office_net.specs.declared.job.LineJob.{LineJob}
use Rattle.office_net.proofs.Proceeding.{turn_is}

-- steps of which there can be none
pub none_of : (now : History) (steps : List Step) → AreOf Nothing now steps → steps ≡ []
none_of now [] of = refl
none_of now (Did event ∷ steps) of = absurd of.0
none_of now (Missed event ∷ steps) of = absurd of.0

module _ {K : Type 0} {g : Ghosts K} where
  -- an office that was only asked follows what it followed
  pub still_follows : (old new : Office K g) → GoesAlong Nothing old new → g.is_clean (keeper_of new)
      → g.is_clean (keeper_of old) × ((now : History) → Follows old now → Follows new now × Within (MayLeave new) (MayLeave old))
  still_follows old new along clean =
      let went = along clean in (
        went.0,
        λ now follows.
            let course = went.1 now follows in
            let none = none_of now course.steps course.are in (
              subst (λ (steps : List Step). Follows new (stepped now steps)) none course.follows,
              subst (λ (steps : List Step). Within (MayLeave new) (LeftBySteps (MayLeave old) now steps)) none course.leaves,
            ),
      )

  module _ (kind : History → Happening → Type 0) where
    pub nothing_misses : (old new : Office K g) → GoesAlong Nothing old new → Misses kind old new
    nothing_misses old new along clean =
        let went = still_follows old new along clean in
        (went.0, λ now follows. let stays = went.1 now follows in (stays.0, inl stays.1))

    -- the office was only asked, and then
    pub nothing_then_makes : (one two three : Office K g) (told : Option Frame) → GoesAlong Nothing one two → Makes kind two three told → Makes kind one three told
    nothing_then_makes one two three None along makes = along_then one two three along makes
    nothing_then_makes one two three (Some query) along makes = λ clean.
        let later = makes clean in
        let earlier = still_follows one two along later.0 in (
          earlier.0,
          λ now follows.
              let stays = earlier.1 now follows in
              let made = later.1 now stays.0 in
              (made.0, made.1, made.2, made.3, λ left may_be. left_more (MayLeave two) (MayLeave one) (tables now) (tables (made.0 ∷ now)) false stays.1 left (made.4 left may_be)),
        )

    pub nothing_then_misses : (one two three : Office K g) → GoesAlong Nothing one two → Misses kind two three → Misses kind one three
    nothing_then_misses one two three along misses clean =
        let later = misses clean in
        let earlier = still_follows one two along later.0 in (
          earlier.0,
          λ now follows.
              let stays = earlier.1 now follows in
              let missed = later.1 now stays.0 in (
                missed.0,
                elim missed.1 as (λ _. Within (MayLeave three) (MayLeave one)
                    ⊎ ((event : Happening) × kind now event × Within (MayLeave three) (LeftAfter (MayLeave one) (tables now) (tables (event ∷ now)) true))) [
                      | inl none ↦ inl (λ left may_be. stays.1 left (none left may_be))
                      | inr some ↦ inr (some.0, some.1, λ left may_be. left_more (MayLeave two) (MayLeave one) (tables now) (tables (some.0 ∷ now)) true stays.1 left (some.2 left may_be))
                    ],
              ),
        )

    -- of a wider kind
    pub makes_wider : (wider : History → Happening → Type 0) → ((now : History) (event : Happening) → kind now event → wider now event) → (old new : Office K g) (told : Option Frame)
        → Makes kind old new told → Makes wider old new told
    makes_wider wider is old new None makes = makes
    makes_wider wider is old new (Some query) makes = λ clean.
        let went = makes clean in
        (went.0, λ now follows. let made = went.1 now follows in (made.0, is now made.0 made.1, made.2, made.3, made.4))

    pub misses_wider : (wider : History → Happening → Type 0) → ((now : History) (event : Happening) → kind now event → wider now event) → (old new : Office K g)
        → Misses kind old new → Misses wider old new
    misses_wider wider is old new misses clean =
        let went = misses clean in (
          went.0,
          λ now follows.
              let missed = went.1 now follows in (
                missed.0,
                elim missed.1 as (λ _. Within (MayLeave new) (MayLeave old)
                    ⊎ ((event : Happening) × wider now event × Within (MayLeave new) (LeftAfter (MayLeave old) (tables now) (tables (event ∷ now)) true))) [
                      | inl none ↦ inl none
                      | inr some ↦ inr (some.0, is now some.0 some.1, some.2)
                    ],
              ),
        )

    -- an office was asked, and then made a query of what it told
    pub learnt_makes : (one two three : Office K g) (holds : History → Type 0) (event : Happening) (told : Result Frame OfficeError)
        → ((now : History) → holds now → kind now event) → Learnt one two holds → (g.is_clean (keeper_of three) → g.is_clean (keeper_of two))
        → (g.is_clean (keeper_of three) → MatchResult told
        (λ query. Happens (Follows two) (Follows three) (MayLeave two) (MayLeave three) (λ _. event) (Query query))
        (λ e. Fails (Follows two) (Follows three) (MayLeave two) (MayLeave three) (λ _. event) (Refused e)))
        → MatchResult told (λ query. Makes kind one three (Some query)) (λ e. Misses kind one three)
    learnt_makes one two three holds event (Ok query) is learnt before went = λ clean.
        let known = learnt (before clean) in
        let happens = went clean in (
          known.0,
          λ now follows.
              let stood = known.1.stays.follows now follows in (
                event,
                is now (known.1.known now follows),
                sym (happens.answered now stood),
                happens.follows now stood,
                λ left may_be. left_more (MayLeave two) (MayLeave one) (tables now) (tables (event ∷ now)) false known.1.stays.leaves left (happens.leaves now stood left may_be),
              ),
        )
    learnt_makes one two three holds event (Err e) is learnt before went = λ clean.
        let known = learnt (before clean) in
        let fails = went clean in (
          known.0,
          λ now follows.
              let stood = known.1.stays.follows now follows in (
                fails.follows now stood,
                inr (
                  event,
                  is now (known.1.known now follows),
                  λ left may_be.
                      left_more (MayLeave two) (MayLeave one) (tables now) (tables (event ∷ now)) true known.1.stays.leaves left
                      (left_refused (MayLeave two) (tables now) (tables (event ∷ now)) (is_store (Refused e)) left (fails.leaves now stood left may_be)),
                ),
              ),
        )

  -- a call of which an event happened, or was refused
  pub answered_of : {X : Type 0} (kind : History → Happening → Type 0) (old new : Office K g) (event : Happening) (tell : X → EventAnswer) (told : Result X OfficeError)
      → ((now : History) → kind now event) → (g.is_clean (keeper_of new) → g.is_clean (keeper_of old)) → (g.is_clean (keeper_of new) → Went old new (λ _. event) tell told)
      → MatchResult told (λ x. Answered kind old new (tell x)) (λ e. Misses kind old new)
  answered_of kind old new event tell (Ok x) is before went = λ clean. (
    before clean,
    λ now follows.
        let happens = went clean in
        (event, is now, sym (happens.answered now follows), happens.follows now follows, happens.leaves now follows),
  )
  answered_of kind old new event tell (Err e) is before went = λ clean. (
    before clean,
    λ now follows.
        let fails = went clean in (
          fails.follows now follows,
          inr (
            event,
            is now,
            λ left may_be. left_refused (MayLeave old) (tables now) (tables (event ∷ now)) (is_store (Refused e)) left (fails.leaves now follows left may_be),
          ),
        ),
  )

  -- a job had its turn
  pub turn_makes : (old new : Office K g) (conn slot : ℕ) (job : LineJob) (told : Result (Option Frame) OfficeError) → (g.is_clean (keeper_of new) → g.is_clean (keeper_of old))
      → (g.is_clean (keeper_of new) → MatchResult told
      (Turns (Follows old) (Follows new) (MayLeave old) (MayLeave new) conn slot job) (TurnFails (Follows old) (Follows new) (MayLeave old) (MayLeave new) conn slot job))
      → MatchResult told (Makes (Turn conn slot job) old new) (λ _. Misses (Turn conn slot job) old new)
  turn_makes old new conn slot job (Ok None) before turned = λ clean. (before clean, still Nothing (Follows old) (Follows new) (MayLeave old) (MayLeave new) (turned clean).1)
  turn_makes old new conn slot job (Ok (Some query)) before turned = λ clean. (
    before clean,
    λ now follows.
        let happens = (turned clean).1 in (
          turn_of conn slot now job,
          turn_is conn slot now job ((turned clean).0 now follows),
          sym (happens.answered now follows),
          happens.follows now follows,
          happens.leaves now follows,
        ),
  )
  turn_makes old new conn slot job (Err e) before turned = λ clean. (
    before clean,
    λ now follows. elim (turned clean) as (λ _. Follows new now × (Within (MayLeave new) (MayLeave old)
        ⊎ ((event : Happening) × Turn conn slot job now event × Within (MayLeave new) (LeftAfter (MayLeave old) (tables now) (tables (event ∷ now)) true)))) [
          | inl unasked ↦ (unasked.0.follows now follows, inl unasked.0.leaves)
          | inr asked ↦ (
            asked.1.follows now follows,
            inr (
              turn_of conn slot now job,
              turn_is conn slot now job (asked.0 now follows),
              λ left may_be. left_refused (MayLeave old) (tables now) (tables (turn_of conn slot now job ∷ now)) (is_store (Refused e)) left (asked.1.leaves now follows left may_be),
            ),
          )
        ],
  )

-- why nothing happened
module _ {K : Type 0} {g : Ghosts K} (kind : History → Happening → Type 0) (old new : Office K g) where
  by_answer : (event : History → Happening) (e : OfficeError) (now : History) → Follows old now → kind now (event now)
      → Fails (Follows old) (Follows new) (MayLeave old) (MayLeave new) event (Refused e) → (refused : Bool) → is_of_store e ≡ refused
      → (is_of_store e ≡ true) ⊎ ((some : Happening) × kind now some × (answer_of now some ≡ Refused e))
  by_answer event e now follows is fails true store = inl store
  by_answer event e now follows is fails false store = inr (event now, is, sym (fails.answered store now follows))

  -- of a call of which an event happened, or was refused
  pub refusal_of : {X : Type 0} (event : History → Happening) (tell : X → EventAnswer) (told : Result X OfficeError)
      → ((now : History) → kind now (event now)) → (g.is_clean (keeper_of new) → Went old new event tell told) → IfErr told (IsRefusal kind old new)
  refusal_of event tell (Ok x) is went = tt
  refusal_of event tell (Err e) is went = λ clean now follows. by_answer event e now follows (is now) (went clean) (is_of_store e) refl

-- whether a job at its turn made a query
pub turn_due : {K : Type 0} {g : Ghosts K} (old new : Office K g) (conn slot : ℕ) (job : LineJob) (told : Result (Option Frame) OfficeError)
    → MatchResult told
    (Turns (Follows old) (Follows new) (MayLeave old) (MayLeave new) conn slot job) (TurnFails (Follows old) (Follows new) (MayLeave old) (MayLeave new) conn slot job)
    → (now : History) → Follows old now → IfOk told (λ query. is_some query ≡ is_due slot now job)
turn_due old new conn slot job (Ok None) turned now follows = sym (turned.0 now follows)
turn_due old new conn slot job (Ok (Some query)) turned now follows = sym (turned.0 now follows)
turn_due old new conn slot job (Err e) turned now follows = tt

-- why it was refused
pub turn_refusal : {K : Type 0} {g : Ghosts K} (old new : Office K g) (conn slot : ℕ) (job : LineJob) (told : Result (Option Frame) OfficeError)
    → (g.is_clean (keeper_of new) → MatchResult told
    (Turns (Follows old) (Follows new) (MayLeave old) (MayLeave new) conn slot job) (TurnFails (Follows old) (Follows new) (MayLeave old) (MayLeave new) conn slot job))
    → IfErr told (IsRefusal (Turn conn slot job) old new)
turn_refusal old new conn slot job (Ok query) turned = tt
turn_refusal old new conn slot job (Err e) turned = λ clean now follows. elim (turned clean) as (λ _. (is_of_store e ≡ true)
    ⊎ ((event : Happening) × Turn conn slot job now event × (answer_of now event ≡ Refused e))) [
      | inl unasked ↦ inl unasked.1
      | inr asked ↦ by_answer (Turn conn slot job) old new (λ some. turn_of conn slot some job) e now follows (turn_is conn slot now job (asked.0 now follows)) asked.1 (is_of_store e) refl
    ]

module _ {K : Type 0} {g : Ghosts K} (old new : Office K g) (conn : ℕ) (frame : Frame) where
  came_of : (e : OfficeError) (now : History) → Follows old now → (clean : g.is_clean (keeper_of new)) → Went old new (λ some. arriving some conn frame) Arrived (Err e)
      → (is_store (Refused e) ≡ false → Happens (Follows old) (Follows new) (MayLeave old) (MayLeave new) (λ some. arriving some conn frame) (Refused e))
      → (refused : Bool) → is_store (Refused e) ≡ refused → CameTo old new now (arriving now conn frame) (Refused e) refused
  came_of e now follows clean fails came true is = (
    fails.follows now follows,
    λ left may_be. left_refused (MayLeave old) (tables now) (tables (arriving now conn frame ∷ now)) (is_store (Refused e)) left (fails.leaves now follows left may_be),
  )
  came_of e now follows clean fails came false is = let happens = came is in (sym (happens.answered now follows), happens.follows now follows, happens.leaves now follows)

  -- a frame came
  pub heard_of : (told : Result Arrival OfficeError) → (g.is_clean (keeper_of new) → g.is_clean (keeper_of old))
      → (g.is_clean (keeper_of new) → Went old new (λ now. arriving now conn frame) Arrived told)
      → (g.is_clean (keeper_of new) → is_store (arrived told) ≡ false → Happens (Follows old) (Follows new) (MayLeave old) (MayLeave new) (λ now. arriving now conn frame) (arrived told))
      → Tries (Hears conn frame) old new (arrived told)
  heard_of (Ok arrival) before went came = λ clean. (
    before clean,
    λ now follows.
        let happens = went clean in
        (arriving now conn frame, refl, (sym (happens.answered now follows), happens.follows now follows, happens.leaves now follows)),
  )
  heard_of (Err e) before went came = λ clean. (
    before clean,
    λ now follows. (arriving now conn frame, refl, came_of e now follows clean (went clean) (came clean) (is_store (Refused e)) refl),
  )

-- what holds where a call failed
pub told_err : {T E : Type 0} (told : Result T E) (fine : T → Type 0) (failed : Type 0) → IsErr told → failed → MatchResult told fine (λ _. failed)
told_err (Ok value) fine failed is holds = absurd (cc)
told_err (Err error) fine failed is holds = holds

-- such a call goes along
module _ {K : Type 0} {g : Ghosts K} (kind : History → Happening → Type 0) (old new : Office K g) where
  pub answered_along : (told : EventAnswer) → Answered kind old new told → GoesAlong kind old new
  answered_along told answered clean =
      let went = answered clean in (
        went.0,
        λ now follows.
            let made = went.1 now follows in
            record { steps = Did made.0 ∷ []; are = (made.1, tt); follows = made.3; leaves = made.4 },
      )

  pub misses_along : Misses kind old new → GoesAlong kind old new
  misses_along misses clean =
      let went = misses clean in (
        went.0,
        λ now follows.
            let missed = went.1 now follows in
            elim missed.1 as (λ _. Course kind (Follows new) (MayLeave old) (MayLeave new) now) [
              | inl none ↦ record { steps = []; are = tt; follows = missed.0; leaves = none }
              | inr some ↦ record { steps = Missed some.0 ∷ []; are = (some.1, tt); follows = missed.0; leaves = some.2 }
            ],
      )
