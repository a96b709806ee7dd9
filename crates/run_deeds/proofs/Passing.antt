-- What stands for a line or caller, deed by deed.
use Rattle.std.proofs.Common.{◌≡◌, ◌≢◌, inl, inr, List, [], ◌∷◌, ◌++◌, Result, Ok, Err, refl, sym, subst, ap, ◌∙◌}
use Rattle.std.specs.Prelude.{Bool, MatchResult}
use Rattle.std.proofs.lemmas.List.{append-nil, map-append}
use Rattle.poll_book.specs.declared.keeper.Neighbours.{Ghosts}
use Rattle.poll_book.specs.Tables.{Within}
use Rattle.run_beat.specs.declared.sockets.Source.{Source}
use Rattle.run_beat.specs.Acts.{Act}
use Rattle.office_core.specs.declared.office.Office.{Office}
use Rattle.office_core.specs.Following.{Follows, MayLeave}
use Rattle.office_core.specs.History.{History}
use Rattle.office_core.specs.Proceeding.{AreOf, GoesAlong, LeftBySteps, Nothing, Step, stepped}
use Rattle.run_deeds.specs.Doings.{Runs}
use Rattle.run_deeds.specs.Deeds.{AllOf, Deed, Is, Next, PartOf, Passes, PassesBy, With, source_of, source_of_act, steps_of, with_all}
use Rattle.run_deeds.proofs.Deeds.{acts_of_then, all_then, goes_asked, goes_still, goes_then, stepped_by, with_its_acts, with_no_steps, with_their_sources}

module _ {S : Type 0} (moves : History → S → Deed → S → Type 0) where
  pub passes_then : (source : Source) (now : History) (second first : List Deed) (before between after : S)
      → Passes moves source (stepped now (steps_of first)) between second after → Passes moves source now before first between → Passes moves source now before (second ++ first) after
  passes_then source now [] first before between after later earlier = subst (λ (stands : S). Passes moves source now before first stands) (sym later) earlier
  passes_then source now (deed ∷ second) first before between after later earlier = (
    later.0,
    passes_then source now second first before between later.0 later.1 earlier,
    subst (λ (h : History). Next moves source h later.0 deed after) (sym (stepped_by now second first)) later.2,
  )

  -- the deeds of others change nothing
  pub passes_others : (source : Source) (of : Source → Type 0) → ((some : Source) → of some → some ≢ source) → (now : History) (stands : S) (deeds : List Deed)
      → AllOf of deeds → Passes moves source now stands deeds stands
  passes_others source of differs now stands [] all = refl
  passes_others source of differs now stands (deed ∷ deeds) all =
      (stands, passes_others source of differs now stands deeds all.1, inr (differs (source_of deed) all.0, refl))

  -- ---- acts with its socket

  pub acting_still : (source : Source) (acted : List Act → Type 0) (stands : S) → acted [] → PassesBy moves source acted stands stands
  acting_still source acted stands acts = ([], acts, tt, λ now. refl)

  pub acting_once : (source : Source) (acted : List Act → Type 0) (act : Act) (before after : S) → acted (act ∷ []) → source_of_act act ≡ source
      → ((now : History) → moves now before (With act) after) → PassesBy moves source acted before after
  acting_once source acted act before after acts of moved = (act ∷ [], acts, (of, tt), λ now. (before, refl, inl (of, moved now)))

  pub acting_then : (source : Source) (acted acted' acted'' : List Act → Type 0) (before between after : S)
      → ((first second : List Act) → acted first → acted' second → acted'' (second ++ first))
      → PassesBy moves source acted before between → PassesBy moves source acted' between after → PassesBy moves source acted'' before after
  acting_then source acted acted' acted'' before between after acts first second = (
    second.0 ++ first.0,
    acts first.0 second.0 first.1 second.1,
    acts_of_then (Is source) second.0 first.0 second.2 first.2,
    λ now.
        subst (λ (deeds : List Deed). Passes moves source now before deeds after) (sym (map-append With second.0 first.0))
        (passes_then source now (with_all second.0) (with_all first.0) before between after
        (second.3 (stepped now (steps_of (with_all first.0)))) (first.3 now)),
  )

  -- ---- deeds

  module _ {K : Type 0} {g : Ghosts K} where
    pub part_then : (source : Source) (one two three : Office K g) (acted acted' acted'' : List Act → Type 0) (before between after : S)
        → ((first second : List Act) → acted first → acted' second → acted'' (second ++ first))
        → PartOf moves source one two acted before between → PartOf moves source two three acted' between after → PartOf moves source one three acted'' before after
    part_then source one two three acted acted' acted'' before between after acts =
        goes_then one two three acted acted' acted''
        (λ now deeds. AllOf (Is source) deeds × Passes moves source now before deeds between)
        (λ now deeds. AllOf (Is source) deeds × Passes moves source now between deeds after)
        (λ now deeds. AllOf (Is source) deeds × Passes moves source now before deeds after)
        acts
        (λ now first second earlier later. (all_then (Is source) second first later.0 earlier.0, passes_then source now second first before between after later.1 earlier.1))

    -- nothing was done
    pub part_still : (source : Source) (office : Office K g) (acted : List Act → Type 0) (stands : S) → acted [] → PartOf moves source office office acted stands stands
    part_still source office acted stands acts = goes_still office acted (λ now deeds. AllOf (Is source) deeds × Passes moves source now stands deeds stands) acts (λ now. (tt, refl))

    pub part_asked : (source : Source) (old new : Office K g) (acted : List Act → Type 0) (stands : S) → GoesAlong Nothing old new → acted [] → PartOf moves source old new acted stands stands
    part_asked source old new acted stands along acts = goes_asked old new acted (λ now deeds. AllOf (Is source) deeds × Passes moves source now stands deeds stands) along acts (λ now. (tt, refl))

    -- what was done with its socket alone
    pub part_acting : (source : Source) (office : Office K g) (acted : List Act → Type 0) (before after : S) → PassesBy moves source acted before after → PartOf moves source office office acted before after
    part_acting source office acted before after acting clean = (
      clean,
      λ now follows.
          let none = sym (with_no_steps acting.0) in
          record {
            deeds = with_all acting.0;
            are = subst (λ (steps : List Step). AreOf Runs now steps) none tt;
            follows = subst (λ (steps : List Step). Follows office (stepped now steps)) none follows;
            leaves = subst (λ (steps : List Step). Within (MayLeave office) (LeftBySteps (MayLeave office) now steps)) none (λ left may. may);
            has_acted = subst acted (sym (with_its_acts acting.0)) acting.1;
            has_kept = (with_their_sources (Is source) acting.0 acting.2, acting.3 now);
          },
    )

    -- and then the office did something
    pub then_office : (source : Source) (one two three : Office K g) (acted : List Act → Type 0) (before between after : S)
        → PartOf moves source one two acted before between → PartOf moves source two three (λ acts. acts ≡ []) between after → PartOf moves source one three acted before after
    then_office source one two three acted before between after =
        part_then source one two three acted (λ acts. acts ≡ []) acted before between after
        (λ first second some none. subst (λ (acts : List Act). acted (acts ++ first)) (sym none) some)

    -- first the office did something
    pub office_then : (source : Source) (one two three : Office K g) (acted : List Act → Type 0) (before between after : S)
        → PartOf moves source one two (λ acts. acts ≡ []) before between → PartOf moves source two three acted between after → PartOf moves source one three acted before after
    office_then source one two three acted before between after =
        part_then source one two three (λ acts. acts ≡ []) acted acted before between after
        (λ first second none some. subst acted (sym (ap (λ (acts : List Act). second ++ acts) none ∙ append-nil second)) some)

    -- what was done with its socket, in a call that may fail
    pub acting_told : {E : Type 0} (source : Source) (office : Office K g) (acted : List Act → Type 0) (before after : S) (told : Result Bool E)
        → MatchResult told (λ _. PassesBy moves source acted before after) (λ _. (stands : S) × PassesBy moves source acted before stands)
        → MatchResult told (λ _. PartOf moves source office office acted before after) (λ _. (stands : S) × PartOf moves source office office acted before stands)
    acting_told source office acted before after (Ok more) acting = part_acting source office acted before after acting
    acting_told source office acted before after (Err gone) acting = (acting.0, part_acting source office acted before acting.0 acting.1)
