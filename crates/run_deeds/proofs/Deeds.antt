-- Deeds one behind the other, whoever does them.
use Rattle.std.proofs.Common.{◌≡◌, List, [], ◌∷◌, ◌++◌, refl, sym, ◌∙◌, ap, subst}
use Rattle.std.proofs.lemmas.Grind.{flat_map-append}
use Rattle.poll_book.specs.declared.keeper.Neighbours.{Ghosts}
use Rattle.poll_book.specs.Tables.{Tables, Within}
use Rattle.run_beat.specs.declared.sockets.Source.{Source}
use Rattle.run_beat.specs.Acts.{Act}
use Rattle.office_core.specs.declared.office.Office.{Office}
use Rattle.office_core.specs.Following.{Follows, MayLeave}
use Rattle.office_core.specs.History.{History}
use Rattle.office_core.specs.Proceeding.{AreOf, GoesAlong, LeftBySteps, Nothing, Step, stepped}
use Rattle.office_net.proofs.Querying.{none_of}
use Rattle.office_core.proofs.Proceeding.{are_then, left_by_more, left_by_then, stepped_then}
use Rattle.run_deeds.specs.Doings.{Runs}
use Rattle.run_deeds.specs.Deeds.{ActsOf, AllOf, Deed, Deeds, GoesBy, acts_in, acts_of, source_of, steps_in, steps_of, with_all}

-- ---- lists of deeds

pub steps_then : (second first : List Deed) → steps_of (second ++ first) ≡ steps_of second ++ steps_of first
steps_then = flat_map-append steps_in

acts_then : (second first : List Deed) → acts_of (second ++ first) ≡ acts_of second ++ acts_of first
acts_then = flat_map-append acts_in

pub stepped_by : (now : History) (second first : List Deed) → stepped now (steps_of (second ++ first)) ≡ stepped (stepped now (steps_of first)) (steps_of second)
stepped_by now second first = ap (λ (steps : List Step). stepped now steps) (steps_then second first) ∙ stepped_then now (steps_of second) (steps_of first)

pub all_then : (of : Source → Type 0) (second first : List Deed) → AllOf of second → AllOf of first → AllOf of (second ++ first)
all_then of [] first later earlier = earlier
all_then of (deed ∷ second) first later earlier = (later.0, all_then of second first later.1 earlier)

pub all_wider : (of of' : Source → Type 0) → ((some : Source) → of some → of' some) → (deeds : List Deed) → AllOf of deeds → AllOf of' deeds
all_wider of of' wider [] all = tt
all_wider of of' wider (deed ∷ deeds) all = (wider (source_of deed) all.0, all_wider of of' wider deeds all.1)

-- ---- deeds behind deeds

deeds_then : (two three : History → Type 0) (might may may' : Tables → Type 0) (acted acted' acted'' : List Act → Type 0) (kept kept' kept'' : History → List Deed → Type 0)
    → ((first second : List Act) → acted first → acted' second → acted'' (second ++ first))
    → ((now : History) (first second : List Deed) → kept now first → kept' (stepped now (steps_of first)) second → kept'' now (second ++ first))
    → (now : History) (first : Deeds two might may acted (kept now) now)
    → Deeds three may may' acted' (kept' (stepped now (steps_of first.deeds))) (stepped now (steps_of first.deeds)) → Deeds three might may' acted'' (kept'' now) now
deeds_then two three might may may' acted acted' acted'' kept kept' kept'' acts keeps now first second =
    let done = steps_of first.deeds in
    let more = steps_of second.deeds in
    record {
      deeds = second.deeds ++ first.deeds;
      are = subst (λ (steps : List Step). AreOf Runs now steps) (sym (steps_then second.deeds first.deeds)) (are_then Runs now more done second.are first.are);
      follows = subst three (sym (stepped_by now second.deeds first.deeds)) second.follows;
      leaves = subst (λ (steps : List Step). Within may' (LeftBySteps might now steps)) (sym (steps_then second.deeds first.deeds)) (λ left may_be.
          left_by_then might now more done left
          (left_by_more may (LeftBySteps might now done) (stepped now done) more first.leaves left (second.leaves left may_be)));
      has_acted = subst acted'' (sym (acts_then second.deeds first.deeds)) (acts (acts_of first.deeds) (acts_of second.deeds) first.has_acted second.has_acted);
      has_kept = keeps now first.deeds second.deeds first.has_kept second.has_kept;
    }

module _ {K : Type 0} {g : Ghosts K} where
  pub goes_then : (one two three : Office K g) (acted acted' acted'' : List Act → Type 0) (kept kept' kept'' : History → List Deed → Type 0)
      → ((first second : List Act) → acted first → acted' second → acted'' (second ++ first))
      → ((now : History) (first second : List Deed) → kept now first → kept' (stepped now (steps_of first)) second → kept'' now (second ++ first))
      → GoesBy one two acted kept → GoesBy two three acted' kept' → GoesBy one three acted'' kept''
  goes_then one two three acted acted' acted'' kept kept' kept'' acts keeps first second clean =
      let later = second clean in
      let earlier = first later.0 in (
        earlier.0,
        λ now follows.
            let begun = earlier.1 now follows in
            deeds_then (Follows two) (Follows three) (MayLeave one) (MayLeave two) (MayLeave three) acted acted' acted'' kept kept' kept'' acts keeps now begun
            (later.1 (stepped now (steps_of begun.deeds)) begun.follows),
      )

  -- nothing was done
  pub goes_still : (office : Office K g) (acted : List Act → Type 0) (kept : History → List Deed → Type 0) → acted [] → ((now : History) → kept now []) → GoesBy office office acted kept
  goes_still office acted kept acts keeps clean =
      (clean, λ now follows. record { deeds = []; are = tt; follows = follows; leaves = λ left may. may; has_acted = acts; has_kept = keeps now })

  -- what is known of deeds, less is known of
  pub goes_wider : (old new : Office K g) (acted acted' : List Act → Type 0) (kept kept' : History → List Deed → Type 0)
      → ((acts : List Act) → acted acts → acted' acts) → ((now : History) (deeds : List Deed) → kept now deeds → kept' now deeds)
      → GoesBy old new acted kept → GoesBy old new acted' kept'
  goes_wider old new acted acted' kept kept' acts keeps goes clean =
      let went = goes clean in (
        went.0,
        λ now follows.
            let done = went.1 now follows in
            record { deeds = done.deeds; are = done.are; follows = done.follows; leaves = done.leaves; has_acted = acts (acts_of done.deeds) done.has_acted; has_kept = keeps now done.deeds done.has_kept },
      )

  -- the events of deeds
  pub along_of_deeds : (old new : Office K g) (acted : List Act → Type 0) (kept : History → List Deed → Type 0) → GoesBy old new acted kept → GoesAlong Runs old new
  along_of_deeds old new acted kept goes clean =
      let went = goes clean in (
        went.0,
        λ now follows.
            let done = went.1 now follows in
            record { steps = steps_of done.deeds; are = done.are; follows = done.follows; leaves = done.leaves },
      )

-- ---- only asked

-- an office that was only asked goes on by nothing
pub goes_asked : {K : Type 0} {g : Ghosts K} (old new : Office K g) (acted : List Act → Type 0) (kept : History → List Deed → Type 0)
    → GoesAlong Nothing old new → acted [] → ((now : History) → kept now []) → GoesBy old new acted kept
goes_asked old new acted kept along acts keeps clean =
    let went = along clean in (
      went.0,
      λ now follows.
          let course = went.1 now follows in
          let none = none_of now course.steps course.are in
          record {
            deeds = [];
            are = tt;
            follows = subst (λ (steps : List Step). Follows new (stepped now steps)) none course.follows;
            leaves = subst (λ (steps : List Step). Within (MayLeave new) (LeftBySteps (MayLeave old) now steps)) none course.leaves;
            has_acted = acts;
            has_kept = keeps now;
          },
    )

-- ---- what is done with sockets

pub with_no_steps : (acts : List Act) → steps_of (with_all acts) ≡ []
with_no_steps [] = refl
with_no_steps (act ∷ acts) = with_no_steps acts

pub with_its_acts : (acts : List Act) → acts_of (with_all acts) ≡ acts
with_its_acts [] = refl
with_its_acts (act ∷ acts) = ap (λ (rest : List Act). act ∷ rest) (with_its_acts acts)

pub with_their_sources : (of : Source → Type 0) (acts : List Act) → ActsOf of acts → AllOf of (with_all acts)
with_their_sources of [] all = tt
with_their_sources of (act ∷ acts) all = (all.0, with_their_sources of acts all.1)

pub acts_of_then : (of : Source → Type 0) (second first : List Act) → ActsOf of second → ActsOf of first → ActsOf of (second ++ first)
acts_of_then of [] first later earlier = earlier
acts_of_then of (act ∷ second) first later earlier = (later.0, acts_of_then of second first later.1 earlier)
