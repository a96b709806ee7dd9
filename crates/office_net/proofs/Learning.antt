-- What an office told, call behind call.
use Rattle.poll_book.specs.declared.keeper.Neighbours.{Ghosts}
use Rattle.poll_book.specs.Tables.{Tables}
use Rattle.office_core.specs.declared.office.Office.{Office}
use Rattle.office_core.specs.History.{Happening, History}
use Rattle.office_core.specs.Following.{Follows, MayLeave, Stays}
use Rattle.office_core.specs.Proceeding.{GoesAlong}
use Rattle.office_net.specs.Counting.{Learnt}
use Rattle.office_core.proofs.Proceeding.{still}

pub stays_then : (one two three : History → Type 0) (might may may' : Tables → Type 0)
    → Stays one two might may → Stays two three may may' → Stays one three might may'
stays_then one two three might may may' first second = record {
  follows = λ now stood. second.follows now (first.follows now stood);
  leaves = λ left may_be. first.leaves left (second.leaves left may_be);
}

-- what was told first, and then
pub learnt_then : {K : Type 0} {g : Ghosts K} (one two three : Office K g) (first then : History → Type 0)
    → Learnt one two first → Learnt two three then → Learnt one three (λ now. first now × then now)
learnt_then one two three first then before behind clean =
    let later = behind clean in
    let earlier = before later.0 in (
      earlier.0,
      record {
        stays = stays_then (Follows one) (Follows two) (Follows three) (MayLeave one) (MayLeave two) (MayLeave three) earlier.1.stays later.1.stays;
        known = λ now stood. (earlier.1.known now stood, later.1.known now (earlier.1.stays.follows now stood));
      },
    )

-- what follows from what was told
pub learnt_so : {K : Type 0} {g : Ghosts K} (one two : Office K g) (holds so : History → Type 0)
    → ((now : History) → holds now → so now) → Learnt one two holds → Learnt one two so
learnt_so one two holds so follows learnt clean =
    let told = learnt clean in
    (told.0, record { stays = told.1.stays; known = λ now stood. follows now (told.1.known now stood) })

-- an office that was only asked goes along
pub learnt_along : {K : Type 0} {g : Ghosts K} {kind : History → Happening → Type 0} (one two : Office K g) (holds : History → Type 0) → Learnt one two holds → GoesAlong kind one two
learnt_along {kind = kind} one two holds learnt clean =
    let told = learnt clean in
    (told.0, still kind (Follows one) (Follows two) (MayLeave one) (MayLeave two) told.1.stays)
