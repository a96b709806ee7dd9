-- A job at its turn.
use Rattle.std.specs.Prelude.{◌≡◌, ◌⊎◌, ℕ, true, false, Option, Some, None}
use Rattle.mb_mbap.specs.declared.frame.Frame.{Frame}
use Rattle.poll_book.specs.Tables.{Tables}
use Rattle.office_core.specs.declared.event.EventAnswer.TheVariants as answer
use Rattle.office_core.specs.declared.error.OfficeError.{OfficeError}
use Rattle.office_core.specs.Errors.{is_of_store}
use Rattle.office_core.specs.Following.{Fails, Happens, Stays}
use Rattle.office_core.specs.History.{History}
use Rattle.office_net.specs.declared.job.LineJob.{LineJob}
use Rattle.office_net.specs.Moves.{is_due, turn_of}

-- where it is due it makes this query, and else nothing happens
abbrev pub Turns : (History → Type 0) → (History → Type 0) → (Tables → Type 0) → (Tables → Type 0) → ℕ → ℕ → LineJob → Option Frame → Type 0
Turns stood stands might may conn slot job None =
    ((now : History) → stood now → is_due slot now job ≡ false) × Stays stood stands might may
Turns stood stands might may conn slot job (Some query) =
    ((now : History) → stood now → is_due slot now job ≡ true)
    × Happens stood stands might may (λ now. turn_of conn slot now job) (answer.Query query)

-- the store refused to tell whether it is due, or it is and its query was refused
abbrev pub TurnFails : (History → Type 0) → (History → Type 0) → (Tables → Type 0) → (Tables → Type 0) → ℕ → ℕ → LineJob → OfficeError → Type 0
TurnFails stood stands might may conn slot job e =
    (Stays stood stands might may × (is_of_store e ≡ true))
    ⊎ (((now : History) → stood now → is_due slot now job ≡ true)
    × Fails stood stands might may (λ now. turn_of conn slot now job) (answer.Refused e))
