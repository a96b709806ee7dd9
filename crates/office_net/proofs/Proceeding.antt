-- What a line makes of an office, call behind call.
use Rattle.std.proofs.Common.{◌≡◌, inl, inr, true, ℕ, refl}
use Rattle.poll_book.specs.Tables.{Tables}
use Rattle.office_core.specs.declared.error.OfficeError.{OfficeError}
use Rattle.office_core.specs.declared.event.EventAnswer.TheVariants.{Refused}
use Rattle.office_core.specs.History.{Happening, History}
use Rattle.office_core.specs.Proceeding.{Proceeds}
use Rattle.office_core.proofs.Proceeding.{missed, still}
use Rattle.office_net.specs.Kinds.{Turn}
use Rattle.office_net.specs.Moves.{is_due, turn_of}
use Rattle.office_net.specs.Turning.{TurnFails}
use Rattle.office_net.specs.declared.job.LineJob.{LineJob}
use Rattle.office_net.specs.declared.job.LineJob.TheVariants.{Order, Read}

-- a job that is due has its turn
pub turn_is : (conn slot : ℕ) (now : History) (job : LineJob) → is_due slot now job ≡ true → Turn conn slot job now (turn_of conn slot now job)
turn_is conn slot now (Order device) due = (due, refl)
turn_is conn slot now (Read device read) due = (due, refl)

pub turn_missed : (kind : History → Happening → Type 0) (stood stands : History → Type 0) (might may : Tables → Type 0) (conn slot : ℕ) (job : LineJob) (e : OfficeError)
    → ((now : History) (event : Happening) → Turn conn slot job now event → kind now event)
    → TurnFails stood stands might may conn slot job e → Proceeds kind stood stands might may
turn_missed kind stood stands might may conn slot job e of (inl unasked) = still kind stood stands might may unasked.0
turn_missed kind stood stands might may conn slot job e of (inr asked) =
    missed kind stood stands might may (λ now. turn_of conn slot now job) (Refused e) (λ now s. of now (turn_of conn slot now job) (turn_is conn slot now job (asked.0 now s))) asked.1
