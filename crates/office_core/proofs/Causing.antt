-- How the causes of refusals last.
use Rattle.std.proofs.Common.{ℕ, ◌≤◌}
use Rattle.poll_book.specs.declared.fault.StoreFault.{StoreFault}
use Rattle.poll_book.specs.Fault.{HasCause}
use Rattle.poll_book.proofs.Causes.{cause_within}
use Rattle.office_core.specs.declared.error.OfficeError.{OfficeError}
use Rattle.office_core.specs.declared.error.OfficeError.TheVariants as error
use Rattle.office_core.specs.declared.event.EventAnswer.{EventAnswer}
use Rattle.office_core.specs.declared.event.EventAnswer.TheVariants as answer
use Rattle.office_core.specs.Errors.{IsCaused}
use Rattle.office_core.specs.Offices.{AnswerCaused}

-- a refusal keeps its cause in a longer span
error_within : (may_refuse : StoreFault → Type 0) (before old new after : ℕ) → before ≤ old → new ≤ after → (e : OfficeError)
    → IsCaused (HasCause may_refuse old new) e → IsCaused (HasCause may_refuse before after) e
error_within may before old new after low high (error.Store f) cause = cause_within may before old new after f low high cause
error_within may before old new after low high _ cause = tt

-- and so does an answer
pub answer_within : (may_refuse : StoreFault → Type 0) (before old new after : ℕ) → before ≤ old → new ≤ after → (told : EventAnswer)
    → AnswerCaused (HasCause may_refuse old new) told → AnswerCaused (HasCause may_refuse before after) told
answer_within may before old new after low high (answer.Refused e) cause = error_within may before old new after low high e cause
answer_within may before old new after low high _ cause = tt
