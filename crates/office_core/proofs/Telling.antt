-- How a call's refusal is told.
use Rattle.std.proofs.Common.{◌≡◌, ◌∙◌, Result, Ok, Err, ℕ, ap, sym, subst, false}
use Rattle.std.specs.Prelude.{IfErr}
use Rattle.std.specs.Result.{IsErrAnd}
use Rattle.mb_mbap.specs.declared.frame.Frame.{Frame}
use Rattle.poll_book.specs.declared.fault.StoreFault.{StoreFault}
use Rattle.office_core.specs.declared.error.OfficeError.{OfficeError}
use Rattle.office_core.specs.declared.event.Arrival.{Arrival}
use Rattle.office_core.specs.declared.event.RequestAnswer.{RequestAnswer}
use Rattle.office_core.specs.declared.event.EventAnswer.TheVariants as answer
use Rattle.office_core.specs.Errors.{IsCaused, is_of_store}
use Rattle.office_core.specs.Offices.{told_so, opened, asked_so, arrived}

pub arrived_err : (told : Result Arrival OfficeError) (e : OfficeError) → IsErrAnd told (λ x. x ≡ e) → arrived told ≡ answer.Refused e
arrived_err (Ok x) e is = absurd is
arrived_err (Err x) e is = ap answer.Refused is

pub asked_err : (told : Result Frame OfficeError) (e : OfficeError) → IsErrAnd told (λ x. x ≡ e) → asked_so told ≡ answer.Refused e
asked_err (Ok x) e is = absurd is
asked_err (Err x) e is = ap answer.Refused is

pub opened_err : (told : Result ℕ OfficeError) (e : OfficeError) → IsErrAnd told (λ x. x ≡ e) → opened told ≡ answer.Refused e
opened_err (Ok x) e is = absurd is
opened_err (Err x) e is = ap answer.Refused is

pub request_err : (told : Result RequestAnswer OfficeError) (e : OfficeError) → IsErrAnd told (λ x. x ≡ e) → told_so told ≡ answer.Refused e
request_err (Ok x) e is = absurd is
request_err (Err x) e is = ap answer.Refused is

-- what causes a refusal that is passed on
pub caused_err : {X : Type 0} (may_refuse : StoreFault → Type 0) (told : Result X OfficeError) (e : OfficeError) → IsErrAnd told (λ x. x ≡ e) → IsCaused may_refuse e → IfErr told (IsCaused may_refuse)
caused_err may (Ok x) e is cause = tt
caused_err may (Err x) e is cause = subst (IsCaused may) (sym is) cause

-- a refusal that is passed on, and isn't the store's
pub own_err : {X : Type 0} (told : Result X OfficeError) (e : OfficeError) → IsErrAnd told (λ x. x ≡ e) → is_of_store e ≡ false → IfErr told (λ x. is_of_store x ≡ false)
own_err (Ok x) e is own = tt
own_err (Err x) e is own = ap is_of_store is ∙ own
