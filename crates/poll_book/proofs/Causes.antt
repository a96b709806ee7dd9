-- How the count of refusals goes through calls.
use Rattle.std.proofs.Common.{◌≡◌, ℕ, ◌≤◌, Result, Ok, Err, inl, inr, arith, sym, subst}
use Rattle.std.specs.Prelude.{IfErr, IsErrAnd}
use Rattle.poll_book.specs.declared.fault.StoreFault.{StoreFault}
use Rattle.poll_book.specs.Fault.{Accounts, CountsRefusal, HasCause, HasRisen, IsCountedOn}

-- a count that was counted on rose, or says nothing
pub has_risen : (before old new : ℕ) → before ≤ old → IsCountedOn old new → HasRisen before new
has_risen before old new le (inl next) = inl (omega (arith, next))
has_risen before old new le (inr full) = inr full.1

-- it never falls
pub counted_rises : (old new : ℕ) → IsCountedOn old new → old ≤ new
counted_rises old new (inl next) = omega (arith, next)
counted_rises old new (inr full) = omega (arith, full.0)

pub call_rises : {T E : Type 0} (old new : ℕ) (told : Result T E) → CountsRefusal old new told → old ≤ new
call_rises old new (Ok x) same = omega (arith, same)
call_rises old new (Err e) on = counted_rises old new on

-- a longer span has the cause that a shorter one had
pub risen_within : (before old new after : ℕ) → before ≤ old → new ≤ after → HasRisen old new → HasRisen before after
risen_within before old new after low high (inl rose) = inl (omega arith)
risen_within before old new after low high (inr full) = inr (omega arith)

pub cause_within : (may_refuse : StoreFault → Type 0) (before old new after : ℕ) (fault : StoreFault) → before ≤ old → new ≤ after
    → HasCause may_refuse old new fault → HasCause may_refuse before after fault
cause_within may before old new after fault low high (inl memory) = inl memory
cause_within may before old new after fault low high (inr refused) = inr (refused.0, risen_within before old new after low high refused.1)

-- a keeper's call after nothing was counted
pub accounts_call : {T : Type 0} (may_refuse : StoreFault → Type 0) (before old new : ℕ) (told : Result T StoreFault) → old ≡ before
    → IfErr told may_refuse → CountsRefusal old new told → Accounts may_refuse before new told
accounts_call may before old new (Ok x) is may_be same = (omega (arith, is, same), tt, omega (arith, is, same))
accounts_call may before old new (Err e) is may_be on =
    (omega (arith, is, counted_rises old new on), inr (may_be, has_risen before old new (omega (arith, is)) on), tt)

-- a refusal that is handed on
pub accounts_err : {T : Type 0} (may_refuse : StoreFault → Type 0) (old new : ℕ) (told : Result T StoreFault) (fault : StoreFault)
    → IsErrAnd told (λ e. e ≡ fault) → old ≤ new → HasCause may_refuse old new fault → Accounts may_refuse old new told
accounts_err may old new (Ok x) fault is rise cause = absurd is
accounts_err may old new (Err e) fault is rise cause = (rise, subst (HasCause may old new) (sym is) cause, tt)

-- a refusal by a keeper's call that is handed on, where nothing was counted before
pub accounts_refusal : {T : Type 0} (may_refuse : StoreFault → Type 0) (before old new : ℕ) (told : Result T StoreFault) (fault : StoreFault)
    → IsErrAnd told (λ e. e ≡ fault) → old ≡ before → may_refuse fault → IsCountedOn old new → Accounts may_refuse before new told
accounts_refusal may before old new told fault is same may_be on =
    accounts_err may before new told fault is (omega (arith, same, counted_rises old new on))
    (inr (may_be, has_risen before old new (omega (arith, same)) on))
