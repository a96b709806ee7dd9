-- Causes of faults, from a part of a round to the whole.
use Rattle.std.proofs.Common.{◌≡◌, ◌≤◌, ℕ, List, inl, inr, sym, subst, arith}
use Rattle.poll_book.specs.declared.fault.StoreFault.{StoreFault}
use Rattle.poll_book.specs.declared.keeper.Neighbours.{Ghosts}
use Rattle.mb_mbap.specs.declared.fault.FrameFault.{FrameFault}
use Rattle.office_core.specs.declared.office.Office.{Office}
use Rattle.office_core.specs.History.{History}
use Rattle.office_core.specs.declared.error.OfficeError.{OfficeError}
use Rattle.office_core.specs.declared.error.OfficeError.TheVariants as error
use Rattle.office_core.specs.Errors.{IsOfStore}
use Rattle.office_core.specs.Offices.{CauseFrom, Counts, keeper_of}
use Rattle.office_net.specs.declared.fault.PollFault.{PollFault}
use Rattle.office_net.specs.declared.fault.PollFault.TheVariants as fault
use Rattle.office_net.specs.Faults.{ClosedBy, HasCause, IsCaused, IsOfStream}

-- what causes a refusal in a part of the office's calls causes it in all
pub cause_since : {K : Type 0} {g : Ghosts K} (old mid new last : Office K g) (f : StoreFault) → g.refused (keeper_of old) ≤ g.refused (keeper_of mid) → g.refused (keeper_of new) ≤ g.refused (keeper_of last)
    → CauseFrom mid new f → CauseFrom old last f
cause_since old mid new last f before after (inl memory) = inl memory
cause_since old mid new last f before after (inr (may, inl rose)) = inr (may, inl (omega (arith, before, after, rose)))
cause_since old mid new last f before after (inr (may, inr full)) = inr (may, inr (omega (arith, before, after, full)))

-- and where the store refused, no other refusal comes of it
pub of_store_since : {K : Type 0} {g : Ghosts K} (old mid new : Office K g) (e : OfficeError) → g.refused (keeper_of old) ≤ g.refused (keeper_of mid)
    → IsOfStore (CauseFrom mid new) e → IsOfStore (CauseFrom old new) e
of_store_since old mid new (error.Store f) before cause = cause_since old mid new new f before (omega arith) cause
of_store_since old mid new _ before cause = absurd cause

-- no refusal of the keeper is forgotten by two calls
pub counts_then : {K : Type 0} {g : Ghosts K} (old mid new : Office K g) → Counts old mid → Counts mid new → Counts old new
counts_then old mid new first then = (omega (arith, first.0, then.0), λ clean. first.1 (then.1 clean))

-- a fault's cause, where what causes it causes it in all
pub caused_since : (line line' : Type 0) (store store' : StoreFault → Type 0) (e : PollFault) → (line → line') → ((f : StoreFault) → store f → store' f) → IsCaused line store e → IsCaused line' store' e
caused_since line line' store store' fault.Line up more cause = up cause
caused_since line line' store store' fault.Noise up more cause = cause
caused_since line line' store store' (fault.Frames bad) up more cause = cause
caused_since line line' store store' (fault.Store f) up more cause = more f cause
caused_since line line' store store' fault.Memory up more cause = tt
caused_since line line' store store' fault.Closed up more cause = tt

pub has_cause : (line line' : Type 0) (store store' : StoreFault → Type 0) (e : PollFault) → (line → line') → ((f : StoreFault) → store f → store' f) → IsCaused line store e → HasCause line' store' e
has_cause line line' store store' fault.Line up more cause = up cause
has_cause line line' store store' fault.Noise up more cause = tt
has_cause line line' store store' (fault.Frames bad) up more cause = tt
has_cause line line' store store' (fault.Store f) up more cause = more f cause
has_cause line line' store store' fault.Memory up more cause = tt
has_cause line line' store store' fault.Closed up more cause = tt

pub cause_more : (line line' : Type 0) (store store' : StoreFault → Type 0) (e : PollFault) → (line → line') → ((f : StoreFault) → store f → store' f) → HasCause line store e → HasCause line' store' e
cause_more line line' store store' fault.Line up more cause = up cause
cause_more line line' store store' fault.Noise up more cause = tt
cause_more line line' store store' (fault.Frames bad) up more cause = tt
cause_more line line' store store' (fault.Store f) up more cause = more f cause
cause_more line line' store store' fault.Memory up more cause = tt
cause_more line line' store store' fault.Closed up more cause = tt

-- the line failed
pub line_caused : (line : Type 0) (store : StoreFault → Type 0) (e : PollFault) → e ≡ fault.Line → line → IsCaused line store e
line_caused line store e is failed = subst (IsCaused line store) (sym is) failed

-- what a fault of the line, or of the stream, says nothing of
pub line_open : (e : PollFault) → e ≡ fault.Line → (now : History) (conn : ℕ) → ClosedBy e now conn
line_open e is now conn = subst (λ x. ClosedBy x now conn) (sym is) tt

pub line_stream : (e : PollFault) → e ≡ fault.Line → (read rest : List ℕ) → IsOfStream read rest e
line_stream e is read rest = subst (IsOfStream read rest) (sym is) tt

pub frames_open : (e : PollFault) (bad : FrameFault) → e ≡ fault.Frames bad → (now : History) (conn : ℕ) → ClosedBy e now conn
frames_open e bad is now conn = subst (λ x. ClosedBy x now conn) (sym is) tt
