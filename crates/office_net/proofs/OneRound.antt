-- Jobs of one round under way, whichever of its turns it is.
use Rattle.std.proofs.Common.{ℕ, ◌∙◌, subst}
use Rattle.poll_book.specs.declared.keeper.Neighbours.{Ghosts}
use Rattle.office_core.specs.declared.office.Office.{Office}
use Rattle.office_core.specs.History.{Happening, History}
use Rattle.office_net.specs.declared.machine.Poll.{Poll}
use Rattle.office_net.specs.Kinds.{Turn, TurnIn}
use Rattle.office_core.specs.Proceeding.{GoesAlong}
use Rattle.office_net.specs.Stages.{IsSame}
use Rattle.office_core.proofs.Proceeding.{along_wider}

pub same_then : (one two three : Poll) → IsSame one two → IsSame two three → IsSame one three
same_then one two three first second = record { conn = second.conn ∙ first.conn; slot = second.slot ∙ first.slot; most = second.most ∙ first.most; jobs = second.jobs ∙ first.jobs }

turn_same : (old new : Poll) → IsSame old new → (now : History) (event : Happening) → TurnIn new now event → TurnIn old now event
turn_same old new same now event turn = (
  turn.0,
  subst (λ (slot : ℕ). Turn old.conn slot turn.0 now event) same.slot (subst (λ (conn : ℕ). Turn conn new.slot turn.0 now event) same.conn turn.1),
)

-- a turn of the round as it stands later is one of it
pub turns_same : {K : Type 0} {g : Ghosts K} (old new : Poll) (office office' : Office K g) → IsSame old new → GoesAlong (TurnIn new) office office' → GoesAlong (TurnIn old) office office'
turns_same old new office office' same along = along_wider (TurnIn new) (TurnIn old) office office' (turn_same old new same) along
