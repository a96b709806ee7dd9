use Rattle.run_beat.proofs.Order.{in_order}
use Rattle.run_beat.proofs.beat.slots_never_fall.Goals as goal

-- none is begun before one that was begun
pub returns : goal.returns
returns c = λ first last calls called. (in_order first last calls called).0
