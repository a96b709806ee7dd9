use Rattle.std.proofs.Common.{◌≡◌, ◌≤◌, []}
use Rattle.office_core.specs.Offices.{keeper_of}
use Rattle.office_net.specs.Kinds.{TurnIn}
use Rattle.office_core.specs.Proceeding.{GoesAlong}
use Rattle.office_net.specs.Stages.{GoesOn, IsSame, left_of, taken_of}
use Rattle.office_net.proofs.machine.Poll.next.Given as goal

abbrev pub invariant-loop-self : goal.invariant-loop-self
invariant-loop-self g l = record {
  goes : g.K.Neighbours.is_clean (keeper_of l.office) → GoesOn l.fn.office l.fn.self l.office l.self [] [];
  along : GoesAlong (TurnIn l.fn.self) l.fn.office l.office;
  same : IsSame l.fn.self l.self;
  counted : g.K.Neighbours.refused (keeper_of l.fn.office) ≤ g.K.Neighbours.refused (keeper_of l.office);
  clean : g.K.Neighbours.is_clean (keeper_of l.office) → g.K.Neighbours.is_clean (keeper_of l.fn.office);
  left : left_of l.self ≤ left_of l.fn.self;
  taken : taken_of l.self ≡ taken_of l.fn.self;
}

abbrev pub decreases-loop-self : goal.decreases-loop-self
decreases-loop-self g l = left_of l.self
