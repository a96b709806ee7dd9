use Rattle.std.specs.Prelude.{◌-◌, ◌≤◌, drop, string_bytes, take}
use Rattle.office_core.specs.Following.{Follows}
use Rattle.office_core.specs.History.{History, points}
use Rattle.office_core.specs.Offices.{keeper_of}
use Rattle.office_core.specs.Proceeding.{GoesAlong, Nothing}
use Rattle.run_callers.specs.Pages.{AddsPoints}
use Rattle.run_callers.proofs.showing.Showing.push_list.Given as goal

abbrev pub invariant-loop-at : goal.invariant-loop-at
invariant-loop-at g l = GoesAlong Nothing l.fn.office l.office × (l.fn.self.next ≤ l.at)
    × (g.K.Neighbours.is_clean (keeper_of l.office) → (now : History) → Follows l.fn.office now
    → AddsPoints now l.fn.self.slots (take (l.at - l.fn.self.next) (drop l.fn.self.next (points now))) (string_bytes l.fn.text) (string_bytes l.text))
