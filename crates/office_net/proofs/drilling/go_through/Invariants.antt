use Rattle.std.proofs.Common.{◌≤◌, List, take}
use Rattle.std.specs.Prelude.{reverse}
use Rattle.office_core.specs.declared.event.Event.{Event}
use Rattle.office_core.specs.Offices.{keeper_of}
use Rattle.office_net.specs.Drills.{DoAll, Leads}
use Rattle.office_net.proofs.drilling.go_through.Given as goal

abbrev pub invariant-loop-step : goal.invariant-loop-step
invariant-loop-step g l = record {
  goes : g.K.Neighbours.is_clean (keeper_of l.office)
      → (events : List Event) × DoAll l.fn.sim (reverse (take l.step-index l.steps)) events l.told.items l.sim l.last × Leads l.fn.office l.office events l.told.items;
  counted : g.K.Neighbours.refused (keeper_of l.fn.office) ≤ g.K.Neighbours.refused (keeper_of l.office);
  clean : g.K.Neighbours.is_clean (keeper_of l.office) → g.K.Neighbours.is_clean (keeper_of l.fn.office);
}
