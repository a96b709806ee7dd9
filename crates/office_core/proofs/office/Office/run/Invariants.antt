use Rattle.std.proofs.Common.{◌≡◌, ◌≤◌, length, take, vec_len, vec_capacity}
use Rattle.std.specs.Prelude.{All}
use Rattle.poll_book.specs.Fault.{HasCause}
use Rattle.office_core.specs.Leavings.{LeavesAll}
use Rattle.office_core.specs.Offices.{AnswerCaused}
use Rattle.office_core.specs.Standing.{Runs, StandsFor}
use Rattle.office_core.proofs.LeavingRuns.{StandsAll}
use Rattle.office_core.proofs.office.Office.run.Given as goal

-- the events so far are a run
abbrev pub invariant-loop-event : goal.invariant-loop-event
invariant-loop-event g l =
    let holds = g.K.Neighbours.holds in
    let may = g.K.Neighbours.may_leave in
    record {
      each : vec_len l.told ≡ l.event-index;
      room : length l.events ≤ vec_capacity l.told;
      cause : All (AnswerCaused (HasCause g.K.Neighbours.may_refuse (g.K.Neighbours.refused l.fn.self.keeper) (g.K.Neighbours.refused l.self.keeper))) l.told.items;
      counted : g.K.Neighbours.refused l.fn.self.keeper ≤ g.K.Neighbours.refused l.self.keeper;
      clean : g.K.Neighbours.is_clean l.self.keeper → g.K.Neighbours.is_clean l.fn.self.keeper;
      runs : g.K.Neighbours.is_clean l.self.keeper → Runs
          (StandsFor (holds l.fn.self.keeper) l.fn.self.site l.fn.self.points.items l.fn.self.matcher)
          (StandsFor (holds l.self.keeper) l.self.site l.self.points.items l.self.matcher)
          (take l.event-index l.events) l.told.items;
      stands : g.K.Neighbours.is_clean l.self.keeper → StandsAll
          (StandsFor (holds l.fn.self.keeper) l.fn.self.site l.fn.self.points.items l.fn.self.matcher)
          (StandsFor (holds l.self.keeper) l.self.site l.self.points.items l.self.matcher)
          (take l.event-index l.events) l.told.items;
      leaves : g.K.Neighbours.is_clean l.self.keeper → LeavesAll
          (StandsFor (holds l.fn.self.keeper) l.fn.self.site l.fn.self.points.items l.fn.self.matcher)
          (may l.fn.self.keeper) (may l.self.keeper) (take l.event-index l.events) l.told.items;
    }
