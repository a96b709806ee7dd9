-- What is left of a run of events by a crash behind it.
use Rattle.std.specs.Prelude.{◌≡◌, ◌⊎◌, List}
use Rattle.office_core.specs.declared.event.EventAnswer.{EventAnswer}
use Rattle.office_core.specs.History.{Happening, History, after, tables}
use Rattle.office_core.specs.Leavings.{IsOfRefused, happened}

-- the tables of all that was answered without a refusal of the store, or of what came before one event that the
-- store refused and of that event, whole, where nothing that happened after it changed a table
abbrev pub IsLeftOf : History → List Happening → List EventAnswer → History → Type 0
IsLeftOf before rest told left = (tables left ≡ tables (after before (happened rest told))) ⊎ IsOfRefused before rest told (tables left)
