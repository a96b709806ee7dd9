use Rattle.std.proofs.Common.{All, take}
use Rattle.office_store.specs.Counting.{StandsBetween}
use Rattle.office_store.proofs.shown.span_of.Given as goal

abbrev pub invariant-loop-reading : goal.invariant-loop-reading
invariant-loop-reading l = All (StandsBetween l.from l.to) (take l.reading-index l.readings)
