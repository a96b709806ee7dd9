use Rattle.std.proofs.Common.{◌≡◌, ◌≤◌, ◌+◌, ◌++◌, List, length, vec_len, vec_capacity}
use Rattle.office_core.specs.declared.event.EventAnswer.{EventAnswer}
use Rattle.office_core.specs.Offices.{keeper_of}
use Rattle.office_net.specs.Drills.{Leads, arrivals}
use Rattle.office_net.proofs.drilling.arrive_all.Given as goal

abbrev pub invariant-loop-frame : goal.invariant-loop-frame
invariant-loop-frame g l = record {
  all : l.fn.frames.items ≡ l.yielded ++ l.frame-iterator.rest.items;
  room : vec_len l.told + length l.frame-iterator.rest.items ≤ vec_capacity l.told;
  goes : g.K.Neighbours.is_clean (keeper_of l.office)
      → (more : List EventAnswer) × (l.told.items ≡ l.fn.told.items ++ more) × Leads l.fn.office l.office (arrivals l.conn l.yielded) more;
  counted : g.K.Neighbours.refused (keeper_of l.fn.office) ≤ g.K.Neighbours.refused (keeper_of l.office);
  clean : g.K.Neighbours.is_clean (keeper_of l.office) → g.K.Neighbours.is_clean (keeper_of l.fn.office);
}
