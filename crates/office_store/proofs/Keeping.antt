-- Calls that change nothing, one after another, change nothing.
use Rattle.sqlite.specs.State.{State}
use Rattle.office_store.specs.Kept.{Keeps}

pub keeps_then : (a b c : State) → Keeps a b → Keeps b c → Keeps a c
keeps_then a b c first next = record {
  clean = λ clean. first.clean (next.clean clean);
  was_open = λ clean now_open. first.was_open (next.clean clean) (next.was_open clean now_open);
  holds = λ kept held. next.holds kept (first.holds kept held);
  crash = λ clean db left. first.crash (next.clean clean) db (next.crash clean db left);
}
