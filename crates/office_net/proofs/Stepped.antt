-- Steps of a drill.
use Rattle.std.proofs.Common.{◌≡◌, ◌↔◌, ℕ, Bool, true, false, List, [], ◌∷◌, ◌++◌, Option, inl, inr, refl, sym, subst}
use Rattle.std.specs.Prelude.{IsTrue, reverse}
use Rattle.std.proofs.lemmas.List.{append-nil, reverse-append}
use Rattle.std.specs.Bool.{OnFalse, OnTrue}
use Rattle.mb_pdu.specs.declared.table.Table.{Table}
use Rattle.mb_map.specs.Schedule.{CanSet, Continues, Simulated, tables_at}
use Rattle.mb_map.specs.Schedule.Call.{Set}
use Rattle.office_core.specs.declared.event.Event.{Event}
use Rattle.office_core.specs.declared.event.EventAnswer.{EventAnswer}
use Rattle.office_net.specs.declared.drilling.DrillStep.{DrillStep}
use Rattle.office_net.specs.Drills.{Begins, BreaksOff, DoAll, Does, Sets, last_over}

-- by what a simulator answered
pub sets_by : (sim after : Simulated) (unit_id : ℕ) (table : Table) (address number : ℕ) (b : Bool) → (IsTrue b ↔ CanSet (tables_at unit_id sim.devices) table address number)
    → OnTrue b (Continues sim (Set unit_id table address number) [] after) → OnFalse b (after ≡ sim) → Sets sim unit_id table address number after
sets_by sim after unit_id table address number true test done same = inl done
sets_by sim after unit_id table address number false test done same = inr ((λ can. let no : false ≡ true = test.1 can in absurd (cc)), same)

-- a step after others
pub one_done : (sim between after : Simulated) (done over : Option ℕ) (before : List DrillStep) (one : DrillStep) (events more : List Event) (told later : List EventAnswer)
    → DoAll sim (reverse before) events told between done → Does between one over more later after → DoAll sim (reverse (before ++ one ∷ [])) (events ++ more) (told ++ later) after (last_over done over)
one_done sim between after done over before one events more told later did does =
    subst (λ steps. DoAll sim steps (events ++ more) (told ++ later) after (last_over done over)) (sym (reverse-append before (one ∷ [])))
    (between, done, events, more, told, later, did, record { over = over; does = does; last_is = refl }, refl, refl)

-- a drill that ends in the step behind others
pub broken_off : (sim between : Simulated) (last : Option ℕ) (steps before : List DrillStep) (one : DrillStep) (left : List DrillStep) (events begun : List Event) (told later : List EventAnswer)
    → steps ≡ before ++ one ∷ left → DoAll sim (reverse before) events told between last → Begins one begun → BreaksOff sim steps (events ++ begun) (told ++ later)
broken_off sim between last steps before one left events begun told later are did begins = record {
  done = before;
  left = one ∷ left;
  steps_are = are;
  between = between;
  last = last;
  made = events;
  answered = told;
  steps_do = did;
  begun = begun;
  more = later;
  under_way = begins;
  events_are = refl;
  told_are = refl;
}

-- a drill that ends behind all steps
pub broken_at_end : (sim between : Simulated) (last : Option ℕ) (steps : List DrillStep) (events : List Event) (told : List EventAnswer)
    → DoAll sim (reverse steps) events told between last → BreaksOff sim steps events told
broken_at_end sim between last steps events told did = record {
  done = steps;
  left = [];
  steps_are = sym (append-nil steps);
  between = between;
  last = last;
  made = events;
  answered = told;
  steps_do = did;
  begun = [];
  more = [];
  under_way = refl;
  events_are = sym (append-nil events);
  told_are = sym (append-nil told);
}
