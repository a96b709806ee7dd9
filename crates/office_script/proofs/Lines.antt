-- One line more of a script.
use Rattle.std.proofs.Common.{◌≡◌, ◌+◌, ℕ, List, ◌∷◌, ◌++◌, false, Option, Some, None, refl, sym, ap, ◌∙◌, subst, append_assoc}
use Rattle.std.specs.Prelude.{⊤}
use Rattle.office_core.specs.History.{History}
use Rattle.office_core.specs.declared.event.Event.{Event}
use Rattle.office_script.specs.declared.device.Declared.{Declared}
use Rattle.office_script.specs.declared.player.Replayed.TheVariants.{FaultLine}
use Rattle.office_script.specs.Commands.{Comes, event_of}
use Rattle.office_script.specs.Devices.{device_of}
use Rattle.office_script.specs.Printing.{fault_line}
use Rattle.office_script.specs.Scripts.{Step, Skipped, Wrong, Declares, Does, does, step_of, is_skipped, Course, from_line, printed_for, then_before}
use Rattle.office_script.specs.Playing.{Owes, IsWhole}

-- a step at which a script breaks off
abbrev pub IsFaulty : Step → Type 0
IsFaulty Skipped = ⊥
IsFaulty Wrong = ⊤
IsFaulty (Declares said) = ⊤
IsFaulty (Does seen) = ⊥

-- a line that asks for nothing breaks a script off
pub no_event : (number : ℕ) (line : List ℕ) → is_skipped line ≡ false → None ≡ event_of number line → IsFaulty (step_of number line)
no_event number line skip none = rw (skip, ← none) (by (device_of line))
  where
    by : (o : Option Declared) → IsFaulty (does None o)
    by None = tt
    by (Some said) = tt

-- a line that asks for an event
pub one_event : (number : ℕ) (line : List ℕ) (seen : Event) → is_skipped line ≡ false → Some seen ≡ event_of number line → step_of number line ≡ Does seen
one_event number line seen skip is = rw (skip, ← is) refl

-- a script that breaks off is whole with the number of the line
pub broken_off : (stands : History → Type 0) (done out more : List ℕ) (number : ℕ) (step : Step) (rest : List Step) (whole : Course)
    → IsFaulty step → more ≡ out ++ fault_line number → Owes stands (done ++ out) number (step ∷ rest) whole → IsWhole (done ++ more) (FaultLine number) whole
broken_off stands done out more number Skipped rest whole is e owes = absurd is
broken_off stands done out more number (Does seen) rest whole is e owes = absurd is
broken_off stands done out more number Wrong rest whole is e owes =
    let (before, stood, owed) = owes in
    (ap (λ t. done ++ t) e ∙ sym (append_assoc done out (fault_line number)) ∙ ap (λ (c : Course). c.text) owed, ap (λ (c : Course). c.ending) owed)
broken_off stands done out more number (Declares said) rest whole is e owes =
    let (before, stood, owed) = owes in
    (ap (λ t. done ++ t) e ∙ sym (append_assoc done out (fault_line number)) ∙ ap (λ (c : Course). c.text) owed, ap (λ (c : Course). c.ending) owed)

-- a script goes on after an event
pub went_on : (stands now : History → Type 0) (done out more : List ℕ) (number : ℕ) (line : List ℕ) (seen : Event) (rest : List Step) (whole : Course)
    → ((before : History) → stands before → Comes seen → now (then_before before seen) × (more ≡ out ++ printed_for before seen))
    → Comes seen → step_of number line ≡ Does seen → Owes stands (done ++ out) number (step_of number line ∷ rest) whole → Owes now (done ++ more) (number + 1) rest whole
went_on stands now done out more number line seen rest whole acted comes is owes =
    let (before, stood, owed) = subst (λ s. Owes stands (done ++ out) number (s ∷ rest) whole) is owes in
    let (follows, e) = acted before stood comes in
    let last : Course = from_line (then_before before seen) (number + 1) rest in
    let text : (done ++ more) ++ last.text ≡ (done ++ out) ++ (printed_for before seen ++ last.text) =
    ap (λ t. (done ++ t) ++ last.text) e ∙ ap (λ t. t ++ last.text) (sym (append_assoc done out (printed_for before seen)))
    ∙ append_assoc (done ++ out) (printed_for before seen) last.text in
    (then_before before seen, follows, ap (λ (t : List ℕ). record last { text = t }) text ∙ owed)
