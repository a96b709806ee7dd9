-- What happens in a script may happen, and its report is of the tables after it.
use Rattle.std.proofs.Common.{◌≡◌, ◌≢◌, ◌≤◌, ◌+◌, arith, length, ℕ, Bool, true, false, cond, List, [], ◌∷◌, ◌++◌, refl, sym, ap, ◌∙◌, Option, Some, None}
use Rattle.std.proofs.lemmas.List.{append_assoc}
use Rattle.std.specs.Str.Lines.{lines}
use Rattle.point_list.specs.Sites.{IsSound}
use Rattle.point_list.specs.declared.site.Site.{Site}
use Rattle.office_core.specs.declared.event.Event.{Event}
use Rattle.office_core.specs.History.{History, Restart, tables}
use Rattle.office_core.specs.Legal.{Legal}
use Rattle.office_core.specs.Messages.{happening_of}
use Rattle.office_core.specs.Sites.{no_site}
use Rattle.office_script.specs.declared.device.Declared.{Declared}
use Rattle.office_script.specs.declared.player.Replayed.TheVariants.{Done}
use Rattle.office_script.specs.Commands.{Comes, event_of}
use Rattle.office_script.specs.Playing.{MayRestart}
use Rattle.office_script.specs.Devices.{device_of, with_device, is_site}
use Rattle.office_script.specs.Printing.{report_of}
use Rattle.office_script.specs.Scripts.{Step, Skipped, Wrong, Declares, Does, steps_in, steps_of, is_skipped, does, printed_for, then_before, Course, broken_at, from_line, from_device, output_of, outcome_of, history_of}
use Rattle.office_script.proofs.Cuts.{lines_few}
use Rattle.office_script.proofs.Messages.{comes_so}
use Rattle.office_script.proofs.Restarts.{has_begun, may_come, may_restart_on}
use Rattle.office_script.proofs.Opened.{nothing_sound}

-- a history that may be, which has begun, and after which the office may begin anew
abbrev pub MayStand : History → Type 0
MayStand before = Legal before × (before ≢ []) × MayRestart before

-- an event that comes makes it longer
then_stands : (before : History) (seen : Event) → Comes seen → MayStand before → MayStand (then_before before seen)
then_stands before seen comes stands =
    ((may_come before seen comes stands.2, (λ none. absurd (stands.1 none)), stands.0), has_begun (happening_of before seen) before, may_restart_on before seen stands.2)

-- 32 bits hold the numbers of these lines
abbrev AreFew : ℕ → List (List ℕ) → Type 0
AreFew number ls = number + length ls ≤ 4294967296

-- what the lines make happen may be
lines_stand : (before : History) (number : ℕ) (ls : List (List ℕ)) → AreFew number ls → MayStand before → MayStand (from_line before number (steps_in number ls)).history
lines_stand before number [] few stands = stands
lines_stand before number (line ∷ ls) few stands =
    by (is_skipped line) (event_of number line) refl (device_of line) (λ later. lines_stand later (number + 1) ls (omega (arith, few)))
  where
    by : (b : Bool) (o : Option Event) → event_of number line ≡ o → (p : Option Declared)
        → ((later : History) → MayStand later → MayStand (from_line later (number + 1) (steps_in (number + 1) ls)).history)
        → MayStand (from_line before number (cond b Skipped (does o p) ∷ steps_in (number + 1) ls)).history
    by true o is p on = on before stands
    by false (Some seen) is p on = on (then_before before seen) (then_stands before seen (comes_so number line seen (omega (arith, few)) (sym is)) stands)
    by false None is (Some said) on = stands
    by false None is None on = stands

begun_stands : (site : Site) → IsSound site → MayStand (Restart site ∷ [])
begun_stands site sound = (((sound, refl), (λ _. refl), tt), has_begun (Restart site) [], (sound, refl))

from_legal : (site : Site) (number : ℕ) (ls : List (List ℕ)) → AreFew number ls → IsSound site → Legal (from_device site number (steps_in number ls)).history
from_legal site number [] few sound = (begun_stands site sound).0
from_legal site number (line ∷ ls) few sound =
    by (is_skipped line) (event_of number line) refl (device_of line) (λ grown. from_legal grown (number + 1) ls (omega (arith, few)))
  where
    From : Type 0
    From = (grown : Site) → IsSound grown → Legal (from_device grown (number + 1) (steps_in (number + 1) ls)).history

    declared : (said : Declared) (b : Bool) → is_site (with_device site said) ≡ b → From
        → Legal (cond b (from_device (with_device site said) (number + 1) (steps_in (number + 1) ls)) (broken_at [] number)).history
    declared said true is on = on (with_device site said) is
    declared said false is on = tt

    by : (b : Bool) (o : Option Event) → event_of number line ≡ o → (p : Option Declared) → From
        → Legal (from_device site number (cond b Skipped (does o p) ∷ steps_in (number + 1) ls)).history
    by true o is p on = on site sound
    by false (Some seen) is p on =
        (lines_stand (then_before (Restart site ∷ []) seen) (number + 1) ls (omega (arith, few))
        (then_stands (Restart site ∷ []) seen (comes_so number line seen (omega (arith, few)) (sym is)) (begun_stands site sound))).0
    by false None is (Some said) on = declared said (is_site (with_device site said)) refl on
    by false None is None on = (begun_stands site sound).0

-- the history of a script that can be played is legal
pub script_legal : (script : List ℕ) → length script ≤ 67108864 → Legal (history_of script)
script_legal script short = let few = lines_few script in from_legal no_site 1 (lines script) (omega (arith, few, short)) (nothing_sound [] [] refl refl)

-- ---- the report

-- it is at the end of the output
abbrev pub EndsWith : List ℕ → List ℕ → Type 0
EndsWith output last = (front : List ℕ) × (output ≡ front ++ last)

behind : (front output last : List ℕ) → EndsWith output last → EndsWith (front ++ output) last
behind front output last (more, is) = (front ++ more, ap (λ o. front ++ o) is ∙ sym (append_assoc front more last))

-- a course that is done has the report of what happened at its end
abbrev Reports : Course → Type 0
Reports course = course.ending ≡ Done → EndsWith course.text (report_of (tables course.history))

report_last : (before : History) (number : ℕ) (steps : List Step) → Reports (from_line before number steps)
report_last before number [] done = ([], refl)
report_last before number (Skipped ∷ more) done = report_last before (number + 1) more done
report_last before number (Wrong ∷ more) done = absurd (cc)
report_last before number (Declares said ∷ more) done = absurd (cc)
report_last before number (Does seen ∷ more) done =
    let last : Course = from_line (then_before before seen) (number + 1) more in
    behind (printed_for before seen) last.text (report_of (tables last.history)) (report_last (then_before before seen) (number + 1) more done)

report_from : (site : Site) (number : ℕ) (steps : List Step) → Reports (from_device site number steps)
report_from site number [] done = ([], refl)
report_from site number (Skipped ∷ more) done = report_from site (number + 1) more done
report_from site number (Wrong ∷ more) done = absurd (cc)
report_from site number (Declares said ∷ more) done = by (is_site (with_device site said)) (report_from (with_device site said) (number + 1) more) done
  where
    by : (b : Bool) → Reports (from_device (with_device site said) (number + 1) more) → Reports (cond b (from_device (with_device site said) (number + 1) more) (broken_at [] number))
    by true on = on
    by false on = λ done. absurd (cc)
report_from site number (Does seen ∷ more) done = report_last (Restart site ∷ []) number (Does seen ∷ more) done

-- the report of a script is of the tables after its history
pub script_report : (script : List ℕ) → outcome_of script ≡ Done → EndsWith (output_of script) (report_of (tables (history_of script)))
script_report script = report_from no_site 1 (steps_of 1 script)
