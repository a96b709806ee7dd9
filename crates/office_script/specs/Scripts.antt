-- What a script means: what is printed for its lines, how it ends, and what happens in it.
use Rattle.std.specs.Prelude.{ℕ, ◌+◌, List, [], ◌∷◌, ◌++◌, Bool, ◌||◌, Option, Some, None, if◌then◌else◌, length, ◌==◌, slice_index}
use Rattle.std.specs.Str.Lines.{lines}
use Rattle.point_list.specs.declared.site.Site.{Site}
use Rattle.office_core.specs.declared.event.Event.{Event}
use Rattle.office_core.specs.Sites.{no_site}
use Rattle.office_core.specs.History.{History, Restart, tables}
use Rattle.office_core.specs.Answers.{answer_of}
use Rattle.office_core.specs.Messages.{happening_of}
use Rattle.office_script.specs.declared.device.Declared.{Declared}
use Rattle.office_script.specs.declared.player.Replayed.{Replayed}
use Rattle.office_script.specs.declared.player.Replayed.TheVariants.{Done, FaultLine}
use Rattle.office_script.specs.Commands.{event_of}
use Rattle.office_script.specs.Devices.{device_of, with_device, is_site}
use Rattle.office_script.specs.Printing.{answer_line, fault_line, report_of}

-- ---- lines

-- what a line is for
pub data Step : Type 0 where
  Skipped : Step
  Wrong : Step
  Declares : (said : Declared) → Step
  Does : (seen : Event) → Step

-- an empty line, or a comment
abbrev pub is_skipped : List ℕ → Bool
is_skipped line = length line == 0 || slice_index line 0 == 35

abbrev pub does : Option Event → Option Declared → Step
does (Some seen) said = Does seen
does None (Some said) = Declares said
does None None = Wrong

-- the line of this number
abbrev pub step_of : ℕ → List ℕ → Step
step_of number line = if is_skipped line then Skipped else does (event_of number line) (device_of line)

abbrev pub declared_in : Step → Option Declared
declared_in Skipped = None
declared_in Wrong = None
declared_in (Declares said) = Some said
declared_in (Does seen) = None

-- the device that the line of this number declares
abbrev pub declared_by : ℕ → List ℕ → Option Declared
declared_by number line = declared_in (step_of number line)

-- the lines from this number on
abbrev pub steps_in : ℕ → List (List ℕ) → List Step
steps_in number [] = []
steps_in number (line ∷ more) = step_of number line ∷ steps_in (number + 1) more

-- the lines of a text, each ended by a line feed or a carriage return and a line feed, the last perhaps by nothing;
-- the first has this number
abbrev pub steps_of : ℕ → List ℕ → List Step
steps_of number text = steps_in number (lines text)

-- ---- what is printed

-- what an event prints after what happened before
abbrev pub printed_for : History → Event → List ℕ
printed_for before seen = answer_line (answer_of before (happening_of before seen))

-- what happened by then
abbrev pub then_before : History → Event → History
then_before before seen = happening_of before seen ∷ before

-- what comes of the lines from one on: what they print, how they end, and what happened by then
pub record Course : Type 0 where
  pub text : List ℕ
  pub ending : Replayed
  pub history : History

-- a text before all else
abbrev pub after : List ℕ → Course → Course
after text course = record course { text = text ++ course.text }

-- a line of another form: its number and nothing more
abbrev pub broken_at : History → ℕ → Course
broken_at before number = record { text = fault_line number; ending = FaultLine number; history = before }

-- from the line of this number on: an answer for each event, and at the end the report
abbrev pub from_line : History → ℕ → List Step → Course
from_line before number [] = record { text = report_of (tables before); ending = Done; history = before }
from_line before number (Skipped ∷ more) = from_line before (number + 1) more
from_line before number (Wrong ∷ more) = broken_at before number
from_line before number (Declares said ∷ more) = broken_at before number
from_line before number (Does seen ∷ more) = after (printed_for before seen) (from_line (then_before before seen) (number + 1) more)

-- ---- the devices, which are declared before all else

-- an office of this site begins, and goes on so
abbrev pub begun : Site → ℕ → List Step → Course
begun site number steps = from_line (Restart site ∷ []) number steps

-- an office begins at the first line that declares no device; where a device makes no site none does
abbrev pub from_device : Site → ℕ → List Step → Course
from_device site number [] = begun site number []
from_device site number (Skipped ∷ more) = from_device site (number + 1) more
from_device site number (Wrong ∷ more) = begun site number (Wrong ∷ more)
from_device site number (Declares said ∷ more) = if is_site (with_device site said) then from_device (with_device site said) (number + 1) more else broken_at [] number
from_device site number (Does seen ∷ more) = begun site number (Does seen ∷ more)

-- ---- the whole

abbrev pub course_of : List ℕ → Course
course_of script = from_device no_site 1 (steps_of 1 script)

-- the output of a script
abbrev pub output_of : List ℕ → List ℕ
output_of script = (course_of script).text

-- how it ends
abbrev pub outcome_of : List ℕ → Replayed
outcome_of script = (course_of script).ending

-- what happens in it
abbrev pub history_of : List ℕ → History
history_of script = (course_of script).history
