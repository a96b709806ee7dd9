-- The lines that declare devices.
use Rattle.std.proofs.Common.{◌≡◌, ◌+◌, ℕ, List, [], ◌∷◌, true, false, length, refl, ap, ◌∙◌, Option, Some, None, arith}
use Rattle.std.specs.Str.Lines.{lines}
use Rattle.point_list.specs.declared.site.Site.{Site}
use Rattle.point_list.specs.declared.site.Line.{Line}
use Rattle.point_list.specs.declared.site.Device.{Device}
use Rattle.point_list.specs.Sites.{all_differ, is_sound}
use Rattle.office_core.specs.declared.event.Event.{Event}
use Rattle.office_script.specs.declared.device.Declared.{Declared}
use Rattle.office_script.specs.Commands.{event_of}
use Rattle.office_script.specs.Devices.{device_of, with_device, is_site}
use Rattle.office_script.specs.Scripts.{Step, steps_in, steps_of, step_of, Declares, Does, Skipped, Wrong, is_skipped, does, declared_in, declared_by, from_device, begun, broken_at}

-- a text's first line is its first step
pub first_step : (number : ℕ) (text line rest : List ℕ) → lines text ≡ line ∷ lines rest → steps_of number text ≡ step_of number line ∷ steps_of (number + 1) rest
first_step number text line rest e = ap (steps_in number) e

-- a skipped line counts as a line
pub skipped : (site : Site) (number : ℕ) (text line rest : List ℕ) → lines text ≡ line ∷ lines rest → is_skipped line ≡ true
    → from_device site number (steps_of number text) ≡ from_device site (number + 1) (steps_of (number + 1) rest)
skipped site number text line rest e h = rw (e, h) refl

-- what a line that isn't skipped is for
read : (number : ℕ) (line : List ℕ) → is_skipped line ≡ false → step_of number line ≡ does (event_of number line) (device_of line)
read number line h = rw h refl

-- a step that declares a device is that device's
declares : (step : Step) (said : Declared) → Some said ≡ declared_in step → step ≡ Declares said
declares Skipped said e = absurd (cc)
declares Wrong said e = absurd (cc)
declares (Declares other) said e = let same : other ≡ said = cc in ap Declares same
declares (Does seen) said e = absurd (cc)

-- a text's first line that declares a device
declaring_step : (number : ℕ) (text line rest : List ℕ) (said : Declared) → lines text ≡ line ∷ lines rest → Some said ≡ declared_by number line
    → steps_of number text ≡ Declares said ∷ steps_of (number + 1) rest
declaring_step number text line rest said e d = first_step number text line rest e ∙ ap (λ step. step ∷ steps_of (number + 1) rest) (declares (step_of number line) said d)

-- a device more
pub declared : (site : Site) (number : ℕ) (text line rest : List ℕ) (said : Declared) → lines text ≡ line ∷ lines rest → Some said ≡ declared_by number line → is_site (with_device site said) ≡ true
    → from_device site number (steps_of number text) ≡ from_device (with_device site said) (number + 1) (steps_of (number + 1) rest)
declared site number text line rest said e d s = let steps = declaring_step number text line rest said e d in rw (steps, s) refl

-- a device that makes no site
pub broken : (site : Site) (number : ℕ) (text line rest : List ℕ) (said : Declared) → lines text ≡ line ∷ lines rest → Some said ≡ declared_by number line → is_site (with_device site said) ≡ false
    → from_device site number (steps_of number text) ≡ broken_at [] number
broken site number text line rest said e d s = let steps = declaring_step number text line rest said e d in rw (steps, s) refl

begun_by : (site : Site) (number : ℕ) (o : Option Event) (p : Option Declared) (more : List Step) → None ≡ declared_in (does o p)
    → from_device site number (does o p ∷ more) ≡ begun site number (does o p ∷ more)
begun_by site number (Some seen) p more none = refl
begun_by site number None None more none = refl
begun_by site number None (Some said) more none = absurd (cc)

-- a line that declares no device begins the rest
pub ready : (site : Site) (number : ℕ) (text line rest : List ℕ) → lines text ≡ line ∷ lines rest → is_skipped line ≡ false → None ≡ declared_by number line
    → from_device site number (steps_of number text) ≡ begun site number (steps_of number text)
ready site number text line rest e h d = rw (e, h) (begun_by site number (event_of number line) (device_of line) (steps_of (number + 1) rest) (d ∙ ap declared_in (read number line h)))

-- and so does the end
pub ready_at_end : (site : Site) (number : ℕ) (text : List ℕ) → length text ≡ 0 → from_device site number (steps_of number text) ≡ begun site number (steps_of number text)
ready_at_end site number [] none = refl
ready_at_end site number (x ∷ xs) none = absurd (omega arith)

-- no lines and no devices make a site
pub nothing_sound : (lines : List Line) (devices : List Device) → lines ≡ [] → devices ≡ [] → is_sound lines devices ≡ true
unfolding all_differ
nothing_sound lines devices e f = rw (e, f) refl
