-- The devices that a script declares, and the site that they make.
use Rattle.std.specs.Prelude.{ℕ, List, [], ◌∷◌, ◌++◌, Bool, ◌&&◌, Option, Some, None, if◌then◌else◌, length, ◌==◌, codes}
use Rattle.std.specs.Str.{bytes_eq}
use Rattle.sunspec.specs.Digits.{number_within}
use Rattle.point_list.specs.Sites.{is_sound}
use Rattle.point_list.specs.declared.site.Site.{Site}
use Rattle.point_list.specs.declared.site.Line.{Line}
use Rattle.office_core.specs.Sites.{line_place}
use Rattle.office_script.specs.declared.device.Declared.{Declared}
use Rattle.office_script.specs.Words.{is_text, words_of, word_at}
use Rattle.office_script.specs.Commands.{byte_limit}

abbrev pub declaring : List ℕ → List ℕ → Option ℕ → Option Declared
declaring name line (Some unit) = if is_text name && is_text line then Some (record { name = name; line = line; unit = unit }) else None
declaring name line None = None

-- `device NAME LINE UNIT`
abbrev pub device_of_words : List (List ℕ) → Option Declared
device_of_words words =
    if length words == 4 && bytes_eq (word_at words 0) (codes "device")
    then declaring (word_at words 1) (word_at words 2) (number_within byte_limit (word_at words 3))
    else None

abbrev pub device_of : List ℕ → Option Declared
device_of line = device_of_words (words_of line)

-- ---- the site

-- a script's line is reached nowhere
abbrev pub line_named : List ℕ → Line
line_named name = record { name = name; address = []; outstanding = 16 }

-- a line that a device names is one of the site's, or a new one behind them
abbrev pub lines_with : List Line → List ℕ → Option ℕ → List Line
lines_with lines name (Some place) = lines
lines_with lines name None = lines ++ line_named name ∷ []

abbrev pub place_with : List Line → Option ℕ → ℕ
place_with lines (Some place) = place
place_with lines None = length lines

-- the site with a device more
abbrev pub with_device : Site → Declared → Site
with_device site said = record {
  lines = lines_with site.lines said.line (line_place site said.line);
  devices = site.devices ++ record { name = said.name; line = place_with site.lines (line_place site said.line); unit = said.unit; gap = 0; models = [] } ∷ [];
}

-- its parts agree
abbrev pub is_site : Site → Bool
is_site site = is_sound site.lines site.devices
