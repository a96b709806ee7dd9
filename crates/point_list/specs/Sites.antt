-- Sites whose parts agree with each other.
use Rattle.std.specs.Prelude.{◌≡◌, ℕ, ◌+◌, List, [], ◌∷◌, Option, Some, None, Bool, true, not, ◌&&◌, ◌==◌, nat_le, nat_lt, length, slice_get}
use Rattle.std.specs.List.{find, list_any, list_all, position}
use Rattle.std.specs.Str.{bytes_eq}
use Rattle.sunspec.specs.declared.chain.Model.{Model}
use Rattle.point_list.specs.declared.site.Site.{Site}
use Rattle.point_list.specs.declared.site.Line.{Line}
use Rattle.point_list.specs.declared.site.Device.{Device}

-- the place of the line of this name
abbrev pub line_of : List Line → List ℕ → Option ℕ
line_of lines name = position (λ (x : Line). bytes_eq x.name name) lines

-- the place of the device of this name
abbrev pub device_of : List Device → List ℕ → Option ℕ
device_of devices name = position (λ (x : Device). bytes_eq x.name name) devices

-- the line of this name, and the device of this name
abbrev pub line_named : Site → List ℕ → Option Line
line_named site name = find (λ (x : Line). bytes_eq x.name name) site.lines

abbrev pub device_named : Site → List ℕ → Option Device
device_named site name = find (λ (x : Device). bytes_eq x.name name) site.devices

-- how many queries of a line may wait: 16 where it is none of the site's
abbrev pub outstanding_of : Option Line → ℕ
outstanding_of None = 16
outstanding_of (Some line) = line.outstanding

abbrev pub outstanding_on : Site → ℕ → ℕ
outstanding_on site line = outstanding_of (slice_get site.lines line)

-- 1 to 16 queries of it may wait
abbrev pub is_limited : Line → Bool
is_limited line = nat_le 1 line.outstanding && nat_le line.outstanding 16

-- no two of them are equal
unfoldable pub all_differ : {A : Type 0} → (A → A → Bool) → List A → Bool
all_differ equal [] = true
all_differ equal (x ∷ xs) = not (list_any (λ y. equal y x) xs) && all_differ equal xs

abbrev pub same_line_name : Line → Line → Bool
same_line_name x y = bytes_eq x.name y.name

abbrev pub same_device_name : Device → Device → Bool
same_device_name x y = bytes_eq x.name y.name

abbrev pub same_place : Device → Device → Bool
same_place x y = (x.line == y.line) && (x.unit == y.unit)

-- each device's line is a place among so many lines
abbrev pub have_lines : ℕ → List Device → Bool
have_lines lines devices = list_all (λ (d : Device). nat_lt d.line lines) devices

-- each device's models end before the last address
abbrev pub has_room : Model → Bool
has_room model = nat_le (model.address + 2 + model.length) 65535

abbrev pub have_room : List Device → Bool
have_room devices = list_all (λ (d : Device). list_all has_room d.models) devices

-- there are at most 64 lines and 256 devices, names differ, 1 to 16 queries of a line may wait, each device has a line,
-- no two share line and unit, and models end before the last address
abbrev pub is_sound : List Line → List Device → Bool
is_sound lines devices =
    nat_le (length lines) 64 && (nat_le (length devices) 256 && (all_differ same_line_name lines && (list_all is_limited lines
    && (all_differ same_device_name devices && (have_lines (length lines) devices && (all_differ same_place devices && have_room devices))))))

-- a site whose parts agree
abbrev pub IsSound : Site → Type 0
IsSound site = is_sound site.lines site.devices ≡ true
