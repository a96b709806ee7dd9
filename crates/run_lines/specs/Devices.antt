-- The devices of a line.
use Rattle.std.specs.Prelude.{ℕ, Bool, ◌==◌, List}
use Rattle.std.specs.Str.{bytes_eq}
use Rattle.run_lines.specs.declared.station.Station.{Station}
use Rattle.run_lines.specs.declared.station.Stations.{Stations}

-- in the site's order
abbrev pub devices_in : Stations → List Station
devices_in stations = stations.all.items

-- it has this unit identifier
abbrev pub is_under : ℕ → Station → Bool
is_under unit_id station = station.unit_id == unit_id

-- it has this name
abbrev pub is_named : List ℕ → Station → Bool
is_named name station = bytes_eq station.name name
