-- Lines and devices of a site, by their names.
use Rattle.std.specs.Prelude.{ℕ, Bool, List, [], Option, Some, None, option_map, slice_get}
use Rattle.std.specs.List.{list_all}
use Rattle.point_list.specs.declared.site.Site.{Site}
use Rattle.point_list.specs.declared.site.Device.{Device}
use Rattle.point_list.specs.Columns.{is_device}
use Rattle.point_list.specs.Sites.{device_of, line_of}
use Rattle.poll_book.specs.declared.rows.PointRow.{PointRow}
use Rattle.office_core.specs.declared.site.Target.{Target}

abbrev pub no_site : Site
no_site = record { lines = []; devices = [] }

-- the place of the line of this name
abbrev pub line_place : Site → List ℕ → Option ℕ
line_place site name = line_of site.lines name

abbrev pub device_place : Site → List ℕ → Option ℕ
device_place site name = device_of site.devices name

abbrev pub target_at : ℕ → Option Device → Option Target
target_at place device = option_map (λ (d : Device). record { place = place; line = d.line; unit_id = d.unit }) device

abbrev pub target_in : List Device → Option ℕ → Option Target
target_in devices None = None
target_in devices (Some place) = target_at place (slice_get devices place)

-- the device of this name: its place, its line and its unit identifier
abbrev pub target : Site → List ℕ → Option Target
target site name = target_in site.devices (device_place site name)

-- the name of the device at a place
abbrev pub device_name : Site → ℕ → Option (List ℕ)
device_name site place = option_map (λ (d : Device). d.name) (slice_get site.devices place)

-- the site has the devices of these points
abbrev pub has_devices : Site → List PointRow → Bool
has_devices site known = list_all (λ (row : PointRow). is_device site row.point.device) known
