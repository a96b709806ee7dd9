use Rattle.std.proofs.Common.{◌≡◌, drop}
use Rattle.toml.specs.View.{items_view}
use Rattle.toml_members.specs.Members.{each}
use Rattle.point_list.specs.SiteFile.{device_in}
use Rattle.toml_members.proofs.Each.{with_front}
use Rattle.point_list.proofs.site_file.devices_in.Given as goal

abbrev pub invariant-loop-index : goal.invariant-loop-index
invariant-loop-index l = with_front l.devices.items (each (device_in l.lines) (items_view (drop l.index l.entries))) ≡ each (device_in l.lines) (items_view l.entries)
