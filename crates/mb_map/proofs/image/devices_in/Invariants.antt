use Rattle.std.proofs.Common.{◌≡◌, drop}
use Rattle.toml.specs.View.{items_view}
use Rattle.toml_members.specs.Members.{each}
use Rattle.mb_map.specs.Image.{device_in}
use Rattle.toml_members.proofs.Each.{with_front}
use Rattle.mb_map.proofs.image.devices_in.Given as goal

abbrev pub invariant-loop-index : goal.invariant-loop-index
invariant-loop-index l = with_front l.devices.items (each device_in (items_view (drop l.index l.units))) ≡ each device_in (items_view l.units)
