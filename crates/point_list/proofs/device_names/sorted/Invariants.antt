use Rattle.std.proofs.Common.{◌≡◌, ◌&&◌, ℕ, List, take}
use Rattle.std.specs.List.{list_any}
use Rattle.std.specs.Str.{bytes_eq}
use Rattle.point_list.specs.Label.{is_label}
use Rattle.point_list.specs.Texts.{has_text}
use Rattle.point_list.specs.declared.site.Device.{Device}
use Rattle.point_list.proofs.device_names.sorted.Given as goal

abbrev pub invariant-loop-device : goal.invariant-loop-device
invariant-loop-device l = (text : List ℕ) → has_text l.names text ≡ (is_label text && list_any (λ (d : Device). bytes_eq text d.name) (take l.device-index l.devices))
