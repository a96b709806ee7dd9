-- The names of a site's devices.
use Rattle.std.specs.Prelude.{ℕ, List, Bool, ◌&&◌}
use Rattle.std.specs.List.{list_any}
use Rattle.std.specs.Str.{bytes_eq}
use Rattle.point_list.specs.Label.{is_label}
use Rattle.point_list.specs.Texts.{has_text}
use Rattle.point_list.specs.declared.device_names.DeviceNames.{DeviceNames}
use Rattle.point_list.specs.declared.device_names.DeviceNames.TheVariants.{Plain, Sorted}
use Rattle.point_list.specs.declared.site.Device.{Device}

-- whether a text is the name of a device, and one that a point can have
abbrev pub has_device : DeviceNames → List ℕ → Bool
has_device (Plain devices) text = is_label text && list_any (λ (d : Device). bytes_eq text d.name) devices.now
has_device (Sorted names) text = is_label text && has_text names text
