-- Points by their devices.
use Rattle.std.specs.Prelude.{◌≡◌, ℕ, ◌+◌, ◌≤◌, ⊤, Bool, cond, List, [], ◌∷◌, take, filter_map, length, slice_get, Option, Some, None, Vec}
use Rattle.std.specs.Global.{Global}
use Rattle.std.specs.BTreeMap.{get}
use Rattle.std.specs.Borrow.{Bor}
use Rattle.std.specs.Cmp.Lexicographic.{slice_cmp}
use Rattle.std.specs.Ordering.{nat_cmp}
use Rattle.std.specs.Str.{bytes_eq}
use Rattle.poll_book.specs.declared.rows.PointRow.{PointRow}
use Rattle.office_core.specs.declared.by_device.ByDevice.{ByDevice}

-- the point is of the device of this name
abbrev pub is_of : List ℕ → PointRow → Bool
is_of device row = bytes_eq row.point.device device

-- the places of the points of a device among these, of which the first stands at this place
abbrev pub places_from : ℕ → List ℕ → List PointRow → List ℕ
places_from n device [] = []
places_from n device (row ∷ known) = cond (is_of device row) (n ∷ places_from (n + 1) device known) (places_from (n + 1) device known)

abbrev pub places_in : Option (Vec ℕ Global) → List ℕ
places_in None = []
places_in (Some places) = places.items

-- the places that stand under a name
abbrev pub listed : ByDevice → List ℕ → List ℕ
listed devices device = places_in (get (slice_cmp nat_cmp) devices.places device)

-- under each name stand the places of the points of that device, of the first so many known ones
abbrev pub AreDevicesOf : List PointRow → ByDevice → Type 0
AreDevicesOf known devices = (devices.count ≤ length known) × ((device : List ℕ) → listed devices device ≡ places_from 0 device (take devices.count known))

-- these are the places of the points of a device, if they are told
abbrev pub AreTheirs : List PointRow → List ℕ → Option (Bor (List ℕ)) → Type 0
AreTheirs known device None = ⊤
AreTheirs known device (Some places) = places.now ≡ places_from 0 device known

-- the points at these places
abbrev pub points_at : List PointRow → List ℕ → List PointRow
points_at known places = filter_map (slice_get known) places
