-- What a document of TOML says of a site.
use Rattle.std.specs.Prelude.{◌≡◌, ℕ, List, Option, Some, None, Result, Ok, Err, if◌then◌else◌, nat_le, length, codes, ⊤}
use Rattle.toml.specs.Data.{Data, Items, Members, as_array, as_table, get_member, item, no_items}
use Rattle.toml_members.specs.Members.{◌>>=◌, each, entries_at, number_at, number_in, optional_at, optional_entries_at, text_at}
use Rattle.sunspec.specs.declared.chain.Model.{Model}
use Rattle.point_list.specs.declared.site.Site.{Site}
use Rattle.point_list.specs.declared.site.Line.{Line}
use Rattle.point_list.specs.declared.site.Device.{Device}
use Rattle.point_list.specs.declared.error.ListFault.TheVariants.{BadSite, Memory}
use Rattle.point_list.specs.declared.error.ListError.{ListError}
use Rattle.point_list.specs.declared.site_error.SiteError.{SiteError}
use Rattle.point_list.specs.declared.site_error.SiteFault.{SiteFault}
use Rattle.point_list.specs.declared.site_error.SitePlace.{SitePlace}
use Rattle.point_list.specs.declared.site_error.SiteFault.TheVariants.{Memory as OutOfMemory}
use Rattle.point_list.specs.Name.{is_name}
use Rattle.point_list.specs.Sites.{is_sound, line_of}

-- the two refusals of a site file
abbrev pub bad_site : ListError
bad_site = record { fault = BadSite; row = 0; column = 0 }

abbrev pub no_memory : ListError
no_memory = record { fault = Memory; row = 0; column = 0 }

-- what a function returned is what reading gives, unless memory was refused
abbrev pub Fails : {Y : Type 0} → SiteFault → Option Y → Type 0
Fails OutOfMemory read = ⊤
Fails fault read = read ≡ None

abbrev pub Gives : {X Y : Type 0} → (X → Y) → Result X SiteFault → Option Y → Type 0
Gives view (Ok x) read = read ≡ Some (view x)
Gives view (Err fault) read = Fails fault read

-- a fault with its place
abbrev pub placed : {X : Type 0} → SitePlace → Result X SiteFault → Result X SiteError
placed place (Ok x) = Ok x
placed place (Err fault) = Err (record { place = place; fault = fault })

-- the same where an error tells the place, too
abbrev pub GivesAt : {X Y : Type 0} → (X → Y) → Result X SiteError → Option Y → Type 0
GivesAt view (Ok x) read = read ≡ Some (view x)
GivesAt view (Err e) read = Fails e.fault read

-- the name at a key
unfoldable pub name_at : List ℕ → Members → Option (List ℕ)
name_at key t = do
  name ← text_at key t
  if is_name name then Some name else None

-- how many queries of a line may wait: 1 to 16, and 16 where it isn't said
abbrev pub outstanding_in : Option Data → Option ℕ
outstanding_in None = Some 16
outstanding_in (Some value) = do
  count ← number_in 16 value
  if nat_le 1 count then Some count else None

unfoldable pub outstanding_at : Members → Option ℕ
outstanding_at t = outstanding_in (get_member (codes "outstanding") t)

-- a line: a name, an address, and how many of its queries may wait
unfoldable pub line_in : Data → Option Line
line_in d = do
  t ← as_table d
  name ← name_at (codes "name") t
  address ← text_at (codes "address") t
  outstanding ← outstanding_at t
  Some (record { name = name; address = address; outstanding = outstanding })

-- a model: identifier, address and length; the identifier 65,535 is that of the end
abbrev pub model_of : Items → Option Model
model_of (item id (item address (item long no_items))) = do
  id ← number_in 65534 id
  address ← number_in 65535 address
  long ← number_in 65535 long
  Some (record { id = id; address = address; length = long })
model_of _ = None

abbrev pub model_in : Data → Option Model
model_in d = as_array d >>= model_of

-- the models of a device, which may be missing
unfoldable pub models_of : Members → Option (List Model)
models_of t = optional_entries_at (codes "models") t >>= each model_in

-- a device: a name, a line of the site, a unit identifier, and a gap and models that may be missing
unfoldable pub device_in : List Line → Data → Option Device
device_in lines d = do
  t ← as_table d
  name ← name_at (codes "name") t
  line ← text_at (codes "line") t
  place ← line_of lines line
  unit ← number_at (codes "unit") 255 t
  gap ← optional_at (codes "gap") 124 t
  models ← models_of t
  Some (record { name = name; line = place; unit = unit; gap = gap; models = models })

-- the lines of a document, at most 64
unfoldable pub lines_of : Members → Option (List Line)
lines_of doc = do
  entries ← entries_at (codes "line") doc
  lines ← each line_in entries
  if nat_le (length lines) 64 then Some lines else None

-- the devices of a document over its lines
unfoldable pub devices_of : List Line → Members → Option (List Device)
devices_of lines doc = entries_at (codes "device") doc >>= each (device_in lines)

-- the site of a document, if it is one
unfoldable pub site_of : Members → Option Site
site_of doc = do
  lines ← lines_of doc
  devices ← devices_of lines doc
  if is_sound lines devices then Some (record { lines = lines; devices = devices }) else None
