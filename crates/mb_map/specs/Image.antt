-- What a simulator file says: a document of TOML with a table for each unit, and a script.
use Rattle.std.specs.Prelude.{◌≡◌, ℕ, ◌+◌, List, Bool, not, ◌&&◌, ◌==◌, nat_le, nat_lt, length, drop, codes, slice_index, Option, Some, None, Result, Ok, Err, ⊤, if◌then◌else◌, option_map, take}
use Rattle.std.specs.Char.{is_ascii_digit}
use Rattle.std.specs.List.{enumerate_from, list_all}
use Rattle.std.specs.Str.{bytes_eq}
use Rattle.std.specs.Str.Parse.{digits_value}
use Rattle.toml.specs.Data.{Data, Members, as_str, as_table}
use Rattle.toml_members.specs.Members.{◌>>=◌, each, number_at, number_in, optional_at, optional_entries_at}
use Rattle.mb_map.specs.declared.image_error.ImageError.{ImageError}
use Rattle.mb_map.specs.declared.image_error.ImageFault.{ImageFault}
use Rattle.mb_map.specs.declared.image_error.ImageFault.TheVariants.{Memory}
use Rattle.mb_map.specs.declared.image_error.ImagePlace.{ImagePlace}
use Rattle.mb_map.specs.declared.step.Step.{Step}
use Rattle.mb_map.specs.declared.step.Step.TheVariants.{Drop, Hold, Pass, Twice}
use Rattle.mb_map.specs.Queue.{differ}
use Rattle.mb_map.specs.Schedule.{Simulated, begun}
use Rattle.mb_map.specs.Tables.{Cells, Tables}

-- what a function returned is what reading gives, unless memory ran out
abbrev pub Fails : {Y : Type 0} → ImageFault → Option Y → Type 0
Fails Memory read = ⊤
Fails fault read = read ≡ None

abbrev pub Gives : {X Y : Type 0} → (X → Y) → Result X ImageFault → Option Y → Type 0
Gives view (Ok x) read = read ≡ Some (view x)
Gives view (Err fault) read = Fails fault read

-- a fault with its place
abbrev pub placed : {X : Type 0} → ImagePlace → Result X ImageFault → Result X ImageError
placed place (Ok x) = Ok x
placed place (Err fault) = Err (record { place = place; fault = fault })

-- the same where an error tells the place, too
abbrev pub GivesAt : {X Y : Type 0} → (X → Y) → Result X ImageError → Option Y → Type 0
GivesAt view (Ok x) read = read ≡ Some (view x)
GivesAt view (Err e) read = Fails e.fault read

-- ---- a unit

-- the cells of a list from a start on, none past the address 65,535
unfoldable pub cells_at : List ℕ → List ℕ → ℕ → Members → Option Cells
cells_at key start_key greatest table = do
  entries ← optional_entries_at key table
  numbers ← each (number_in greatest) entries
  start ← optional_at start_key 65536 table
  if nat_le (start + length numbers) 65536 then Some (enumerate_from start numbers) else None

unfoldable pub device_in : Data → Option (ℕ × Tables)
device_in unit = do
  table ← as_table unit
  id ← number_at (codes "id") 255 table
  coils ← cells_at (codes "coils") (codes "coils_start") 1 table
  discrete ← cells_at (codes "discrete") (codes "discrete_start") 1 table
  input ← cells_at (codes "input") (codes "input_start") 65535 table
  holding ← cells_at (codes "holding") (codes "holding_start") 65535 table
  Some (id, record { coils = coils; discrete = discrete; input = input; holding = holding })

-- ---- a script

-- 1 to 255 in one to three digits, the first of them not 0
abbrev pub is_frames : List ℕ → Bool
is_frames text =
    nat_lt 0 (length text) && (nat_le (length text) 3 && (not (slice_index text 0 == 48) && (list_all is_ascii_digit text && nat_le (digits_value 10 text) 255)))

abbrev pub frames_of : List ℕ → Option ℕ
frames_of text = if is_frames text then Some (digits_value 10 text) else None

abbrev pub hold_of : List ℕ → Option Step
hold_of text = if bytes_eq (take 5 text) (codes "hold ") then option_map Hold (frames_of (drop 5 text)) else None

unfoldable pub step_of : List ℕ → Option Step
step_of text =
    if bytes_eq text (codes "pass") then Some Pass
    else if bytes_eq text (codes "drop") then Some Drop
    else if bytes_eq text (codes "twice") then Some Twice
    else hold_of text

unfoldable pub step_in : Data → Option Step
step_in entry = as_str entry >>= step_of

-- ---- the file

-- the simulator of a document, before its first call
unfoldable pub image_of : Members → Option Simulated
image_of document = do
  units ← optional_entries_at (codes "unit") document
  devices ← each device_in units
  steps ← optional_entries_at (codes "script") document
  script ← each step_in steps
  if differ devices then Some (begun devices script) else None
