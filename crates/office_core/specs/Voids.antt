-- What becomes of a slot of a counter that is voided.
use Rattle.std.specs.Prelude.{◌≡◌, ℕ, Bool, not, ◌&&◌, nat_le, [], length, Option, Some, None, if◌then◌else◌}
use Rattle.poll_book.specs.declared.rows.PointRow.{PointRow}
use Rattle.poll_book.specs.declared.rows.VoidRow.{VoidRow}
use Rattle.poll_book.specs.declared.requests.RequestFault.{RequestFault}
use Rattle.poll_book.specs.declared.requests.RequestFault.TheVariants as fault
use Rattle.poll_book.specs.declared.requests.Outcome.{Outcome}
use Rattle.poll_book.specs.declared.requests.Outcome.TheVariants.{Voided, RefusedFor}
use Rattle.poll_book.specs.declared.rows.Change.{Change}
use Rattle.poll_book.specs.Changes.{as_rows, as_sums, new_void, struck, struck_sums}
use Rattle.poll_book.specs.Tables.{Key, Readings, Sums, Tables, Voids, is_void, with_void}
use Rattle.poll_book.specs.Totals.{is_counter}

-- it is refused, or it is a slot of this point
pub data Voiding : Type 0 where
  Refused : (fault : RequestFault) → Voiding
  Taken : (point : PointRow) → Voiding

-- 1,000,000 pairs are voided, and this isn't one of them
abbrev pub is_full : Voids → Key → Bool
is_full voids key = nat_le 1000000 (length voids) && not (is_void voids key)

abbrev pub voiding_of : Voids → Option PointRow → ℕ → Voiding
voiding_of voids None slot = Refused fault.UnknownPoint
voiding_of voids (Some known) slot =
    if is_counter known.point.role then (if is_full voids (known.number, slot) then Refused fault.TooManyVoids else Taken known)
    else Refused fault.NotACounter

abbrev pub refused_void : RequestFault → Outcome
refused_void fault = RefusedFor (record { fault = fault; row = 0; column = 0 })

abbrev pub voided : ℕ → Voiding → Outcome
voided slot (Refused fault) = refused_void fault
voided slot (Taken known) = Voided slot

-- the pairs with it
abbrev pub with_voiding : ℕ → Voiding → Voids → Voids
with_voiding slot (Refused fault) table = table
with_voiding slot (Taken known) table = with_void (known.number, slot) table

-- the rows that change by it, the totals, and the pair if it is new
abbrev pub rows_of : Tables → ℕ → Voiding → Readings
rows_of kept slot (Refused fault) = []
rows_of kept slot (Taken known) = struck kept known slot

abbrev pub sums_of : Tables → ℕ → Voiding → Sums
sums_of kept slot (Refused fault) = []
sums_of kept slot (Taken known) = struck_sums kept known slot

abbrev pub pair_of : Tables → ℕ → Voiding → Option VoidRow
pair_of kept slot (Refused fault) = None
pair_of kept slot (Taken known) = new_void kept.voids known slot

-- a change of these alone
pub record VoidsIn (kept : Tables) (slot : ℕ) (what : Voiding) (change : Change) : Type 0 where
  pub alone : change ≡ record { points = []; readings = change.readings; totals = change.totals; void = change.void; setting = None; request = None; connections = None }
  pub readings : as_rows change.readings ≡ rows_of kept slot what
  pub totals : as_sums change.totals ≡ sums_of kept slot what
  pub void : change.void ≡ pair_of kept slot what
