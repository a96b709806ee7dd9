-- Reads by their numbers, and allowed reads cut at a start.
use Rattle.std.proofs.Common.{◌≡◌, ◌≤◌, ◌<◌, ◌-◌, ℕ, true, List, arith, refl}
use Rattle.std.specs.Prelude.{nat_le}
use Rattle.std.proofs.lemmas.Bool.{and_parts, leb-true, le-leb}
use Rattle.read_planner.specs.declared.Read.{Read}
use Rattle.read_planner.specs.declared.place.Place.{Place}
use Rattle.read_planner.specs.Read.{is_valid_read, limit_of, end_of}
use Rattle.read_planner.specs.Allowed.{IsAllowed}

-- a valid read asks for something, and for no more than its limit
pub some_of : (read : Read) → is_valid_read read ≡ true → 1 ≤ read.span.quantity
some_of read h = leb-true 1 read.span.quantity (and_parts (nat_le 1 read.span.quantity) (nat_le read.span.quantity (limit_of read.function)) h).0

pub few_of : (read : Read) → is_valid_read read ≡ true → read.span.quantity ≤ limit_of read.function
few_of read h = leb-true read.span.quantity (limit_of read.function) (and_parts (nat_le 1 read.span.quantity) (nat_le read.span.quantity (limit_of read.function)) h).1

-- and such a read is valid
pub valid_of : (read : Read) → 1 ≤ read.span.quantity → read.span.quantity ≤ limit_of read.function → is_valid_read read ≡ true
valid_of read some few =
    let one = le-leb 1 read.span.quantity some in
    let other = le-leb read.span.quantity (limit_of read.function) few in
    rw (one, other) refl

-- the read by a function from a start up to an end
abbrev pub read_between : ℕ → ℕ → ℕ → Read
read_between function start end = record { function = function; span = record { start = start; quantity = end - start } }

-- what is left of an allowed read from a start within it
pub cut : (places : List Place) (gap : ℕ) (read : Read) (start : ℕ) → IsAllowed places gap read → read.span.start ≤ start → start < end_of read
    → IsAllowed places gap (read_between read.function start (end_of read))
cut places gap read start allowed from below =
    let few = few_of read allowed.valid in
    record {
      valid = valid_of (read_between read.function start (end_of read)) (omega arith) (omega arith);
      inside = omega (arith, allowed.inside);
      bridged = λ address later sooner. allowed.bridged address (omega arith) (omega arith);
    }
