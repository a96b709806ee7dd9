-- Which points a read covers, and what a reply gives to them.
use Rattle.std.specs.Prelude.{ℕ, ◌+◌, ◌-◌, Bool, ◌&&◌, ◌==◌, cond, nat_le, List, [], map, filter, take, drop, Option, Some, None}
use Rattle.std.specs.List.{list_any}
use Rattle.std.specs.Str.{bytes_eq}
use Rattle.mb_pdu.specs.Packing.{unworded, unpacked}
use Rattle.mb_pdu.specs.Replies.{is_exception, function_of, normal_of, fits_normal}
use Rattle.mb_pdu.specs.declared.reply.Normal.{Normal}
use Rattle.mb_pdu.specs.declared.reply.Normal.TheVariants.{OfBits, OfWords, Echo}
use Rattle.mb_pdu.specs.declared.reply.Reply.{Reply}
use Rattle.mb_pdu.specs.declared.reply.Reply.TheVariants.{Bits, Registers, Written, Excepted}
use Rattle.mb_pdu.specs.declared.table.Table.{Table}
use Rattle.mb_pdu.specs.declared.table.Table.TheVariants.{Coil, Discrete, Holding, Input}
use Rattle.sunspec.specs.PointType.{row}
use Rattle.point_list.specs.declared.point.Point.{Point}
use Rattle.read_planner.specs.declared.Read.{Read}
use Rattle.read_planner.specs.Read.{read_request, is_valid_read}
use Rattle.point_list.specs.declared.site.Site.{Site}
use Rattle.office_core.specs.declared.cover.Asking.{Asking}
use Rattle.office_core.specs.Sites.{device_name}
use Rattle.poll_book.specs.declared.rows.PointRow.{PointRow}
use Rattle.poll_book.specs.Tables.{Readings}
use Rattle.poll_book.specs.Changes.{keyed}

-- what a read asks: of which device, in which slot, and how many points were known
pub record Question : Type 0 where
  pub device : List ℕ
  pub place : ℕ
  pub unit_id : ℕ
  pub slot : ℕ
  pub read : Read
  pub known : ℕ

-- the table that a function reads
abbrev pub reads_table : ℕ → Table → Bool
reads_table function Coil = function == 1
reads_table function Discrete = function == 2
reads_table function Holding = function == 3
reads_table function Input = function == 4

-- a bit has one cell, and a number or a text at least one register
abbrev pub has_size : Table → ℕ → Bool
has_size Coil count = count == 1
has_size Discrete count = count == 1
has_size Holding count = nat_le 1 count
has_size Input count = nat_le 1 count

-- it lies whole in the read
abbrev pub lies_in : Read → ℕ → ℕ → Bool
lies_in read address count = nat_le read.span.start address && nat_le (address + count) (read.span.start + read.span.quantity)

-- the point is of the device and of the table, and lies whole in the read
abbrev pub covers : List ℕ → Read → Point → Bool
covers device read point =
    bytes_eq point.device device && (reads_table read.function point.table
    && (has_size point.table (row point.kind).registers && lies_in read point.address (row point.kind).registers))

abbrev pub ends_in_time : Read → Bool
ends_in_time read = nat_le (read.span.start + read.span.quantity) 65536

abbrev pub some_covered : List PointRow → List ℕ → Read → Bool
some_covered known device read = list_any (λ (point : PointRow). covers device read point.point) known

-- a valid read that ends by the last address and holds a known point of the device whole
abbrev pub is_readable : List PointRow → List ℕ → Read → Bool
is_readable known device read = is_valid_read read && (ends_in_time read && some_covered known device read)

-- the points that a read covers
abbrev pub covered : List PointRow → List ℕ → Read → List PointRow
covered known device read = filter (λ (point : PointRow). covers device read point.point) known

abbrev pub one_or_zero : Bool → ℕ
one_or_zero b = cond b 1 0

abbrev pub cells_of : Normal → List ℕ → List ℕ
cells_of (OfBits quantity) unit = map one_or_zero (unpacked quantity (drop 2 unit))
cells_of (OfWords quantity) unit = unworded (drop 2 unit)
cells_of (Echo text) unit = []

-- the registers of a normal reply to a read, or its bits as 0 and 1
abbrev pub cells : Read → List ℕ → List ℕ
cells read unit = cells_of (normal_of (read_request read)) unit

-- the same of a reply that was read
abbrev pub reply_cells : Reply → List ℕ
reply_cells (Bits bits) = map one_or_zero bits
reply_cells (Registers words) = words
reply_cells Written = []
reply_cells (Excepted code) = []

-- a reply that brings what a read asks for
abbrev pub Brings : Read → Reply → Type 0
Brings read reply = fits_normal (normal_of (read_request read)) reply

-- a point's words at its place in the reply
abbrev pub words_in : Read → List ℕ → Point → List ℕ
words_in read words point = take (row point.kind).registers (drop (point.address - read.span.start) words)

-- what these words give to the points that a read covers
abbrev pub given_of : List PointRow → List ℕ → Read → List ℕ → List (PointRow × List ℕ)
given_of known device read words = map (λ (point : PointRow). (point, words_in read words point.point)) (covered known device read)

-- the readings that a normal reply gives: to the points that were known to its query
abbrev pub given_rows : List PointRow → Question → List ℕ → Readings
given_rows known q unit = keyed q.slot (given_of (take q.known known) q.device q.read (cells q.read unit))

abbrev pub given_named : List PointRow → Option (List ℕ) → Read → List ℕ → List (PointRow × List ℕ)
given_named known None read words = []
given_named known (Some device) read words = given_of known device read words

-- the same of a read whose device stands at its place of a site
abbrev pub given_at : Site → List PointRow → Asking → List ℕ → List (PointRow × List ℕ)
given_at site known asking words = given_named (take asking.known known) (device_name site asking.device) asking.read words

-- a unit spells an exception to a read
abbrev pub excepts : Read → List ℕ → Bool
excepts read unit = is_exception (function_of (read_request read)) unit
