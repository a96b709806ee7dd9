-- What a device answers to a request, and what becomes of its tables: a relation by cases, in the order of a
-- device's checks (Modbus Application Protocol V1.1b3, 6 and 7).
use Rattle.std.specs.Prelude.{◌≡◌, ℕ, ◌-◌, Bool, cond, List, [], ◌∷◌, length, map, slice_index, Some, bit_and, bit_or}
use Rattle.mb_pdu.specs.declared.error.UnitError.{UnitError}
use Rattle.mb_pdu.specs.declared.error.UnitError.TheVariants.{UnknownFunction}
use Rattle.mb_pdu.specs.declared.reply.Reply.{Reply}
use Rattle.mb_pdu.specs.declared.reply.Reply.TheVariants.{Bits, Registers, Written}
use Rattle.mb_pdu.specs.declared.request.Request.{Request}
use Rattle.mb_pdu.specs.declared.request.Request.TheVariants.{ReadCoils, ReadDiscrete, ReadHolding, ReadInput, WriteCoil, WriteRegister, WriteCoils, WriteRegisters, MaskWrite, ReadWrite}
use Rattle.mb_pdu.specs.declared.request.Span.{Span}
use Rattle.mb_pdu.specs.Checks.{first_fault}
use Rattle.mb_pdu.specs.Grammar.{spells}
use Rattle.mb_pdu.specs.Replies.{spells_reply}
use Rattle.mb_map.specs.Tables.{Cells, Holds, IsWhole, Tables, cell_at, written}

-- an exception: the function byte with its highest bit set, and a code
abbrev pub exception : List ℕ → ℕ → List ℕ
exception asked code = bit_or (slice_index asked 0) 128 ∷ code ∷ []

-- the code for bytes that are no request: a function that isn't known is told before any other fault
abbrev pub code_of : UnitError → ℕ
code_of (UnknownFunction function) = 1
code_of fault = 3

-- no request spells the bytes, and this check is the first that fails
abbrev pub IsFaulty : List ℕ → UnitError → Type 0
IsFaulty asked fault = ((request : Request) → spells request asked → ⊥) × (first_fault asked ≡ Some fault)

-- every range of a request is whole in its table
abbrev pub IsInside : Request → Tables → Type 0
IsInside (ReadCoils span) tables = IsWhole span.start span.quantity tables.coils
IsInside (ReadDiscrete span) tables = IsWhole span.start span.quantity tables.discrete
IsInside (ReadHolding span) tables = IsWhole span.start span.quantity tables.holding
IsInside (ReadInput span) tables = IsWhole span.start span.quantity tables.input
IsInside (WriteCoil address on) tables = IsWhole address 1 tables.coils
IsInside (WriteRegister address value) tables = IsWhole address 1 tables.holding
IsInside (WriteCoils start bits) tables = IsWhole start (length bits) tables.coils
IsInside (WriteRegisters start words) tables = IsWhole start (length words) tables.holding
IsInside (MaskWrite address and_mask or_mask) tables = IsWhole address 1 tables.holding
IsInside (ReadWrite read write_start words) tables = IsWhole read.start read.quantity tables.holding × IsWhole write_start (length words) tables.holding

-- a bit as the number of its cell
abbrev pub number_of : Bool → ℕ
number_of bit = cond bit 1 0

-- the cells of a span hold these numbers, one for each
abbrev pub Reads : Cells → Span → List ℕ → Type 0
Reads cells span numbers = (length numbers ≡ span.quantity) × Holds span.start numbers cells

-- a register after a mask write
abbrev pub masked : ℕ → ℕ → ℕ → ℕ
masked old and_mask or_mask = bit_or (bit_and old and_mask) (bit_and or_mask (65535 - and_mask))

-- the register at an address is changed by masks
abbrev pub IsMasked : ℕ → ℕ → ℕ → Tables → Tables → Type 0
IsMasked address and_mask or_mask before after = (old : ℕ) × (cell_at address before.holding ≡ Some old)
    × (after ≡ record before { holding = written address (masked old and_mask or_mask ∷ []) before.holding })

-- what a request that passes every check does: the tables before it, the normal reply, and the tables after it
abbrev pub Does : Request → Tables → Reply → Tables → Type 0
Does (ReadCoils span) before (Bits bits) after = (after ≡ before) × Reads before.coils span (map number_of bits)
Does (ReadDiscrete span) before (Bits bits) after = (after ≡ before) × Reads before.discrete span (map number_of bits)
Does (ReadHolding span) before (Registers words) after = (after ≡ before) × Reads before.holding span words
Does (ReadInput span) before (Registers words) after = (after ≡ before) × Reads before.input span words
Does (WriteCoil address on) before Written after = after ≡ record before { coils = written address (number_of on ∷ []) before.coils }
Does (WriteRegister address value) before Written after = after ≡ record before { holding = written address (value ∷ []) before.holding }
Does (WriteCoils start bits) before Written after = after ≡ record before { coils = written start (map number_of bits) before.coils }
Does (WriteRegisters start words) before Written after = after ≡ record before { holding = written start words before.holding }
Does (MaskWrite address and_mask or_mask) before Written after = IsMasked address and_mask or_mask before after
Does (ReadWrite read write_start words) before (Registers found) after =
    (after ≡ record before { holding = written write_start words before.holding }) × Reads after.holding read found
Does request before reply after = ⊥

-- one step of a device: the tables before it, the request's bytes, the reply's bytes, the tables after it
pub data DeviceStep : Tables → List ℕ → List ℕ → Tables → Type 0 where
  faulty : (fault : UnitError) (before : Tables) (asked answer : List ℕ) (after : Tables)
      → IsFaulty asked fault → answer ≡ exception asked (code_of fault) → after ≡ before → DeviceStep before asked answer after
  outside : (request : Request) (before : Tables) (asked answer : List ℕ) (after : Tables)
      → spells request asked → (IsInside request before → ⊥) → answer ≡ exception asked 2 → after ≡ before → DeviceStep before asked answer after
  done : (request : Request) (reply : Reply) (before : Tables) (asked answer : List ℕ) (after : Tables)
      → spells request asked → IsInside request before → Does request before reply after → spells_reply request reply answer → DeviceStep before asked answer after
