-- What a read asks for (Modbus Application Protocol V1.1b3, sections 6.1 to 6.4).
use Rattle.std.specs.Prelude.{ℕ, ◌+◌, ◌≤◌, Bool, ◌&&◌, ◌==◌, nat_le, if◌then◌else◌}
use Rattle.mb_pdu.specs.declared.request.Request.{Request}
use Rattle.mb_pdu.specs.declared.request.Request.TheVariants.{ReadCoils, ReadDiscrete, ReadHolding, ReadInput}
use Rattle.read_planner.specs.declared.Read.{Read}

-- the four reading functions
abbrev pub IsReadFunction : ℕ → Type 0
IsReadFunction function = (1 ≤ function) × (function ≤ 4)

-- how many items a read of a function may ask for
abbrev pub limit_of : ℕ → ℕ
limit_of function =
    if function == 1 then 2000 else if function == 2 then 2000 else if function == 3 then 125 else if function == 4 then 125 else 0

-- a read of one of the four functions whose quantity is within its limit
abbrev pub is_valid_read : Read → Bool
is_valid_read read = nat_le 1 read.span.quantity && nat_le read.span.quantity (limit_of read.function)

-- the address after its last
abbrev pub end_of : Read → ℕ
end_of read = read.span.start + read.span.quantity

-- the request of a read
abbrev pub read_request : Read → Request
read_request read =
    if read.function == 1 then ReadCoils read.span
    else if read.function == 2 then ReadDiscrete read.span
    else if read.function == 3 then ReadHolding read.span
    else ReadInput read.span
