-- The registers that mean a number (SunSpec Device Information Model, point types).
use Rattle.std.specs.Prelude.{ℕ, zero, suc, ◌-◌, ◌/◌, ◌%◌, ◌^◌, ℤ, pos, negsuc, nat_lt, List, [], ◌∷◌, Option, Some, None, option_map, if◌then◌else◌}
use Rattle.sunspec.specs.PointType.{row, bits_of, is_unimplemented}
use Rattle.sunspec.specs.declared.point_type.PointType.{PointType}
use Rattle.sunspec.specs.declared.point_type.Content.{Content}
use Rattle.sunspec.specs.declared.point_type.Content.TheVariants.{Signed, Unsigned, Address, Bit, Text}
use Rattle.sunspec.specs.WordOrder.{arranged}
use Rattle.point_list.specs.declared.point.Point.{Point}

-- the sum of registers that means the number in so many bits, two's complement where they have a sign
abbrev pub unsigned_sum : ℕ → ℤ → Option ℕ
unsigned_sum bits (pos n) = if nat_lt n (2 ^ bits) then Some n else None
unsigned_sum bits (negsuc n) = None

abbrev pub signed_sum : ℕ → ℤ → Option ℕ
signed_sum bits (pos n) = if nat_lt n (2 ^ (bits - 1)) then Some n else None
signed_sum bits (negsuc n) = if nat_lt n (2 ^ (bits - 1)) then Some (2 ^ bits - suc n) else None

abbrev pub sum_of : Content → ℕ → ℤ → Option ℕ
sum_of Signed bits number = signed_sum bits number
sum_of Unsigned bits number = unsigned_sum bits number
sum_of Address bits number = unsigned_sum bits number
sum_of Bit bits number = unsigned_sum bits number
sum_of Text bits number = None

-- so many registers of this sum, the most significant first
abbrev pub registers_from : ℕ → ℕ → List ℕ
registers_from zero sum = []
registers_from (suc count) sum = (sum / 65536 ^ count) % 65536 ∷ registers_from count sum

-- a number that means unimplemented has none
abbrev pub registers_meaning : PointType → Option ℕ → Option (List ℕ)
registers_meaning kind None = None
registers_meaning kind (Some sum) = if is_unimplemented (row kind).unimplemented sum then None else Some (registers_from (row kind).registers sum)

-- the registers of a type whose value is the number, if there are any
abbrev pub registers_of : PointType → ℤ → Option (List ℕ)
registers_of kind number = registers_meaning kind (sum_of (row kind).content (bits_of kind) number)

-- those of a point, in the order in which they are sent
abbrev pub registers_for : Point → ℤ → Option (List ℕ)
registers_for point number = option_map (arranged point.order) (registers_of point.kind number)
