-- In which order the registers of a number are sent.
use Rattle.std.specs.Prelude.{ℕ, ℤ, List, Option, None, codes, reverse, if◌then◌else◌}
use Rattle.sunspec.specs.Value.{are_registers, number_in, value}
use Rattle.sunspec.specs.declared.point_type.PointType.{PointType}
use Rattle.sunspec.specs.declared.word_order.WordOrder.{WordOrder}
use Rattle.sunspec.specs.declared.word_order.WordOrder.TheVariants.{Big, Swapped}

-- registers that are sent in an order, with the most significant one first
abbrev pub arranged : WordOrder → List ℕ → List ℕ
arranged Big words = words
arranged Swapped words = reverse words

-- the number that registers mean which are sent in an order, if they are the type's and mean one
abbrev pub number_read : PointType → WordOrder → List ℕ → Option ℤ
number_read kind order words = if are_registers kind words then number_in (value kind (arranged order words)) else None

-- the word of a point list for an order
abbrev pub order_name : WordOrder → List ℕ
order_name Big = codes "big"
order_name Swapped = codes "swapped"
