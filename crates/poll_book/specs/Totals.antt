-- Which readings count, and how far a counter went by them.
use Rattle.std.specs.Prelude.{ℕ, ℤ, ◌+◌, ◌-◌, ◌%◌, ◌^◌, Bool, true, false, ◌&&◌, if◌then◌else◌, ◌==◌, nat_le, nat_lt, min, List, [], ◌∷◌, map, filter, filter_map, slice_get, Option, Some, None, is_some, unwrap_or, pos, negsuc}
use Rattle.std.specs.List.{last_or}
use Rattle.sunspec.specs.WordOrder.{number_read}
use Rattle.point_list.specs.declared.point.Point.{Point}
use Rattle.point_list.specs.declared.point.Role.{Role}
use Rattle.point_list.specs.declared.point.Role.TheVariants.{Gauge, Counter, Setting}
use Rattle.poll_book.specs.declared.rows.PointRow.{PointRow}
use Rattle.poll_book.specs.declared.rows.Reading.{Reading}
use Rattle.poll_book.specs.Tables.{Readings, Sums, sum_at}

abbrev pub is_counter : Role → Bool
is_counter Counter = true
is_counter Gauge = false
is_counter Setting = false

-- a number from 0 to the roll
abbrev pub number_within : ℕ → Option ℤ → Option ℕ
number_within roll (Some (pos n)) = if nat_le n roll then Some n else None
number_within roll (Some (negsuc n)) = None
number_within roll None = None

-- the number of a counter's registers, as they came, if it counts; texts and unimplemented values have none
abbrev pub counted_number : Point → List ℕ → Option ℕ
counted_number point words =
    if is_counter point.role then number_within point.roll (number_read point.kind point.order words) else None

abbrev pub is_counted : Point → List ℕ → Bool
is_counted point words = is_some (counted_number point words)

-- the number of a counted reading
abbrev pub reading_number : Point → Reading → Option ℕ
reading_number point reading = if reading.counted then counted_number point reading.words else None

-- the numbers of a point's counted readings, by slot
abbrev pub counted_numbers : PointRow → Readings → List ℕ
counted_numbers known table =
    filter_map (λ reading. if reading.0.0 == known.number && reading.1.counted then counted_number known.point reading.1.words else None) table

-- the sum of the steps between neighbours, each modulo roll + 1
abbrev pub steps : ℕ → List ℕ → ℕ
steps roll [] = 0
steps roll (v ∷ []) = 0
steps roll (v ∷ w ∷ rest) = (w + (roll + 1) - v) % (roll + 1) + steps roll (w ∷ rest)

-- the step to a number from the last one, if there is one
abbrev pub step_from : ℕ → Option ℕ → ℕ → ℕ
step_from roll None w = 0
step_from roll (Some v) w = (w + (roll + 1) - v) % (roll + 1)

-- how far a counter went by its readings
abbrev pub total : PointRow → Readings → ℕ
total known table = steps known.point.roll (counted_numbers known table)

-- the totals of those points that are counters
abbrev pub totals_of : List PointRow → Readings → Sums
totals_of points table = map (λ known. (known.number, total known table)) (filter (λ known. is_counter known.point.role) points)

-- what is stored of a point; 0 of one that is no counter
abbrev pub stored_total : Sums → ℕ → ℕ
stored_total totals number = unwrap_or (sum_at totals number) 0

-- the numbers of a point's counted readings before a slot, and after it
abbrev pub numbers_before : PointRow → ℕ → Readings → List ℕ
numbers_before known slot table = counted_numbers known (filter (λ row. nat_lt row.0.1 slot) table)

abbrev pub numbers_after : PointRow → ℕ → Readings → List ℕ
numbers_after known slot table = counted_numbers known (filter (λ row. nat_lt slot row.0.1) table)

abbrev pub first_of : {X : Type 0} → List X → Option X
first_of xs = slice_get xs 0

abbrev pub last_of : {X : Type 0} → List X → Option X
last_of xs = last_or None xs

-- the nearest of them on either side of the slot
abbrev pub value_before : PointRow → ℕ → Readings → Option ℕ
value_before known slot table = last_of (numbers_before known slot table)

abbrev pub value_after : PointRow → ℕ → Readings → Option ℕ
value_after known slot table = first_of (numbers_after known slot table)

-- the step from one side to the other; a side that is missing gives none
abbrev pub step_across : ℕ → Option ℕ → Option ℕ → ℕ
step_across roll None w = 0
step_across roll (Some v) None = 0
step_across roll (Some v) (Some w) = (w + (roll + 1) - v) % (roll + 1)

-- the two steps by way of a value between the sides
abbrev pub steps_by_way : ℕ → Option ℕ → ℕ → Option ℕ → ℕ
steps_by_way roll before value after = step_across roll before (Some value) + step_across roll (Some value) after

-- a total with a value put in between two sides: the step between them is taken out, and then the two
-- steps by way of the value are put in. It stays from 0 to the greatest total
abbrev pub repaired : ℕ → Option ℕ → ℕ → Option ℕ → ℕ → ℕ
repaired total before value after roll = min (total - step_across roll before after + steps_by_way roll before value after) (2 ^ 127 - 1)

-- a total without the value between two sides: the two steps by way of it are taken out, and then the step
-- between the sides is put in. It stays from 0 to the greatest total
abbrev pub removed : ℕ → Option ℕ → ℕ → Option ℕ → ℕ → ℕ
removed total before value after roll = min (total - steps_by_way roll before value after + step_across roll before after) (2 ^ 127 - 1)
