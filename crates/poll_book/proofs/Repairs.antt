-- The total of a point when a reading is put into a slot that has none, or written over one that counts.
use Rattle.std.proofs.Common.{◌≡◌, ◌≢◌, ◌⊎◌, inl, inr, filter, ltb, ℕ, ◌+◌, ◌-◌, ◌^◌, ◌≤◌, Option, Some, None, ◌++◌, ◌∷◌, subst, ap, sym, ◌∙◌}
use Rattle.std.specs.Prelude.{IfSome}
use Rattle.std.specs.List.{cons_option}
use Rattle.poll_book.specs.declared.rows.PointRow.{PointRow}
use Rattle.poll_book.specs.declared.rows.Reading.{Reading}
use Rattle.poll_book.specs.Tables.{AreByKey, Key, Readings, reading_at, with_row}
use Rattle.poll_book.specs.Totals.{first_of, last_of, numbers_after, numbers_before, reading_number, removed, repaired, steps, total, value_after, value_before}
use Rattle.poll_book.proofs.Bounds.{first_bound, last_bound, numbers_bound, reading_bound}
use Rattle.poll_book.proofs.Sides.{numbers_apart, numbers_of_other, numbers_over, numbers_there, numbers_with}
use Rattle.poll_book.proofs.Steps.{stays_or_rises, steps_removed, steps_repaired}

pub of_another_is : (known : PointRow) (key : Key) (reading : Reading) (table : Readings) → key.0 ≢ known.number → total known (with_row key reading table) ≡ total known table
of_another_is known key reading table other = ap (steps known.point.roll) (numbers_of_other known key reading table other)

pub not_counted_is : (known : PointRow) (slot : ℕ) (reading : Reading) (table : Readings) → AreByKey table
    → reading_at table (known.number, slot) ≡ None → reading_number known.point reading ≡ None
    → total known (with_row (known.number, slot) reading table) ≡ total known table
not_counted_is known slot reading table sorted none uncounted =
    ap (steps known.point.roll)
    (numbers_with known slot table sorted none reading
    ∙ ap (λ o. numbers_before known slot table ++ cons_option o (numbers_after known slot table)) uncounted
    ∙ sym (numbers_apart known slot table sorted none))

-- the nearest counted values are at most the roll
pub before_bound : (known : PointRow) (slot : ℕ) (table : Readings) → IfSome (value_before known slot table) (λ n. n ≤ known.point.roll)
before_bound known slot table = last_bound known.point.roll (numbers_before known slot table) (numbers_bound known (filter (λ row. ltb row.0.1 slot) table))

pub after_bound : (known : PointRow) (slot : ℕ) (table : Readings) → IfSome (value_after known slot table) (λ n. n ≤ known.point.roll)
after_bound known slot table = first_bound known.point.roll (numbers_after known slot table) (numbers_bound known (filter (λ row. ltb slot row.0.1) table))

-- the total with the reading, and without it
with_value : (known : PointRow) (slot value : ℕ) (reading : Reading) (table : Readings) → AreByKey table
    → reading_at table (known.number, slot) ≡ None → reading_number known.point reading ≡ Some value
    → total known (with_row (known.number, slot) reading table) ≡ steps known.point.roll (numbers_before known slot table ++ value ∷ numbers_after known slot table)
with_value known slot value reading table sorted none counts =
    ap (steps known.point.roll) (numbers_with known slot table sorted none reading ∙ ap (λ o. numbers_before known slot table ++ cons_option o (numbers_after known slot table)) counts)

without : (known : PointRow) (slot : ℕ) (table : Readings) → AreByKey table → reading_at table (known.number, slot) ≡ None
    → total known table ≡ steps known.point.roll (numbers_before known slot table ++ numbers_after known slot table)
without known slot table sorted none = ap (steps known.point.roll) (numbers_apart known slot table sorted none)

pub repaired_is : (known : PointRow) (slot value : ℕ) (reading : Reading) (table : Readings) → AreByKey table
    → reading_at table (known.number, slot) ≡ None → reading_number known.point reading ≡ Some value
    → total known table + (known.point.roll + 1) ≤ 2 ^ 127 - 1
    → total known (with_row (known.number, slot) reading table)
    ≡ repaired (total known table) (value_before known slot table) value (value_after known slot table) known.point.roll
repaired_is known slot value reading table sorted none counts room =
    let roll = known.point.roll in
    let lower = numbers_before known slot table in
    let higher = numbers_after known slot table in
    let old = without known slot table sorted none in
    with_value known slot value reading table sorted none counts
    ∙ steps_repaired roll lower value higher (before_bound known slot table) (reading_bound known.point reading value counts) (after_bound known slot table) (subst (λ n. n + (roll + 1) ≤ 2 ^ 127 - 1) old room)
    ∙ ap (λ n. repaired n (last_of lower) value (first_of higher) roll) (sym old)

pub late_is : (known : PointRow) (slot value before after : ℕ) (reading : Reading) (table : Readings) → AreByKey table
    → reading_at table (known.number, slot) ≡ None → reading_number known.point reading ≡ Some value
    → value_before known slot table ≡ Some before → value_after known slot table ≡ Some after
    → (total known (with_row (known.number, slot) reading table) ≡ total known table)
    ⊎ (total known (with_row (known.number, slot) reading table) ≡ total known table + (known.point.roll + 1))
late_is known slot value before after reading table sorted none counts is_before is_after =
    let roll = known.point.roll in
    let lower = numbers_before known slot table in
    let higher = numbers_after known slot table in
    let within : (o : Option ℕ) (n : ℕ) → o ≡ Some n → IfSome o (λ m. m ≤ roll) → n ≤ roll = λ o n is bound. subst (λ p. IfSome p (λ m. m ≤ roll)) is bound in
    let new = with_value known slot value reading table sorted none counts in
    let old = without known slot table sorted none in
    elim (stays_or_rises roll lower value higher before after is_before is_after
    (within _ before is_before (before_bound known slot table)) (reading_bound known.point reading value counts) (within _ after is_after (after_bound known slot table))) [
      | inl same ↦ inl (new ∙ same ∙ sym old)
      | inr more ↦ inr (new ∙ more ∙ ap (λ n. n + (roll + 1)) (sym old))
    ]

-- ---- a reading that counts, written over by one that doesn't

-- the total with it, and the total behind it
there_is : (known : PointRow) (slot value : ℕ) (there : Reading) (table : Readings) → AreByKey table
    → reading_at table (known.number, slot) ≡ Some there → reading_number known.point there ≡ Some value
    → total known table ≡ steps known.point.roll (numbers_before known slot table ++ value ∷ numbers_after known slot table)
there_is known slot value there table sorted found counts =
    ap (steps known.point.roll) (numbers_there known slot there table sorted found ∙ ap (λ o. numbers_before known slot table ++ cons_option o (numbers_after known slot table)) counts)

over_is : (known : PointRow) (slot : ℕ) (there reading : Reading) (table : Readings) → AreByKey table
    → reading_at table (known.number, slot) ≡ Some there → reading_number known.point reading ≡ None
    → total known (with_row (known.number, slot) reading table) ≡ steps known.point.roll (numbers_before known slot table ++ numbers_after known slot table)
over_is known slot there reading table sorted found uncounted =
    ap (steps known.point.roll) (numbers_over known slot there table sorted found reading ∙ ap (λ o. numbers_before known slot table ++ cons_option o (numbers_after known slot table)) uncounted)

pub removed_is : (known : PointRow) (slot value : ℕ) (there reading : Reading) (table : Readings) → AreByKey table
    → reading_at table (known.number, slot) ≡ Some there → reading_number known.point there ≡ Some value → reading_number known.point reading ≡ None
    → total known table + (known.point.roll + 1) ≤ 2 ^ 127 - 1
    → total known (with_row (known.number, slot) reading table)
    ≡ removed (total known table) (value_before known slot table) value (value_after known slot table) known.point.roll
removed_is known slot value there reading table sorted found counts uncounted room =
    let roll = known.point.roll in
    let lower = numbers_before known slot table in
    let higher = numbers_after known slot table in
    let old = there_is known slot value there table sorted found counts in
    over_is known slot there reading table sorted found uncounted
    ∙ steps_removed roll lower value higher (subst (λ n. n + (roll + 1) ≤ 2 ^ 127 - 1) old room)
    ∙ ap (λ n. removed n (last_of lower) value (first_of higher) roll) (sym old)

pub taken_is : (known : PointRow) (slot value before after : ℕ) (there reading : Reading) (table : Readings) → AreByKey table
    → reading_at table (known.number, slot) ≡ Some there → reading_number known.point there ≡ Some value → reading_number known.point reading ≡ None
    → value_before known slot table ≡ Some before → value_after known slot table ≡ Some after
    → (total known (with_row (known.number, slot) reading table) ≡ total known table)
    ⊎ (total known (with_row (known.number, slot) reading table) + (known.point.roll + 1) ≡ total known table)
taken_is known slot value before after there reading table sorted found counts uncounted is_before is_after =
    let roll = known.point.roll in
    let lower = numbers_before known slot table in
    let higher = numbers_after known slot table in
    let within : (o : Option ℕ) (n : ℕ) → o ≡ Some n → IfSome o (λ m. m ≤ roll) → n ≤ roll = λ o n is bound. subst (λ p. IfSome p (λ m. m ≤ roll)) is bound in
    let new = over_is known slot there reading table sorted found uncounted in
    let old = there_is known slot value there table sorted found counts in
    elim (stays_or_rises roll lower value higher before after is_before is_after
    (within _ before is_before (before_bound known slot table)) (reading_bound known.point there value counts) (within _ after is_after (after_bound known slot table))) [
      | inl same ↦ inl (new ∙ sym same ∙ sym old)
      | inr more ↦ inr (ap (λ n. n + (roll + 1)) new ∙ sym more ∙ sym old)
    ]
