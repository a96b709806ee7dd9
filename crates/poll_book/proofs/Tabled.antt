-- Rows put into a table.
use Rattle.std.proofs.Common.{◌≡◌, ℕ, Bool, true, false, cond, eqb, List, [], ◌∷◌, ◌++◌, None, Option, refl, sym, ap, ◌∙◌}
use Rattle.std.specs.Prelude.{◌&&◌, nat_le}
use Rattle.std.specs.List.{cons_option}
use Rattle.std.specs.Ordering.{nat_cmp}
use Rattle.std.specs.Cmp.{IsTotalOrder, nat_cmp_total}
use Rattle.std.proofs.lemmas.Cmp.{on_total, then_total}
use Rattle.std.proofs.lemmas.Bool.{eq-eqb}
use Rattle.std.proofs.lemmas.Map.Lookups.{CmpEqualImpliesEq, exact_pairs, exact_unsigned}
use Rattle.std.specs.FinMap.Entries as rows
use Rattle.poll_book.specs.declared.rows.PointRow.{PointRow}
use Rattle.poll_book.specs.declared.history.SlotRow.{SlotRow}
use Rattle.poll_book.specs.Totals.{counted_number, counted_numbers, reading_number}
use Rattle.poll_book.specs.Tables.{Key, key_cmp, Readings, is_between, readings_between, reading_at, with_rows}
use Rattle.poll_book.specs.Histories.{own, slots_of, counted_in}

pub keys_total : IsTotalOrder key_cmp
keys_total = then_total (on_total (λ (k : Key). k.0) nat_cmp_total) (on_total (λ (k : Key). k.1) nat_cmp_total)

pub exact_keys : CmpEqualImpliesEq key_cmp
exact_keys = exact_pairs nat_cmp nat_cmp exact_unsigned exact_unsigned

pub with_rows-append : (xs ys table : Readings) → with_rows (xs ++ ys) table ≡ with_rows xs (with_rows ys table)
with_rows-append [] ys table = refl
with_rows-append (x ∷ xs) ys table = ap (rows.put key_cmp x.0 x.1) (with_rows-append xs ys table)

-- what a table has of a point is what the point's own rows have
pub at_own : (p s : ℕ) (table : Readings) → reading_at (own p table) (p, s) ≡ reading_at table (p, s)
at_own p s table =
    rows.find-where_key key_cmp (λ k. eqb k.0 p) (p, s) (λ x tied. ap (λ (k : Key). eqb k.0 p) (sym (exact_keys (p, s) x tied))) table
    ∙ ap (λ b. cond b (reading_at table (p, s)) None) (eq-eqb p p refl)

-- so it is with the readings between two slots
pub between_own : (p from to : ℕ) (table : Readings) → readings_between p from to (own p table) ≡ readings_between p from to table
between_own p from to [] = refl
between_own p from to (x ∷ table) = by (eqb x.0.0 p) refl (between_own p from to table)
  where
    by : (b : Bool) → eqb x.0.0 p ≡ b → readings_between p from to (own p table) ≡ readings_between p from to table
        → readings_between p from to (cond b (x ∷ own p table) (own p table)) ≡ readings_between p from to (x ∷ table)
    by true same rest = ap (λ l. cond (is_between p from to x.0) (x ∷ l) l) rest
    by false other rest = rest ∙ ap (λ b. cond (b && nat_le from x.0.1 && nat_le x.0.1 to) (x ∷ readings_between p from to table) (readings_between p from to table)) (sym other)

-- and with the numbers that count
pub counted_own : (known : PointRow) (table : Readings) → counted_numbers known (own known.number table) ≡ counted_numbers known table
counted_own known [] = refl
counted_own known (x ∷ table) = by (eqb x.0.0 known.number) refl (counted_own known table)
  where
    number : Bool → Option ℕ
    number b = cond (b && x.1.counted) (counted_number known.point x.1.words) None

    by : (b : Bool) → eqb x.0.0 known.number ≡ b → counted_numbers known (own known.number table) ≡ counted_numbers known table
        → counted_numbers known (cond b (x ∷ own known.number table) (own known.number table)) ≡ counted_numbers known (x ∷ table)
    by true same rest = ap (cons_option (number (eqb x.0.0 known.number))) rest
    by false other rest = rest ∙ ap (λ b. cons_option (number b) (counted_numbers known table)) (sym other)

pub counted_slots : (known : PointRow) (slots : List SlotRow) → counted_numbers known (slots_of known.number slots) ≡ counted_in known.point slots
counted_slots known [] = refl
counted_slots known (x ∷ slots) =
    ap (λ b. cons_option (cond (b && x.reading.counted) (counted_number known.point x.reading.words) None) (counted_numbers known (slots_of known.number slots))) (eq-eqb known.number known.number refl)
    ∙ ap (cons_option (reading_number known.point x.reading)) (counted_slots known slots)
