-- Rows put into a table of readings.
use Rattle.std.proofs.Common.{◌≡◌, Bool, true, false, cond, [], ◌∷◌, ◌++◌, Some, None, Option, refl, sym, ap, ◌∙◌, T}
use Rattle.std.specs.Prelude.{is_none}
use Rattle.std.specs.Option.{option_or}
use Rattle.std.specs.Ordering.{eq_by_cmp}
use Rattle.std.proofs.lemmas.List.{append-nil}
use Rattle.std.specs.FinMap.Entries as rows
use Rattle.poll_book.specs.declared.rows.Reading.{Reading}
use Rattle.poll_book.specs.Tables.{Key, key_cmp, Readings, reading_at, with_rows, new_rows}
use Rattle.poll_book.proofs.Tabled.{keys_total, exact_keys, with_rows-append}

pub with_rows_sorted : (xs table : Readings) → T (rows.is_sorted key_cmp table) → T (rows.is_sorted key_cmp (with_rows xs table))
with_rows_sorted [] table h = h
with_rows_sorted (x ∷ xs) table h = rows.is_sorted-put key_cmp keys_total x.0 x.1 (with_rows xs table) (with_rows_sorted xs table h)

or_cond : (b : Bool) (x : Reading) (o p : Option Reading) → cond b (Some x) (option_or o p) ≡ option_or (cond b (Some x) o) p
or_cond true x o p = refl
or_cond false x o p = refl

-- the rows that are put in come before the table's own
pub at_with_rows : (xs table : Readings) (q : Key) → reading_at (with_rows xs table) q ≡ option_or (reading_at xs q) (reading_at table q)
at_with_rows [] table q = refl
at_with_rows (x ∷ xs) table q =
    rows.find-put key_cmp keys_total q x.0 x.1 (with_rows xs table)
    ∙ ap (cond (eq_by_cmp key_cmp q x.0) (Some x.1)) (at_with_rows xs table q)
    ∙ or_cond (eq_by_cmp key_cmp q x.0) x.1 (reading_at xs q) (reading_at table q)

joined : (a b : Option Reading) → option_or a (option_or b None) ≡ option_or (cond (is_none (option_or a None)) b None) (option_or a None)
joined None b = refl
joined (Some x) b = refl

at_new_rows : (table given : Readings) (q : Key) → reading_at (new_rows table given) q ≡ cond (is_none (reading_at table q)) (reading_at given q) None
at_new_rows table given q =
    rows.find-where_key key_cmp (λ k. is_none (reading_at table k)) q (λ x tied. ap (λ k. is_none (reading_at table k)) (sym (exact_keys q x tied))) given

-- to put in what is new is to let the earliest row decide
pub readings_more : (xs ys : Readings) → with_rows (xs ++ ys) [] ≡ with_rows (new_rows (with_rows xs []) ys) (with_rows xs [])
readings_more xs ys =
    let table = with_rows xs [] in
    let sorted : T (rows.is_sorted key_cmp table) = with_rows_sorted xs [] tt in
    rows.same_entries key_cmp keys_total exact_keys (with_rows (xs ++ ys) []) (with_rows (new_rows table ys) table)
    (with_rows_sorted (xs ++ ys) [] tt)
    (with_rows_sorted (new_rows table ys) table sorted)
    (λ q.
    ap (λ t. reading_at t q) (with_rows-append xs ys [])
    ∙ at_with_rows xs (with_rows ys []) q
    ∙ ap (option_or (reading_at xs q)) (at_with_rows ys [] q)
    ∙ joined (reading_at xs q) (reading_at ys q)
    ∙ ap (λ o. option_or (cond (is_none o) (reading_at ys q) None) o) (sym (at_with_rows xs [] q))
    ∙ ap (λ o. option_or o (reading_at table q)) (sym (at_new_rows table ys q))
    ∙ sym (at_with_rows (new_rows table ys) table q))

-- and nothing given leaves the table as it is
pub readings_same : (xs : Readings) → with_rows (xs ++ []) [] ≡ with_rows xs []
readings_same xs = ap (λ l. with_rows l []) (append-nil xs)
