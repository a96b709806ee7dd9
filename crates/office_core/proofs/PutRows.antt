-- What holds of each row holds of each row of a table that they are put into.
use Rattle.std.proofs.Common.{◌≡◌, [], ◌∷◌, refl, subst}
use Rattle.std.specs.Prelude.{All}
use Rattle.std.specs.FinMap.Entries as rows
use Rattle.std.specs.declared.cmp.Ordering.{Ordering}
use Rattle.std.specs.declared.cmp.Ordering.TheVariants.{Less, Equal, Greater}
use Rattle.std.proofs.lemmas.List.Elements.{All-cons, All-head, All-tail}
use Rattle.poll_book.specs.declared.rows.Reading.{Reading}
use Rattle.poll_book.specs.Tables.{Key, key_cmp, Readings, with_rows}
use Rattle.poll_book.proofs.Tabled.{exact_keys}

module _ (P : Key × Reading → Type 0) where
  -- what holds of each row of a table and of one more row holds of each with that put in
  put_all : (key : Key) (reading : Reading) (table : Readings) → P (key, reading) → All P table → All P (rows.put key_cmp key reading table)
  put_all key reading [] p all = All-cons P (key, reading) [] p all
  put_all key reading (x ∷ table) p all = by (key_cmp key x.0) refl (put_all key reading table p (All-tail P x table all))
    where
      by : (o : Ordering) → key_cmp key x.0 ≡ o → All P (rows.put key_cmp key reading table)
          → All P (rows.by_order o ((key, reading) ∷ x ∷ table) ((x.0, reading) ∷ table) (x ∷ rows.put key_cmp key reading table))
      by Less is rest = All-cons P (key, reading) (x ∷ table) p all
      by Equal is rest = All-cons P (x.0, reading) table (subst (λ (k : Key). P (k, reading)) (exact_keys key x.0 is) p) (All-tail P x table all)
      by Greater is rest = All-cons P x (rows.put key_cmp key reading table) (All-head P x table all) rest

  -- and with several put in
  pub with_rows_all : (xs table : Readings) → All P xs → All P table → All P (with_rows xs table)
  with_rows_all [] table new old = old
  with_rows_all (x ∷ xs) table new old =
      put_all x.0 x.1 (with_rows xs table) (All-head P x xs new) (with_rows_all xs table (All-tail P x xs new) old)
