-- Pairs that are voided: one that is put where it was not, and taken out again.
use Rattle.std.proofs.Common.{◌≡◌, false, cond, [], ◌∷◌, Some, refl, sym, ap, ◌∙◌}
use Rattle.std.specs.Prelude.{is_some, map, ⊤}
use Rattle.std.specs.BTreeMap.{is_at}
use Rattle.std.specs.Map.{remove_entry}
use Rattle.std.specs.Ordering.{is_eq}
use Rattle.std.specs.Cmp.{tied_itself}
use Rattle.std.specs.declared.cmp.Ordering.{Ordering}
use Rattle.std.specs.declared.cmp.Ordering.TheVariants.{Less, Equal, Greater}
use Rattle.std.specs.FinMap.Entries as rows
use Rattle.poll_book.specs.Tables.{Key, key_cmp, Voids, is_void, with_void}
use Rattle.poll_book.proofs.Tabled.{keys_total}

-- a pair that was not there is taken out again
pub taken_again : (key : Key) (voids : Voids) → is_void voids key ≡ false → remove_entry (is_at (key_cmp key)) (with_void key voids) ≡ voids
taken_again key [] none = ap (λ o. cond (is_eq o) [] ((key, tt) ∷ [])) (tied_itself keys_total key)
taken_again key (e ∷ es) none = by (key_cmp key e.0) refl none (taken_again key es)
  where
    by : (o : Ordering) → key_cmp key e.0 ≡ o → is_some (cond (is_eq o) (Some e.1) (rows.find key_cmp key es)) ≡ false
        → (is_void es key ≡ false → remove_entry (is_at (key_cmp key)) (with_void key es) ≡ es)
        → remove_entry (is_at (key_cmp key)) (rows.by_order o ((key, tt) ∷ e ∷ es) ((e.0, tt) ∷ es) (e ∷ with_void key es)) ≡ e ∷ es
    by Less at n rest = ap (λ o. cond (is_eq o) (e ∷ es) ((key, tt) ∷ remove_entry (is_at (key_cmp key)) (e ∷ es))) (tied_itself keys_total key)
    by Equal at n rest = absurd (cc)
    by Greater at n rest = ap (λ o. cond (is_eq o) (with_void key es) (e ∷ remove_entry (is_at (key_cmp key)) (with_void key es))) at ∙ ap (λ l. e ∷ l) (rest n)

-- pairs are what their keys are
pairs_of : (voids : Voids) → voids ≡ map (λ k. (k, tt)) (map (λ (e : Key × ⊤). e.0) voids)
pairs_of [] = refl
pairs_of (e ∷ es) = ap (λ l. e ∷ l) (pairs_of es)

pub same_pairs : (a b : Voids) → map (λ (e : Key × ⊤). e.0) a ≡ map (λ (e : Key × ⊤). e.0) b → a ≡ b
same_pairs a b same = pairs_of a ∙ ap (λ keys. map (λ (k : Key). (k, tt)) keys) same ∙ sym (pairs_of b)
