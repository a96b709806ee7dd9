-- Covered points, one by one.
use Rattle.std.proofs.Common.{◌≡◌, ◌+◌, ℕ, Bool, List, [], ◌∷◌, ◌++◌, take, filter, sym, ap, ◌∙◌}
use Rattle.std.specs.Prelude.{is_none}
use Rattle.std.proofs.lemmas.List.{map-append}
use Rattle.std.proofs.lemmas.List.Elements.{filter-append, filter_map-append}
use Rattle.poll_book.specs.declared.rows.PointRow.{PointRow}
use Rattle.poll_book.specs.declared.rows.Reading.{Reading}
use Rattle.poll_book.specs.Tables.{Key, Readings, Voids, marked, marked_one, reading_at, new_rows}
use Rattle.poll_book.specs.Changes.{keyed, keyed_one, new_sum, new_sums}

-- the readings of one point more
pub rows_more : (voids : Voids) (table : Readings) (slot : ℕ) (covered : List (PointRow × List ℕ)) (i : ℕ) (one : PointRow × List ℕ) → take (i + 1) covered ≡ take i covered ++ one ∷ []
    → new_rows table (marked voids (keyed slot (take i covered))) ++ new_rows table (marked voids (keyed slot (one ∷ []))) ≡ new_rows table (marked voids (keyed slot (take (i + 1) covered)))
rows_more voids table slot covered i one more =
    let lacks : Key × Reading → Bool = λ row. is_none (reading_at table row.0) in
    sym (filter-append lacks (marked voids (keyed slot (take i covered))) (marked voids (keyed slot (one ∷ []))))
    ∙ ap (filter lacks) (sym (map-append (marked_one voids) (keyed slot (take i covered)) (keyed slot (one ∷ []))))
    ∙ ap (λ l. filter lacks (marked voids l)) (sym (map-append (keyed_one slot) (take i covered) (one ∷ [])))
    ∙ ap (λ l. new_rows table (marked voids (keyed slot l))) (sym more)

-- and its total
pub sums_more : (voids : Voids) (table : Readings) (slot : ℕ) (covered : List (PointRow × List ℕ)) (i : ℕ) (one : PointRow × List ℕ) → take (i + 1) covered ≡ take i covered ++ one ∷ []
    → new_sums voids table slot (take i covered) ++ new_sums voids table slot (one ∷ []) ≡ new_sums voids table slot (take (i + 1) covered)
sums_more voids table slot covered i one more =
    sym (filter_map-append (new_sum voids table slot) (take i covered) (one ∷ [])) ∙ ap (new_sums voids table slot) (sym more)
