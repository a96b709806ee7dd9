-- Readings, voids and swapped points whose rows a statement leaves.
use Rattle.std.proofs.Common.{◌≡◌, List, sym, ap, subst, ◌∙◌, map}
use Rattle.sqlite_trees.specs.Tree.{Trees}
use Rattle.sqlite_trees.specs.View.{IsShaped}
use Rattle.sqlite_trees.specs.declared.store.Shape.TheVariants.{Table}
use Rattle.poll_book.specs.declared.rows.PointRow.{PointRow}
use Rattle.poll_book.specs.Tables.{Readings, Voids}
use Rattle.office_store.specs.Schema.{reading_tree, swapped_tree, void_tree}
use Rattle.office_store.specs.Rows.{stored_reading, stored_swap, stored_void}
use Rattle.office_store.specs.Kept.{AreReadings, AreSwaps, AreVoids}

pub readings_stay : (old new : Trees) (kept : Readings) → new reading_tree ≡ old reading_tree → AreReadings old kept → AreReadings new kept
readings_stay old new kept stays was = record {
  entries = was.entries;
  stored = ap (map stored_reading) stays ∙ was.stored;
  numbered = subst (IsShaped Table) (sym stays) was.numbered;
  same = was.same;
  sorted = was.sorted;
}

pub voids_stay : (old new : Trees) (kept : Voids) → new void_tree ≡ old void_tree → AreVoids old kept → AreVoids new kept
voids_stay old new kept stays was = record { entries = was.entries; stored = ap (map stored_void) stays ∙ was.stored; same = was.same; sorted = was.sorted }

pub swaps_stay : (old new : Trees) (points : List PointRow) → new swapped_tree ≡ old swapped_tree → AreSwaps old points → AreSwaps new points
swaps_stay old new points stays was = record { stored = ap (map stored_swap) stays ∙ was.stored }
