use Rattle.std.proofs.Common.{◌≡◌, ◌≤◌, All, drop}
use Rattle.toml.specs.View.{items_view}
use Rattle.toml_members.specs.Members.{each, number_in}
use Rattle.toml_members.proofs.Each.{with_front}
use Rattle.mb_map.proofs.image.numbers_in.Given as goal

abbrev pub invariant-loop-index : goal.invariant-loop-index
invariant-loop-index l = record {
  read : with_front l.numbers.items (each (number_in l.greatest) (items_view (drop l.index l.entries))) ≡ each (number_in l.greatest) (items_view l.entries);
  sound : All (λ n. n ≤ l.greatest) l.numbers.items;
}
