use Rattle.std.proofs.Common.{◌≡◌, true, drop}
use Rattle.toml.specs.View.{items_view}
use Rattle.std.specs.List.{list_all}
use Rattle.mb_map.specs.Queue.{is_sound}
use Rattle.toml_members.specs.Members.{each}
use Rattle.mb_map.specs.Image.{step_in}
use Rattle.toml_members.proofs.Each.{with_front}
use Rattle.mb_map.proofs.image.script_in.Given as goal

abbrev pub invariant-loop-index : goal.invariant-loop-index
invariant-loop-index l = record {
  read : with_front l.script.items (each step_in (items_view (drop l.index l.entries))) ≡ each step_in (items_view l.entries);
  sound : list_all is_sound l.script.items ≡ true;
}
