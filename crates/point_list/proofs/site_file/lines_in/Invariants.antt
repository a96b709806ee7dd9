use Rattle.std.proofs.Common.{◌≡◌, drop}
use Rattle.toml.specs.View.{items_view}
use Rattle.toml_members.specs.Members.{each}
use Rattle.point_list.specs.SiteFile.{line_in}
use Rattle.toml_members.proofs.Each.{with_front}
use Rattle.point_list.proofs.site_file.lines_in.Given as goal

abbrev pub invariant-loop-index : goal.invariant-loop-index
invariant-loop-index l = with_front l.lines.items (each line_in (items_view (drop l.index l.entries))) ≡ each line_in (items_view l.entries)
