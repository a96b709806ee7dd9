use Rattle.std.proofs.Common.{◌≡◌, true, rules}
use Rattle.point_list.specs.Name.{is_name}
use Rattle.point_list.proofs.Names.{name_is_label}
use Rattle.point_list.proofs.name.Name.new.Goals as goal

pub unreachable-requires : goal.unreachable-requires
unreachable-requires c =
    let name : is_name c.args.text.now ≡ true = search rules in
    search (rules, name_is_label c.args.text.now name)
