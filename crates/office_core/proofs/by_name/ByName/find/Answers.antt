use Rattle.std.proofs.Common.{◌≡◌, ◌∙◌, List, ℕ, ap}
use Rattle.std.specs.List.{position_from}
use Rattle.std.proofs.lemmas.List.{take_all}
use Rattle.point_list.specs.Name.{is_name}
use Rattle.poll_book.specs.declared.rows.PointRow.{PointRow}
use Rattle.office_core.specs.ByName.{is_named, place_of, row_at}
use Rattle.poll_book.proofs.Marked.{label_is}
use Rattle.office_core.proofs.ByName.{named_there}
use Rattle.office_core.proofs.by_name.ByName.find.Goals as goal

pub returns-in-Some : goal.returns-in-Some
returns-in-Some c =
    let known = c.args.known.now in
    let names = c.args.self.now in
    let name = c.args.name.now in
    let same : c.in-Some.name ≡ name = label_is (is_name name) c.in-Some.name name c.in-Some.ensures in
    c.copied.ensures ∙ c.row.ensures
    ∙ ap (λ (n : List ℕ). row_at known (place_of names n)) same
    ∙ ap (row_at known) (c.requires.1 name)
    ∙ ap (λ (l : List PointRow). row_at known (position_from (is_named name) 0 l)) (take_all names.count known c.if-self-known.false)
    ∙ named_there known name
