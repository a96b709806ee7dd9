use Rattle.std.proofs.Common.{◌∙◌, eqb, sym, ap, Some}
use Rattle.poll_book.specs.declared.rows.PointRow.{PointRow}
use Rattle.office_core.proofs.Finding.{found, missed}
use Rattle.office_core.proofs.by_number.ByNumber.find.Goals as goal

pub returns-in-Some : goal.returns-in-Some
returns-in-Some c =
    ap Some c.index-known-place.is
    ∙ found (λ (row : PointRow). eqb row.number c.args.number) c.args.known.now c.in-Some.place c.index-known-place.result (sym c.in-Some.ensures)

pub returns-in-None : goal.returns-in-None
returns-in-None c = missed (λ (row : PointRow). eqb row.number c.args.number) c.args.known.now (sym c.in-None.ensures)
