use Rattle.std.proofs.Common.{◌∙◌, sym, ap, Some}
use Rattle.std.specs.Str.{bytes_eq}
use Rattle.poll_book.specs.declared.rows.PointRow.{PointRow}
use Rattle.office_core.proofs.Finding.{found, missed}
use Rattle.office_core.proofs.loads.known_named.Goals as goal

pub returns : goal.returns
returns c =
    ap Some c.index-known-place.is
    ∙ found (λ (point : PointRow). bytes_eq point.point.name c.args.name.now) c.args.known.now c.in_ok-place.place c.index-known-place.result (sym c.in_ok-place.ensures)

pub returns-in_err-place : goal.returns-in_err-place
returns-in_err-place c =
    rw c.from_residual.ensures (missed (λ (point : PointRow). bytes_eq point.point.name c.args.name.now) c.args.known.now (sym c.in_err-place.ensures))
