use Rattle.std.proofs.Common.{◌∙◌, ◌≡◌, ℕ, List, ap, subst}
use Rattle.std.specs.Prelude.{IfOk, take}
use Rattle.poll_book.specs.declared.rows.PointRow.{PointRow}
use Rattle.office_core.specs.ByDevice.{points_at}
use Rattle.office_core.specs.Cover as cover
use Rattle.office_core.proofs.ByDevice.{given_there}
use Rattle.office_core.proofs.cover.covered_of.Goals as goal

pub returns-in-Some : goal.returns-in-Some
returns-in-Some c =
    let known = c.args.known.now in
    let device = c.args.device.now in
    let read = c.args.read.now in
    let words = cover.reply_cells c.args.reply.now in
    let front = c.before-places.ensures known device c.in-Some.ensures in
    let same =
    ap (λ (rows : List PointRow). cover.given_of rows device read words)
    (front ∙ ap (points_at (take c.args.count known)) c.in-Some.ensures)
    ∙ given_there c.args.count known device read words in
    subst (λ (l : List (PointRow × List ℕ)). IfOk c.covered_at.result (λ rows. rows.items ≡ l)) same c.covered_at.ensures
