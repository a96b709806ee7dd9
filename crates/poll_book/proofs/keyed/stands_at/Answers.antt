use Rattle.std.proofs.Common.{sym, ap, ◌∙◌}
use Rattle.std.proofs.lemmas.List.{get_or_default}
use borrow.Author.Tests.{eqb-true}
use Rattle.poll_book.proofs.Places.{seen}
use Rattle.poll_book.proofs.keyed.stands_at.Goals as goal

pub returns-then-place-rows : goal.returns-then-place-rows
returns-then-place-rows g c test =
    let place = c.args.place in
    let here = c.if-place-rows.true in
    let row = c.index-rows-place in
    seen g.T.Keyed.key_of c.args.rows.now c.requires c.args.key place here
    (λ d. ap g.T.Keyed.key_of (get_or_default c.args.rows.now place d row.result here ∙ sym row.is) ∙ sym c.key.ensures ∙ eqb-true _ _ test)
