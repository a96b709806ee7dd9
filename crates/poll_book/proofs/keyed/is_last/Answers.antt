use Rattle.std.proofs.Common.{◌-◌, length, sym, ap, ◌∙◌, arith}
use Rattle.std.proofs.lemmas.Bool.{ltb-true}
use Rattle.std.proofs.lemmas.List.{get_or_default}
use Rattle.poll_book.proofs.Places.{behind_last}
use Rattle.poll_book.proofs.keyed.is_last.Goals as goal

pub returns-in-Some : goal.returns-in-Some
returns-in-Some g c test =
    let rows = c.args.rows.now in
    let row = c.in-Some.row.now in
    let key_of = g.T.Keyed.key_of in
    behind_last key_of rows c.requires c.args.key (λ d some.
    let last = ap key_of (get_or_default rows (length rows - 1) d row (omega (arith, some)) ∙ sym c.in-Some.ensures.item.1) in
    omega (arith, last, c.key.ensures, ltb-true _ _ test))

pub returns-in-None : goal.returns-in-None
returns-in-None g c test =
    behind_last g.T.Keyed.key_of c.args.rows.now c.requires c.args.key (λ d some. absurd (omega (arith, some, c.in-None.ensures.item.3)))
