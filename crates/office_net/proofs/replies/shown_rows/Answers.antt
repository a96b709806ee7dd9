use Rattle.std.proofs.Common.{◌≡◌, ◌+◌, ◌++◌, ◌∷◌, [], ap, sym, ◌∙◌, subst, take}
use Rattle.std.proofs.lemmas.List.{take_more}
use Rattle.sunspec.specs.Value.{AreRegistersOf}
use Rattle.office_report.proofs.Rows.{registers_at}
use Rattle.office_net.proofs.Shown.{shown_more}
use Rattle.office_net.proofs.replies.shown_rows.Goals as goal

pub loop-row-preserved : goal.loop-row-preserved
loop-row-preserved c = λ form are.
    let i = c.loop-row.row-index in
    let rows = c.args.rows.now in
    let point = c.args.point.now in
    let row = c.row-item.result in
    let more : take (i + 1) rows ≡ take i rows ++ row ∷ [] = take_more rows i row c.loop-row-test.true ∙ ap (λ e. take i rows ++ e ∷ []) (sym c.row-item.is) in
    let registers : AreRegistersOf point.kind row.reading.words = subst (λ r. AreRegistersOf point.kind r.reading.words) (sym c.row-item.is) (registers_at point rows i row c.loop-row-test.true are) in
    shown_more point c.loop-row.shown.items c.push.new.self.items c.in_ok-shown_of.field-0 (take i rows) (take (i + 1) rows) row c.in_ok-push.ensures.items more
    (c.loop-row.invariant form are) (c.in_ok-shown_of.ensures form registers)
