use Rattle.std.proofs.Common.{◌≡◌, ◌≤◌, ◌<◌, ◌+◌, ◌∙◌, sym, ap, length, arith}
use Rattle.std.proofs.lemmas.List.{length-map}
use Rattle.point_list.specs.declared.point.ListRow.{ListRow}
use Rattle.poll_book.specs.declared.requests.Outcome.TheVariants.{Loaded}
use Rattle.office_core.specs.Loads as loads
use Rattle.office_core.proofs.Loading.{overfull, taken_so}
use Rattle.office_core.proofs.loads.judge_known.Goals as goal

pub returns-then-known-len-gt-MOST_POINTS-clause-outcome : goal.returns-then-known-len-gt-MOST_POINTS-clause-outcome
returns-then-known-len-gt-MOST_POINTS-clause-outcome c = λ rows are.
    let known = c.args.known.now in
    let new = c.in-Ok.new.items in
    let is = (rw c.in-Ok.is at c.in_ok-new.ensures.rows) ∙ ap (λ l. loads.numbered_on (length known) (loads.unknown_of known l)) are.same in
    let agree = (rw c.in-Ok.is at c.in_ok-new.ensures.agree) rows are in
    let many : 10000 < length known + length new = omega (arith, c.len.ensures, c.if-known-len-gt-MOST_POINTS.true) in
    c.refused-then-known-len-gt-MOST_POINTS.ensures ∙ sym (ap loads.outcome (overfull known rows agree new is many))

pub returns-then-known-len-gt-MOST_POINTS-clause-added : goal.returns-then-known-len-gt-MOST_POINTS-clause-added
returns-then-known-len-gt-MOST_POINTS-clause-added c = λ rows are.
    let known = c.args.known.now in
    let new = c.in-Ok.new.items in
    let is = (rw c.in-Ok.is at c.in_ok-new.ensures.rows) ∙ ap (λ l. loads.numbered_on (length known) (loads.unknown_of known l)) are.same in
    let agree = (rw c.in-Ok.is at c.in_ok-new.ensures.agree) rows are in
    let many : 10000 < length known + length new = omega (arith, c.len.ensures, c.if-known-len-gt-MOST_POINTS.true) in
    c.new-then-known-len-gt-MOST_POINTS.ensures.items ∙ sym (ap (loads.added (length known)) (overfull known rows agree new is many))

pub returns-clause-outcome : goal.returns-clause-outcome
returns-clause-outcome c = λ rows are.
    let known = c.args.known.now in
    let new = c.in-Ok.new.items in
    let is = (rw c.in-Ok.is at c.in_ok-new.ensures.rows) ∙ ap (λ l. loads.numbered_on (length known) (loads.unknown_of known l)) are.same in
    let agree = (rw c.in-Ok.is at c.in_ok-new.ensures.agree) rows are in
    let few : length known + length new ≤ 10000 = omega (arith, c.len.ensures, c.if-known-len-gt-MOST_POINTS.false) in
    let count : length c.args.points.now ≡ length rows = ap length are.same ∙ length-map rows (λ (x : ListRow). x.point) in
    ap Loaded count ∙ sym (ap loads.outcome (taken_so known rows agree new is few))

pub returns-clause-added : goal.returns-clause-added
returns-clause-added c = λ rows are.
    let known = c.args.known.now in
    let new = c.in-Ok.new.items in
    let is = (rw c.in-Ok.is at c.in_ok-new.ensures.rows) ∙ ap (λ l. loads.numbered_on (length known) (loads.unknown_of known l)) are.same in
    let agree = (rw c.in-Ok.is at c.in_ok-new.ensures.agree) rows are in
    let few : length known + length new ≤ 10000 = omega (arith, c.len.ensures, c.if-known-len-gt-MOST_POINTS.false) in
    is ∙ sym (ap (loads.added (length known)) (taken_so known rows agree new is few))
