use Rattle.std.proofs.Common.{◌≡◌, ◌∙◌, ◌+◌, ◌-◌, List, ℕ, ap, arith, drop, subst, sym, take}
use Rattle.std.specs.List.{slice_range}
use Rattle.office_http.specs.Awaiting.{made_by}
use Rattle.office_http.specs.Deciding.{Decides}
use Rattle.office_http.proofs.Reading.{decides_body, lacks_body}
use Rattle.office_http.proofs.stage.judge_body.Goals as goal

pub returns-then-len-end-clause-asked : goal.returns-then-len-end-clause-asked
returns-then-len-end-clause-asked c =
    let few = c.if-len-end.true in
    let len = c.len.ensures in
    λ routes asks. lacks_body routes c.args.bytes.now.items c.args.start c.args.awaited.now.count (made_by c.args.awaited.now) asks (omega (arith, few, len))

pub returns-clause-asked : goal.returns-clause-asked
returns-clause-asked c =
    let start = c.args.start in
    let count = c.args.awaited.now.count in
    let make = made_by c.args.awaited.now in
    let enough = c.if-len-end.false in
    let len = c.len.ensures in
    let span : start + count - start ≡ count = omega arith in
    let body = ap (λ (bytes : List ℕ). slice_range bytes start (start + count)) c.deref.ensures.value ∙ ap (λ (n : ℕ). take n (drop start c.args.bytes.now.items)) span in
    λ routes asks. subst (Decides routes c.args.bytes.now.items) (sym (c.in_ok-heard.ensures ∙ ap make body))
    (decides_body routes c.args.bytes.now.items start count make asks (omega (arith, enough, len)))
