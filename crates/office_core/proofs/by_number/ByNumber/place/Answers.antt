use Rattle.std.proofs.Common.{◌≡◌, ◌-◌, List, true, arith, subst, inl, inr}
use Rattle.std.proofs.lemmas.List.{take_all}
use Rattle.poll_book.specs.declared.rows.PointRow.{PointRow}
use Rattle.office_core.specs.ByNumber.{is_numbered}
use Rattle.office_core.proofs.Numbered.{position_missing, position_there}
use Rattle.office_core.proofs.by_number.ByNumber.place.Goals as goal
use Rattle.office_core.proofs.by_number.ByNumber.place.Goals.{then-number-eq0-via-then-number-eq0, then-number-eq0-via-else-number-eq0+then-number-known}

pub returns-then-number-eq0 : goal.returns-then-number-eq0
returns-then-number-eq0 c =
    let known = c.args.known.now in
    let whole = take_all c.args.self.now.count known c.if-self-known.false in
    let numbered = subst (λ (l : List PointRow). is_numbered 1 l ≡ true) whole (c.requires.1 c.if-not-self.false) in
    elim c.then-number-eq0.branch [
      | then-number-eq0-via-then-number-eq0 w ↦ position_missing c.args.number known numbered (inl (omega (arith, w.if-number-eq0.true)))
      | then-number-eq0-via-else-number-eq0+then-number-known w ↦ position_missing c.args.number known numbered (inr (omega (arith, w.if-number-known.true)))
    ]

pub returns : goal.returns
returns c =
    let known = c.args.known.now in
    let whole = take_all c.args.self.now.count known c.if-self-known.false in
    let numbered = subst (λ (l : List PointRow). is_numbered 1 l ≡ true) whole (c.requires.1 c.if-not-self.false) in
    position_there c.args.number (c.args.number - 1) known numbered (grind arith) (grind arith)
