use Rattle.std.proofs.Common.{◌∙◌, List, ℕ, arith, subst, sym}
use Rattle.std.proofs.lemmas.Bool.{eqb-true}
use Rattle.office_http.specs.Stages.{IsPast}
use Rattle.office_http.proofs.Reading.{lacks_none}
use Rattle.office_http.proofs.Staging.{past_more}
use Rattle.office_http.proofs.exchange.Exchange.take.Goals as goal

pub returns-then-is_empty-clause-asked : goal.returns-then-is_empty-clause-asked
returns-then-is_empty-clause-asked c =
    let none = eqb-true _ 0 (sym c.is_empty.ensures ∙ c.if-is_empty.true) in
    lacks_none _ c.extend_from_slice.new.self.items (omega (arith, none))

pub go_on-asked-requires-clause-past : goal.go_on-asked-requires-clause-past
go_on-asked-requires-clause-past c =
    subst (λ (bytes : List ℕ). IsPast c.self.inside.routes bytes c.self.inside.stage) (sym c.in_ok-extend_from_slice.ensures.items)
    (past_more c.self.inside.routes c.self.inside.bytes.items c.args.piece.now c.self.inside.stage c.self.invariant)
