use Rattle.std.proofs.Common.{◌≡◌, inl, inr, [], ◌∙◌, ap, refl, sym}
use Rattle.run_lines.specs.Lines.{source_of, state_at, terms_of, wire_at, wire_in}
use Rattle.run_lines.specs.Links.{wire_of}
use Rattle.run_lines.specs.Wires.{LineMoves, Up}
use Rattle.run_lines.proofs.Lines.{advances_start}
use Rattle.run_deeds.proofs.Passing.{part_asked, part_still}
use Rattle.run_lines.proofs.Wires.{shown}
use Rattle.run_lines.proofs.line.Line.begin_round.Goals as goal

pub returns-in_err-plan-clause-goes : goal.returns-in_err-plan-clause-goes
returns-in_err-plan-clause-goes g c =
    let line = c.args.self.now in (
      record { place = refl; name = c.plan.ensures; most = refl },
      (
        state_at line,
        part_still (LineMoves (terms_of line)) (source_of line) c.args.office.now (λ acts. acts ≡ []) (state_at line) refl,
        refl,
        shown c.from_residual.result (wire_at line) (wire_at line) refl,
      ),
    )

pub returns-in_default-clause-goes : goal.returns-in_default-clause-goes
returns-in_default-clause-goes g c =
    let line = c.args.self.now in (
      record { place = refl; name = c.plan.ensures; most = refl },
      (state_at line, part_still (LineMoves (terms_of line)) (source_of line) c.args.office.now (λ acts. acts ≡ []) (state_at line) refl, refl, tt {0}),
    )

pub returns-in_err-start-clause-goes : goal.returns-in_err-start-clause-goes
returns-in_err-start-clause-goes g c =
    let line = c.args.self.now in (
      record { place = refl; name = c.plan.ensures; most = refl },
      (
        state_at line,
        part_asked (LineMoves (terms_of line)) (source_of line) c.args.office.now c.start.new.office (λ acts. acts ≡ []) (state_at line) c.start.ensures.along refl,
        refl,
        shown c.from_residual-in_err-start.result (wire_at line) (wire_of c.start.new.self) (ap Up c.in_err-start.ensures.begun ∙ sym (ap wire_in c.in-Up.is)),
      ),
    )

pub returns-clause-goes : goal.returns-clause-goes
returns-clause-goes g c =
    let line = c.args.self.now in
    advances_start (tt {0}) line _ c.args.office.now c.start.new.office c.in-Up.link c.start.new.self c.args.slot c.in-Up.is (record { place = refl; name = c.plan.ensures; most = refl })
    c.requires.1 c.start-2.ensures.begins.1 refl c.in_ok-start.ensures.begun c.start.ensures.along

pub returns-in_err-plan-clause-begins : goal.returns-in_err-plan-clause-begins
returns-in_err-plan-clause-begins g c = inl refl

pub returns-in_default-clause-begins : goal.returns-in_default-clause-begins
returns-in_default-clause-begins g c = inl refl

pub returns-in_err-start-clause-begins : goal.returns-in_err-start-clause-begins
returns-in_err-start-clause-begins g c = inl refl

pub returns-clause-begins : goal.returns-clause-begins
returns-clause-begins g c = inr c.start-2.ensures.begins.1
