use Rattle.std.proofs.Common.{◌≡◌, Bool, [], refl, sym, subst}
use Rattle.run_lines.specs.Links.{wire_of}
use Rattle.run_lines.specs.Wires.{Wire, WireMoves, Wired}
use Rattle.run_lines.proofs.Lines.{told_on}
use Rattle.run_deeds.proofs.Passing.{part_still, then_office}
use Rattle.run_lines.proofs.link.Link.ask.Goals as goal

pub loop-init : goal.loop-init
loop-init g c = λ terms source is. part_still (WireMoves terms) source c.args.office.now (λ acts. acts ≡ []) (wire_of c.args.self.now) refl

pub loop-preserved : goal.loop-preserved
loop-preserved g c = λ terms source is.
    let asked = c.in_ok-has_asked.ensures terms source is in
    subst (λ (wire : Wire). Wired terms source c.args.office.now c.ask_one.new.office (λ acts. acts ≡ []) (wire_of c.args.self.now) wire) (sym asked.2)
    (then_office (WireMoves terms) source c.args.office.now c.loop.office c.ask_one.new.office (λ acts. acts ≡ []) (wire_of c.args.self.now) (wire_of c.loop.self) asked.0
    (c.loop.invariant terms source is) asked.1)

pub returns-in_err-has_asked : goal.returns-in_err-has_asked
returns-in_err-has_asked g c = λ terms source is.
    let asked = c.in_err-has_asked.ensures terms source is in (
      asked.0,
      then_office (WireMoves terms) source c.args.office.now c.loop.office c.ask_one.new.office (λ acts. acts ≡ []) (wire_of c.args.self.now) (wire_of c.loop.self) asked.0
          (c.loop.invariant terms source is) asked.1,
      told_on Bool _ c.in_err-has_asked.field-0.0 c.from_residual.result asked.0 (wire_of c.ask_one.new.self) c.from_residual.ensures.0 c.from_residual.ensures.1 asked.2,
    )

pub returns-then-not-has_asked : goal.returns-then-not-has_asked
returns-then-not-has_asked g c = λ terms source is.
    let asked = c.in_ok-has_asked.ensures terms source is in (
      asked.0,
      then_office (WireMoves terms) source c.args.office.now c.loop.office c.ask_one.new.office (λ acts. acts ≡ []) (wire_of c.args.self.now) (wire_of c.loop.self) asked.0
          (c.loop.invariant terms source is) asked.1,
      asked.2,
    )

pub returns : goal.returns
returns g c = λ terms source is. (wire_of c.loop.self, c.loop.invariant terms source is, refl)
