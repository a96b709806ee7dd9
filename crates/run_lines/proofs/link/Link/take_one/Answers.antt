use Rattle.std.proofs.Common.{◌≡◌, [], ◌∙◌, ap, sym, subst}
use Rattle.office_core.specs.declared.event.EventAnswer.TheVariants.{Arrived}
use Rattle.office_core.specs.Errors.{is_of_store}
use Rattle.office_core.specs.Offices.{arrived}
use Rattle.office_core.specs.Standing.{is_store}
use Rattle.run_lines.specs.Links.{before, standing_of}
use Rattle.run_lines.specs.Wires.{Standing, Up, Wired}
use Rattle.run_lines.proofs.Wires.{heard_answer, heard_none, not_store, wired_heard}
use Rattle.run_lines.proofs.link.Link.take_one.Goals as goal

pub returns-in-Ok-clause-wired : goal.returns-in-Ok-clause-wired
returns-in-Ok-clause-wired g c = λ terms source.
    let at = standing_of c.args.self.now in
    let frame = c.args.frame.now in
    subst (λ (some : Standing). Wired terms source c.args.office.now c.take_late.new.office (λ acts. acts ≡ []) (Up (before frame at)) (Up some)) (sym c.hear.ensures.settled)
    (wired_heard terms source c.args.office.now c.take_late.new.office at frame (Arrived c.in-Ok.arrival) c.in-Ok.ensures.came)

pub returns-in-Store-clause-wired : goal.returns-in-Store-clause-wired
returns-in-Store-clause-wired g c = λ terms source.
    let at = standing_of c.args.self.now in
    let frame = c.args.frame.now in
    subst (λ (some : Standing). Wired terms source c.args.office.now c.take_late.new.office (λ acts. acts ≡ []) (Up (before frame at)) (Up some)) (sym c.hear-in-Store.ensures.settled)
    (heard_answer terms source c.args.office.now c.take_late.new.office at frame c.take_late.result
    (ap (λ told. is_store (arrived told)) c.in-Err.is ∙ ap is_of_store c.in-Store.is) c.take_late.ensures.came)

pub returns-in-Repeat-clause-wired : goal.returns-in-Repeat-clause-wired
returns-in-Repeat-clause-wired g c = λ terms source.
    heard_none terms source c.args.office.now c.take_late.new.office (standing_of c.args.self.now) c.args.frame.now c.take_late.result c.in-Err.error c.in-Err.is (ap is_of_store c.in-Repeat.is)
    c.take_late.ensures.came

pub returns-in_default-clause-wired : goal.returns-in_default-clause-wired
returns-in_default-clause-wired g c = λ terms source.
    heard_none terms source c.args.office.now c.take_late.new.office (standing_of c.args.self.now) c.args.frame.now c.take_late.result c.in-Err.error c.in-Err.is (not_store c.in-Err.error c.in_default.not-Store)
    c.take_late.ensures.came
