use Rattle.std.proofs.Common.{arith, sym, ◌∙◌}
use Rattle.office_script.specs.Scripts.{step_of}
use Rattle.office_script.specs.Playing.{Follows}
use Rattle.office_script.proofs.Lines.{no_event, one_event, broken_off, went_on}
use Rattle.office_script.proofs.Messages.{comes_so}
use Rattle.office_script.proofs.player.play_line.Goals as goal

pub returns-in_ok-push_fault-in-None : goal.returns-in_ok-push_fault-in-None
returns-in_ok-push_fault-in-None c = λ done rest whole owes.
    let line = c.args.line.now in
    broken_off (Follows c.args.office.now) done c.args.out.now.items c.push_fault.new.out.items c.args.number (step_of c.args.number line) rest whole
    (no_event c.args.number line (sym c.skips.ensures ∙ c.if-skips.false) (sym c.in-None.is ∙ c.in_ok-event.ensures)) c.in_ok-push_fault-in-None.ensures owes

pub returns-in_ok-act-in-Some : goal.returns-in_ok-act-in-Some
returns-in_ok-act-in-Some c = λ done rest whole owes.
    let line = c.args.line.now in
    let is = sym c.in-Some.is ∙ c.in_ok-event.ensures in
    went_on (Follows c.args.office.now) (Follows c.act.new.office) done c.args.out.now.items c.act.new.out.items c.args.number line c.in-Some.event rest whole
    c.in_ok-act-in-Some.ensures (comes_so c.args.number line c.in-Some.event (omega arith) is) (one_event c.args.number line c.in-Some.event (sym c.skips.ensures ∙ c.if-skips.false) is) owes
