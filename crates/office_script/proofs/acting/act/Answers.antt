use Rattle.std.proofs.Common.{◌++◌, ◌∙◌, sym, ap}
use Rattle.office_core.specs.Messages.{happening_of}
use Rattle.office_script.specs.Printing.{answer_line}
use Rattle.office_script.proofs.Acted.{on_ok}
use Rattle.office_script.proofs.Restarts.{has_begun, may_come, may_restart_on, seen_come}
use Rattle.office_script.proofs.acting.act.Goals as goal

pub returns : goal.returns
returns c = on_ok c.push_answer.result (λ printed before follows comes.
    let seen = c.args.event.now in
    let happening = happening_of before seen in
    let legal = may_come before seen comes follows.3 in
    let went = (c.step-told.ensures.goes tt).happened before happening follows.0 legal (seen_come before seen comes) (sym c.is_store.ensures ∙ c.if-is_store.false) in
    ((went.0, (legal, (λ none. absurd (follows.2 none)), follows.1), has_begun happening before, may_restart_on before seen follows.3), printed ∙ ap (λ told. c.args.out.now.items ++ answer_line told) went.1)) c.push_answer.ensures
