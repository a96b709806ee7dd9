use Rattle.std.proofs.Common.{◌≡◌, ◌∙◌, ◌∷◌, ◌++◌, [], sym, ap, subst}
use Rattle.std.specs.Prelude.{IfOk}
use Rattle.std.specs.Io.KnownBytes.{Appends}
use Rattle.mb_mbap.specs.Counted.{inner_of}
use Rattle.office_core.specs.History.{Restart}
use Rattle.office_script.specs.Printing.{fault_line}
use Rattle.office_script.specs.Scripts.{Course}
use Rattle.office_script.specs.Playing.{Opens, TookFront}
use Rattle.office_script.proofs.player.perform.Goals as goal

pub returns-in_ok-office-in-Ready-clause-ending : goal.returns-in_ok-office-in-Ready-clause-ending
returns-in_ok-office-in-Ready-clause-ending g c =
    subst (λ o. IfOk c.play.result (λ ending. ending ≡ o)) (sym (ap (λ (c : Course). c.ending) (subst (Opens c.args.script.now) c.in-Ready.is c.in_ok-site.ensures).1))
    (c.play.ensures.ending (Restart c.in-Ready.site ∷ []) c.in_ok-office-in-Ready.ensures)

pub returns-in_ok-office-in-Ready-clause-memory : goal.returns-in_ok-office-in-Ready-clause-memory
returns-in_ok-office-in-Ready-clause-memory g c = λ memory.
    subst (TookFront (g.W.Write.contents (inner_of c.args.writer.now)) (g.W.Write.contents (inner_of c.play.new.writer))) (sym (ap (λ (c : Course). c.text) (subst (Opens c.args.script.now) c.in-Ready.is c.in_ok-site.ensures).1))
    (c.play.ensures.memory (Restart c.in-Ready.site ∷ []) c.in_ok-office-in-Ready.ensures memory)

pub returns-in_ok-write_pending-in-Broken-clause-output : goal.returns-in_ok-write_pending-in-Broken-clause-output
returns-in_ok-write_pending-in-Broken-clause-output g c =
    let opens = subst (Opens c.args.script.now) c.in-Broken.is c.in_ok-site.ensures in
    let all = c.in_ok-push_fault-in-Broken.ensures ∙ ap (λ out. out ++ fault_line c.in-Broken.number) c.new-out.ensures.items ∙ sym (ap (λ (c : Course). c.text) opens) in
    subst (Appends (g.W.Write.contents (inner_of c.args.writer.now)) (g.W.Write.contents (inner_of c.write_pending.new.writer))) all c.in_ok-write_pending-in-Broken.ensures.all
