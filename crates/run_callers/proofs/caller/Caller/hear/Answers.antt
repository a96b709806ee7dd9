use Rattle.std.proofs.Common.{◌≡◌, ◌++◌, List, [], ℕ, Option, None, ◌∙◌, ap, sym, subst}
use Rattle.run_callers.specs.declared.showing.Showing.{Showing}
use Rattle.office_core.proofs.Proceeding.{along_still}
use Rattle.office_http.specs.Answers.{unavailable_text}
use Rattle.office_http.specs.declared.routes.Routes.{Routes}
use Rattle.office_http.specs.declared.routes.Routes.TheVariants.{Extended}
use Rattle.office_http.specs.Deciding.{Decides, Lacks}
use Rattle.office_http.specs.Exchanges.{bytes_of, routes_of}
use Rattle.office_http.specs.Heard.{meaning_of}
use Rattle.office_http.specs.Judging.{Judges}
use Rattle.office_http.specs.declared.heard.Heard.{Heard}
use Rattle.office_http.specs.Meanings.{Meaning}
use Rattle.run_callers.specs.Callers.{session_of}
use Rattle.run_callers.specs.Sessions.{Answering, Exchanges, Hearing}
use Rattle.run_callers.proofs.Callers.{is_answering}
use Rattle.run_callers.proofs.Sessions.{comes_untried, replies_at_once, reply_put}
use Rattle.run_callers.proofs.caller.Caller.hear.Goals as goal

pub returns-in-Ok-Some : goal.returns-in-Ok-Some
returns-in-Ok-Some g c = λ source.
    let heard = bytes_of c.args.self.now.exchange ++ c.args.piece.now in
    let came = c.answer.ensures.came in
    reply_put source c.args.office.now c.answer.new.office (Hearing heard) (session_of c.answer.new.self) c.answer.new.self.showing c.answer.new.self.out came.0 c.answer.result
    (is_answering c.answer.new.self c.answer.ensures.mood) came.2
    (replies_at_once source c.args.office.now c.answer.new.office (λ meaning. meaning ≡ meaning_of c.in-Ok-Some.heard) heard came.0 c.answer.new.self.showing
    (λ meaning same. subst (λ (some : Meaning). Decides Extended heard some) (sym same)
    (subst (λ (bytes : List ℕ). Decides Extended bytes (meaning_of c.in-Ok-Some.heard)) c.in-Ok-Some.ensures.taken
    (subst (λ (told : Option Heard). Judges Extended (bytes_of c.take.new.self) told) c.in-Ok-Some.field-0-is
    (subst (λ (routes : Routes). Judges routes (bytes_of c.take.new.self) c.in-Ok-Some.field-0) (c.in-Ok-Some.ensures.same ∙ c.args.self.now.offers) c.in-Ok-Some.ensures.asked)))) came.1)

pub returns-in-Err : goal.returns-in-Err
returns-in-Err g c = λ source.
    let heard = bytes_of c.args.self.now.exchange ++ c.args.piece.now in
    reply_put source c.args.office.now c.args.office.now (Hearing heard) (Answering c.args.self.now.showing c.push.new.self) None c.push.new.self (c.args.self.now.out ++ c.unavailable.result.now)
    c.push.result (ap (λ (next : Option Showing). Answering next c.push.new.self) (c.args.self.now.unshown c.requires)) c.push.ensures.ok
    (subst (λ (text : List ℕ). Exchanges source c.args.office.now c.args.office.now (λ acts. acts ≡ []) (Hearing heard) (Answering None text))
    (sym c.unavailable.ensures ∙ sym (ap (λ (out : List ℕ). out ++ c.unavailable.result.now) (c.args.self.now.unwritten c.requires)))
    (replies_at_once source c.args.office.now c.args.office.now (Decides Extended heard) heard unavailable_text None (λ meaning decides. decides)
    (comes_untried c.args.office.now c.args.office.now (Decides Extended heard) (along_still c.args.office.now))))

pub invariant_of-self-clause-lacks : goal.invariant_of-self-clause-lacks
invariant_of-self-clause-lacks g c = λ hearing.
    subst (λ (routes : Routes). Lacks routes (bytes_of c.take.new.self)) (c.in-Ok-None.ensures.same ∙ c.args.self.now.offers)
    (subst (λ (told : Option Heard). Judges (routes_of c.take.new.self) (bytes_of c.take.new.self) told) c.in-Ok-None.field-0-is c.in-Ok-None.ensures.asked)
