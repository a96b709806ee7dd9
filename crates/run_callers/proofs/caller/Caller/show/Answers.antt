use Rattle.std.proofs.Common.{◌≡◌, ◌++◌, [], List, ℕ, Option, Some, ◌∙◌, ap, refl, sym, subst}
use Rattle.std.specs.Prelude.{string_bytes}
use Rattle.office_http.specs.Exchanges.{bytes_of}
use Rattle.office_net.proofs.Querying.{told_err}
use Rattle.run_callers.specs.declared.caller.Mood.{Mood}
use Rattle.run_callers.specs.declared.showing.Showing.{Showing}
use Rattle.run_callers.specs.Callers.{session_in, session_of}
use Rattle.run_callers.specs.Sessions.{Answering, Exchanges, Moves, Session}
use Rattle.run_callers.proofs.Callers.{is_answering}
use Rattle.run_deeds.proofs.Passing.{part_asked}
use Rattle.run_callers.proofs.Sessions.{shows_part}
use Rattle.run_callers.proofs.caller.Caller.show.Goals as goal

pub returns-in-Err-clause-went : goal.returns-in-Err-clause-went
returns-in-Err-clause-went g c = λ source.
    (session_of c.args.self.now, part_asked Moves source c.args.office.now c.go_on.new.office (λ acts. acts ≡ []) (session_of c.args.self.now) c.go_on.ensures.along refl)

pub returns-in_err-push-in-Ok-clause-went : goal.returns-in_err-push-in-Ok-clause-went
returns-in_err-push-in-Ok-clause-went g c = λ source.
    told_err c.from_residual.result _ _ c.from_residual.ensures.0
    (session_of c.args.self.now, part_asked Moves source c.args.office.now c.go_on.new.office (λ acts. acts ≡ []) (session_of c.args.self.now) c.go_on.ensures.along refl)

pub returns-in_ok-push-in-Ok-clause-went : goal.returns-in_ok-push-in-Ok-clause-went
returns-in_ok-push-in-Ok-clause-went g c = λ source.
    let old = c.args.self.now in
    let showing = c.in-Some.showing in
    let text = string_bytes c.in-Ok.shown.text in
    let next = c.in-Ok.shown.next in
    let put : c.push.new.self ≡ old.out ++ text = c.in_ok-push-in-Ok.ensures.ok ∙ ap (λ (bytes : List ℕ). old.out ++ bytes) c.as_bytes.ensures.value in
    let before : session_of old ≡ Answering (Some showing) old.out = is_answering old c.requires ∙ ap (λ (some : Option Showing). Answering some old.out) c.in-Some.is in
    let after : session_in old.mood (bytes_of old.exchange) next c.push.new.self ≡ Answering next (old.out ++ text) =
    ap (λ (mood : Mood). session_in mood (bytes_of old.exchange) next c.push.new.self) c.requires ∙ ap (Answering next) put in
    subst (λ (session : Session). Exchanges source c.args.office.now c.go_on.new.office (λ acts. acts ≡ []) session (session_in old.mood (bytes_of old.exchange) next c.push.new.self)) (sym before)
    (subst (λ (session : Session). Exchanges source c.args.office.now c.go_on.new.office (λ acts. acts ≡ []) (Answering (Some showing) old.out) session) (sym after)
    (shows_part source c.args.office.now c.go_on.new.office showing old.out text next c.go_on.ensures.along c.in-Ok.ensures.part))
