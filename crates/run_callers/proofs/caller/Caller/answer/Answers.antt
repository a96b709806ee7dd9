use Rattle.std.proofs.Common.{◌≡◌, ◌++◌, List, ℕ, ◌∙◌, ap, sym, subst}
use Rattle.office_http.specs.Heard.{meaning_of}
use Rattle.office_net.specs.Serving.{written_for}
use Rattle.run_callers.specs.Sessions.{Comes}
use Rattle.run_callers.proofs.caller.Caller.answer.Goals as goal

pub returns-in-Ok-clause-came : goal.returns-in-Ok-clause-came
returns-in-Ok-clause-came g c =
    let put = c.respond.new.self.out ++ c.as_bytes.result.now in
    let same : written_for c.respond.result ≡ put =
    ap written_for c.in-Ok.is ∙ sym c.as_bytes.ensures.value ∙ sym (ap (λ (out : List ℕ). out ++ c.as_bytes.result.now) (c.respond.ensures.same.1 ∙ c.requires.unwritten)) in
    (put, subst (λ (text : List ℕ). Comes c.args.office.now c.respond.new.office (λ meaning. meaning ≡ meaning_of c.args.heard.now) text c.respond.new.self.showing) same c.respond.ensures.came, c.push.ensures.ok)
