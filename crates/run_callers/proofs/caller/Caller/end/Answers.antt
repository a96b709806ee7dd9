use Rattle.std.proofs.Common.{◌≡◌, sym, subst}
use Rattle.office_http.specs.declared.routes.Routes.{Routes}
use Rattle.office_http.specs.declared.routes.Routes.TheVariants.{Extended}
use Rattle.office_http.specs.Deciding.{Lacks, Means}
use Rattle.office_http.specs.Exchanges.{bytes_of}
use Rattle.office_http.specs.Heard.{meaning_of}
use Rattle.office_http.specs.Meanings.{Meaning}
use Rattle.run_callers.specs.Callers.{session_of}
use Rattle.run_callers.specs.Sessions.{Heard}
use Rattle.run_callers.proofs.Callers.{is_answering}
use Rattle.run_callers.proofs.Sessions.{replies_at_the_end, reply_put}
use Rattle.run_callers.proofs.caller.Caller.end.Goals as goal

pub returns : goal.returns
returns g c = λ source.
    let heard = bytes_of c.args.self.now.exchange in
    let came = c.answer.ensures.came in
    reply_put source c.args.office.now c.answer.new.office (Heard heard) (session_of c.answer.new.self) c.answer.new.self.showing c.answer.new.self.out came.0 c.answer.result
    (is_answering c.answer.new.self c.answer.ensures.mood) came.2
    (replies_at_the_end source c.args.office.now c.answer.new.office (λ meaning. meaning ≡ meaning_of c.end-heard.result) heard came.0 c.answer.new.self.showing
    (λ meaning same. subst (λ (some : Meaning). Means Extended heard some) (sym same)
    (subst (λ (routes : Routes). Lacks routes heard → Means routes heard (meaning_of c.end-heard.result)) c.args.self.now.offers c.end-heard.ensures (c.args.self.now.lacks c.requires))) came.1)
