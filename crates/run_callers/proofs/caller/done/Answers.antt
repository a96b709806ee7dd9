use Rattle.office_http.specs.Heard.{meaning_of}
use Rattle.run_callers.proofs.Callers.{asks_no_page}
use Rattle.run_callers.proofs.Sessions.{comes_of}
use Rattle.run_callers.proofs.caller.done.Goals as goal

pub returns : goal.returns
returns g c = comes_of c.args.office.now c.respond.new.office (meaning_of c.args.heard.now) c.respond.result (asks_no_page c.args.heard.now c.requires) c.respond.ensures.accounts.2 c.respond.ensures.goes
