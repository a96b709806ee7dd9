use Rattle.std.proofs.Common.{subst}
use Rattle.office_http.specs.declared.routes.Routes.{Routes}
use Rattle.office_http.specs.Deciding.{Lacks}
use Rattle.office_http.specs.Exchanges.{bytes_of}
use Rattle.run_callers.proofs.caller.Caller.new.Goals as goal

pub invariant_of-result-clause-lacks : goal.invariant_of-result-clause-lacks
invariant_of-result-clause-lacks c = λ hearing. subst (λ (routes : Routes). Lacks routes (bytes_of c.new.result)) c.new.ensures.routes c.new.ensures.lacks
