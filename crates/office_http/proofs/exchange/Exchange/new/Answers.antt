use Rattle.std.proofs.Common.{[], ℕ, List, sym, subst}
use Rattle.office_http.specs.Deciding.{Lacks}
use Rattle.office_http.specs.Head.{BeginsWithHead}
use Rattle.office_http.proofs.Reading.{headless_empty, lacks_headless}
use Rattle.office_http.proofs.exchange.Exchange.new.Goals as goal

pub invariant_of-result : goal.invariant_of-result
invariant_of-result c = subst (λ (bytes : List ℕ). BeginsWithHead bytes → ⊥) (sym c.new.ensures.items) headless_empty

pub returns-clause-lacks : goal.returns-clause-lacks
returns-clause-lacks c = subst (Lacks c.args.routes) (sym c.new.ensures.items) (lacks_headless c.args.routes [] headless_empty)
