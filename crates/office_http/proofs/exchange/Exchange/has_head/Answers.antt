use Rattle.std.proofs.Common.{ap, refl, subst}
use Rattle.office_http.specs.Exchanges.{bytes_of}
use Rattle.office_http.specs.Head.{BeginsWithHead}
use Rattle.office_http.specs.Stages.{IsAt}
use Rattle.office_http.proofs.Reading.{asks_headed}
use Rattle.office_http.proofs.exchange.Exchange.has_head.Goals as goal

pub returns-in-Headed : goal.returns-in-Headed
returns-in-Headed c =
    let at = subst (IsAt c.self.inside.routes c.self.inside.bytes.items) c.in-Headed.is c.self.invariant in
    (λ _. subst BeginsWithHead (ap bytes_of c.self.view_is) at, λ _. refl)

pub returns-in-InBody : goal.returns-in-InBody
returns-in-InBody c =
    let at = subst (IsAt c.self.inside.routes c.self.inside.bytes.items) c.in-InBody.is c.self.invariant in
    (λ _. subst BeginsWithHead (ap bytes_of c.self.view_is) (asks_headed c.self.inside.routes c.self.inside.bytes.items c.in-InBody.start _ at.1), λ _. refl)
