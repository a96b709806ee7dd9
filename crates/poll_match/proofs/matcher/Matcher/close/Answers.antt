use Rattle.std.proofs.Common.{rules}
use Rattle.std.proofs.Common.{not, eqb}
use Rattle.std.proofs.lemmas.Fn.{filter_same}
use Rattle.poll_match.specs.Window.{Open}
use Rattle.poll_match.proofs.Places.{apart_closed, closes}
use Rattle.poll_match.proofs.matcher.Matcher.close.Goals as goal

pub invariant_of-self : goal.invariant_of-self
invariant_of-self c =
    let items = filter_same _ (λ (on : Open). not (eqb on.number c.args.conn)) _ (λ x b f' k. search rules) _ _ c.retain.ensures.filtered in
    rw items (apart_closed c.args.conn c.self.inside.connections.items c.self.invariant)

pub returns : goal.returns
returns c =
    let items = filter_same _ (λ (on : Open). not (eqb on.number c.args.conn)) _ (λ x b f' k. search rules) _ _ c.retain.ensures.filtered in
    rw (items, ← c.self.view_is) (closes c.args.conn c.self.inside.connections.items c.self.invariant)
