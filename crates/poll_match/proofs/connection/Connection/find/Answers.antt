use Rattle.std.proofs.Common.{◌≡◌, ◌∙◌, ap, sym, Some, rules, arith, true}
use Rattle.std.specs.List.{list_all}
use Rattle.poll_match.specs.Queries.{is_valid}
use Rattle.poll_match.specs.Window.{Open, numbered, query_at}
use Rattle.poll_match.specs.declared.asked.Matched.{Matched}
use Rattle.poll_match.proofs.Numbers.{numbered_is}
use Rattle.poll_match.proofs.Valid.{can_be_asked, kept_is_valid}
use Rattle.poll_match.proofs.connection.Connection.find.Goals as goal

pub reply_to-requires : goal.reply_to-requires
reply_to-requires c =
    let on : Open = c.args.self.now in
    let at : query_at on c.in-Some.number ≡ Some c.in-Some-query_at.query = search rules in
    let valid : list_all (λ (query : Matched). is_valid query.asked) on.last ≡ true = ap (λ (o : Open). list_all (λ (query : Matched). is_valid query.asked) o.last) (sym c.self.view_is) ∙ c.self.invariant.valid in
    can_be_asked c.in-Some-query_at.query.asked (kept_is_valid on c.in-Some.number c.in-Some-query_at.query valid at)

pub returns-clause-kept : goal.returns-clause-kept
returns-clause-kept c =
    let named : numbered c.args.frame.now.transaction c.self.inside.made ≡ Some c.in-Some.number = search rules in
    let near = numbered_is c.args.frame.now.transaction c.self.inside.made c.in-Some.number named in
    let made : c.args.self.now.made ≡ c.self.inside.made = ap (λ (o : Open). o.made) (sym c.self.view_is) in
    (omega (arith, near.0, made), omega (arith, near.1, made))
