use Rattle.std.proofs.Common.{◌≡◌, ◌∙◌, ap, sym, Some, None, rules, true, false}
use Rattle.std.specs.List.{list_all}
use Rattle.poll_match.specs.Briefs.{asks_bits, named, whole}
use Rattle.poll_match.specs.Queries.{is_valid}
use Rattle.poll_match.specs.Window.{Names, Open, numbered, query_at, refusal}
use Rattle.poll_match.specs.declared.asked.Matched.{Matched}
use Rattle.poll_match.proofs.Numbers.{numbered_is}
use Rattle.poll_match.proofs.Valid.{kept_is_valid}
use Rattle.poll_match.proofs.connection.Connection.find_brief.Goals as goal

pub brief_reply_to-requires-clause-valid : goal.brief_reply_to-requires-clause-valid
brief_reply_to-requires-clause-valid c =
    let on : Open = c.args.self.now in
    let at : query_at on c.in-Some.number ≡ Some c.in-Some-query_at.query = search rules in
    let valid : list_all (λ (query : Matched). is_valid query.asked) on.last ≡ true = ap (λ (o : Open). list_all (λ (query : Matched). is_valid query.asked) o.last) (sym c.self.view_is) ∙ c.self.invariant.valid in
    kept_is_valid on c.in-Some.number c.in-Some-query_at.query valid at

pub returns : goal.returns
returns c =
    let on : Open = c.args.self.now in
    let frame = c.args.frame.now in
    let query = c.in-Some-query_at.query in
    let so : numbered frame.transaction on.made ≡ Some c.in-Some.number = search rules in
    let at : query_at on c.in-Some.number ≡ Some query = search rules in
    let near = numbered_is frame.transaction on.made c.in-Some.number so in
    let plain : asks_bits (named (Some on) frame) ≡ false = rw (so, at) (sym c.reads_bits.ensures ∙ c.if-reads_bits.false) in
    let accepted : refusal (Some on) frame ≡ None = rw (so, at) c.in_ok-reply.ensures.accepted in
    let names : Names (Some on) frame c.in-Some.number query.asked (whole c.in_ok-reply.reply) = search rules in
    (plain, accepted, names, (near.0, near.1))
