use Rattle.std.proofs.Common.{◌≡◌, ◌∙◌, sym, ap, subst, Some, None, Option, rules}
use Rattle.std.specs.Prelude.{IfErr, IfOk, OnOk}
use Rattle.poll_match.specs.Window.{KeepsQuery, Open, place, held, refusal, Names}
use Rattle.poll_match.proofs.Places.{held_at, not_held}
use Rattle.poll_match.proofs.matcher.Matcher.find.Goals as goal

pub returns-in-Some-clause-refused : goal.returns-in-Some-clause-refused
returns-in-Some-clause-refused c =
    let all = c.self.inside.connections.items in
    let at : place c.args.conn all ≡ Some c.in-Some.place = search rules in
    let is : Some c.index.result.now ≡ held c.args.conn c.args.self.now = ap Some c.index.ensures ∙ sym (held_at c.args.conn all c.in-Some.place c.index.result.now at).1 ∙ ap (held c.args.conn) c.self.view_is in
    subst (λ (o : Option Open). IfErr c.find.result (λ e. refusal o c.args.frame.now ≡ Some e)) is c.find.ensures.refused

pub returns-in-Some-clause-accepted : goal.returns-in-Some-clause-accepted
returns-in-Some-clause-accepted c =
    let all = c.self.inside.connections.items in
    let at : place c.args.conn all ≡ Some c.in-Some.place = search rules in
    let is : Some c.index.result.now ≡ held c.args.conn c.args.self.now = ap Some c.index.ensures ∙ sym (held_at c.args.conn all c.in-Some.place c.index.result.now at).1 ∙ ap (held c.args.conn) c.self.view_is in
    subst (λ (o : Option Open). OnOk c.find.result (refusal o c.args.frame.now ≡ None)) is c.find.ensures.accepted

pub returns-in-Some-clause-found : goal.returns-in-Some-clause-found
returns-in-Some-clause-found c =
    let all = c.self.inside.connections.items in
    let at : place c.args.conn all ≡ Some c.in-Some.place = search rules in
    let is : Some c.index.result.now ≡ held c.args.conn c.args.self.now = ap Some c.index.ensures ∙ sym (held_at c.args.conn all c.in-Some.place c.index.result.now at).1 ∙ ap (held c.args.conn) c.self.view_is in
    subst (λ (o : Option Open). IfOk c.find.result (λ f. Names o c.args.frame.now f.number f.asked f.reply)) is c.find.ensures.found

pub returns-in-None-clause-refused : goal.returns-in-None-clause-refused
returns-in-None-clause-refused c =
    let all = c.self.inside.connections.items in
    let at : place c.args.conn all ≡ None = search rules in
    ap (λ (o : Option Open). refusal o c.args.frame.now) (sym (ap (held c.args.conn) c.self.view_is) ∙ not_held c.args.conn all at)

pub returns-in-Some-clause-kept : goal.returns-in-Some-clause-kept
returns-in-Some-clause-kept c =
    let all = c.self.inside.connections.items in
    let at : place c.args.conn all ≡ Some c.in-Some.place = search rules in
    let is : Some c.index.result.now ≡ held c.args.conn c.args.self.now = ap Some c.index.ensures ∙ sym (held_at c.args.conn all c.in-Some.place c.index.result.now at).1 ∙ ap (held c.args.conn) c.self.view_is in
    subst (λ (o : Option Open). IfOk c.find.result (λ f. KeepsQuery o f.number)) is c.find.ensures.kept
