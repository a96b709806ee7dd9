use Rattle.std.proofs.Common.{Some, None}
use Rattle.poll_match.specs.Window.{LeastIn}
use Rattle.poll_match.proofs.Least.{least_held, none_held}
use Rattle.poll_match.proofs.matcher.Matcher.conn_of.Goals as goal

pub returns-in-Some-clause-found : goal.returns-in-Some-clause-found
returns-in-Some-clause-found c =
    let all = c.self.inside.connections.items in
    let least : LeastIn c.args.line all (Some c.in-Some.number) = rw c.deref.ensures.value at c.in-Some.ensures in
    rw (c.new.ensures, ← c.self.view_is) (least_held c.args.line c.in-Some.number all c.self.invariant least)

pub returns-in-None-clause-none : goal.returns-in-None-clause-none
returns-in-None-clause-none c =
    let all = c.self.inside.connections.items in
    let least : LeastIn c.args.line all None = rw c.deref.ensures.value at c.in-None.ensures in
    rw (← c.self.view_is) (none_held c.args.line all least)
