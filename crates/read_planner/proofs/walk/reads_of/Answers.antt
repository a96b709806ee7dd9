use Rattle.std.proofs.Common.{arith, subst}
use Rattle.read_planner.specs.Walk.{AreInOrder}
use Rattle.read_planner.proofs.Stepping.{rest_order, rest_places, walked_on, walked_out}
use Rattle.read_planner.proofs.walk.reads_of.Goals as goal

pub read_end-end-requires-clause-first : goal.read_end-end-requires-clause-first
read_end-end-requires-clause-first c =
    (rest_places c.args.places.now c.args.gap c.loop-first.reads.items c.loop-first.rest.now c.in-Some.first.now c.in-Some.others.now c.loop-first.invariant c.in-Some.ensures.cases.0 c.requires.places).0

pub read_end-end-requires-clause-places : goal.read_end-end-requires-clause-places
read_end-end-requires-clause-places c =
    (rest_places c.args.places.now c.args.gap c.loop-first.reads.items c.loop-first.rest.now c.in-Some.first.now c.in-Some.others.now c.loop-first.invariant c.in-Some.ensures.cases.0 c.requires.places).1

pub read_end-end-requires-clause-order : goal.read_end-end-requires-clause-order
read_end-end-requires-clause-order c =
    subst AreInOrder c.in-Some.ensures.cases.0
    (rest_order c.args.places.now c.args.gap c.loop-first.reads.items c.loop-first.rest.now c.loop-first.invariant c.requires.order)

pub read_to-requires-clause-start : goal.read_to-requires-clause-start
read_to-requires-clause-start c =
    let is = (rest_places c.args.places.now c.args.gap c.loop-first.reads.items c.loop-first.rest.now c.in-Some.first.now c.in-Some.others.now c.loop-first.invariant c.in-Some.ensures.cases.0 c.requires.places).0 in
    omega (arith, is.some, is.inside)

pub read_to-requires-clause-some : goal.read_to-requires-clause-some
read_to-requires-clause-some c =
    let is = (rest_places c.args.places.now c.args.gap c.loop-first.reads.items c.loop-first.rest.now c.in-Some.first.now c.in-Some.others.now c.loop-first.invariant c.in-Some.ensures.cases.0 c.requires.places).0 in
    omega (arith, is.some, c.read_end-end.ensures.reaches.first_in)

pub loop-first-preserved : goal.loop-first-preserved
loop-first-preserved c =
    walked_on c.args.places.now c.args.gap c.loop-first.reads.items c.push.new.self.items c.loop-first.rest.now c.in-Some.first.now c.in-Some.others.now c.read_end-end.result c.read_to.result c.held_of.result
    c.loop-first.invariant c.in-Some.ensures.cases.0 c.requires.places c.requires.order c.read_end-end.ensures
    c.read_to.ensures.function c.read_to.ensures.start c.read_to.ensures.end c.in_ok-push.ensures.items c.held_of.ensures.count

pub returns : goal.returns
returns c = walked_out c.args.places.now c.args.gap c.loop-first.reads.items c.loop-first.rest.now c.loop-first.invariant c.in_default.ensures.cases
