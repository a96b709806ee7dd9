use Rattle.std.proofs.Common.{arith, inl, inr, ℕ}
use Rattle.read_planner.specs.declared.place.Place.{Place}
use Rattle.read_planner.proofs.Reaching.{ends_before, of_another, seen_at}
use Rattle.read_planner.proofs.walk.read_end.Goals as goal
use Rattle.read_planner.proofs.walk.read_end.Goals.{then-place-first-via-then-place-first, then-place-first-via-else-place-first+then-bound-place, then-place-first-via-else-place-first+else-bound-place+then-bridged-place}
use Rattle.read_planner.proofs.walk.read_end.Goals.{then-place-bound, else-place-bound}

nowhere : Place
nowhere = record { function = 0; start = 0; end = 0 }

pub returns-then-place-first : goal.returns-then-place-first
unfolding nowhere
returns-then-place-first c =
    let ends = ends_before c.args.first.now c.args.places.now c.args.gap c.loop-place.reach c.loop-place.end c.loop-place.place-index nowhere
    c.loop-place.invariant c.requires.order c.loop-place-test.true in
    elim c.then-place-first.branch [
      | then-place-first-via-then-place-first w ↦
          ends (of_another c.args.first.now c.args.places.now c.args.gap c.loop-place.reach c.loop-place.place-index nowhere c.requires.order c.loop-place-test.true w.if-place-first.true)
      | then-place-first-via-else-place-first+then-bound-place w ↦ ends (inr (inl (omega (arith, c.bound-bound.ensures, w.if-bound-place.true))))
      | then-place-first-via-else-place-first+else-bound-place+then-bridged-place w ↦ ends (inr (inr (omega (arith, c.from.ensures, w.if-bridged-place.true))))
    ]

pub loop-place-preserved : goal.loop-place-preserved
unfolding nowhere
loop-place-preserved c =
    let more = λ (new : ℕ). seen_at c.args.first.now c.args.places.now c.args.gap c.loop-place.reach c.loop-place.end c.loop-place.place-index nowhere c.max-reach.result new
    c.loop-place.invariant c.requires.places c.loop-place-test.true c.if-place-first.false (omega (arith, c.from.ensures, c.if-bridged-place.false)) in
    elim c.if-place-bound.branch [
      | then-place-bound w ↦ more c.if-place-bound.end (inr (omega (arith, c.bound-bound.ensures, w.if-place-bound.true), omega (arith, w.end-is, w.max-end.ensures))) c.max-reach.ensures
      | else-place-bound w ↦ more c.if-place-bound.end (inl (omega (arith, c.bound-bound.ensures, w.if-place-bound.false), w.end-is)) c.max-reach.ensures
    ]
