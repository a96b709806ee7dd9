use Rattle.std.proofs.Common.{◌≡◌, ◌≤◌, ◌<◌, ℕ, ◌+◌, ◌-◌, List, ◌++◌, length, take, min, arith, length-take, length-append, sym, ap, ◌∙◌, subst}
use Rattle.std.proofs.lemmas.List.{length-take-le}
use Rattle.mb_mbap.specs.Stream.{IsOpen, wanted}
use Rattle.mb_mbap.proofs.Rests.{open_wanted}
use Rattle.mb_mbap.proofs.Pieces.{stands_more, stands_whole, stands_bad}
use Rattle.mb_mbap.proofs.held.Held.take_more.Goals as goal
use Rattle.mb_mbap.proofs.held.Held.take_more.Goals.{in-More, in-Whole, in-Bad}

-- so many bytes are there to be taken
taken_length : (n w len : ℕ) (next : List ℕ) → n ≡ min (w - len) (length next) → length (take n next) ≡ n
taken_length n w len next is = length-take-le n next (omega (arith, is))

pub put_behind-requires : goal.put_behind-requires
put_behind-requires c =
    let most = open_wanted (take c.self.inside.len c.self.inside.bytes) c.self.invariant.1 in
    let n = taken_length c.min-taken.result c.wanted.result c.self.inside.len c.args.next.now c.min-taken.ensures in
    let partial = c.self.invariant.1.partial in
    let long = length-take c.self.inside.len c.self.inside.bytes in
    omega (arith, most, n, partial, long, c.wanted.ensures, c.min-taken.ensures, c.self.told, c.self.invariant.0)

pub invariant_of-self-in-Bad : goal.invariant_of-self-in-Bad
invariant_of-self-in-Bad c = rw c.put_behind.ensures.front c.self.invariant

pub returns : goal.returns
returns c =
    let held : List ℕ = c.args.self.now in
    let taken : List ℕ = take c.min-taken.result c.args.next.now in
    let n = taken_length c.min-taken.result c.wanted.result c.self.inside.len c.args.next.now c.min-taken.ensures in
    let long = length-take c.self.inside.len c.self.inside.bytes in
    let partial = c.self.invariant.1.partial in
    let xs-is : take (c.self.inside.len + c.min-taken.result) c.put_behind.new.room ≡ c.args.self.now ++ take c.min-taken.result c.args.next.now =
    ap (λ (k : ℕ). take (c.self.inside.len + k) c.put_behind.new.room) (sym n) ∙ c.put_behind.ensures.behind
    ∙ ap (λ (xs : List ℕ). xs ++ take c.min-taken.result c.args.next.now) c.self.view_is in
    let part : IsOpen c.args.self.now = subst IsOpen c.self.view_is c.self.invariant.1 in
    let whole = length-append c.args.self.now (take c.min-taken.result c.args.next.now) in
    let held-len = ap length c.self.view_is in
    let held-wanted = ap wanted c.self.view_is in
    let some : 0 < c.min-taken.result = omega (arith, partial, long, c.wanted.ensures, c.min-taken.ensures, c.self.told, c.self.invariant.0, c.requires) in
    let most : length (c.args.self.now ++ take c.min-taken.result c.args.next.now) ≤ wanted c.args.self.now =
    omega (arith, whole, n, held-len, held-wanted, partial, long, c.wanted.ensures, c.min-taken.ensures, c.self.told, c.self.invariant.0) in (
      some,
      omega (arith, c.min-taken.ensures),
      elim c.match-step.branch [
        | in-More w ↦ rw w.self-is (stands_more held taken _ _ w.in-More.is xs-is c.step_of-step.ensures)
        | in-Whole w ↦ rw w.self-is (stands_whole held taken _ _ _ w.in-Whole.is part xs-is most c.step_of-step.ensures)
        | in-Bad w ↦ stands_bad held taken _ c.match-step.self _ _ w.in-Bad.is xs-is c.step_of-step.ensures
      ],
    )
