use Rattle.std.proofs.Common.{◌≡◌, ◌∙◌, ◌++◌, ◌∷◌, [], ℕ, List, Some, cond, ap, refl, subst}
use Rattle.std.specs.Prelude.{Vec, IsSome}
use Rattle.std.specs.BTreeMap.{BTreeMap, get, is_at}
use Rattle.std.specs.Cmp.Lexicographic.{slice_cmp}
use Rattle.std.specs.Global.{Global}
use Rattle.std.specs.Ordering.{nat_cmp}
use Rattle.office_core.specs.ByDevice.{places_in}
use Rattle.office_core.proofs.ByDevice.{listed_put, listed_same}
use Rattle.office_core.proofs.Newness.{on_err}
use Rattle.office_core.proofs.by_device.ByDevice.put.Goals as goal

pub returns-in_err-push-clause-err : goal.returns-in_err-push-clause-err
returns-in_err-push-clause-err c = on_err c.from_residual.result (λ other.
    let list = c.push.new.self in
    let written = (c.get_mut.follows.holds list).3 (subst IsSome c.in-Some.ensures.value refl) in
    listed_same c.args.device other c.args.self.now.places (c.get_mut.follows.lender list) list (c.in_err-push.ensures.items ∙ ap places_in c.in-Some.ensures.value) (written.0 other))

pub returns-in-Some-clause-put : goal.returns-in-Some-clause-put
returns-in-Some-clause-put c = λ other.
    let list = c.push.new.self in
    let written = (c.get_mut.follows.holds list).3 (subst IsSome c.in-Some.ensures.value refl) in
    listed_put c.args.device other c.args.place c.args.self.now.places (c.get_mut.follows.lender list) list
    (c.in_ok-push.ensures.items ∙ ap (λ (l : List ℕ). l ++ c.args.place ∷ []) (ap places_in c.in-Some.ensures.value)) (written.0 other)

pub returns-in-Ok-clause-put : goal.returns-in-Ok-clause-put
returns-in-Ok-clause-put c = λ other.
    let list = c.push-2.new.self in
    let old = c.args.self.now.places in
    let same : c.get_mut.follows.lender-at-none ≡ old = c.get_mut.follows.holds-at-none in
    listed_put c.args.device other c.args.place old c.insert.new.self list
    (c.in_ok-push-2.ensures.items ∙ ap (λ (l : List ℕ). l ++ c.args.place ∷ []) (c.new-places.ensures.items ∙ ap places_in c.in_default.ensures.value))
    (c.in-Ok.ensures.updates.0 other ∙ ap (λ (m : BTreeMap (List ℕ) (Vec ℕ Global)). cond (is_at (slice_cmp nat_cmp c.args.device) other) (Some list) (get (slice_cmp nat_cmp) m other)) same)
