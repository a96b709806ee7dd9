use Rattle.std.proofs.Common.{◌∙◌, ◌≡◌, ℕ, Bool, List, ap, subst}
use Rattle.std.specs.Prelude.{IfOk}
use Rattle.office_core.specs.ByDevice.{points_at}
use Rattle.office_core.specs.Lacking as lacking
use Rattle.office_core.proofs.ByDevice.{lacks_there}
use Rattle.office_core.proofs.lacking.some_lacks.Goals as goal

pub returns-in-Some-clause-value : goal.returns-in-Some-clause-value
returns-in-Some-clause-value g c = λ clean kept held.
    let known = c.args.known.now in
    let device = c.args.device.now in
    let read = c.args.read.now in
    let same = ap (λ (places : List ℕ). lacking.some_lacks (points_at known places) kept.readings device c.args.slot read) c.in-Some.ensures ∙ lacks_there known kept.readings device c.args.slot read in
    subst (λ (b : Bool). IfOk c.one_lacks_at.result (λ some. some ≡ b)) same (c.one_lacks_at.ensures.value clean kept held)
