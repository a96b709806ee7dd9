use Rattle.std.proofs.Common.{◌≡◌, ◌∙◌, ◌+◌, Some, length, sym, ap, subst}
use Rattle.sunspec.specs.Sources.{Stand}
use Rattle.sunspec.specs.Chains.{AreOf, common_of}
use Rattle.sunspec.proofs.CommonModel.{AreValuesIn, are_common}
use Rattle.sunspec.proofs.common_model.common.Goals as goal

pub returns-clause-values : goal.returns-clause-values
returns-clause-values g c known e =
    let words = c.as_slice-2.result.now in
    let count : length words ≡ 65 = ap length c.as_slice-2.ensures.value ∙ c.in_ok-words.ensures.count in
    let stand : Stand known (c.in-Some.model.address + 2) words =
    subst (Stand known (c.in-Some.model.address + 2)) (sym c.as_slice-2.ensures.value) (c.in_ok-words.ensures.words known e) in
    let says = c.common_in.ensures in
    let values : AreValuesIn words c.common_in.result = record { mn = says.mn; md = says.md; opt = says.opt; vr = says.vr; sn = says.sn; da = says.da } in
    let is : Some c.in-Some.model ≡ common_of c.args.chain.now.models.items = c.in-Some.ensures ∙ ap common_of c.as_slice.ensures.value in
    subst (λ o. AreOf known o (Some c.common_in.result)) is (are_common known c.in-Some.model.address words c.common_in.result count stand values)
