use Rattle.std.proofs.Common.{◌∙◌, ◌+◌, ◌<◌, ◌++◌, ◌∷◌, [], List, Option, IfSome, sym, subst, arith}
use Rattle.sunspec.specs.Chains.{AreModels, IsModelAt}
use Rattle.sunspec.specs.declared.chain.Model.{Model}
use Rattle.sunspec.proofs.Walked.{one_more}
use Rattle.sunspec.proofs.discovery.discover.Goals as goal

-- the model that was found is one more of the image
pub loop-models-preserved : goal.loop-models-preserved
loop-models-preserved g c = record {
  base = c.loop-models.invariant.base;
  are = λ known e.
      let b = c.in_ok-base.base + 2 in
      let model = c.in-Some.model in
      let here : IsModelAt known c.loop-models.address model =
      subst (λ o. IfSome o (IsModelAt known c.loop-models.address)) c.in-Some.is (c.in_ok-model.ensures.model known (c.loop-models.invariant.same ∙ e)) in
      subst (λ (ms : List Model). AreModels known b ms (model.address + 2 + model.length)) (sym c.in_ok-push.ensures.items)
      (subst (λ a. AreModels known b (c.loop-models.models.items ++ model ∷ []) (a + 2 + model.length)) (sym here.at)
      (one_more known b c.loop-models.models.items c.loop-models.address model (c.loop-models.invariant.are known e) here));
  few =
      let before : c.len.result < 256 = subst (λ (o : Option Model). IfSome o (λ _. c.len.result < 256)) c.in-Some.is c.in_ok-model.ensures.few in
      omega (arith, c.in_ok-push.ensures.len, c.len.ensures);
  counted = omega (arith, c.loop-models.invariant.counted, c.model_at.ensures.counted);
  same = c.model_at.ensures.same ∙ c.loop-models.invariant.same;
}
