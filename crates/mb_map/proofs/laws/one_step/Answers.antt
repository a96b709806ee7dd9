use Rattle.mb_map.proofs.Once.{Spelling, step_once}
use Rattle.mb_map.proofs.laws.one_step.Goals as goal

pub returns : goal.returns
returns c =
    let laws : Spelling = record { value = c.one_value.ensures.request; text = c.one_spelling.ensures.reply } in
    λ before asked a b s t p q. step_once laws before asked a s p b t q
