use Rattle.std.proofs.Common.{rules}
use Rattle.std.proofs.lemmas.Fn.{filter_same}
use Rattle.office_store.specs.Waiting.{is_other}
use Rattle.office_store.proofs.waiting.without.Goals as goal

pub returns : goal.returns
returns c = filter_same _ (is_other c.args.number) _ (λ x b f' k. search rules) _ _ c.retain.ensures.filtered
