use Rattle.std.proofs.Common.{rules}
use Rattle.std.proofs.lemmas.Fn.{filter_same}
use Rattle.run_lines.specs.Windows.{is_of_another}
use Rattle.run_lines.proofs.window.drop_of.Goals as goal

pub returns-clause-rest : goal.returns-clause-rest
returns-clause-rest c = filter_same _ (is_of_another c.args.device) _ (λ x b f' k. search rules) _ _ c.retain.ensures.filtered
