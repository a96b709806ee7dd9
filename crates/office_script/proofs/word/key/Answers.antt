use Rattle.office_script.proofs.Keys.{no_key}
use Rattle.office_script.proofs.word.key.Goals as goal

pub returns-in-Err : goal.returns-in-Err
returns-in-Err c = no_key c.args.word.now c.in-Err.ensures.cases.0
