use Rattle.std.proofs.Common.{refl}
use Rattle.office_words.proofs.Added.{more}
use Rattle.office_words.proofs.line.with_store_commands.Goals as goal

pub returns : goal.returns
returns c =
    let one = more _ _ _ _ _ c.in_ok-command.ensures refl c.in_ok-void.ensures.line in
    let two = more _ _ _ _ _ c.in_ok-command-2.ensures one c.in_ok-migrate.ensures.line in
    more _ _ _ _ _ c.in_ok-command-3.ensures two c.in_ok-run.ensures.line
