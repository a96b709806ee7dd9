use Rattle.std.proofs.Common.{◌∙◌, ap}
use Rattle.office_words.specs.Line.{answer_lines, device_lines, store_lines, with_commands, with_lines}
use Rattle.office_words.proofs.line.with_commands.Goals as goal

pub returns : goal.returns
unfolding with_commands
returns c =
    let asking = c.in_ok-command-2.ensures ∙ ap (λ a. with_lines a device_lines) c.in_ok-command.ensures in
    let answering = c.in_ok-command-3.ensures ∙ ap (λ a. with_lines a answer_lines) asking in
    c.in_ok-command-4.ensures ∙ ap (λ a. with_lines a store_lines) answering
