use Rattle.std.proofs.Common.{◌∙◌, ap, map, String, Global, string_bytes}
use Rattle.clap.specs.Words.{app_of}
use Rattle.office_words.specs.Line.{line_of}
use Rattle.office_words.proofs.Parsing.{found_job, job_given, no_job, refused}
use Rattle.office_words.proofs.words.read_words.Goals as goal

pub returns-in-Ok-clause-job : goal.returns-in-Ok-clause-job
unfolding line_of
returns-in-Ok-clause-job c =
    let at = ap (map (λ (w : String Global). string_bytes w)) c.as_slice.ensures.value in
    let same = found_job (app_of c.in_ok-command.command) _ _ c.in-Ok.matches c.in-Ok.ensures.matches c.in-Ok.ensures.kinds c.in_ok-command.ensures at in
    job_given c.job_in.result _ _ c.job_in.ensures same

pub returns-in-Ok-clause-words : goal.returns-in-Ok-clause-words
unfolding line_of
returns-in-Ok-clause-words c =
    let at = ap (map (λ (w : String Global). string_bytes w)) c.as_slice.ensures.value in
    let same = found_job (app_of c.in_ok-command.command) _ _ c.in-Ok.matches c.in-Ok.ensures.matches c.in-Ok.ensures.kinds c.in_ok-command.ensures at in
    no_job c.job_in.result _ _ c.job_in.ensures same

pub returns : goal.returns
unfolding line_of
returns c =
    let at = ap (map (λ (w : String Global). string_bytes w)) c.as_slice.ensures.value in
    record { job = tt; words = λ _. refused (app_of c.in_ok-command.command) _ _ c.in-Err.error c.in-Err.ensures.kinds c.in_ok-command.ensures at (λ bad. c.in_default.not-OutOfMemory (c.kind.ensures ∙ bad)) }
