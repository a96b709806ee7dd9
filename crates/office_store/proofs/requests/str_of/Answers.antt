use Rattle.std.proofs.Common.{sym, ap, ◌∙◌}
use Rattle.std.specs.Str.{is_utf8}
use Rattle.sqlite_value.specs.Value.{owned}
use Rattle.office_store.specs.Rows.{text_that}
use Rattle.office_store.proofs.Spoken.{spoken, silent}
use Rattle.office_store.proofs.requests.str_of.Goals as goal

pub returns-in-Ok : goal.returns-in-Ok
returns-in-Ok c = spoken c.in-Text.bytes.now c.in-Ok.text.now c.in-Ok.ensures.cases.0 c.in-Ok.ensures.cases.1 ∙ ap (λ v. text_that is_utf8 (owned v)) (sym c.in-Text.is)

pub returns-in-Err : goal.returns-in-Err
returns-in-Err c = silent c.in-Text.bytes.now c.in-Err.ensures.cases.0 ∙ ap (λ v. text_that is_utf8 (owned v)) (sym c.in-Text.is)
