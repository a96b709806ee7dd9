use Rattle.std.proofs.lemmas.Str.{is_utf8-from_IsUtf8}
use Rattle.office_http.proofs.Utf8.{not_utf8}
use Rattle.office_http.proofs.document.text_of.Goals as goal

pub returns-in-Ok-clause-some : goal.returns-in-Ok-clause-some
returns-in-Ok-clause-some c = (c.in-Ok.ensures.cases.0, is_utf8-from_IsUtf8 c.args.bytes.now c.in-Ok.ensures.cases.1)

pub returns-in-Err-clause-none : goal.returns-in-Err-clause-none
returns-in-Err-clause-none c = not_utf8 c.args.bytes.now c.in-Err.ensures.cases.0
