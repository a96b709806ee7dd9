use Rattle.office_http.proofs.answer.refusal.Goals as goal

pub returns-in-NotFound : goal.returns-in-NotFound
returns-in-NotFound c = rw c.in-NotFound.is c.error-in-NotFound.ensures
