use Rattle.std.proofs.Common.{sym}
use Rattle.std.specs.Prelude.{string_bytes}
use Rattle.office_net.proofs.Shown.{shown_between}
use Rattle.office_net.proofs.answering.get_readings.Goals as goal

pub returns-clause-value : goal.returns-clause-value
returns-clause-value g c = λ clean now follows.
    shown_between now c.args.point.now c.args.from c.args.to c.in-Some.known c.in-Some-found.rows c.in-Ok.found c.deref.result.now (string_bytes c.in_ok-text.text)
    (sym (c.in-Some.ensures now follows.0)) c.in-Some-found.is c.deref.ensures.value (c.in-Ok.ensures.value clean now follows.0) (c.fitting_tables.ensures now follows.1) c.in_ok-text.ensures
