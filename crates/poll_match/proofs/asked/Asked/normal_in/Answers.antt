use Rattle.std.proofs.Common.{◌∙◌, sym}
use Rattle.poll_match.proofs.Briefs.{same_as}
use Rattle.poll_match.proofs.asked.Asked.normal_in.Goals as goal

pub returns-else-eq-clause-test : goal.returns-else-eq-clause-test
returns-else-eq-clause-test c =
    rw (c.in-Write.is, c.echo.ensures, ← c.as_bytes.ensures.value) (sym c.if-eq.false ∙ c.eq.ensures ∙ sym (same_as c.args.bytes.now c.as_bytes.result.now))
