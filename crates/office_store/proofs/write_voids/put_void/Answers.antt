use Rattle.std.proofs.Common.{sym, subst}
use Rattle.sqlite.specs.Held.{state}
use Rattle.poll_book.specs.Changes.{IsNotVoided, with_voided}
use Rattle.office_store.specs.Writing.{Within}
use Rattle.office_store.proofs.write_voids.put_void.Goals as goal

pub returns-in_ok-add_void-clause-put : goal.returns-in_ok-add_void-clause-put
returns-in_ok-add_void-clause-put g c clean base kept within fresh =
    let is = c.in-Some.is in
    let here = subst (IsNotVoided kept.voids) is fresh in
    let done = c.in_ok-add_void.ensures.put clean base kept within here in
    subst (λ v. Within (state g.S.Store c.add_void.new.tx.conn.now) base (record kept { voids = with_voided v kept.voids })) (sym is) done
