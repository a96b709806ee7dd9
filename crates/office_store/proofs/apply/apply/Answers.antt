use Rattle.std.proofs.Common.{◌≡◌, OnOk, sym, subst}
use Rattle.sqlite.specs.Held.{state}
use Rattle.poll_book.specs.Tables.{Tables}
use Rattle.office_store.specs.Kept.{MayLeave}
use Rattle.office_store.proofs.apply.apply.Goals as goal

pub returns-then-is_empty-clause-durable : goal.returns-then-is_empty-clause-durable
returns-then-is_empty-clause-durable g c clean kept holds fresh =
    let same = c.is_empty.ensures.same kept c.if-is_empty.true in
    subst (λ (after : Tables). OnOk c.write_nothing.result ((left : Tables) → MayLeave (state g.S.Store c.write_nothing.new.connection) left → left ≡ after)) (sym same)
    (c.write_nothing.ensures.durable clean kept holds)
