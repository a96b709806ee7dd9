use Rattle.std.proofs.Common.{Option, sym, subst, unwrap_or, ℕ}
use Rattle.sqlite.specs.Held.{state}
use Rattle.office_store.specs.Writing.{Within}
use Rattle.office_store.proofs.write_numbers.put_connections.Goals as goal

pub returns-in_ok-put_connection-clause-put : goal.returns-in_ok-put_connection-clause-put
returns-in_ok-put_connection-clause-put g c clean base kept within =
    let new = state g.S.Store c.put_connection.new.tx.conn.now in
    let put = c.in_ok-put_connection.ensures.put clean base kept within in
    subst (λ (o : Option ℕ). Within new base (record kept { connections = unwrap_or o kept.connections })) (sym c.in-Some.is) put
