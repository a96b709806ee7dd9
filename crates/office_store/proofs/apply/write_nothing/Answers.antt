use Rattle.office_store.proofs.Committing.{leaves_commit}
use Rattle.office_store.proofs.apply.write_nothing.Goals as goal

pub returns-clause-durable : goal.returns-clause-durable
returns-clause-durable g c clean kept holds left may =
    let now = c.last_connection.new.connection in
    let opened = (c.in_ok-last_connection.ensures.open clean).1 in
    let held = c.last_connection.ensures.keeps.holds kept holds clean opened in
    leaves_commit g.S.Store now kept left (λ db. g.met.S.Store.settled now.store db) opened (c.schema.ensures.live opened).0 held may
