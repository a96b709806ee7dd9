use Rattle.sqlite.specs.Values.{bound}
use Rattle.sqlite.specs.Held.{state}
use Rattle.office_store.proofs.Asking.{keeps}
use Rattle.office_store.proofs.ask.ask.Goals as goal

pub returns-clause-keeps : goal.returns-clause-keeps
returns-clause-keeps g c =
    let made = c.query_all.ensures in
    keeps c.args.sql.now (bound c.args.params.now) (state g.S.Store c.args.connection.now) (state g.S.Store c.query_all.new.self) c.requires.query
    (λ v. v.items) c.query_all.result made.ok made.err made.survives
