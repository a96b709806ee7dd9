use Rattle.std.proofs.Common.{[], Vec, Global}
use Rattle.sqlite.specs.Held.{state}
use Rattle.office_store.specs.Texts.{version_text}
use Rattle.sqlite_value.specs.Order.{Row}
use Rattle.office_store.proofs.Asking.{ending, same_if_ok}
use Rattle.office_store.proofs.Moving.{still_after, was_after}
use Rattle.office_store.proofs.Queries.{version_is_query}
use Rattle.office_store.proofs.migrating.ask_version.Goals as goal

pub ask-requires-clause-query : goal.ask-requires-clause-query
ask-requires-clause-query g c = version_is_query

pub returns-clause-same : goal.returns-clause-same
returns-clause-same g c clean =
    same_if_ok version_text [] (state g.S.Store c.args.connection.now) (state g.S.Store c.ask.new.connection) version_is_query (λ (rows : Vec Row Global). rows.items) c.ask.result (c.ask.ensures.rows clean)

pub returns-clause-was : goal.returns-clause-was
returns-clause-was g c clean kept was now_open =
    let old = state g.S.Store c.args.connection.now in
    let new = state g.S.Store c.ask.new.connection in
    was_after old new kept was now_open (ending version_text [] old new version_is_query (λ (rows : Vec Row Global). rows.items) c.ask.result (c.ask.ensures.rows clean) (c.ask.ensures.fails clean))

pub returns-clause-still : goal.returns-clause-still
returns-clause-still g c clean settled now_open =
    let old = state g.S.Store c.args.connection.now in
    let new = state g.S.Store c.ask.new.connection in
    still_after old new settled now_open (ending version_text [] old new version_is_query (λ (rows : Vec Row Global). rows.items) c.ask.result (c.ask.ensures.rows clean) (c.ask.ensures.fails clean))
