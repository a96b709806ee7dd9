use Rattle.std.proofs.Common.{ap, not, ◌∙◌}
use Rattle.sqlite.specs.Held.{state}
use Rattle.reopening.proofs.Makings.{bare_or_empty}
use Rattle.reopening.proofs.make_beside.Goals as goal

pub returns : goal.returns
returns g c =
    let fresh = c.is_autocommit.ensures.settled (c.is_autocommit.ensures.value ∙ ap not c.requires.idle) in
    let found = c.is_autocommit-2.ensures.settled (c.is_autocommit-2.ensures.value ∙ ap not c.requires.found_idle) in
    bare_or_empty (state g.S.Store c.args.fresh.now) (state g.S.Store c.create.new.connection) (state g.S.Store c.args.found.now) c.schema.ensures.live fresh
    (λ db. g.met.S.Store.settled c.args.fresh.now.store db) c.create.ensures.stop c.schema-2.ensures.live found
