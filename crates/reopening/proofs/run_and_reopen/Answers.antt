use Rattle.std.proofs.Common.{◌∷◌, subst}
use Rattle.sqlite.specs.Held.{state}
use Rattle.office_store.specs.Kept.{Holds, IsHeld, MayLeave}
use Rattle.office_store.specs.Keepers.{connection_of}
use Rattle.office_core.specs.History.{Restart, tables}
use Rattle.office_core.specs.Offices.{keeper_of}
use Rattle.reopening.proofs.Leftovers.{first_left, left_of}
use Rattle.reopening.proofs.run_and_reopen.Goals as goal

pub returns : goal.returns
returns g c clean_ran clean_again before rest holds told crash =
    let first = c.in_ok-office.ensures in
    let second = c.in_ok-again.ensures in
    let started = c.in_ok-office.office in
    let begun = state g.S.Store c.args.connection in
    let found = state g.S.Store c.args.found in
    let clean = c.run.ensures.counts.1 clean_ran in
    let opened = first.was_open clean in
    let held = holds (first.clean clean) opened in
    let found_open = second.was_open clean_again in
    let lists = (c.schema-2.ensures.live found_open).0.lists in
    let within = c.in-Ok.ensures.leaves clean_ran (Restart c.args.site ∷ before) rest (first.stands clean before holds) told in
    let it = left_of (Restart c.args.site ∷ before) rest c.in-Ok.told.items (MayLeave (state g.S.Store (connection_of (keeper_of started)))) (MayLeave (state g.S.Store (connection_of (keeper_of c.run.new.self)))) found.now.trees
    (c.office_or_not.ensures found.now.trees found.now.schema lists) (λ left taken. (found.now.trees, crash, taken)) within
    (λ left may. first_left g.S.Store c.args.connection (tables before) left c.stands_once.ensures (λ db. g.met.S.Store.settled c.args.connection.store db) opened c.schema.ensures.live held (first.leaves clean left may)) in
    let holds_it : Holds found (tables it.1) = λ _ _. subst (IsHeld found) it.2 (record { schema = c.lists_office.ensures found.now.trees found.now.schema lists it.0; settled = second.settled found_open; stands = it.0.stands }) in
    (it.1, second.stands clean_again it.1 holds_it, it.3)
