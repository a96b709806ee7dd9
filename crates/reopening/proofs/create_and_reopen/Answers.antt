use Rattle.std.proofs.Common.{[]}
use Rattle.sqlite.specs.Held.{state}
use Rattle.sqlite.specs.State.{HasCleanDisk}
use Rattle.office_store.specs.Keepers.{connection_of}
use Rattle.office_core.specs.History.{tables}
use Rattle.reopening.proofs.Makings.{is_empty, of_three, refusal}
use Rattle.reopening.proofs.create_and_reopen.Goals as goal

pub returns-in-Ok-clause-opened : goal.returns-in-Ok-clause-opened
returns-in-Ok-clause-opened g c it =
    let made = c.in-Ok.ensures in
    let kept = state g.S.Store (connection_of c.in-Ok.keeper) in
    let empty = λ (clean : HasCleanDisk kept). is_empty (state g.S.Store c.args.found) kept (c.make_beside.ensures it) (made.known clean).0 (made.known clean).1 in
    of_three c.new.result c.new.ensures.stands c.new.ensures.clean c.new.ensures.same
    (λ office stands was same clean. let held = empty (was clean) in (held, stands clean [] (made.holds (tables []) (λ _ _. held))))
    (λ error was same clean. let held = empty (was clean) in (held, same (tables []) (made.holds (tables []) (λ _ _. held))))

pub returns-in-Err-clause-refused : goal.returns-in-Err-clause-refused
returns-in-Err-clause-refused g c it clean =
    let told = c.in-Err.ensures in
    refusal (state g.S.Store c.args.found) (state g.S.Store c.in-Err.error.1) (c.make_beside.ensures it) c.in-Err.error.0 (λ is. told.bad_version is clean) (λ is. told.not_office is clean)
    (λ is. told.other is clean) (λ fault is known. told.failed fault is known clean) c.requires.found_idle
