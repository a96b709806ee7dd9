use Rattle.std.proofs.Common.{ℕ, [], Option, sym, subst}
use Rattle.std.proofs.lemmas.List.{append-nil}
use Rattle.office_core.specs.Offices.{Stands, keeper_of}
use Rattle.office_net.specs.Drills.{BringsHeld, IsLed}
use Rattle.office_net.proofs.Leading.{led_none}
use Rattle.office_net.proofs.drilling.finish.Goals as goal

pub returns-in-None-clause-ok : goal.returns-in-None-clause-ok
returns-in-None-clause-ok g c = λ clean.
    let office = c.args.office.now in
    let may = g.K.Neighbours.may_leave (keeper_of office) in
    let held = c.in_ok-held.held.items in (
      held,
      [],
      sym (append-nil c.args.told.now.items),
      c.in_ok-held.ensures.rested,
      subst (λ (o : Option ℕ). IsLed (Stands office) (Stands office) may may (BringsHeld o held) []) (sym c.in-None.is) (led_none (Stands office) may),
    )
