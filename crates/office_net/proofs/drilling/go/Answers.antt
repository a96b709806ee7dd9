use Rattle.std.proofs.Common.{ℕ, [], Option, None, refl, sym, ◌∙◌, subst}
use Rattle.std.proofs.lemmas.List.{append-nil}
use Rattle.office_core.specs.Offices.{Stands, keeper_of}
use Rattle.office_net.specs.Drills.{Does, Plays}
use Rattle.office_net.specs.declared.drilling.DrillStep.{DrillStep}
use Rattle.office_net.proofs.Stepped.{sets_by}
use Rattle.office_net.proofs.Leading.{led_none}
use Rattle.office_net.proofs.drilling.go.Goals as goal

pub returns-in-Set-clause-ok : goal.returns-in-Set-clause-ok
returns-in-Set-clause-ok g c = λ clean.
    let office = c.args.office.now in
    let sets = sets_by c.args.sim.now c.set.new.self _ _ _ _ c.set.result c.set.ensures.test c.set.ensures.continues c.set.ensures.refused in (
      [],
      [],
      sym (append-nil c.args.told.now.items),
      subst (λ (s : DrillStep). Does c.args.sim.now s None [] [] c.set.new.self) (sym c.in-Set.is) (sets, refl, refl, refl),
      led_none (Stands office) (g.K.Neighbours.may_leave (keeper_of office)),
    )

pub returns-in-None-clause-ok : goal.returns-in-None-clause-ok
returns-in-None-clause-ok g c = λ clean.
    let office = c.args.office.now in
    let sim = c.args.sim.now in
    let none = sym c.conn_of.ensures ∙ c.in-None.is in
    let plays = subst (λ (o : Option ℕ). Plays sim o c.in-Make.event None [] [] sim) (sym none) (refl, refl, refl, refl) in (
      [],
      [],
      sym (append-nil c.args.told.now.items),
      subst (λ (s : DrillStep). Does sim s None [] [] sim) (sym c.in-Make.is) plays,
      led_none (Stands office) (g.K.Neighbours.may_leave (keeper_of office)),
    )
