use Rattle.std.proofs.Common.{List, ◌∙◌, ap, refl, subst}
use Rattle.run_deeds.specs.Deeds.{GoesBy}
use Rattle.office_core.specs.Offices.{site_of}
use Rattle.office_run.specs.Beginnings.{site_terms}
use Rattle.office_run.specs.Parts.{AreServed, AreWired}
use Rattle.run_callers.specs.Sessions.{Free}
use Rattle.run_lines.specs.Wires.{Down, Terms}
use Rattle.run_deeds.proofs.Deeds.{goes_still}
use Rattle.office_run.proofs.running.run.Goals as goal

pub returns-in_err-times-clause-deeds : goal.returns-in_err-times-clause-deeds
returns-in_err-times-clause-deeds g c =
    let office = c.args.office.now in
    goes_still office (λ acts. g.S.Sockets.acts c.args.sockets.now acts c.args.sockets.now) (λ now deeds. AreWired (site_terms (site_of office)) now deeds × AreServed now deeds)
    (g.S.Sockets.rests c.args.sockets.now) (λ now. (λ line. (record { from = 0; wire = Down }, refl), (λ caller. (Free, refl), λ caller far. tt)))

pub returns-in_err-lines-clause-deeds : goal.returns-in_err-lines-clause-deeds
returns-in_err-lines-clause-deeds g c =
    let office = c.args.office.now in
    goes_still office (λ acts. g.S.Sockets.acts c.args.sockets.now acts c.args.sockets.now) (λ now deeds. AreWired (site_terms (site_of office)) now deeds × AreServed now deeds)
    (g.S.Sockets.rests c.args.sockets.now) (λ now. (λ line. (record { from = 0; wire = Down }, refl), (λ caller. (Free, refl), λ caller far. tt)))

pub returns-in_err-places-clause-deeds : goal.returns-in_err-places-clause-deeds
returns-in_err-places-clause-deeds g c =
    let office = c.args.office.now in
    goes_still office (λ acts. g.S.Sockets.acts c.args.sockets.now acts c.args.sockets.now) (λ now deeds. AreWired (site_terms (site_of office)) now deeds × AreServed now deeds)
    (g.S.Sockets.rests c.args.sockets.now) (λ now. (λ line. (record { from = 0; wire = Down }, refl), (λ caller. (Free, refl), λ caller far. tt)))

pub returns-in_err-orders-clause-deeds : goal.returns-in_err-orders-clause-deeds
returns-in_err-orders-clause-deeds g c =
    let office = c.args.office.now in
    goes_still office (λ acts. g.S.Sockets.acts c.args.sockets.now acts c.args.sockets.now) (λ now deeds. AreWired (site_terms (site_of office)) now deeds × AreServed now deeds)
    (g.S.Sockets.rests c.args.sockets.now) (λ now. (λ line. (record { from = 0; wire = Down }, refl), (λ caller. (Free, refl), λ caller far. tt)))

pub returns-in_err-board-clause-deeds : goal.returns-in_err-board-clause-deeds
returns-in_err-board-clause-deeds g c =
    let office = c.args.office.now in
    goes_still office (λ acts. g.S.Sockets.acts c.args.sockets.now acts c.args.sockets.now) (λ now deeds. AreWired (site_terms (site_of office)) now deeds × AreServed now deeds)
    (g.S.Sockets.rests c.args.sockets.now) (λ now. (λ line. (record { from = 0; wire = Down }, refl), (λ caller. (Free, refl), λ caller far. tt)))

pub returns-clause-deeds : goal.returns-clause-deeds
returns-clause-deeds g c =
    subst (λ (all : List Terms). GoesBy c.args.office.now c.turns.new.office (λ acts. g.S.Sockets.acts c.args.sockets.now acts c.turns.new.sockets) (λ now deeds. AreWired all now deeds × AreServed now deeds))
    (c.in_ok-lines.ensures.terms ∙ ap site_terms c.site.ensures.value) c.turns.ensures
