use Rattle.std.proofs.Common.{◌≡◌, ◌≤◌, ◌∙◌, ◌∷◌, inl, false, Some, subst, sym, ap, refl, arith}
use Rattle.poll_book.specs.Changes.{IsNew, applied}
use Rattle.office_core.specs.declared.error.OfficeError.TheVariants as error
use Rattle.office_core.specs.declared.event.Event.TheVariants.{Open}
use Rattle.office_core.specs.declared.event.EventAnswer.TheVariants as answer
use Rattle.office_core.specs.Sites.{line_place}
use Rattle.office_core.specs.History.{connections, tables}
use Rattle.office_core.specs.Keeping.{no_change}
use Rattle.poll_book.specs.Tables.{Tables}
use Rattle.office_core.specs.Standing.{StandsFor}
use Rattle.office_core.proofs.Leaving.{At, Left, leaves_made, leaves_same, leaves_tried, tried_is}
use Rattle.office_core.proofs.Newness.{applied_connection, new_connection}
use Rattle.office_core.proofs.Opening.{former_is, not_open, opening_full, opening_goes, opening_made, reclosed}
use Rattle.office_core.proofs.Opens.{greatest_made}
use Rattle.office_core.proofs.Steps.{copy_of, store_goes}
use Rattle.office_core.proofs.office.Office.step_open.Goals as goal

pub returns-then-last-ge4294967295-clause-goes : goal.returns-then-last-ge4294967295-clause-goes
returns-then-last-ge4294967295-clause-goes g c clean =
    let office = c.args.self.now in
    let holds = g.K.Neighbours.holds office.keeper in
    let known = office.points.items in
    let place : line_place office.site c.args.line.now ≡ Some c.in-Some.line = sym c.in-Some.ensures in
    opening_full holds office.site known office.matcher c.args.line.now c.in-Some.line c.in_ok-last.last place
    (λ before stands. c.in_ok-last.ensures.value clean (tables before) stands.tables
    (subst (λ n. n ≤ connections before) (sym c.greatest.ensures) (greatest_made holds office.site known office.matcher before stands)))
    c.if-last-ge4294967295.true (g.K.Neighbours.holds c.last_made.new.keeper) (λ kept h copy. c.last_made.ensures.same kept h)

pub open-requires : goal.open-requires
open-requires g c =
    let above = c.in_ok-last.ensures.above in
    not_open c.args.self.now.matcher c.new-conn.result (omega (arith, above, c.greatest.ensures, c.new-conn.ensures))

pub returns-in-Err-clause-goes : goal.returns-in-Err-clause-goes
returns-in-Err-clause-goes g c clean =
    let office = c.args.self.now in
    let holds = g.K.Neighbours.holds in
    let above = c.in_ok-last.ensures.above in
    let none = not_open office.matcher c.new-conn.result (omega (arith, above, c.greatest.ensures, c.new-conn.ensures)) in
    store_goes (holds office.keeper) office.site office.points.items office.matcher (holds c.write.new.keeper)
    (λ kept h copy. c.in-Err.ensures.err kept (c.last_made.ensures.same kept h))
    c.close.new.self (reclosed c.new-conn.result c.in-Some.line office.matcher c.open.new.self c.close.new.self none c.in_ok-open.ensures.ok c.close.ensures)
    (Open c.args.line.now) (answer.Refused (error.Store c.in-Err.fault)) refl

pub returns-in-Err-clause-same : goal.returns-in-Err-clause-same
returns-in-Err-clause-same g c =
    let office = c.args.self.now in
    let above = c.in_ok-last.ensures.above in
    let none = not_open office.matcher c.new-conn.result (omega (arith, above, c.greatest.ensures, c.new-conn.ensures)) in (
      λ kept h. c.in-Err.ensures.err kept (c.last_made.ensures.same kept h),
      refl,
      refl,
      reclosed c.new-conn.result c.in-Some.line office.matcher c.open.new.self c.close.new.self none c.in_ok-open.ensures.ok c.close.ensures,
    )

pub returns-clause-goes : goal.returns-clause-goes
returns-clause-goes g c clean =
    let office = c.args.self.now in
    let is : c.connection_change-change.result ≡ record no_change { connections = Some c.new-conn.result } = c.connection_change-change.ensures ∙ ap (λ n. record no_change { connections = Some n }) c.number.ensures in
    let holds = g.K.Neighbours.holds in
    let known = office.points.items in
    let place : line_place office.site c.args.line.now ≡ Some c.in-Some.line = sym c.in-Some.ensures in
    opening_goes (holds office.keeper) office.site known office.matcher c.args.line.now c.in-Some.line c.in_ok-last.last place
    (λ before stands. c.in_ok-last.ensures.value (c.write.ensures.clean clean) (tables before) stands.tables
    (subst (λ n. n ≤ connections before) (sym c.greatest.ensures) (greatest_made (holds office.keeper) office.site known office.matcher before stands)))
    c.if-last-ge4294967295.false c.new-conn.result c.new-conn.ensures (holds c.write.new.keeper)
    (λ kept h copy. subst (holds c.write.new.keeper) (ap (λ x. applied x kept) is ∙ applied_connection c.new-conn.result kept)
    (c.in_default-write.ensures.kept clean kept (c.last_made.ensures.same kept h) (subst (λ x. IsNew x kept) (sym is) (new_connection c.new-conn.result kept copy.1))))
    c.conn_of-former.result (former_is c.in-Some.line office.matcher c.conn_of-former.result c.conn_of-former.ensures.found c.conn_of-former.ensures.none)
    c.open.new.self c.close_former.new.matcher c.in_ok-open.ensures.ok c.close_former.ensures

pub returns-then-last-ge4294967295-clause-leaves : goal.returns-then-last-ge4294967295-clause-leaves
returns-then-last-ge4294967295-clause-leaves g c clean =
    let office = c.args.self.now in
    let holds : Tables → Type 0 = g.K.Neighbours.holds office.keeper in
    let may : Tables → Type 0 = g.K.Neighbours.may_leave office.keeper in
    let may' : Tables → Type 0 = g.K.Neighbours.may_leave c.last_made.new.keeper in
    let known = office.points.items in
    let place : line_place office.site c.args.line.now ≡ Some c.in-Some.line = sym c.in-Some.ensures in
    leaves_same holds may may' office.site known office.matcher office.site known office.matcher (Open c.args.line.now) (answer.Refused error.Exhausted) (c.last_made.ensures.leaves clean)
    (λ at. opening_full (At holds at) office.site known office.matcher c.args.line.now c.in-Some.line c.in_ok-last.last place
    (λ before stands. c.in_ok-last.ensures.value clean (tables before) stands.tables.0
    (subst (λ n. n ≤ connections before) (sym c.greatest.ensures) (greatest_made (At holds at) office.site known office.matcher before stands)))
    c.if-last-ge4294967295.true (λ kept. kept ≡ at) (λ kept h copy. h.1))

pub returns-in-Err-clause-leaves : goal.returns-in-Err-clause-leaves
returns-in-Err-clause-leaves g c clean =
    let office = c.args.self.now in
    let holds : Tables → Type 0 = g.K.Neighbours.holds office.keeper in
    let may : Tables → Type 0 = g.K.Neighbours.may_leave office.keeper in
    let mid : Tables → Type 0 = g.K.Neighbours.may_leave c.last_made.new.keeper in
    let may' : Tables → Type 0 = g.K.Neighbours.may_leave c.write.new.keeper in
    let known = office.points.items in
    let is : c.connection_change-change.result ≡ record no_change { connections = Some c.new-conn.result } = c.connection_change-change.ensures ∙ ap (λ n. record no_change { connections = Some n }) c.number.ensures in
    let place : line_place office.site c.args.line.now ≡ Some c.in-Some.line = sym c.in-Some.ensures in
    leaves_tried (StandsFor holds office.site known office.matcher) may may' (Open c.args.line.now) (answer.Refused (error.Store c.in-Err.fault)) refl
    (λ before happening stands can sees left m.
    let copy = copy_of holds office.site known office.matcher before stands in
    tried_is may mid (applied c.connection_change-change.result (tables before)) (tables (happening ∷ before)) left (c.last_made.ensures.leaves (c.write.ensures.clean clean))
    (ap (λ x. applied x (tables before)) is ∙ applied_connection c.new-conn.result (tables before)
    ∙ opening_made holds office.site known office.matcher c.args.line.now c.in-Some.line c.in_ok-last.last place
    (λ before stands. c.in_ok-last.ensures.value (c.write.ensures.clean clean) (tables before) stands.tables
    (subst (λ n. n ≤ connections before) (sym c.greatest.ensures) (greatest_made holds office.site known office.matcher before stands)))
    c.if-last-ge4294967295.false c.new-conn.result c.new-conn.ensures before happening stands sees)
    (c.in-Err.ensures.leaves clean (tables before) (c.last_made.ensures.same (tables before) stands.tables)
    (subst (λ x. IsNew x (tables before)) (sym is) (new_connection c.new-conn.result (tables before) copy.1)) left m))

pub returns-clause-leaves : goal.returns-clause-leaves
returns-clause-leaves g c clean =
    let office = c.args.self.now in
    let holds : Tables → Type 0 = g.K.Neighbours.holds office.keeper in
    let may : Tables → Type 0 = g.K.Neighbours.may_leave office.keeper in
    let may' : Tables → Type 0 = g.K.Neighbours.may_leave c.write.new.keeper in
    let is : c.connection_change-change.result ≡ record no_change { connections = Some c.new-conn.result } = c.connection_change-change.ensures ∙ ap (λ n. record no_change { connections = Some n }) c.number.ensures in
    let known = office.points.items in
    let place : line_place office.site c.args.line.now ≡ Some c.in-Some.line = sym c.in-Some.ensures in
    leaves_made holds may may' office.site known office.matcher office.site known c.close_former.new.matcher (Open c.args.line.now) (answer.Opened c.new-conn.result) (answer.Opened c.new-conn.result) false refl refl
    (λ at. opening_goes (At holds at) office.site known office.matcher c.args.line.now c.in-Some.line c.in_ok-last.last place
    (λ before stands. c.in_ok-last.ensures.value (c.write.ensures.clean clean) (tables before) stands.tables.0
    (subst (λ n. n ≤ connections before) (sym c.greatest.ensures) (greatest_made (At holds at) office.site known office.matcher before stands)))
    c.if-last-ge4294967295.false c.new-conn.result c.new-conn.ensures (Left may may' at false)
    (λ kept h copy left m. inl (c.in_default-write.ensures.leaves clean kept (c.last_made.ensures.same kept h.0)
    (subst (λ x. IsNew x kept) (sym is) (new_connection c.new-conn.result kept copy.1)) left m
    ∙ ap (λ x. applied x kept) is ∙ applied_connection c.new-conn.result kept))
    c.conn_of-former.result (former_is c.in-Some.line office.matcher c.conn_of-former.result c.conn_of-former.ensures.found c.conn_of-former.ensures.none)
    c.open.new.self c.close_former.new.matcher c.in_ok-open.ensures.ok c.close_former.ensures)
