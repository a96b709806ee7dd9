use Rattle.std.proofs.Common.{◌≡◌, Some, sym, ap, ◌∙◌, subst}
use Rattle.std.specs.Prelude.{Contains}
use Rattle.std.specs.Str.{bytes_eq}
use Rattle.poll_book.specs.declared.rows.PointRow.{PointRow}
use Rattle.poll_book.specs.Totals.{is_counter}
use Rattle.office_core.specs.Loads.{known_named}
use Rattle.office_core.specs.Voids.{VoidsIn}
use Rattle.office_core.proofs.Elements.{found_in}
use Rattle.office_core.proofs.Voiding.{is_taken, stored}
use Rattle.office_core.proofs.voids.judge_void.Goals as goal

pub returns-clause-change : goal.returns-clause-change
returns-clause-change g c clean kept holds copy =
    let known = c.args.known.now in
    let name = c.args.point.now in
    let slot = c.args.slot in
    let row = c.in-Some.row in
    let found : known_named known name ≡ Some row = ap (known_named known) (sym c.as_bytes.ensures.value) ∙ sym c.find.ensures ∙ c.in-Some.is in
    let counter = ap is_counter c.in-Counter.is in
    let asked_clean = c.void_one.ensures.clean clean in
    let held = c.is_full.ensures.same kept holds in
    let free = sym (c.in_ok-is_full.ensures.value asked_clean kept holds) ∙ c.if-branch.false in
    let there : Contains kept.points row = subst (λ l. Contains l row) copy.0 (found_in (λ (p : PointRow). bytes_eq p.point.name name) known row found) in
    subst (λ what. VoidsIn kept slot what c.in_ok-change.change) (sym (is_taken kept.voids (known_named known name) slot row found counter free)) (record {
      alone = c.in_ok-change.ensures.alone;
      readings = c.in_ok-change.ensures.readings clean kept held;
      totals = c.in_ok-change.ensures.totals clean kept held copy.1.by_key (stored kept copy.1 row there counter slot);
      void = c.in_ok-change.ensures.void clean kept held;
    })
