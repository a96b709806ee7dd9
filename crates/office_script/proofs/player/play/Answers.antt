use Rattle.std.proofs.Common.{ap, arith, length, refl, rules, sym, subst, ℕ, List, [], ◌∙◌, ◌≡◌, ◌++◌, ◌+◌, append_assoc}
use Rattle.std.specs.Prelude.{IfOk}
use Rattle.std.specs.Io.KnownBytes.{Appends}
use Rattle.mb_mbap.specs.Counted.{inner_of}
use Rattle.office_core.specs.History.{tables}
use Rattle.office_script.specs.Printing.{report_of}
use Rattle.office_script.specs.Scripts.{Course, after, steps_of, from_line}
use Rattle.office_script.specs.Playing.{Follows}
use Rattle.office_script.specs.declared.player.Played.TheVariants.{On, Faulty}
use Rattle.office_script.proofs.Acted.{on_ok}
use Rattle.std.proofs.Math.Nat.{le_refl}
use Rattle.office_script.proofs.Played.{line_played, whole_written, owed_after, report_owed}
use Rattle.std.proofs.KnownBytes.{Appends-nil, Appends-trans}
use Rattle.office_script.proofs.player.play.Goals as goal

pub loop-rest-preserved : goal.loop-rest-preserved
loop-rest-preserved g c =
    let steps = steps_of c.args.first c.args.text.now in
    let start = g.W.Write.contents (inner_of c.args.writer.now) in
    let now = g.W.Write.contents (inner_of c.loop-rest.writer) in
    let new = g.W.Write.contents (inner_of c.write_piece.new.writer) in
    let wrote = c.in_ok-write_piece.ensures.front in
    record {
      owed = λ before stood.
          let was = c.loop-rest.invariant.owed before stood in
          let left = line_played (Follows c.loop-rest.office) (Follows c.play_line.new.office) c.loop-rest.out.items c.play_line.new.out.items c.loop-rest.number c.loop-rest.rest.now c.first_line.result.0.now c.first_line.result.1.now
          (from_line before c.args.first steps) c.in_ok-play_line.field-0 On was.0 c.first_line.ensures.lines c.in-On.is was.2 c.in_ok-play_line.ensures in (
            was.0 ++ wrote.0,
            Appends-trans start now new was.0 wrote.0 was.1 wrote.2,
            owed_after (Follows c.play_line.new.office) was.0 c.play_line.new.out.items wrote.0 c.write_piece.new.out.items (c.loop-rest.number + 1) (steps_of (c.loop-rest.number + 1) c.first_line.result.1.now) (from_line before c.args.first steps) wrote.1 left,
          );
      failures = c.in_ok-write_piece.ensures.calm ∙ c.loop-rest.invariant.failures;
      room = omega (arith, c.loop-rest.invariant.room, c.first_line.ensures.shorter);
    }

pub returns-in-Faulty-clause-ending : goal.returns-in-Faulty-clause-ending
returns-in-Faulty-clause-ending g c = λ before stood.
    let steps = steps_of c.args.first c.args.text.now in
    let was = c.loop-rest.invariant.owed before stood in
    let left = line_played (Follows c.loop-rest.office) (Follows c.play_line.new.office) c.loop-rest.out.items c.play_line.new.out.items c.loop-rest.number c.loop-rest.rest.now c.first_line.result.0.now c.first_line.result.1.now
    (from_line before c.args.first steps) c.in_ok-play_line.field-0 Faulty was.0 c.first_line.ensures.lines c.in-Faulty.is was.2 c.in_ok-play_line.ensures in
    left.1

pub returns-in-Faulty-clause-output : goal.returns-in-Faulty-clause-output
returns-in-Faulty-clause-output g c = λ before stood.
    let steps = steps_of c.args.first c.args.text.now in
    let was = c.loop-rest.invariant.owed before stood in
    let left = line_played (Follows c.loop-rest.office) (Follows c.play_line.new.office) c.loop-rest.out.items c.play_line.new.out.items c.loop-rest.number c.loop-rest.rest.now c.first_line.result.0.now c.first_line.result.1.now
    (from_line before c.args.first steps) c.in_ok-play_line.field-0 Faulty was.0 c.first_line.ensures.lines c.in-Faulty.is was.2 c.in_ok-play_line.ensures in
    whole_written (g.W.Write.contents (inner_of c.args.writer.now)) (g.W.Write.contents (inner_of c.loop-rest.writer)) (g.W.Write.contents (inner_of c.write_pending.new.writer)) was.0 c.play_line.new.out.items (from_line before c.args.first steps).text left.0 was.1 c.in_ok-write_pending-in-Faulty.ensures.all

pub returns-clause-ending : goal.returns-clause-ending
returns-clause-ending g c = λ before stood.
    let steps = steps_of c.args.first c.args.text.now in
    let was = c.loop-rest.invariant.owed before stood in
    let empty : length c.loop-rest.rest.now ≡ 0 = search rules in
    let last = report_owed (Follows c.loop-rest.office) (was.0 ++ c.loop-rest.out.items) c.loop-rest.rest.now c.loop-rest.number (from_line before c.args.first steps) empty was.2 in
    subst (λ end. IfOk c.write_report.result (λ ending. ending ≡ end)) last.3 c.write_report.ensures.ending

pub returns-clause-output : goal.returns-clause-output
returns-clause-output g c = λ before stood.
    let steps = steps_of c.args.first c.args.text.now in
    let out = c.loop-rest.out.items in
    let was = c.loop-rest.invariant.owed before stood in
    let empty : length c.loop-rest.rest.now ≡ 0 = search rules in
    let last = report_owed (Follows c.loop-rest.office) (was.0 ++ out) c.loop-rest.rest.now c.loop-rest.number (from_line before c.args.first steps) empty was.2 in
    on_ok c.write_report.result
    (whole_written (g.W.Write.contents (inner_of c.args.writer.now)) (g.W.Write.contents (inner_of c.loop-rest.writer)) (g.W.Write.contents (inner_of c.write_report.new.writer)) was.0 (out ++ report_of (tables last.0)) (from_line before c.args.first steps).text
    (sym (append_assoc was.0 out (report_of (tables last.0))) ∙ last.2) was.1)
    (c.write_report.ensures.output last.0 last.1)

pub returns-clause-memory : goal.returns-clause-memory
returns-clause-memory g c = λ before stood memory.
    let steps = steps_of c.args.first c.args.text.now in
    let out = c.loop-rest.out.items in
    let was = c.loop-rest.invariant.owed before stood in
    let empty : length c.loop-rest.rest.now ≡ 0 = search rules in
    let last = report_owed (Follows c.loop-rest.office) (was.0 ++ out) c.loop-rest.rest.now c.loop-rest.number (from_line before c.args.first steps) empty was.2 in (
      was.0,
      out ++ report_of (tables last.0),
      sym (append_assoc was.0 out (report_of (tables last.0))) ∙ last.2,
      subst (λ w. Appends (g.W.Write.contents (inner_of c.args.writer.now)) (g.W.Write.contents (inner_of w)) was.0) (sym (c.write_report.ensures.nothing_written memory)) was.1,
    )

pub returns-in_err-play_line-clause-memory : goal.returns-in_err-play_line-clause-memory
returns-in_err-play_line-clause-memory g c = λ before stood memory.
    let out = c.loop-rest.out.items in
    let was = c.loop-rest.invariant.owed before stood in
    let (now, stands, owed) = was.2 in
    let last = (from_line now c.loop-rest.number (steps_of c.loop-rest.number c.loop-rest.rest.now)).text in
    (was.0, out ++ last, sym (append_assoc was.0 out last) ∙ ap (λ (course : Course). course.text) owed, was.1)

pub loop-rest-init : goal.loop-rest-init
loop-rest-init g c = record {
  owed = λ before stood.
      let whole = from_line before c.args.first (steps_of c.args.first c.args.text.now) in
      ([], Appends-nil (g.W.Write.contents (inner_of c.args.writer.now)), (before, stood, ap (λ (out : List ℕ). after out whole) c.new-out.ensures.items));
  failures = refl;
  room = le_refl (c.args.first + length c.args.text.now);
}
