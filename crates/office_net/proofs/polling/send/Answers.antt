use Rattle.std.proofs.Common.{refl, [], ◌∙◌, arith}
use Rattle.mb_mbap.specs.Counted.{inner_of}
use Rattle.office_net.specs.Faults.{NoneFailed}
use Rattle.office_net.specs.Stages.{as_list}
use Rattle.office_net.proofs.Called.{err_so}
use Rattle.office_net.proofs.Pieces.{handles_none, handles_then, handles_query, handles_last, breaks_after, breaks_refused, breaks_written, risen_not_calm}
use Rattle.office_net.proofs.polling.send.Goals as goal

pub loop-query-init : goal.loop-query-init
loop-query-init g c = record {
  goes = λ _. handles_none c.args.office.now c.args.poll.now (g.W.Write.contents (inner_of c.args.writer.now));
  counted = omega arith;
  clean = λ clean. clean;
  calm = refl;
  taken = refl;
}

pub returns-in_err-query-clause-goes : goal.returns-in_err-query-clause-goes
returns-in_err-query-clause-goes g c = λ clean.
    let wrote = g.W.Write.contents (inner_of c.loop-query.writer) in
    let calm = NoneFailed c.args.writer.now c.loop-query.writer in
    err_so c.from_residual.result _ _ c.in_err-query.field-0.0 c.from_residual.ensures.1
    (breaks_after c.args.office.now c.loop-query.office c.next.new.office c.args.poll.now c.loop-query.poll c.next.new.self [] [] [] calm calm
    (g.W.Write.contents (inner_of c.args.writer.now)) wrote wrote c.in_err-query.field-0.0
    (c.loop-query.invariant.goes (c.next.ensures.accounts.2 clean)) (λ quiet. quiet)
    (breaks_refused c.loop-query.office c.next.new.office c.loop-query.poll c.next.new.self [] [] calm wrote c.in_err-query.field-0.0 (c.in_err-query.ensures.goes clean)))

pub returns-in_err-write_frame-clause-goes : goal.returns-in_err-write_frame-clause-goes
returns-in_err-write_frame-clause-goes g c = λ clean.
    let wrote = g.W.Write.contents (inner_of c.loop-query.writer) in
    let writes = g.W.Write.contents (inner_of c.write_frame.new.writer) in
    let calm = NoneFailed c.args.writer.now c.write_frame.new.writer in
    let e = c.in_err-write_frame.field-0.0 in
    err_so c.from_residual-in_err-write_frame.result _ _ e c.from_residual-in_err-write_frame.ensures.1
    (breaks_after c.args.office.now c.loop-query.office c.next.new.office c.args.poll.now c.loop-query.poll c.next.new.self [] [] [] calm calm
    (g.W.Write.contents (inner_of c.args.writer.now)) wrote writes e
    (c.loop-query.invariant.goes (c.next.ensures.accounts.2 clean)) (λ quiet. quiet)
    (breaks_written c.loop-query.office c.next.new.office c.loop-query.poll c.next.new.self (as_list c.in_ok-query.field-0) calm wrote writes e c.in_err-write_frame.ensures.failed.0
    (c.in_ok-query.ensures.goes clean)
    (risen_not_calm c.args.writer.now c.loop-query.writer c.write_frame.new.writer c.loop-query.invariant.calm c.in_err-write_frame.ensures.failed.1)))

pub loop-query-preserved : goal.loop-query-preserved
loop-query-preserved g c = record {
  goes = λ clean.
      handles_then c.args.office.now c.loop-query.office c.next.new.office c.args.poll.now c.loop-query.poll c.next.new.self [] []
      (g.W.Write.contents (inner_of c.args.writer.now)) (g.W.Write.contents (inner_of c.loop-query.writer)) (g.W.Write.contents (inner_of c.write_frame.new.writer))
      (c.loop-query.invariant.goes (c.next.ensures.accounts.2 clean))
      (handles_query c.loop-query.office c.next.new.office c.loop-query.poll c.next.new.self c.in-Some.query c.in_ok-query.field-0
      (g.W.Write.contents (inner_of c.loop-query.writer)) (g.W.Write.contents (inner_of c.write_frame.new.writer)) c.in-Some.is (c.in_ok-query.ensures.goes clean) c.in_ok-write_frame.ensures.written);
  counted = omega (arith, c.loop-query.invariant.counted, c.next.ensures.accounts.1);
  clean = λ clean. c.loop-query.invariant.clean (c.next.ensures.accounts.2 clean);
  calm = c.in_ok-write_frame.ensures.calm ∙ c.loop-query.invariant.calm;
  taken = c.next.ensures.taken ∙ c.loop-query.invariant.taken;
}

pub returns-clause-goes : goal.returns-clause-goes
returns-clause-goes g c = λ clean.
    let wrote = g.W.Write.contents (inner_of c.loop-query.writer) in
    handles_then c.args.office.now c.loop-query.office c.next.new.office c.args.poll.now c.loop-query.poll c.next.new.self [] []
    (g.W.Write.contents (inner_of c.args.writer.now)) wrote wrote
    (c.loop-query.invariant.goes (c.next.ensures.accounts.2 clean))
    (handles_last c.loop-query.office c.next.new.office c.loop-query.poll c.next.new.self c.in_ok-query.field-0 wrote c.in_default.is (c.in_ok-query.ensures.goes clean))
