use Rattle.std.proofs.Common.{refl, [], ◌∙◌, sym, subst, arith}
use Rattle.std.proofs.KnownBytes.{Consumes-nil}
use Rattle.mb_mbap.specs.Counted.{HasRisen, failures_of, inner_of}
use Rattle.office_core.specs.Offices.{CauseFrom, keeper_of}
use Rattle.office_net.specs.Faults.{NoneFailed}
use Rattle.office_core.specs.Following.{Follows, MayLeave}
use Rattle.office_net.specs.Rounds.{IsWhole}
use Rattle.office_net.proofs.Called.{err_so}
use Rattle.office_net.proofs.Cutting.{not_of_stream}
use Rattle.office_net.proofs.Pieces.{calm_later}
use Rattle.office_net.proofs.Rounding.{broke_first, broke_off, is_whole, nothing_fed, no_end, one_more}
use Rattle.office_net.proofs.polling.poll_jobs.Goals as goal

pub pieces-init : goal.pieces-init
pieces-init g c = record {
  way = record {
    bytes = [];
    frames = [];
    fed = record {
      frames_are = nothing_fed c.new-stream.result c.new-stream.ensures;
      taken = c.send.ensures.taken ∙ c.requires;
      read_are = refl;
    };
    consumed = Consumes-nil (g.R.Read.remaining (inner_of c.args.reader.now));
    handled = λ clean. c.in_ok-send.ensures.goes clean;
  };
  counted = c.send.ensures.accounts.1;
  clean = c.send.ensures.accounts.2;
  limit = omega arith;
  sound = λ none. absurd (no_end c.new-stream.result c.new-stream.ensures none);
  waits = c.in_ok-send.ensures.waits;
  calm = c.in_ok-send.ensures.calm;
  reader = (refl, refl);
}

pub returns-in_err-send-clause-goes : goal.returns-in_err-send-clause-goes
returns-in_err-send-clause-goes g c = λ clean start after follows are can.
    let e = c.in_err-send.field-0.0 in
    let wrote = g.W.Write.contents (inner_of c.args.writer.now) in
    let writes = g.W.Write.contents (inner_of c.send.new.writer) in
    err_so c.from_residual.result _ _ e c.from_residual.ensures.1
    (broke_first c.args.office.now c.send.new.office c.args.poll c.send.new.poll (g.R.Read.remaining (inner_of c.args.reader.now)) wrote writes
    (NoneFailed c.args.writer.now c.send.new.writer) e start (c.in_err-send.ensures.goes clean)
    (not_of_stream (HasRisen (failures_of c.args.writer.now) (failures_of c.send.new.writer)) (CauseFrom c.args.office.now c.send.new.office) [] [] e c.in_err-send.ensures.accounts.0)
    after follows are can)

pub returns-in_err-read-clause-goes : goal.returns-in_err-read-clause-goes
returns-in_err-read-clause-goes g c = λ clean start after follows are can.
    let e = c.in_err-read.field-0.0 in
    let way = c.pieces.invariant.way in
    let unread = g.R.Read.remaining (inner_of c.args.reader.now) in
    let left = g.R.Read.remaining (inner_of c.pieces.reader) in
    let left' = g.R.Read.remaining (inner_of c.read_on.new.reader) in
    let wrote = g.W.Write.contents (inner_of c.args.writer.now) in
    let writes = g.W.Write.contents (inner_of c.pieces.writer) in
    let writes' = g.W.Write.contents (inner_of c.read_on.new.writer) in
    err_so c.from_residual-in_err-read.result _ _ e c.from_residual-in_err-read.ensures.1
    (broke_off c.args.office.now c.pieces.office c.read_on.new.office c.args.poll c.pieces.poll c.read_on.new.poll c.pieces.stream c.pieces.read
    unread left left' wrote writes writes' (g.K.Neighbours.is_clean (keeper_of c.pieces.office)) (g.K.Neighbours.is_clean (keeper_of c.read_on.new.office))
    (NoneFailed c.args.writer.now c.read_on.new.writer) (NoneFailed c.pieces.writer c.read_on.new.writer) e start way (c.read_on.ensures.accounts.2 clean)
    (calm_later c.args.writer.now c.pieces.writer c.read_on.new.writer c.pieces.invariant.calm)
    (c.in_err-read.ensures.cuts clean way.bytes way.frames way.fed) after follows are can)

pub pieces-preserved : goal.pieces-preserved
pieces-preserved g c =
    let way = c.pieces.invariant.way in
    record {
      way = one_more c.args.office.now c.pieces.office c.read_on.new.office c.args.poll c.pieces.poll c.read_on.new.poll c.pieces.stream c.pieces.read
          (g.R.Read.remaining (inner_of c.args.reader.now)) (g.R.Read.remaining (inner_of c.pieces.reader)) (g.R.Read.remaining (inner_of c.read_on.new.reader))
          (g.W.Write.contents (inner_of c.args.writer.now)) (g.W.Write.contents (inner_of c.pieces.writer)) (g.W.Write.contents (inner_of c.read_on.new.writer))
          (g.K.Neighbours.is_clean (keeper_of c.pieces.office)) (g.K.Neighbours.is_clean (keeper_of c.read_on.new.office))
          c.read_on.new.stream c.in_ok-read.read way c.read_on.ensures.accounts.2 (c.in_ok-read.ensures.takes way.bytes way.frames way.fed);
      counted = omega (arith, c.pieces.invariant.counted, c.read_on.ensures.accounts.1);
      clean = λ clean. c.pieces.invariant.clean (c.read_on.ensures.accounts.2 clean);
      limit = omega (arith, c.in_ok-read.ensures.more);
      sound = c.in_ok-read.ensures.sound;
      waits = c.in_ok-read.ensures.waits;
      calm = c.in_ok-read.ensures.calm ∙ c.pieces.invariant.calm;
      reader = (c.in_ok-read.ensures.reader.0 ∙ c.pieces.invariant.reader.0, c.in_ok-read.ensures.reader.1 ∙ c.pieces.invariant.reader.1);
    }

pub returns-clause-goes : goal.returns-clause-goes
returns-clause-goes g c = λ clean start after follows are can.
    let unread = g.R.Read.remaining (inner_of c.args.reader.now) in
    let left = g.R.Read.remaining (inner_of c.pieces.reader) in
    let wrote = g.W.Write.contents (inner_of c.args.writer.now) in
    let writes = g.W.Write.contents (inner_of c.pieces.writer) in
    subst (IsWhole (Follows c.pieces.office) (MayLeave c.args.office.now) (MayLeave c.pieces.office) start unread left wrote writes) (sym c.round.ensures)
    (is_whole c.args.office.now c.pieces.office c.args.poll c.pieces.poll c.pieces.stream c.pieces.read unread left wrote writes
    (g.K.Neighbours.is_clean (keeper_of c.pieces.office)) start c.pieces.invariant.way clean after follows (c.is_done.ensures.0 c.pieces-test.false))
