use Rattle.std.proofs.Common.{[], inl, sym, subst, ◌∙◌}
use Rattle.std.proofs.KnownBytes.{Appends-nil}
use Rattle.mb_mbap.specs.Counted.{inner_of}
use Rattle.point_list.specs.Sites.{IsSound}
use Rattle.office_net.specs.Faults.{NoneFailed}
use Rattle.office_net.specs.declared.fault.PollFault.TheVariants.{Closed, Memory}
use Rattle.office_net.specs.Rounds.{start_of}
use Rattle.office_net.proofs.Called.{err_so}
use Rattle.office_net.proofs.Doable.{all_can, by_result, jobs_made}
use Rattle.office_net.proofs.Rounding.{begins, cut_at_once, most_said}
use Rattle.office_net.proofs.polling.poll_round.Goals as goal

pub returns-clause-goes : goal.returns-clause-goes
returns-clause-goes g c = λ clean before follows.
    let jobs = c.in_ok-jobs.jobs.items in
    let are = jobs_made before c.args.conn c.in-Some.line c.line_of.result c.points.result.now c.site-site.result.now jobs (c.line_of.ensures before follows.0) c.in-Some.is
    (c.points.ensures.history before follows.0) (c.site-site.ensures.history before follows.0) (c.readable_points.ensures before follows.1) c.in_ok-jobs.ensures in
    let opened = sym (c.line_of.ensures before follows.0) ∙ c.in-Some.is in
    let said = c.outstanding.ensures.value ∙ most_said before c.args.conn c.in-Some.line c.site-site.result.now opened (c.site-site.ensures.history before follows.0) in
    let begun = begins c.args.conn c.args.slot c.outstanding.result jobs c.new-poll.result before c.new-poll.ensures said in
    by_result c.poll_jobs.result _ _ _ _
    (c.poll_jobs.ensures.goes clean (start_of c.args.conn c.args.slot jobs before) begun follows are (all_can before c.args.conn jobs (subst IsSound (c.site-site.ensures.history before follows.0) c.site-site.ensures.sound) are))
    (λ round whole. (jobs, are, whole)) (λ fault cut. (jobs, cut))

pub returns-in_default-clause-goes : goal.returns-in_default-clause-goes
returns-in_default-clause-goes g c = λ clean before follows.
    let wrote = g.W.Write.contents (inner_of c.args.writer.now) in (
      [],
      cut_at_once c.args.office.now c.args.conn c.args.slot before (g.R.Read.remaining (inner_of c.args.reader.now)) wrote (NoneFailed c.args.writer.now c.args.writer.now) Closed follows
          (inl (sym (c.line_of.ensures before follows.0) ∙ c.in_default.is)) tt (Appends-nil wrote),
    )

pub returns-in_err-jobs-clause-goes : goal.returns-in_err-jobs-clause-goes
returns-in_err-jobs-clause-goes g c = λ clean before follows.
    let wrote = g.W.Write.contents (inner_of c.args.writer.now) in
    err_so c.from_residual.result _ _ Memory c.from_residual.ensures.1 (
      [],
      cut_at_once c.args.office.now c.args.conn c.args.slot before (g.R.Read.remaining (inner_of c.args.reader.now)) wrote (NoneFailed c.args.writer.now c.args.writer.now) Memory follows
          tt tt (Appends-nil wrote),
    )
