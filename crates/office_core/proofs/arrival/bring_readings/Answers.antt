use Rattle.std.proofs.Common.{◌≡◌, ◌⊎◌, ◌∙◌, false, subst, sym, ap, rules}
use Rattle.std.specs.Prelude.{length}
use Rattle.poll_book.specs.Tables.{Readings, Tables, new_rows}
use Rattle.poll_book.specs.Changes.{keyed}
use Rattle.office_core.specs.declared.event.Arrival.TheVariants.{Recorded}
use Rattle.office_core.specs.Keeping.{brought_read, rows_at, with_given}
use Rattle.office_core.specs.Leavings.{LeftAfter}
use Rattle.office_core.proofs.Given.{covered_known, brought_rows, arrival_rows}
use Rattle.office_core.specs.Cover.{reply_cells}
use Rattle.office_core.proofs.Looked.{looks_given}
use Rattle.office_core.proofs.Newness.{left_refused, on_refusal, on_err, unmet}
use Rattle.office_core.proofs.arrival.bring_readings.Goals as goal

pub returns-in_err-count-in_default : goal.returns-in_err-count-in_default
returns-in_err-count-in_default g c =
    let known = c.args.known.now in
    let given = rows_at c.args.site.now known c.args.asking.now c.args.reply.now in
    let is : keyed c.args.asking.now.slot c.deref.result.now ≡ given = ap (keyed c.args.asking.now.slot) (c.deref.ensures.value ∙ c.in_ok-covered-in_default.ensures.rows) in
    let may = g.K.Neighbours.may_leave c.args.keeper.now in
    let failed = c.from_residual-in_err-count-in_default.ensures.0 in
    record {
      told = λ clean kept h. unmet _ c.from_residual-in_err-count-in_default.result failed;
      kept = λ clean kept h copy. on_refusal _ c.from_residual-in_err-count-in_default.result failed
          (c.in_err-count-in_default.ensures.kept clean kept h copy.1
          (covered_known c.args.site.now known c.args.asking.now c.args.reply.now kept c.deref.result.now (c.deref.ensures.value ∙ c.in_ok-covered-in_default.ensures.rows) copy));
      leaves = λ clean kept h copy left m. left_refused may kept (brought_read c.args.site.now known c.args.asking.now c.args.reply.now kept) left
          c.from_residual-in_err-count-in_default.result failed
          (subst (λ (t : Tables). may left ⊎ (left ≡ t)) (ap (λ (l : Readings). with_given l kept) is ∙ sym (brought_rows c.args.site.now known c.args.asking.now c.args.reply.now kept c.in_default.not-Excepted))
          (c.in_err-count-in_default.ensures.leaves clean kept h copy.1
          (covered_known c.args.site.now known c.args.asking.now c.args.reply.now kept c.deref.result.now (c.deref.ensures.value ∙ c.in_ok-covered-in_default.ensures.rows) copy) left m));
      cause = search rules;
      looks = looks_given c.args.site.now c.args.known.now c.args.asking.now (reply_cells c.args.reply.now) c.deref.result.now
          (g.K.Neighbours.looked c.args.keeper.now) (g.K.Neighbours.looked c.keep_readings.new.keeper) (c.deref.ensures.value ∙ c.in_ok-covered-in_default.ensures.rows) c.keep_readings.ensures.looks;
      err = on_err c.from_residual-in_err-count-in_default.result c.in_err-count-in_default.ensures.err;
      clean = c.keep_readings.ensures.clean;
    }

pub returns-in_ok-count-in_default : goal.returns-in_ok-count-in_default
returns-in_ok-count-in_default g c =
    let site = c.args.site.now in
    let known = c.args.known.now in
    let query = c.args.asking.now in
    let reply = c.args.reply.now in
    let holds = g.K.Neighbours.holds in
    let may = g.K.Neighbours.may_leave c.args.keeper.now in
    let given = rows_at site known query reply in
    let is : keyed c.args.asking.now.slot c.deref.result.now ≡ given = ap (keyed c.args.asking.now.slot) (c.deref.ensures.value ∙ c.in_ok-covered-in_default.ensures.rows) in
    record {
      told = λ clean kept h. ap Recorded (c.in_ok-count-in_default.ensures.count clean kept h ∙ ap (λ (l : Readings). length (new_rows kept.readings l)) is)
          ∙ sym (arrival_rows site known query reply kept c.in_default.not-Excepted);
      kept = λ clean kept h copy. subst (holds c.keep_readings.new.keeper) (ap (λ (l : Readings). with_given l kept) is ∙ sym (brought_rows site known query reply kept c.in_default.not-Excepted))
          (c.in_ok-count-in_default.ensures.kept clean kept h copy.1
          (covered_known site known query reply kept c.deref.result.now (c.deref.ensures.value ∙ c.in_ok-covered-in_default.ensures.rows) copy));
      leaves = λ clean kept h copy left m. subst (λ (t : Tables). LeftAfter may kept t false left)
          (ap (λ (l : Readings). with_given l kept) is ∙ sym (brought_rows site known query reply kept c.in_default.not-Excepted))
          (c.in_ok-count-in_default.ensures.leaves clean kept h copy.1
          (covered_known site known query reply kept c.deref.result.now (c.deref.ensures.value ∙ c.in_ok-covered-in_default.ensures.rows) copy) left m);
      cause = search rules;
      looks = looks_given c.args.site.now c.args.known.now c.args.asking.now (reply_cells c.args.reply.now) c.deref.result.now
          (g.K.Neighbours.looked c.args.keeper.now) (g.K.Neighbours.looked c.keep_readings.new.keeper) (c.deref.ensures.value ∙ c.in_ok-covered-in_default.ensures.rows) c.keep_readings.ensures.looks;
      err = tt;
      clean = c.keep_readings.ensures.clean;
    }
