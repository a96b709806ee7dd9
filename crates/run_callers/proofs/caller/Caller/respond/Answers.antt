use Rattle.std.proofs.Common.{None, ◌∙◌, ap, refl, sym}
use Rattle.std.specs.Prelude.{string_bytes}
use Rattle.office_http.specs.Answers.{unavailable_text}
use Rattle.office_http.specs.Heard.{meaning_of}
use Rattle.office_http.specs.Meanings.{page}
use Rattle.office_net.specs.Serving.{written_for}
use Rattle.run_callers.proofs.Sessions.{comes_same, written_refused}
use Rattle.run_callers.proofs.caller.Caller.respond.Goals as goal

pub returns-in_err-head-in-Page-clause-came : goal.returns-in_err-head-in-Page-clause-came
returns-in_err-head-in-Page-clause-came g c =
    comes_same c.args.office.now c.begun.new.office (page c.in-Page.page) (meaning_of c.args.heard.now) unavailable_text (written_for c.from_residual.result) None c.args.self.now.showing
    (sym (ap meaning_of c.in-Page.is)) (sym (written_refused c.from_residual.result c.from_residual.ensures.0)) (sym c.requires.unshown) c.in_err-head-in-Page.ensures

pub invariant_of-self : goal.invariant_of-self
invariant_of-self g c =
    record {
      offers = c.args.self.now.offers;
      lacks = c.args.self.now.lacks;
      unwritten = c.args.self.now.unwritten;
      unshown = λ hearing. let both = sym hearing ∙ c.requires.answering in absurd (cc);
    }

pub returns-in_ok-head-in-Page-clause-came : goal.returns-in_ok-head-in-Page-clause-came
returns-in_ok-head-in-Page-clause-came g c =
    comes_same c.args.office.now c.begun.new.office (page c.in-Page.page) (meaning_of c.args.heard.now) (string_bytes c.in_ok-head-in-Page.head) (string_bytes c.in_ok-head-in-Page.head)
    c.in_ok-head-in-Page.showing c.in_ok-head-in-Page.showing (sym (ap meaning_of c.in-Page.is)) refl refl c.in_ok-head-in-Page.ensures

pub returns-in-Order-clause-came : goal.returns-in-Order-clause-came
returns-in-Order-clause-came g c =
    comes_same c.args.office.now c.order.new.office (meaning_of c.args.heard.now) (meaning_of c.args.heard.now) (written_for c.order.result) (written_for c.order.result) None c.order.new.self.showing
    refl refl (sym (c.order.ensures.same.3 ∙ c.requires.unshown)) c.order.ensures.came

pub returns-in-Void-clause-came : goal.returns-in-Void-clause-came
returns-in-Void-clause-came g c =
    comes_same c.args.office.now c.done.new.office (meaning_of c.args.heard.now) (meaning_of c.args.heard.now) (written_for c.done.result) (written_for c.done.result) None c.args.self.now.showing
    refl refl (sym c.requires.unshown) c.done.ensures

pub returns-in_default : goal.returns-in_default
returns-in_default g c =
    record {
      came =
          comes_same c.args.office.now c.done-in_default.new.office (meaning_of c.args.heard.now) (meaning_of c.args.heard.now) (written_for c.done-in_default.result) (written_for c.done-in_default.result)
          None c.args.self.now.showing refl refl (sym c.requires.unshown) c.done-in_default.ensures;
      same = (refl, refl, refl);
    }
