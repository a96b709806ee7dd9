use Rattle.std.proofs.Common.{ℕ, List, subst}
use Rattle.std.specs.Prelude.{string_bytes}
use Rattle.office_pages.specs.PointRows.{AddsRow}
use Rattle.run_callers.proofs.Pages.{fits_seen}
use Rattle.run_callers.proofs.showing.Showing.push_json.Goals as goal

pub returns-clause-adds : goal.returns-clause-adds
returns-clause-adds g c = λ clean now follows there.
    let known = c.args.known.now in
    let seen = c.in_ok-seen.seen in
    let is = c.in_ok-seen.ensures.seen clean now follows there in
    let adds = c.in_ok-push_point.ensures (fits_seen now known there seen (c.fitting_tables.ensures now follows.1) is) in
    (seen, is, subst (λ (text : List ℕ). AddsRow c.args.self.now.slots seen text (string_bytes c.push_point.new.out)) c.in_ok-push_comma.ensures adds)
