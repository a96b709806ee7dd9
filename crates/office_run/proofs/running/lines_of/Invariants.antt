use Rattle.std.proofs.Common.{◌≡◌, length}
use Rattle.std.specs.Prelude.{map, take}
use Rattle.office_run.specs.Beginnings.{AreDown, all_terms, terms_in}
use Rattle.office_run.proofs.running.lines_of.Given as goal

abbrev pub invariant-loop-place : goal.invariant-loop-place
invariant-loop-place l = AreDown 0 l.lines.items × (length l.lines.items ≡ l.place) × (all_terms l.lines.items ≡ map terms_in (take l.place l.fn.site.lines))
