use Rattle.std.proofs.Common.{◌≡◌, subst}
use Rattle.std.specs.Prelude.{IfOk, option_map}
use Rattle.poll_book.specs.Showing.{as_shown}
use Rattle.office_core.specs.Offices.{last_reading_at}
use Rattle.office_core.proofs.office.Office.last.Goals as goal

pub returns-clause-value : goal.returns-clause-value
returns-clause-value g c clean before stands =
    subst (λ o. IfOk c.last_at.result (λ last. option_map as_shown last ≡ last_reading_at before o))
    (c.point-known.ensures before stands) (c.last_at.ensures.value clean before stands)
