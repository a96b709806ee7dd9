use Rattle.std.proofs.Common.{◌<◌, ◌^◌, subst}
use Rattle.std.specs.Prelude.{All}
use Rattle.poll_book.specs.Tables.{Tables}
use Rattle.poll_book.proofs.Small.{small_readings}
use Rattle.poll_book.proofs.mem_tables.MemTables.total.Goals as goal

pub returns-clause-slots : goal.returns-clause-slots
returns-clause-slots c =
    subst (λ (t : Tables). All (λ row. row.0.1 < 2 ^ 32) t.readings) c.self.view_is (small_readings c.self.inside.histories.items c.self.invariant.ordered.small)
