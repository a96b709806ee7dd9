-- What waits to be told.
use Rattle.std.specs.Prelude.{ℕ, List}
use Rattle.run_lines.specs.declared.journal.Journal.{Journal}

abbrev pub untold : Journal → List ℕ
untold journal = journal.out
