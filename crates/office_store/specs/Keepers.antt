-- What contracts see of a keeper over a database.
use Rattle.std.specs.Prelude.{ℕ}
use Rattle.sqlite_trees.specs.declared.store.Store.{Ghosts}
use Rattle.sqlite.specs.Held.{Held, state}
use Rattle.poll_book.specs.Tables.{Tables}
use Rattle.office_store.specs.declared.keeper.SqlKeeper.{SqlKeeper}
use Rattle.office_store.specs.Waiting.{HoldsBy}
use Rattle.office_store.specs.Ends.{HasEnds, HasVoidEnds}

abbrev pub connection_of : {S : Type 0} {g : Ghosts S} → SqlKeeper S g → Held S
connection_of keeper = keeper.connection

abbrev pub refused_by : {S : Type 0} {g : Ghosts S} → SqlKeeper S g → ℕ
refused_by keeper = keeper.refusals

abbrev pub looked_by : {S : Type 0} {g : Ghosts S} → SqlKeeper S g → ℕ
looked_by keeper = keeper.lookups

-- as far as its database can still be read, it holds these tables, and what it knows of them beside it is so
abbrev pub IsKeptBy : {S : Type 0} {g : Ghosts S} → SqlKeeper S g → Tables → Type 0
IsKeptBy {g = g} keeper kept =
    HoldsBy (state g keeper.connection) keeper.waiting kept × HasEnds (state g keeper.connection) keeper.ends.known.items kept × HasVoidEnds (state g keeper.connection) keeper.void_ends.known.items kept
