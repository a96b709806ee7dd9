-- Which places of a table have a socket.
use Rattle.std.specs.Prelude.{Bool, List}
use Rattle.run_sockets.specs.declared.table.Table.{Table}

-- for each place, whether it has one
abbrev pub sockets_of : Table → List Bool
sockets_of table = table.places.items
