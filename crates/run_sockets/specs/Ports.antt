-- Which places have a socket.
use Rattle.run_beat.specs.Places.{Places}
use Rattle.run_sockets.specs.declared.ports.Ports.{Ports}
use Rattle.run_sockets.specs.Tables.{sockets_of}

-- which places of lines and callers have one
abbrev pub places_in : Ports → Places
places_in ports = record { lines = sockets_of ports.lines; callers = sockets_of ports.callers }
