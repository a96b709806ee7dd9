-- What a contract sees of the system's sockets.
use Rattle.std.specs.Prelude.{Bool, is_some}
use Rattle.run_beat.specs.Places.{Places}
use Rattle.run_sockets.specs.declared.system.System.{System}
use Rattle.run_sockets.specs.Ports.{places_in}

-- which places of lines and callers have a socket
abbrev pub places_of : {R E : Type 0} → System R E → Places
places_of system = places_in system.ports

-- a caller waits at its door
abbrev pub is_waited_at : {R E : Type 0} → System R E → Bool
is_waited_at system = is_some system.ports.door.first

-- standard input has ended
abbrev pub is_ended : {R E : Type 0} → System R E → Bool
is_ended system = system.ports.is_stopped
