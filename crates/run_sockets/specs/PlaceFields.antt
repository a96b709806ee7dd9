-- What a contract sees of a place.
use Rattle.std.specs.Prelude.{Bool, is_some}
use Rattle.run_sockets.specs.declared.place.Place.TheInside.{Inside}

-- whether it has a socket
abbrev pub has_one : Inside → Bool
has_one place = is_some place.socket
