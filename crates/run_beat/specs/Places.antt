-- Which places of lines and callers have a socket.
use Rattle.std.specs.Prelude.{Bool, false, List, get_or, replicate, slice_set}
use Rattle.run_beat.specs.declared.sockets.Source.{Source}
use Rattle.run_beat.specs.declared.sockets.Source.TheVariants.{Line, Caller}

-- for each place of a line, and of a caller, whether it has one
pub record Places : Type 0 where
  pub lines : List Bool
  pub callers : List Bool

-- none has one: of 64 lines, and as many callers
abbrev pub no_sockets : Places
no_sockets = record { lines = replicate 64 false; callers = replicate 64 false }

-- a source has a socket
abbrev pub has_socket : Source → Places → Bool
has_socket (Line place) places = get_or places.lines place false
has_socket (Caller place) places = get_or places.callers place false

-- a source has one from now on, or has none; all others stay
abbrev pub with_socket : Source → Bool → Places → Places
with_socket (Line place) has places = record places { lines = slice_set places.lines place has }
with_socket (Caller place) has places = record places { callers = slice_set places.callers place has }
