-- What is done with sockets.
use Rattle.std.specs.Prelude.{ℕ, Bool, true, false, List, [], ◌∷◌, take, Result, Ok, Err}
use Rattle.run_beat.specs.declared.sockets.Source.{Source}
use Rattle.run_beat.specs.declared.sockets.Source.TheVariants.{Line, Caller}
use Rattle.run_beat.specs.declared.sockets.Came.{Came}
use Rattle.run_beat.specs.declared.sockets.Came.TheVariants as came
use Rattle.run_beat.specs.declared.sockets.Sent.{Sent}
use Rattle.run_beat.specs.declared.sockets.Sent.TheVariants as sent
use Rattle.run_beat.specs.declared.sockets.SocketFault.{SocketFault}

pub data Act : Type 0 where
  -- a connection to a line is begun, or a caller is taken
  Begins : Source → Act
  -- bytes come
  Reads : Source → List ℕ → Act
  -- it comes that the peer sends no more
  Ends : Source → Act
  -- bytes go
  Writes : Source → List ℕ → Act
  -- the peer is told that no more go
  Finishes : Source → Act
  -- the connection is closed, if there is one
  Closes : Source → Act

-- what was done by a call that answered so

abbrev pub begun_so : ℕ → Result (Unit {0}) SocketFault → List Act
begun_so line (Ok done) = Begins (Line line) ∷ []
begun_so line (Err fault) = []

abbrev pub taken_so : ℕ → Bool → List Act
taken_so caller true = Begins (Caller caller) ∷ []
taken_so caller false = []

abbrev pub read_so : Source → List ℕ → Came → List Act
read_so source piece (came.Bytes count) = Reads source (take count piece) ∷ []
read_so source piece came.Ended = Ends source ∷ []
read_so source piece _ = []

abbrev pub written_so : Source → List ℕ → Sent → List Act
written_so source bytes (sent.Bytes count) = Writes source (take count bytes) ∷ []
written_so source bytes _ = []
