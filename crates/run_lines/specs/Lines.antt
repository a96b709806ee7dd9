-- How a line stands.
use Rattle.std.specs.Prelude.{◌≡◌, ℕ, List, Option, Some, None, Result, if◌then◌else◌}
use Rattle.poll_book.specs.declared.keeper.Neighbours.{Ghosts}
use Rattle.run_beat.specs.declared.sockets.Source.{Source}
use Rattle.run_beat.specs.declared.sockets.Source.TheVariants as source
use Rattle.run_beat.specs.Acts.{Act}
use Rattle.run_beat.specs.Beats.{from_of}
use Rattle.office_core.specs.declared.office.Office.{Office}
use Rattle.run_lines.specs.declared.link.Connection.{Connection}
use Rattle.run_lines.specs.declared.link.Connection.TheVariants as connection
use Rattle.run_lines.specs.declared.line.Line.{Line}
use Rattle.run_lines.specs.declared.loss.Stop.{Stop}
use Rattle.run_lines.specs.Links.{wire_of}
use Rattle.run_lines.specs.Wires.{Acted, Begun, Down, Goes, State, Terms, Wire, Works}

abbrev pub wire_in : Connection → Wire
wire_in connection.Down = Down
wire_in connection.Begun = Begun
wire_in (connection.Up link) = wire_of link

-- its connection
abbrev pub wire_at : Line → Wire
wire_at line = wire_in line.connection

abbrev pub terms_of : Line → Terms
terms_of line = record { name = line.stations.line; most = line.most }

-- where it is in the site
abbrev pub place_of : Line → ℕ
place_of line = line.place

-- the pass in which it did something last
abbrev pub served_in : Line → ℕ
served_in line = line.served

-- when it was looked up last where it is, if it couldn't be reached since
abbrev pub unreached_since : Line → Option ℕ
unreached_since line = if line.is_unreached then Some line.looked_up else None

-- whose sockets are its own
abbrev pub source_of : Line → Source
source_of line = source.Line line.place

abbrev pub state_at : Line → State
state_at line = record { from = from_of line.beat; wire = wire_at line }

-- the same line
pub record IsOne (old new : Line) : Type 0 where
  pub place : new.place ≡ old.place
  pub name : new.stations.line ≡ old.stations.line
  pub most : new.most ≡ old.most

-- the same line, which began no round
pub record IsSame (old new : Line) : Type 0 where
  pub place : new.place ≡ old.place
  pub name : new.stations.line ≡ old.stations.line
  pub most : new.most ≡ old.most
  pub from : from_of new.beat ≡ from_of old.beat

-- its connection stands as it did
abbrev pub Keeps : Line → Line → Type 0
Keeps old new = IsSame old new × (wire_at new ≡ wire_at old)

-- what a call that may fail did over its connection
abbrev pub Tends : {K T : Type 0} {g : Ghosts K} → Result T Stop → Line → Line → Office K g → Office K g → (List Act → Type 0) → Type 0
Tends told old new office office' acted = IsSame old new × Works told (terms_of old) (source_of old) office office' acted (wire_at old) (wire_at new)

-- the same of one that may begin a round
abbrev pub Advances : {K T : Type 0} {g : Ghosts K} → Result T Stop → Line → Line → Office K g → Office K g → (List Act → Type 0) → Type 0
Advances told old new office office' acted = IsOne old new × Goes told (terms_of old) (source_of old) office office' acted (state_at old) (state_at new)

-- what it did with its socket alone
abbrev pub Handles : {T : Type 0} → Result T Stop → Line → Line → (List Act → Type 0) → Type 0
Handles told old new acted = IsSame old new × Acted told (terms_of old) (source_of old) acted (wire_at old) (wire_at new)
