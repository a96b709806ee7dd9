-- What an office that stays up does.
use Rattle.std.specs.Prelude.{ℕ, List}
use Rattle.mb_mbap.specs.declared.frame.Frame.{Frame}
use Rattle.read_planner.specs.declared.Read.{Read}
use Rattle.office_core.specs.History.{Happening, History}
use Rattle.office_http.specs.Meanings.{Meaning}
use Rattle.office_net.specs.Kinds.{Asks, Does, Hears, Opens, Sends}

-- Each event of a run is one of these: a line is opened; a read is asked, of which some point has no reading in the slot;
-- the oldest order that waits on a device is sent; a frame comes; or what a caller asks for is done
pub data Runs (now : History) (event : Happening) : Type 0 where
  OpensOne : (line : List ℕ) → Opens line now event → Runs now event
  AsksOne : (conn slot : ℕ) (device : List ℕ) (read : Read) → Asks conn slot device read now event → Runs now event
  SendsOne : (conn : ℕ) (device : List ℕ) → Sends conn device now event → Runs now event
  HearsOne : (conn : ℕ) (frame : Frame) → Hears conn frame now event → Runs now event
  DoesOne : (meaning : Meaning) → Does meaning now event → Runs now event
