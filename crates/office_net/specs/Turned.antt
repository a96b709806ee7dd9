-- What became of a round's jobs.
use Rattle.std.specs.Prelude.{◌≡◌, ◌⊎◌, ℕ, false, List, [], ◌∷◌, Some, ⊤}
use Rattle.poll_book.specs.declared.rows.Setting.{Setting}
use Rattle.poll_book.specs.Orders.{is_waiting, setting_at}
use Rattle.office_core.specs.History.{History, settings}
use Rattle.office_net.specs.declared.job.LineJob.{LineJob}
use Rattle.office_net.specs.declared.job.LineJob.TheVariants.{Order, Read}
use Rattle.office_net.specs.Moves.{Start, Move, Asks, Passes, Comes, told, next_order, number_of}

-- so is each job that made a query
abbrev pub AllAsked : (LineJob → Type 0) → List Move → Type 0
AllAsked P [] = ⊤
AllAsked P (Asks job ∷ moves) = P job × AllAsked P moves
AllAsked P (Passes job ∷ moves) = AllAsked P moves
AllAsked P (Comes frame ∷ moves) = AllAsked P moves

-- the job made a query
abbrev pub IsAsked : LineJob → List Move → Type 0
IsAsked job [] = ⊥
IsAsked job (Asks other ∷ moves) = (other ≡ job) ⊎ IsAsked job moves
IsAsked job (Passes other ∷ moves) = IsAsked job moves
IsAsked job (Comes frame ∷ moves) = IsAsked job moves

-- the order of this number was sent
abbrev pub IsSent : Start → ℕ → List Move → Type 0
IsSent start order [] = ⊥
IsSent start order (Asks (Order device) ∷ moves) = (number_of (next_order (told start moves) device) ≡ order) ⊎ IsSent start order moves
IsSent start order (Asks (Read device read) ∷ moves) = IsSent start order moves
IsSent start order (Passes job ∷ moves) = IsSent start order moves
IsSent start order (Comes frame ∷ moves) = IsSent start order moves

-- the order of this number waits no longer
pub record IsSettled (now : History) (order : ℕ) : Type 0 where
  pub setting : Setting
  pub there : setting_at (settings now) order ≡ Some setting
  pub settled : is_waiting setting.state ≡ false
