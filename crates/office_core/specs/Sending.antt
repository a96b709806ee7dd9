-- What a send owes to what a keeper holds.
use Rattle.std.specs.Prelude.{◌≡◌, ◌⊎◌, ℕ, true, nat_le, if◌then◌else◌, List, Option, Some, None}
use Rattle.point_list.specs.declared.site.Site.{Site}
use Rattle.poll_match.specs.declared.asked.Asked.{Asked}
use Rattle.poll_book.specs.declared.rows.PointRow.{PointRow}
use Rattle.poll_book.specs.declared.rows.Setting.{Setting}
use Rattle.poll_book.specs.Orders.{Settings, is_waiting, point_at}
use Rattle.office_core.specs.declared.error.OfficeError.{OfficeError}
use Rattle.office_core.specs.declared.error.OfficeError.TheVariants as error
use Rattle.office_core.specs.declared.site.Target.{Target}
use Rattle.office_core.specs.Errors.{is_of_store}
use Rattle.office_core.specs.Sites.{target}
use Rattle.office_core.specs.Queries.{Writes, asked_of}
use Rattle.office_core.specs.Orders.{send_fault, writing}

-- the order waits, and this is its point, whose device is one of the line
pub record IsAddressed (site : Site) (known : List PointRow) (line : ℕ) (setting : Setting) (found : PointRow × Target) : Type 0 where
  pub point : point_at known setting.point ≡ Some found.0
  pub device : target site found.0.point.device ≡ Some found.1
  pub same_line : found.1.line ≡ line
  pub waits : is_waiting setting.state ≡ true

-- this is written for the order, and nothing refuses it but that no query number is left
pub record IsSent (line : Option ℕ) (site : Site) (known : List PointRow) (table : Settings) (number : ℕ) (asked : Asked) : Type 0 where
  pub writes : asked ≡ asked_of (Writes (writing site known table number))
  pub fault : (made : ℕ) → send_fault line site known table made number ≡ (if nat_le 4294967295 made then Some error.Exhausted else None)

-- the store refuses it, or this is the first refusal that holds
abbrev pub IsRefused : Option ℕ → Site → List PointRow → Settings → ℕ → OfficeError → Type 0
IsRefused line site known table number e = (is_of_store e ≡ true) ⊎ ((made : ℕ) → send_fault line site known table made number ≡ Some e)
