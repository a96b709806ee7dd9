-- What becomes of a list that is loaded.
use Rattle.std.specs.Prelude.{ℕ, ◌+◌, Bool, true, false, not, ◌&&◌, ◌==◌, nat_le, List, [], ◌∷◌, filter, find, length, Option, Some, None, is_none, Result, Ok, Err, if◌then◌else◌}
use Rattle.std.specs.Ordering.{int_eq}
use Rattle.std.specs.Str.{bytes_eq}
use Rattle.mb_pdu.specs.declared.table.Table.{Table}
use Rattle.mb_pdu.specs.declared.table.Table.TheVariants.{Coil, Discrete, Holding, Input}
use Rattle.sunspec.specs.PointType.{row}
use Rattle.sunspec.specs.declared.word_order.WordOrder.{WordOrder}
use Rattle.sunspec.specs.declared.word_order.WordOrder.TheVariants.{Big, Swapped}
use Rattle.point_list.specs.declared.point.Point.{Point}
use Rattle.point_list.specs.declared.point.Role.{Role}
use Rattle.point_list.specs.declared.point.Role.TheVariants.{Gauge, Counter, Setting}
use Rattle.point_list.specs.declared.point.ListRow.{ListRow}
use Rattle.point_list.specs.declared.error.ListError.{ListError}
use Rattle.point_list.specs.declared.error.ListFault.TheVariants.{TooManyPoints}
use Rattle.point_list.specs.declared.site.Site.{Site}
use Rattle.point_list.specs.Edition.{Edition}
use Rattle.point_list.specs.Lists.{point_limit, records_of}
use Rattle.point_list.specs.Resolving.{list_at, points_of}
use Rattle.poll_book.specs.declared.rows.PointRow.{PointRow}
use Rattle.poll_book.specs.declared.requests.Reason.{Reason}
use Rattle.poll_book.specs.declared.requests.RequestFault.TheVariants.{List as OfList, PointDiffers}
use Rattle.poll_book.specs.declared.requests.Outcome.{Outcome}
use Rattle.poll_book.specs.declared.requests.Outcome.TheVariants.{Loaded, RefusedFor}

-- the known point of this name
abbrev pub known_named : List PointRow → List ℕ → Option PointRow
known_named known name = find (λ (point : PointRow). bytes_eq point.point.name name) known

abbrev pub same_table : Table → Table → Bool
same_table Coil Coil = true
same_table Discrete Discrete = true
same_table Holding Holding = true
same_table Input Input = true
same_table _ _ = false

abbrev pub same_role : Role → Role → Bool
same_role Gauge Gauge = true
same_role Counter Counter = true
same_role Setting Setting = true
same_role _ _ = false

abbrev pub same_order : WordOrder → WordOrder → Bool
same_order Big Big = true
same_order Swapped Swapped = true
same_order _ _ = false

-- the same numbers come of the same registers
abbrev pub same_meaning : Point → Point → Bool
same_meaning a b =
    (row a.kind).code == (row b.kind).code && ((row a.kind).registers == (row b.kind).registers
    && (int_eq a.scale b.scale && same_order a.order b.order))

-- the same definition, field by field; types are the same where codes and numbers of registers are
abbrev pub same_point : Point → Point → Bool
same_point a b =
    bytes_eq a.name b.name && (bytes_eq a.device b.device && (same_table a.table b.table && (a.address == b.address
    && (same_meaning a b && (same_role a.role b.role && a.roll == b.roll)))))

-- no point of that name is known, or it is this point
abbrev pub agrees : Point → Option PointRow → Bool
agrees point None = true
agrees point (Some there) = same_point there.point point

-- the points among these that aren't known
abbrev pub unknown_of : List PointRow → List Point → List Point
unknown_of known points = filter (λ (point : Point). is_none (known_named known point.name)) points

-- what becomes of a list: it is refused, or it has so many rows, of which these points are new
pub data Loading : Type 0 where
  Refused : (reason : Reason) → Loading
  Taken : (count : ℕ) (points : List Point) → Loading

abbrev pub list_reason : ListError → Reason
list_reason e = record { fault = OfList e.fault; row = e.row; column = e.column }

abbrev pub too_many : Reason
too_many = record { fault = OfList TooManyPoints; row = 0; column = 0 }

abbrev pub loading_new : List PointRow → List ListRow → List Point → Loading
loading_new known rows new =
    if nat_le (length known + length new) point_limit then Taken (length rows) new
    else Refused too_many

abbrev pub loading_rows : List PointRow → List ListRow → Option ListRow → Loading
loading_rows known rows (Some differing) = Refused (record { fault = PointDiffers; row = differing.row; column = 1 })
loading_rows known rows None = loading_new known rows (unknown_of known (points_of rows))

-- its name is known with another definition
abbrev pub differs : List PointRow → ListRow → Bool
differs known said = not (agrees said.point (known_named known said.point.name))

-- the first row that differs
abbrev pub differing : List PointRow → List ListRow → Option ListRow
differing known rows = find (differs known) rows

abbrev pub loading_of : List PointRow → Result (List ListRow) ListError → Loading
loading_of known (Err e) = Refused (list_reason e)
loading_of known (Ok rows) = loading_rows known rows (differing known rows)

-- a list by an edition, the site in force and the points that are known
abbrev pub loading : Edition → Site → List PointRow → List ℕ → Loading
loading edition site known list = loading_of known (list_at edition site (records_of list))

abbrev pub outcome : Loading → Outcome
outcome (Refused reason) = RefusedFor reason
outcome (Taken count points) = Loaded count

-- points numbered on from a number
abbrev pub numbered_on : ℕ → List Point → List PointRow
numbered_on n [] = []
numbered_on n (point ∷ points) = record { number = n + 1; point = point } ∷ numbered_on (n + 1) points

-- the rows of the points that a list adds to so many
abbrev pub added : ℕ → Loading → List PointRow
added n (Refused reason) = []
added n (Taken count points) = numbered_on n points
