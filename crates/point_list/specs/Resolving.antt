-- Points by model, at the addresses that a site's chains give them.
use Rattle.std.specs.Prelude.{◌≡◌, ⊤, ℕ, ◌+◌, List, [], ◌∷◌, map, Option, Some, None, is_some, Result, Ok, Err, ◌==◌, nat_le, if◌then◌else◌}
use Rattle.std.specs.List.{find}
use Rattle.sunspec.specs.PointType.{row}
use Rattle.sunspec.specs.declared.chain.Model.{Model}
use Rattle.point_list.specs.Columns.{Record, ◌then◌, is_device}
use Rattle.point_list.specs.Edition.{Edition}
use Rattle.point_list.specs.ListMeaning.{list_meaning, rows_unless}
use Rattle.point_list.specs.Sites.{device_named}
use Rattle.point_list.specs.declared.site.Site.{Site}
use Rattle.point_list.specs.declared.site.Device.{Device}
use Rattle.point_list.specs.declared.point.Point.{Point}
use Rattle.point_list.specs.declared.point.ListRow.{ListRow}
use Rattle.point_list.specs.declared.error.ListError.{ListError}
use Rattle.point_list.specs.declared.error.ListFault.{ListFault}
use Rattle.point_list.specs.declared.error.ListFault.TheVariants.{NoModel, PastModel}

-- the model of an identifier that a device of a site has: the first one
abbrev pub model_at : Site → List ℕ → ℕ → Option Model
model_at site device id = device_named site device then (λ (d : Device). find (λ (m : Model). m.id == id) d.models)

-- ---- what is wrong with a row's place

-- a fault of the address of a row
abbrev pub of_address : ListRow → ListFault → Option ListError
of_address said fault = Some (record { fault = fault; row = said.row; column = 4 })

-- a model holds two registers before those of its length, and the point's are to be among them
abbrev pub misplaced_in : ListRow → ℕ → Option Model → Option ListError
misplaced_in said offset None = of_address said NoModel
misplaced_in said offset (Some model) =
    if nat_le (offset + (row said.point.kind).registers) (model.length + 2) then None else of_address said PastModel

abbrev pub misplaced_by : Site → ListRow → Option (ℕ × ℕ) → Option ListError
misplaced_by site said None = None
misplaced_by site said (Some place) = misplaced_in said place.1 (model_at site said.point.device place.0)

abbrev pub misplaced : Site → ListRow → Option ListError
misplaced site said = misplaced_by site said said.model

-- that of the first row that has one
abbrev pub first_misplaced : Site → List ListRow → Option ListError
first_misplaced site rows = find (λ (said : ListRow). is_some (misplaced site said)) rows then misplaced site

-- ---- the places

abbrev pub address_in_model : ListRow → ℕ → Option Model → ℕ
address_in_model said offset None = said.point.address
address_in_model said offset (Some model) = model.address + offset

abbrev pub address_by : Site → ListRow → Option (ℕ × ℕ) → ℕ
address_by site said None = said.point.address
address_by site said (Some place) = address_in_model said place.1 (model_at site said.point.device place.0)

-- the same point at another address
abbrev pub moved : Point → ℕ → Point
moved p address =
    record {
      name = p.name;
      device = p.device;
      table = p.table;
      address = address;
      kind = p.kind;
      scale = p.scale;
      role = p.role;
      roll = p.roll;
      order = p.order;
    }

-- the point of a row, at its address
abbrev pub point_placed : Site → ListRow → Point
point_placed site said = moved said.point (address_by site said said.model)

-- the row with that point
abbrev pub placed : Site → ListRow → ListRow
placed site said = record { row = said.row; point = point_placed site said; model = said.model }

-- ---- lists

-- rows with their points placed, unless one has no place
abbrev pub resolved : Site → List ListRow → Result (List ListRow) ListError
resolved site rows = rows_unless (first_misplaced site rows) (map (placed site) rows)

abbrev pub resolved_list : Site → Result (List ListRow) ListError → Result (List ListRow) ListError
resolved_list site (Ok rows) = resolved site rows
resolved_list site (Err e) = Err e

-- what a list of these records means in an edition at a site
abbrev pub list_at : Edition → Site → List Record → Result (List ListRow) ListError
list_at edition site list = resolved_list site (list_meaning edition (is_device site) list)

-- the points of rows
abbrev pub points_of : List ListRow → List Point
points_of rows = map (λ (said : ListRow). said.point) rows

-- rows one after the other, of which the first has this number
abbrev pub AreRowsFrom : ℕ → List ListRow → Type 0
AreRowsFrom number [] = ⊤
AreRowsFrom number (said ∷ rows) = (said.row ≡ number) × AreRowsFrom (number + 1) rows

-- the points of the rows of a list, whose first row is the second record
pub record ArePointsOf (rows : List ListRow) (points : List Point) : Type 0 where
  pub same : points ≡ points_of rows
  pub numbered : AreRowsFrom 2 rows
