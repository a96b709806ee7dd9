-- That no known point is left out where all can be read.
use Rattle.std.proofs.Common.{◌≡◌, ◌+◌, true, leb, cond, List, [], ◌∷◌, refl, ap, ◌∙◌}
use Rattle.std.specs.Prelude.{All}
use Rattle.std.proofs.lemmas.Bool.{and_from, le-leb}
use Rattle.std.proofs.lemmas.List.Elements.{All-head, All-tail}
use Rattle.sunspec.specs.declared.point_type.PointType.{PointType}
use Rattle.sunspec.specs.declared.point_type.PointType.TheVariants.{Str}
use Rattle.sunspec.specs.PointType.{IsSized}
use Rattle.point_list.specs.declared.point.Point.{Point}
use Rattle.read_planner.specs.Place.{CanBeRead, size_of}
use Rattle.poll_book.specs.declared.rows.PointRow.{PointRow}
use Rattle.office_net.specs.Jobs.{can_read, has_size, readable}

size_of_sized : (kind : PointType) → IsSized kind → has_size kind ≡ true
size_of_sized (Str registers) (least, most) = and_from (leb 1 registers) (leb registers 125) (le-leb 1 registers least) (le-leb registers 125 most)
size_of_sized _ is = refl

can_so : (point : Point) → CanBeRead point → can_read point ≡ true
can_so point can =
    and_from (has_size point.kind) (leb (point.address + size_of point) 65536) (size_of_sized point.kind can.sized) (le-leb (point.address + size_of point) 65536 can.inside)

-- where all can be read, none is left out
pub none_left : (known : List PointRow) → All (λ (row : PointRow). CanBeRead row.point) known → readable known ≡ known
none_left [] all = refl
none_left (row ∷ known) all =
    ap (λ b. cond b (row ∷ readable known) (readable known)) (can_so row.point (All-head (λ (r : PointRow). CanBeRead r.point) row known all)) ∙ ap (λ l. row ∷ l) (none_left known (All-tail (λ (r : PointRow). CanBeRead r.point) row known all))
