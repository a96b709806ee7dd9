-- The points of a list's rows can be read.
use Rattle.std.proofs.Common.{◌≡◌, ◌+◌, ◌≤◌, ℕ, Bool, true, false, cond, List, [], ◌∷◌, ◌++◌, length, map, get_or, All, Option, Some, None, refl, subst, arith}
use Rattle.std.specs.Prelude.{nat_le, ◌&&◌, ◌==◌}
use Rattle.std.proofs.lemmas.Bool.{and_parts, leb-true}
use Rattle.std.proofs.lemmas.List.Elements.{All-map}
use Rattle.std.proofs.lemmas.Option.{cond_some, none-some, same_Some}
use Rattle.mb_pdu.specs.declared.table.Table.{Table}
use Rattle.mb_pdu.specs.declared.table.Table.TheVariants.{Coil, Discrete, Input, Holding}
use Rattle.sunspec.specs.declared.point_type.PointType.{PointType}
use Rattle.sunspec.specs.declared.point_type.PointType.TheVariants.{Str}
use Rattle.sunspec.specs.PointType.{IsSized, resized, row}
use Rattle.sunspec.specs.Digits.{number_within}
use Rattle.point_list.specs.declared.error.ListFault.{ListFault}
use Rattle.point_list.specs.declared.point.ListRow.{ListRow}
use Rattle.point_list.specs.declared.point.Point.{Point}
use Rattle.point_list.specs.Columns.{Record, field, ◌then◌, sized, unsized}
use Rattle.point_list.specs.Edition.{Edition}
use Rattle.point_list.specs.Lists.{AreRows, Check, Says, address_in, ends_in_time, fault_below, first_failed, meaning_checks, name_of_type_in, place_checks, type_in, whole_checks}
use Rattle.point_list.specs.Resolving.{first_misplaced, point_placed}
use Rattle.point_list.specs.Sites.{IsSound}
use Rattle.point_list.specs.declared.site.Site.{Site}
use Rattle.point_list.proofs.Placing.{none_misplaced, placed_inside}
use Rattle.point_list.proofs.Rows.{row_said}
use Rattle.sunspec.proofs.Table.{some_registers}
use Rattle.read_planner.specs.Place.{CanBeRead, size_in}

-- ---- types have a size

unsized_fits : (kind k : PointType) → unsized kind ≡ Some k → IsSized k
unsized_fits (Str registers) k e = absurd (none-some k e)
unsized_fits kind k e = subst IsSized (same_Some kind k e) tt

resized_fits : (kind : PointType) (registers : ℕ) (k : PointType) → resized kind registers ≡ Some k → IsSized k
resized_fits (Str old) registers k e =
    let (within, same) = cond_some (nat_le 1 registers && nat_le registers 125) (Str registers) k e in
    let parts = and_parts (nat_le 1 registers) (nat_le registers 125) within in
    subst IsSized same (leb-true 1 registers parts.0, leb-true registers 125 parts.1)
resized_fits kind registers k e = subst IsSized (cond_some ((row kind).registers == registers) kind k e).1 tt

sized_fits : (kind : PointType) (text : List ℕ) (k : PointType) → sized kind text ≡ Some k → IsSized k
unfolding sized
sized_fits kind [] k e = unsized_fits kind k e
sized_fits kind (byte ∷ bytes) k e = by (number_within 125 (byte ∷ bytes)) e
  where
    by : (o : Option ℕ) → o then resized kind ≡ Some k → IsSized k
    by None e = absurd (cc)
    by (Some registers) e = resized_fits kind registers k e

type_fits : (r : Record) (k : PointType) → type_in r ≡ Some k → IsSized k
unfolding type_in
type_fits r k e = by (name_of_type_in r) e
  where
    by : (o : Option PointType) → o then (λ kind. sized kind (field r 5)) ≡ Some k → IsSized k
    by None e = absurd (cc)
    by (Some kind) e = sized_fits kind (field r 5) k e

-- ---- a faultless record's point ends in time

passes : (b : Bool) (x : Option (ListFault × ℕ)) (f : ListFault × ℕ) → cond b x (Some f) ≡ None → (b ≡ true) × (x ≡ None)
passes true x f h = (refl, h)
passes false x f h = absurd (cc)

none_behind : (a b : List Check) → first_failed (a ++ b) ≡ None → first_failed b ≡ None
none_behind [] b h = h
none_behind (c ∷ cs) b h = none_behind cs b (passes c.passes (first_failed (cs ++ b)) (c.fault, c.column) h).1

ends : (columns : ℕ) (known : List ℕ → Bool) (names : List (List ℕ)) (r : Record) → fault_below columns known names r ≡ None → ends_in_time (address_in r) (type_in r) ≡ true
unfolding fault_below
ends columns known names r h =
    let behind = none_behind (meaning_checks r) (whole_checks names r) (none_behind (place_checks columns known (length names) r) (meaning_checks r ++ whole_checks names r) h) in
    (passes (ends_in_time (address_in r) (type_in r)) _ _ behind).0

in_table : (table : Table) (registers : ℕ) → 1 ≤ registers → size_in table registers ≤ registers
in_table Coil registers some = some
in_table Discrete registers some = some
in_table Input registers some = omega arith
in_table Holding registers some = omega arith

-- a point whose type has a size can be read, where its registers would end by the last address
readable : (point : Point) → IsSized point.kind → point.address + (row point.kind).registers ≤ 65536 → CanBeRead point
readable point is last =
    let size : size_in point.table (row point.kind).registers ≤ (row point.kind).registers = in_table point.table (row point.kind).registers (some_registers point.kind is) in
    record { sized = is; inside = omega (arith, last, size) }

-- the point of a faultless record ends by the last address, whatever table it is in
said_ends : (columns : ℕ) (known : List ℕ → Bool) (names : List (List ℕ)) (r : Record) (point : Point) → fault_below columns known names r ≡ None → Says r point
    → IsSized point.kind × (point.address + (row point.kind).registers ≤ 65536)
said_ends columns known names r point none says =
    let P : Option ℕ → Type 0 = λ address. ends_in_time address (type_in r) ≡ true in
    let Q : Option PointType → Type 0 = λ kind. ends_in_time (Some point.address) kind ≡ true in
    let in_time : ends_in_time (Some point.address) (Some point.kind) ≡ true = subst Q says.kind (subst P says.address (ends columns known names r none)) in
    (type_fits r point.kind says.kind, leb-true (point.address + (row point.kind).registers) 65536 in_time)

-- the point that a faultless record says can be read
said_fits : (columns : ℕ) (known : List ℕ → Bool) (names : List (List ℕ)) (r : Record) (point : Point) → fault_below columns known names r ≡ None → Says r point → CanBeRead point
said_fits columns known names r point none says =
    let fits = said_ends columns known names r point none says in
    readable point fits.0 fits.1

-- ---- rows

pub listed : (edition : Edition) (known : List ℕ → Bool) (list : List Record) (rows : List ListRow) → AreRows edition known list rows → All (λ (x : ListRow). CanBeRead x.point) rows
listed edition known list rows are = λ k d lt.
    let said = row_said 2 are.body rows are.say k d lt in
    said_fits (length are.first) known _ (get_or are.body k []) (get_or rows k d).point (are.faultless k said.0) said.1

-- ---- points placed by model

pub listed_placed : (edition : Edition) (site : Site) (known : List ℕ → Bool) (list : List Record) (rows : List ListRow) → IsSound site → AreRows edition known list rows
    → first_misplaced site rows ≡ None → All CanBeRead (map (point_placed site) rows)
listed_placed edition site known list rows sound are none =
    All-map CanBeRead (point_placed site) rows (λ k d lt.
    let said = row_said 2 are.body rows are.say k d lt in
    let row : ListRow = get_or rows k d in
    let fits = said_ends (length are.first) known _ (get_or are.body k []) row.point (are.faultless k said.0) said.1 in
    readable (point_placed site row) fits.0 (placed_inside site row sound (none_misplaced site rows none k d lt) fits.1))
