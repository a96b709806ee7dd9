-- Points that lists say have the form of a type that there is, and can be read.
use Rattle.std.proofs.Common.{◌≡◌, ◌≤◌, ◌+◌, ℕ, zero, suc, Bool, true, false, cond, eqb, leb, get_or, List, [], ◌∷◌, ◌++◌, length, Option, Some, None, refl, sym, ◌∙◌, subst, arith, T}
use Rattle.std.specs.Prelude.{ℤ, pos, neg_ℤ, All, ◌&&◌, ◌||◌, not, option_map, find}
use Rattle.std.specs.Str.{bytes_eq}
use Rattle.std.specs.Str.Parse.{digits_value}
use Rattle.std.specs.Int.Signed.{le_z_yes}
use Rattle.std.specs.Char.{is_ascii_digit}
use Rattle.std.specs.List.{list_all, list_any}
use Rattle.std.proofs.lemmas.Bool.{and_parts, leb-true, le-leb}
use Rattle.std.proofs.lemmas.Option.{none-some, same_Some, cond_some}
use Rattle.std.proofs.lemmas.List.Elements.{All-nil, All-append}
use Rattle.mb_pdu.specs.declared.table.Table.{Table}
use Rattle.mb_pdu.specs.declared.table.Table.TheVariants.{Coil, Discrete, Holding, Input}
use Rattle.sunspec.specs.declared.point_type.PointType.{PointType}
use Rattle.sunspec.specs.declared.point_type.PointType.TheVariants.{Str}
use Rattle.sunspec.specs.PointType.{row, types, resized, IsSized}
use Rattle.sunspec.specs.Digits.{number_of, number_within, is_number_within, scale_of}
use Rattle.sunspec.specs.Text.{IsScale}
use Rattle.point_list.specs.declared.point.Point.{Point}
use Rattle.point_list.specs.declared.point.Role.{Role}
use Rattle.point_list.specs.Columns.{Record, field, is_device, ◌then◌, holds_bits, is_bit, same, in_table, named_in, unsized, sized, is_scaled, is_zero, scaled_by, scale_in as scale_said}
use Rattle.sunspec.specs.declared.word_order.WordOrder.{WordOrder}
use Rattle.point_list.specs.Lists.{table_in, address_in, name_of_type_in, type_in, scale_in, role_in, roll_in, order_in, ends_in_time, Check, check, place_checks, meaning_checks, whole_checks, first_failed, fault_below}
use Rattle.point_list.specs.declared.error.ListFault.TheVariants.{BadAddress, Twice}
use Rattle.point_list.specs.ListMeaning.{point_in}
use Rattle.point_list.specs.Sites.{IsSound, all_differ}
use Rattle.point_list.proofs.Placing.{placed_inside}
use Rattle.read_planner.specs.Place.{CanBeRead, size_in, size_of}
use Rattle.poll_book.specs.declared.rows.PointRow.{PointRow}
use Rattle.office_core.specs.Fitting.{HasForm}
use Rattle.office_core.specs.Legal.{Legal}
use Rattle.office_core.proofs.OfLists.{added_so}
use Rattle.office_core.specs.Loads.{loading, added}
use Rattle.office_core.specs.History.{Restart, Load, Order, Void, Open, Ask, Send, Reply, Noise, History, site_of, points, is_used}

-- the form of a point, a bit only in a table of bits, and an end by the last address
abbrev pub IsFormed : Point → Type 0
IsFormed point = HasForm point × (is_bit point.kind ≡ true → holds_bits point.table ≡ true) × (point.address + (row point.kind).registers ≤ 65536)

-- where one step after another says something, the first says something that the other goes on from
pub then_some : {A B : Type 0} (o : Option A) (f : A → Option B) (y : B) → (o then f) ≡ Some y → (x : A) × (o ≡ Some x) × (f x ≡ Some y)
then_some None f y e = absurd (none-some y e)
then_some (Some x) f y e = (x, refl, e)

-- what is there under a test is there without it
some_if : {A : Type 0} (b : Bool) (o : Option A) (y : A) → cond b o None ≡ Some y → o ≡ Some y
some_if true o y e = e
some_if false o y e = absurd (none-some y e)

-- ---- types

-- a type with another number of registers has a size, and is a bit where the type is
resized_so : (kind : PointType) (n : ℕ) (other : PointType) → resized kind n ≡ Some other → IsSized other × (is_bit other ≡ is_bit kind)
resized_so (Str r) n other e =
    let s = cond_some (leb 1 n && leb n 125) (Str n) other e in
    let p = and_parts (leb 1 n) (leb n 125) s.0 in
    subst (λ k. IsSized k × (is_bit k ≡ false)) s.1 ((leb-true 1 n p.0, leb-true n 125 p.1), refl)
resized_so kind n other e =
    let s = cond_some (eqb (row kind).registers n) kind other e in
    subst (λ k. IsSized k × (is_bit k ≡ is_bit kind)) s.1 (tt, refl)

-- and so has a type that needs no number of registers
unsized_so : (kind other : PointType) → unsized kind ≡ Some other → IsSized other × (is_bit other ≡ is_bit kind)
unsized_so (Str r) other e = absurd (none-some other e)
unsized_so kind other e = subst (λ k. IsSized k × (is_bit k ≡ is_bit kind)) (same_Some kind other e) (tt, refl)

-- so has a type with what its length column says
sized_so : (kind : PointType) (text : List ℕ) (other : PointType) → sized kind text ≡ Some other → IsSized other × (is_bit other ≡ is_bit kind)
unfolding sized
sized_so kind [] other e = unsized_so kind other e
sized_so kind (byte ∷ text) other e =
    let s = then_some (number_within 125 (byte ∷ text)) (resized kind) other e in
    resized_so kind s.0 other s.2

-- of two that are the same, where the one is true, so is the other
same_true : (a b : Bool) → same a b ≡ true → b ≡ true → a ≡ true
same_true true b s e = refl
same_true false true s e = absurd (cc)
same_true false false s e = absurd (cc)

-- a bit is named only in a table of bits
named_so : (table : Table) (text : List ℕ) (kind : PointType) → named_in table text ≡ Some kind → is_bit kind ≡ true → holds_bits table ≡ true
unfolding named_in
named_so table text kind e bit =
    let s = then_some (find (λ (k : PointType). bytes_eq (row k).name text) types) (in_table table) kind e in
    let t = cond_some (same (holds_bits table) (is_bit s.0)) s.0 kind s.2 in
    same_true (holds_bits table) (is_bit kind) (subst (λ k. same (holds_bits table) (is_bit k) ≡ true) t.1 t.0) bit

-- the type that a record says
type_so : (r : Record) (table : Table) (kind : PointType) → table_in r ≡ Some table → type_in r ≡ Some kind
    → IsSized kind × (is_bit kind ≡ true → holds_bits table ≡ true)
unfolding type_in name_of_type_in
type_so r table kind at e =
    let s = then_some (name_of_type_in r) (λ k. sized k (field r 5)) kind e in
    let z = sized_so s.0 (field r 5) kind s.2 in
    let t = then_some (table_in r) (λ x. named_in x (field r 4)) s.0 s.1 in
    let is : t.0 ≡ table = same_Some t.0 table (sym t.1 ∙ at) in
    (z.0, λ bit. subst (λ x. holds_bits x ≡ true) is (named_so t.0 (field r 4) s.0 t.2 (sym z.1 ∙ bit)))

-- ---- scales

-- a number that is read is within its limit
within_so : (limit : ℕ) (text : List ℕ) (n : ℕ) → number_within limit text ≡ Some n → n ≤ limit
within_so limit text n e =
    let s = cond_some (is_number_within limit text) (digits_value 10 text) n e in
    let p = and_parts _ _ s.0 in
    let q = and_parts (list_all is_ascii_digit text) (leb (digits_value 10 text) limit) p.1 in
    subst (λ m. m ≤ limit) s.1 (leb-true (digits_value 10 text) limit q.1)

-- also where it has so many digits at most
number_so : (most limit : ℕ) (text : List ℕ) (n : ℕ) → number_of most limit text ≡ Some n → n ≤ limit
number_so most limit text n e = within_so limit text n (some_if (leb (length text) most) (number_within limit text) n e)

-- a number up to 10 is a scale
up_to_ten : (n : ℕ) → n ≤ 10 → IsScale (pos n)
up_to_ten n le = record { least = le_z_yes tt; greatest = le_z_yes (subst T (sym (le-leb n 10 le)) tt) }

-- and so is its negative
down_to_ten : (n : ℕ) → n ≤ 10 → IsScale (neg_ℤ (pos n))
down_to_ten zero le = record { least = le_z_yes tt; greatest = le_z_yes tt }
down_to_ten (suc n) le = record { least = le_z_yes (subst T (sym (le-leb n 9 (omega arith))) tt); greatest = le_z_yes tt }

-- what a number is mapped to, where each that may be there is mapped to a scale
mapped : (f : ℕ → ℤ) (o : Option ℕ) (scale : ℤ) → ((n : ℕ) → o ≡ Some n → IsScale (f n)) → option_map f o ≡ Some scale → IsScale scale
mapped f None scale h e = absurd (none-some scale e)
mapped f (Some n) scale h e = subst IsScale (same_Some (f n) scale e) (h n refl)

-- the text of a scale spells one
scale_so : (text : List ℕ) (scale : ℤ) → scale_of text ≡ Some scale → IsScale scale
scale_so [] scale e = absurd (none-some scale e)
scale_so (byte ∷ rest) scale e = by (eqb byte 45) e
  where
    by : (b : Bool) → cond b (option_map (λ n. neg_ℤ (pos n)) (number_of 2 10 rest)) (option_map pos (number_of 2 10 (byte ∷ rest))) ≡ Some scale → IsScale scale
    by true f = mapped (λ n. neg_ℤ (pos n)) (number_of 2 10 rest) scale (λ n at. down_to_ten n (number_so 2 10 rest n at)) f
    by false f = mapped pos (number_of 2 10 (byte ∷ rest)) scale (λ n at. up_to_ten n (number_so 2 10 (byte ∷ rest) n at)) f

-- also where no text is 0
said_so : (text : List ℕ) (scale : ℤ) → scale_said text ≡ Some scale → IsScale scale
said_so [] scale e = subst IsScale (same_Some (pos 0) scale e) (up_to_ten 0 (omega arith))
said_so (byte ∷ rest) scale e = scale_so (byte ∷ rest) scale e

-- and where the type is to be one that may be scaled
scaled_so : (kind : PointType) (text : List ℕ) (scale : ℤ) → scaled_by kind text ≡ Some scale → IsScale scale
unfolding scaled_by
scaled_so kind text scale e =
    let s = then_some (scale_said text) (λ x. cond (is_scaled kind || is_zero x) (Some x) None) scale e in
    let t = cond_some (is_scaled kind || is_zero s.0) s.0 scale s.2 in
    subst IsScale t.1 (said_so text s.0 s.1)

-- the scale that a record says
scale_in_so : (r : Record) (scale : ℤ) → scale_in r ≡ Some scale → IsScale scale
unfolding scale_in
scale_in_so r scale e =
    let s = then_some (type_in r) (λ k. scaled_by k (field r 6)) scale e in
    scaled_so s.0 (field r 6) scale s.2

-- ---- faultless records

-- where no check of a list fails, none of its rest does
none_after : (checks rest : List Check) → first_failed (checks ++ rest) ≡ None → first_failed rest ≡ None
none_after [] rest e = e
none_after (c ∷ checks) rest e = by c.passes e (none_after checks rest)
  where
    by : (b : Bool) → cond b (first_failed (checks ++ rest)) (Some (c.fault, c.column)) ≡ None → (first_failed (checks ++ rest) ≡ None → first_failed rest ≡ None)
        → first_failed rest ≡ None
    by true f later = later f
    by false f later = absurd (cc)

-- the point of a faultless record ends by the last address
faultless_so : (columns : ℕ) (known : List ℕ → Bool) (names : List (List ℕ)) (r : Record) → fault_below columns known names r ≡ None → ends_in_time (address_in r) (type_in r) ≡ true
unfolding fault_below
faultless_so columns known names r e =
    by (ends_in_time (address_in r) (type_in r))
    (none_after (meaning_checks r) (whole_checks names r) (none_after (place_checks columns known (length names) r) (meaning_checks r ++ whole_checks names r) e))
  where
    by : (b : Bool) → cond b (first_failed (check (not (list_any (λ name. bytes_eq (field r 0) name) names)) Twice 1 ∷ [])) (Some (BadAddress, 4)) ≡ None → b ≡ true
    by true f = refl
    by false f = absurd (cc)

-- ---- points

-- the point that a faultless record says is formed
point_so : (r : Record) (point : Point) → ends_in_time (address_in r) (type_in r) ≡ true → point_in r ≡ Some point → IsFormed point
point_so r point ends e = by (table_in r) (address_in r) (type_in r) (scale_in r) (role_in r) (roll_in r) (order_in r) refl refl refl ends e
  where
    said : Table → ℕ → PointType → ℤ → Role → ℕ → WordOrder → Point
    said table address kind scale role roll order =
        record { name = field r 0; device = field r 1; table = table; address = address; kind = kind; scale = scale; role = role; roll = roll; order = order }

    by : (t : Option Table) (a : Option ℕ) (k : Option PointType) (s : Option ℤ) (o : Option Role) (l : Option ℕ) (w : Option WordOrder)
        → table_in r ≡ t → type_in r ≡ k → scale_in r ≡ s → ends_in_time a k ≡ true
        → (t then (λ table. a then (λ address. k then (λ kind. s then (λ scale. o then (λ role. l then (λ roll. w then (λ order. Some (said table address kind scale role roll order))))))))
        ≡ Some point) → IsFormed point
    by (Some table) (Some address) (Some kind) (Some scale) (Some role) (Some roll) (Some order) t k s end f =
        let type = type_so r table kind t k in
        subst IsFormed (same_Some (said table address kind scale role roll order) point f)
        ((type.0, scale_in_so r scale s), type.1, leb-true (address + (row kind).registers) 65536 end)
    by (Some table) (Some address) (Some kind) (Some scale) (Some role) (Some roll) None t e g end f = absurd (none-some point f)
    by None a k s o l w t e g end f = absurd (none-some point f)
    by (Some table) None k s o l w t e g end f = absurd (none-some point f)
    by (Some table) (Some address) None s o l w t e g end f = absurd (none-some point f)
    by (Some table) (Some address) (Some kind) None o l w t e g end f = absurd (none-some point f)
    by (Some table) (Some address) (Some kind) (Some scale) None l w t e g end f = absurd (none-some point f)
    by (Some table) (Some address) (Some kind) (Some scale) (Some role) None w t e g end f = absurd (none-some point f)

-- the site in force is sound
pub site_sound : (before : History) → Legal before → IsSound (site_of before)
unfolding all_differ
site_sound [] legal = refl
site_sound (Restart site ∷ before) legal = legal.0.0
site_sound (Load edition caller key list ∷ before) legal = site_sound before legal.2
site_sound (Order caller key point value ∷ before) legal = site_sound before legal.2
site_sound (Void caller key point at ∷ before) legal = site_sound before legal.2
site_sound (Open line ∷ before) legal = site_sound before legal.2
site_sound (Ask c device slot read ∷ before) legal = site_sound before legal.2
site_sound (Send c number ∷ before) legal = site_sound before legal.2
site_sound (Reply c n unit ∷ before) legal = site_sound before legal.2
site_sound (Noise c frame ∷ before) legal = site_sound before legal.2

-- ---- what a list adds

-- a row of the table of points is of a formed point
abbrev pub IsFormedRow : PointRow → Type 0
IsFormedRow known = IsFormed known.point

-- the points that were accepted are formed
pub points_formed : (before : History) → Legal before → All IsFormedRow (points before)
points_formed [] legal = All-nil IsFormedRow
points_formed (Load edition caller key list ∷ before) legal = by (is_used before (caller, key)) (points_formed before legal.2)
  where
    more : List PointRow
    more = added (length (points before)) (loading edition (site_of before) (points before) list)

    by : (b : Bool) → All IsFormedRow (points before) → All IsFormedRow (cond b (points before) (points before ++ more))
    by true earlier = earlier
    by false earlier =
        All-append IsFormedRow (points before) more earlier
        (added_so edition (site_of before) IsFormed
        (λ first header names r point none. point_so r point (faultless_so (length first) (is_device (site_of before)) names r none))
        (λ said none formed. (formed.0, formed.1, placed_inside (site_of before) said (site_sound before legal.2) none formed.2))
        (length (points before)) (points before) list)
points_formed (Restart site ∷ before) legal = points_formed before legal.2
points_formed (Order caller key point value ∷ before) legal = points_formed before legal.2
points_formed (Void caller key point at ∷ before) legal = points_formed before legal.2
points_formed (Open line ∷ before) legal = points_formed before legal.2
points_formed (Ask c device slot read ∷ before) legal = points_formed before legal.2
points_formed (Send c number ∷ before) legal = points_formed before legal.2
points_formed (Reply c n unit ∷ before) legal = points_formed before legal.2
points_formed (Noise c frame ∷ before) legal = points_formed before legal.2

-- ---- they can be read

-- a type has a register at least
some_registers : (kind : PointType) → IsSized kind → 1 ≤ (row kind).registers
unfolding row
some_registers (Str registers) sized = sized.0
some_registers kind sized = omega arith

-- a point holds no more addresses than its type has registers
addresses_of : (table : Table) (registers : ℕ) → 1 ≤ registers → size_in table registers ≤ registers
addresses_of Coil registers some = some
addresses_of Discrete registers some = some
addresses_of Holding registers some = omega arith
addresses_of Input registers some = omega arith

-- the points that were accepted can be read
pub points_readable : (before : History) → Legal before → All (λ (known : PointRow). CanBeRead known.point) (points before)
points_readable before legal k d lt =
    let point : Point = (get_or (points before) k d).point in
    let formed = points_formed before legal k d lt in
    let few : size_of point ≤ (row point.kind).registers = addresses_of point.table (row point.kind).registers (some_registers point.kind formed.0.0) in
    record { sized = formed.0.0; inside = omega (arith, few, formed.2) }
