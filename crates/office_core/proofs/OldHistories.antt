-- What histories of offices that knew neither orders of words nor voids come to.
use Rattle.std.proofs.Common.{◌≡◌, ◌∙◌, ℕ, Bool, true, false, cond, eqb, List, [], ◌∷◌, ◌++◌, length, Option, Some, None, refl, sym, ap, subst, arith}
use Rattle.std.specs.Prelude.{ℤ, All}
use Rattle.std.proofs.lemmas.Bool.{and_parts, eqb-true}
use Rattle.std.proofs.lemmas.Option.{none-some, same_Some}
use Rattle.std.proofs.lemmas.List.Elements.{All-nil, All-append}
use Rattle.mb_pdu.specs.declared.table.Table.{Table}
use Rattle.sunspec.specs.declared.point_type.PointType.{PointType}
use Rattle.sunspec.specs.declared.word_order.WordOrder.{WordOrder}
use Rattle.sunspec.specs.declared.word_order.WordOrder.TheVariants.{Big}
use Rattle.point_list.specs.Columns.{Record, field, ◌then◌, order_of}
use Rattle.point_list.specs.Edition.{First, Second}
use Rattle.point_list.specs.Header.{begins_as_header, is_header}
use Rattle.point_list.specs.ListMeaning.{point_in}
use Rattle.point_list.specs.Lists.{table_in, address_in, type_in, scale_in, role_in, roll_in, order_in, fault_below}
use Rattle.point_list.specs.declared.error.ListFault.{ListFault}
use Rattle.point_list.specs.declared.error.ListFault.TheVariants.{BadCsv}
use Rattle.point_list.specs.declared.point.Point.{Point}
use Rattle.point_list.specs.declared.point.Role.{Role}
use Rattle.point_list.proofs.PlainLists.{field_past}
use Rattle.poll_book.specs.declared.rows.PointRow.{PointRow}
use Rattle.office_core.specs.Loads.{loading, added}
use Rattle.office_core.specs.History.{Restart, Load, Order, Void, Open, Ask, Send, Reply, Noise, History, site_of, points, is_used, voids}
use Rattle.office_core.specs.OldHistories.{IsOld}
use Rattle.office_core.proofs.OfLists.{added_so}

-- a faultless record has as many fields as its header
as_many : (b : Bool) (fault : ListFault × ℕ) (rest : Option (ListFault × ℕ)) → cond b rest (Some fault) ≡ None → b ≡ true
as_many true fault rest e = refl
as_many false fault rest e = absurd (cc)

fields_of : (columns : ℕ) (known : List ℕ → Bool) (names : List (List ℕ)) (r : Record) → fault_below columns known names r ≡ None → length r ≡ columns
unfolding fault_below
fields_of columns known names r e = eqb-true (length r) columns (as_many (eqb (length r) columns) (BadCsv, 0) _ e)

-- and the order that an empty one says is the plain one
order_so : (r : Record) (order : WordOrder) → field r 9 ≡ [] → order_in r ≡ Some order → order ≡ Big
unfolding order_in order_of
order_so r order empty e = by (type_in r) (subst (λ text. (type_in r then (λ kind. order_of kind text)) ≡ Some order) empty e)
  where
    by : (k : Option PointType) → (k then (λ kind. order_of kind [])) ≡ Some order → order ≡ Big
    by None f = absurd (none-some order f)
    by (Some kind) f = sym (same_Some Big order f)

-- a record that says a point says its name and its order
pub point_so : (r : Record) (point : Point) → point_in r ≡ Some point → (point.name ≡ field r 0) × (order_in r ≡ Some point.order)
point_so r point e = by (table_in r) (address_in r) (type_in r) (scale_in r) (role_in r) (roll_in r) (order_in r) e
  where
    said : Table → ℕ → PointType → ℤ → Role → ℕ → WordOrder → Point
    said table address kind scale role roll order =
        record { name = field r 0; device = field r 1; table = table; address = address; kind = kind; scale = scale; role = role; roll = roll; order = order }

    by : (t : Option Table) (a : Option ℕ) (k : Option PointType) (s : Option ℤ) (o : Option Role) (l : Option ℕ) (w : Option WordOrder)
        → (t then (λ table. a then (λ address. k then (λ kind. s then (λ scale. o then (λ role. l then (λ roll. w then (λ order. Some (said table address kind scale role roll order))))))))
        ≡ Some point) → (point.name ≡ field r 0) × (w ≡ Some point.order)
    by (Some table) (Some address) (Some kind) (Some scale) (Some role) (Some roll) (Some order) f =
        let is = same_Some (said table address kind scale role roll order) point f in
        (sym (ap (λ (p : Point). p.name) is), ap (λ (p : Point). Some p.order) is)
    by None a k s o l w f = absurd (none-some point f)
    by (Some table) None k s o l w f = absurd (none-some point f)
    by (Some table) (Some address) None s o l w f = absurd (none-some point f)
    by (Some table) (Some address) (Some kind) None o l w f = absurd (none-some point f)
    by (Some table) (Some address) (Some kind) (Some scale) None l w f = absurd (none-some point f)
    by (Some table) (Some address) (Some kind) (Some scale) (Some role) None w f = absurd (none-some point f)
    by (Some table) (Some address) (Some kind) (Some scale) (Some role) (Some roll) None f = absurd (none-some point f)

abbrev IsPlain : Point → Type 0
IsPlain point = point.order ≡ Big

-- so is the order of each point that a list of the first edition says
plain_said : (first : Record) → is_header First first ≡ true → (known : List ℕ → Bool) (names : List (List ℕ)) (r : Record) (point : Point)
    → fault_below (length first) known names r ≡ None → point_in r ≡ Some point → IsPlain point
plain_said first header known names r point none at =
    let nine : length first ≡ 9 = eqb-true (length first) 9 (and_parts (eqb (length first) 9) (begins_as_header first) header).0 in
    order_so r point.order (field_past r 9 (let many : length r ≡ 9 = fields_of (length first) known names r none ∙ nine in omega arith)) (point_so r point at).1

pub old_plain : (before : History) → IsOld before → All (λ (known : PointRow). IsPlain known.point) (points before)
old_plain [] old = All-nil (λ (known : PointRow). IsPlain known.point)
old_plain (Load First caller key list ∷ before) old = by (is_used before (caller, key)) (old_plain before old)
  where
    more : List PointRow
    more = added (length (points before)) (loading First (site_of before) (points before) list)

    by : (b : Bool) → All (λ (known : PointRow). IsPlain known.point) (points before)
        → All (λ (known : PointRow). IsPlain known.point) (cond b (points before) (points before ++ more))
    by true earlier = earlier
    by false earlier =
        All-append (λ (known : PointRow). IsPlain known.point) (points before) more earlier
        (added_so First (site_of before) IsPlain (λ first header names r point none at. plain_said first header _ names r point none at) (λ said none plain. plain)
        (length (points before)) (points before) list)
old_plain (Load Second caller key list ∷ before) old = absurd old
old_plain (Void caller key point slot ∷ before) old = absurd old
old_plain (Restart site ∷ before) old = old_plain before old
old_plain (Order caller key point value ∷ before) old = old_plain before old
old_plain (Open line ∷ before) old = old_plain before old
old_plain (Ask c device slot read ∷ before) old = old_plain before old
old_plain (Send c number ∷ before) old = old_plain before old
old_plain (Reply c n unit ∷ before) old = old_plain before old
old_plain (Noise c frame ∷ before) old = old_plain before old

pub old_unvoided : (before : History) → IsOld before → voids before ≡ []
old_unvoided [] old = refl
old_unvoided (Load First caller key list ∷ before) old = old_unvoided before old
old_unvoided (Load Second caller key list ∷ before) old = absurd old
old_unvoided (Void caller key point slot ∷ before) old = absurd old
old_unvoided (Restart site ∷ before) old = old_unvoided before old
old_unvoided (Order caller key point value ∷ before) old = old_unvoided before old
old_unvoided (Open line ∷ before) old = old_unvoided before old
old_unvoided (Ask c device slot read ∷ before) old = old_unvoided before old
old_unvoided (Send c number ∷ before) old = old_unvoided before old
old_unvoided (Reply c n unit ∷ before) old = old_unvoided before old
old_unvoided (Noise c frame ∷ before) old = old_unvoided before old
