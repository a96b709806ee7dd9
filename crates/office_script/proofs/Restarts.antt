-- An office of a script may begin anew: its site has the devices of its points.
use Rattle.std.proofs.Common.{◌≡◌, ◌≢◌, ◌+◌, ℕ, Bool, true, false, cond, List, [], ◌∷◌, ◌++◌, length, map, Option, Some, None, Result, Ok, Err, refl, sym, ap, ◌∙◌}
use Rattle.std.specs.Prelude.{ℤ, ◌==◌, IfOk, filter, is_none, is_some, nat_le, nat_lt, slice_get, ⊤}
use Rattle.std.specs.List.{list_all}
use Rattle.std.proofs.lemmas.Bool.{and_from, and_parts}
use Rattle.std.proofs.lemmas.List.Folds.{list_all-append}
use Rattle.std.proofs.lemmas.Option.{none-some, same_Some}
use Rattle.mb_pdu.specs.declared.table.Table.{Table}
use Rattle.poll_match.specs.Window.{numbered}
use Rattle.sunspec.specs.declared.point_type.PointType.{PointType}
use Rattle.point_list.specs.declared.site.Site.{Site}
use Rattle.point_list.specs.declared.point.Point.{Point}
use Rattle.point_list.specs.declared.point.Role.{Role}
use Rattle.point_list.specs.declared.point.ListRow.{ListRow}
use Rattle.point_list.specs.declared.error.ListError.{ListError}
use Rattle.point_list.specs.declared.error.ListFault.{ListFault}
use Rattle.point_list.specs.declared.error.ListFault.TheVariants.{BadCsv, TooManyPoints, BadName, UnknownDevice, BadTable, BadAddress}
use Rattle.point_list.specs.Columns.{Record, field, is_device, ◌then◌}
use Rattle.point_list.specs.Header.{is_header}
use Rattle.point_list.specs.Name.{is_name}
use Rattle.sunspec.specs.declared.word_order.WordOrder.{WordOrder}
use Rattle.point_list.specs.Edition.{Edition, Second}
use Rattle.point_list.specs.Lists.{check, first_failed, meaning_checks, whole_checks, table_in, address_in, type_in, scale_in, role_in, roll_in, order_in, fault_below, model_in, records_of}
use Rattle.point_list.specs.ListMeaning.{point_in, row_before, rows_said, fault_or_later, first_fault, missing_header, rows_unless, body_meaning, list_meaning}
use Rattle.point_list.specs.Resolving.{first_misplaced, list_at, placed, resolved_list, points_of}
use Rattle.poll_book.specs.declared.rows.PointRow.{PointRow}
use Rattle.office_core.specs.declared.event.Event.{Event}
use Rattle.office_core.specs.declared.event.Event.TheVariants as event
use Rattle.office_core.specs.Loads.{Loading, Refused, Taken, known_named, unknown_of, too_many, loading_rows, differing, loading_of, loading, numbered_on, added}
use Rattle.office_core.specs.Queries.{Query}
use Rattle.office_core.specs.Sites.{has_devices}
use Rattle.office_core.specs.History.{Happening, Reply, Noise, History, site_of, points, open_line, asked, is_used}
use Rattle.office_core.specs.Legal.{MayHappen, frame_answers}
use Rattle.office_core.specs.Messages.{happening_of, answering, naming, arriving_over}
use Rattle.office_core.specs.Standing.{Sees}
use Rattle.office_core.proofs.Messages.{may_happen, seen_so}
use Rattle.office_script.specs.Commands.{Comes}
use Rattle.office_script.specs.Playing.{MayRestart}
use Rattle.office_script.specs.Scripts.{then_before}

-- ---- devices of accepted points

fourth : (a b c d : Bool) (w x y z : ListFault × ℕ) (rest : Option (ListFault × ℕ))
    → cond a (cond b (cond c (cond d rest (Some z)) (Some y)) (Some x)) (Some w) ≡ None → d ≡ true
fourth true true true true w x y z rest e = refl
fourth true true true false w x y z rest e = absurd (cc)
fourth true true false d w x y z rest e = absurd (cc)
fourth true false c d w x y z rest e = absurd (cc)
fourth false b c d w x y z rest e = absurd (cc)

-- a record with no fault says a known device
device_known : (columns : ℕ) (known : List ℕ → Bool) (names : List (List ℕ)) (r : Record) → fault_below columns known names r ≡ None → known (field r 1) ≡ true
unfolding fault_below
device_known columns known names r e =
    fourth (length r == columns) (nat_lt (length names) 10000) (is_name (field r 0)) (known (field r 1)) (BadCsv, 0) (TooManyPoints, 0) (BadName, 1) (UnknownDevice, 2)
    (first_failed (check (is_some (table_in r)) BadTable 3 ∷ check (is_some (address_in r)) BadAddress 4 ∷ (meaning_checks r ++ whole_checks names r))) e

-- the device of a point is the one that its record says
device_said : (r : Record) (point : Point) → point_in r ≡ Some point → point.device ≡ field r 1
device_said r point e = by (table_in r) (address_in r) (type_in r) (scale_in r) (role_in r) (roll_in r) (order_in r) e
  where
    said : Table → ℕ → PointType → ℤ → Role → ℕ → WordOrder → Point
    said table address kind scale role roll order =
        record { name = field r 0; device = field r 1; table = table; address = address; kind = kind; scale = scale; role = role; roll = roll; order = order }

    by : (t : Option Table) (a : Option ℕ) (k : Option PointType) (s : Option ℤ) (o : Option Role) (l : Option ℕ) (w : Option WordOrder)
        → (t then (λ table. a then (λ address. k then (λ kind. s then (λ scale. o then (λ role. l then (λ roll. w then (λ order. Some (said table address kind scale role roll order))))))))
        ≡ Some point) → point.device ≡ field r 1
    by (Some table) (Some address) (Some kind) (Some scale) (Some role) (Some roll) (Some order) f =
        ap (λ (p : Point). p.device) (sym (same_Some (said table address kind scale role roll order) point f))
    by (Some table) (Some address) (Some kind) (Some scale) (Some role) (Some roll) None f = absurd (none-some point f)
    by None a k s o l w f = absurd (none-some point f)
    by (Some table) None k s o l w f = absurd (none-some point f)
    by (Some table) (Some address) None s o l w f = absurd (none-some point f)
    by (Some table) (Some address) (Some kind) None o l w f = absurd (none-some point f)
    by (Some table) (Some address) (Some kind) (Some scale) None l w f = absurd (none-some point f)
    by (Some table) (Some address) (Some kind) (Some scale) (Some role) None w f = absurd (none-some point f)

module _ (known : List ℕ → Bool) where
  -- the devices of these rows are known
  abbrev AreKnown : List ListRow → Type 0
  AreKnown rows = list_all (λ (said : ListRow). known said.point.device) rows ≡ true

  -- those of faultless records are
  rows_known : (columns : ℕ) (names : List (List ℕ)) (number : ℕ) (rs : List Record) → first_fault columns known names number rs ≡ None → AreKnown (rows_said number rs)
  rows_known columns names number [] e = refl
  rows_known columns names number (r ∷ rs) e = by (fault_below columns known names r) refl (λ h. rows_known columns (names ++ field r 0 ∷ []) (number + 1) rs h) e
    where
      put : (o : Option Point) → point_in r ≡ o → known (field r 1) ≡ true → AreKnown (rows_said (number + 1) rs) → AreKnown (row_before number (model_in r) o (rows_said (number + 1) rs))
      put None is here rest = rest
      put (Some point) is here rest = and_from (known point.device) _ (ap known (device_said r point is) ∙ here) rest

      by : (o : Option (ListFault × ℕ)) → fault_below columns known names r ≡ o
          → (first_fault columns known (names ++ field r 0 ∷ []) (number + 1) rs ≡ None → AreKnown (rows_said (number + 1) rs))
          → fault_or_later number o (first_fault columns known (names ++ field r 0 ∷ []) (number + 1) rs) ≡ None → AreKnown (rows_said number (r ∷ rs))
      by None is later e = put (point_in r) refl (device_known columns known names r is) (later e)
      by (Some fault) is later e = absurd (cc)

  -- and those of the rows that a list means
  meaning_known : (edition : Edition) (list : List Record) → IfOk (list_meaning edition known list) AreKnown
  meaning_known edition [] = tt
  meaning_known edition (first ∷ body) = by (is_header edition first)
    where
      by_fault : (o : Option ListError) → first_fault (length first) known [] 2 body ≡ o → IfOk (rows_unless o (rows_said 2 body)) AreKnown
      by_fault None none = rows_known (length first) [] 2 body none
      by_fault (Some e) is = tt

      by : (b : Bool) → IfOk (cond b (body_meaning (length first) known body) (Err missing_header)) AreKnown
      by true = by_fault (first_fault (length first) known [] 2 body) refl
      by false = tt

  -- they are the same with the points placed
  placed_known : (site : Site) (rows : List ListRow) → AreKnown rows → AreKnown (map (placed site) rows)
  placed_known site [] all = refl
  placed_known site (said ∷ rows) all =
      let parts = and_parts (known said.point.device) (list_all (λ (x : ListRow). known x.point.device) rows) all in
      and_from (known said.point.device) _ parts.0 (placed_known site rows parts.1)

  -- and those of the rows that a list means at a site
  resolved_known : (site : Site) (m : Result (List ListRow) ListError) → IfOk m AreKnown → IfOk (resolved_list site m) AreKnown
  resolved_known site (Err e) all = tt
  resolved_known site (Ok rows) all = by (first_misplaced site rows)
    where
      by : (o : Option ListError) → IfOk (rows_unless o (map (placed site) rows)) AreKnown
      by None = placed_known site rows all
      by (Some e) = tt

  -- those of points that are picked from such rows are known
  picked_known : (pick : Point → Bool) (rows : List ListRow) → AreKnown rows → list_all (λ (p : Point). known p.device) (filter pick (points_of rows)) ≡ true
  picked_known pick [] all = refl
  picked_known pick (row ∷ rows) all =
      let parts = and_parts (known row.point.device) (list_all (λ (said : ListRow). known said.point.device) rows) all in
      by (pick row.point) parts.0 (picked_known pick rows parts.1)
    where
      by : (b : Bool) → known row.point.device ≡ true → list_all (λ (p : Point). known p.device) (filter pick (points_of rows)) ≡ true
          → list_all (λ (p : Point). known p.device) (cond b (row.point ∷ filter pick (points_of rows)) (filter pick (points_of rows))) ≡ true
      by true here rest = and_from (known row.point.device) _ here rest
      by false here rest = rest

  -- those of the points that are taken are known
  abbrev AreTaken : Loading → Type 0
  AreTaken (Refused reason) = ⊤
  AreTaken (Taken count new) = list_all (λ (p : Point). known p.device) new ≡ true

  taken_known : (there : List PointRow) (m : Result (List ListRow) ListError) → IfOk m AreKnown → AreTaken (loading_of there m)
  taken_known there (Err e) all = tt
  taken_known there (Ok rows) all = by (differing there rows)
    where
      new : List Point
      new = unknown_of there (points_of rows)

      few : (b : Bool) → AreTaken (cond b (Taken (length rows) new) (Refused too_many))
      few true = picked_known (λ (p : Point). is_none (known_named there p.name)) rows all
      few false = tt

      by : (o : Option ListRow) → AreTaken (loading_rows there rows o)
      by None = few (nat_le (length there + length new) 10000)
      by (Some differs) = tt

  numbered_known : (n : ℕ) (new : List Point) → list_all (λ (p : Point). known p.device) new ≡ true → list_all (λ (row : PointRow). known row.point.device) (numbered_on n new) ≡ true
  numbered_known n [] all = refl
  numbered_known n (p ∷ new) all =
      let parts = and_parts (known p.device) (list_all (λ (p : Point). known p.device) new) all in
      and_from (known p.device) _ parts.0 (numbered_known (n + 1) new parts.1)

  -- and those of the rows that a list adds
  added_known : (n : ℕ) (l : Loading) → AreTaken l → list_all (λ (row : PointRow). known row.point.device) (added n l) ≡ true
  added_known n (Refused reason) all = refl
  added_known n (Taken count new) all = numbered_known n new all

-- ---- what comes in a script

-- after what comes the office may begin anew, where it might before
pub may_restart_on : (before : History) (seen : Event) → MayRestart before → MayRestart (then_before before seen)
may_restart_on before (event.Load caller key list) may = (may.0, by (is_used before (caller, key)))
  where
    site : Site
    site = site_of before

    more : List PointRow
    more = added (length (points before)) (loading Second site (points before) list)

    new : has_devices site more ≡ true
    new = added_known (is_device site) (length (points before)) (loading Second site (points before) list)
        (taken_known (is_device site) (points before) (list_at Second site (records_of list))
        (resolved_known (is_device site) site (list_meaning Second (is_device site) (records_of list)) (meaning_known (is_device site) Second (records_of list))))

    by : (b : Bool) → has_devices site (cond b (points before) (points before ++ more)) ≡ true
    by true = may.1
    by false = list_all-append (λ (row : PointRow). is_device site row.point.device) (points before) more ∙ and_from _ _ may.1 new
may_restart_on before (event.Order caller key point value) may = may
may_restart_on before (event.Void caller key point slot) may = may
may_restart_on before (event.Open line) may = may
may_restart_on before (event.Ask conn device slot read) may = may
may_restart_on before (event.Send conn number) may = may
may_restart_on before event.Restart may = may
may_restart_on before (event.Arrive conn frame) may = over (open_line before conn)
  where
    told : (n : ℕ) (b : Bool) → MayRestart (cond b (Reply conn n frame.unit) (Noise conn frame) ∷ before)
    told n true = may
    told n false = may

    named : (n : ℕ) (o : Option Query) → MayRestart (answering conn frame n o ∷ before)
    named n None = may
    named n (Some query) = told n (frame_answers query frame)

    numbered_so : (o : Option ℕ) → MayRestart (naming before conn frame o ∷ before)
    numbered_so None = may
    numbered_so (Some n) = named n (slice_get (asked before conn) n)

    over : (o : Option ℕ) → MayRestart (arriving_over before conn frame o ∷ before)
    over None = may
    over (Some line) = numbered_so (numbered frame.transaction (length (asked before conn)))

-- what comes may happen
pub may_come : (before : History) (seen : Event) → Comes seen → MayRestart before → MayHappen before (happening_of before seen)
may_come before (event.Load caller key list) comes may = may_happen before (event.Load caller key list) comes
may_come before (event.Order caller key point value) comes may = may_happen before (event.Order caller key point value) comes
may_come before (event.Void caller key point slot) comes may = may_happen before (event.Void caller key point slot) comes
may_come before (event.Open line) comes may = may_happen before (event.Open line) comes
may_come before (event.Ask conn device slot read) comes may = may_happen before (event.Ask conn device slot read) comes
may_come before (event.Send conn number) comes may = may_happen before (event.Send conn number) comes
may_come before (event.Arrive conn frame) comes may = may_happen before (event.Arrive conn frame) comes
may_come before event.Restart comes may = may

-- and is seen as it came
pub seen_come : (before : History) (seen : Event) → Comes seen → Sees before (happening_of before seen) seen
seen_come before (event.Load caller key list) comes = seen_so before (event.Load caller key list) comes
seen_come before (event.Order caller key point value) comes = seen_so before (event.Order caller key point value) comes
seen_come before (event.Void caller key point slot) comes = seen_so before (event.Void caller key point slot) comes
seen_come before (event.Open line) comes = seen_so before (event.Open line) comes
seen_come before (event.Ask conn device slot read) comes = seen_so before (event.Ask conn device slot read) comes
seen_come before (event.Send conn number) comes = seen_so before (event.Send conn number) comes
seen_come before (event.Arrive conn frame) comes = seen_so before (event.Arrive conn frame) comes
seen_come before event.Restart comes = refl

-- what has gone on has begun
pub has_begun : (happening : Happening) (before : History) → happening ∷ before ≢ []
has_begun happening before none = absurd (cc)
