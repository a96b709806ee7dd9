-- The devices of the orders that wait, as they were looked up.
use Rattle.std.proofs.Common.{◌≡◌, ℕ, ◌<◌, List, ◌++◌, [], ◌∷◌, map, length, get_or, set, None, Some, Option, Vec, Global, IfSome, IsSome, refl, ap, subst, sym, ◌∙◌, option_map}
use Rattle.std.specs.Option.{option_or}
use Rattle.std.specs.Prelude.{◌==◌}
use Rattle.std.proofs.Math.Seq.{map-set_same}
use Rattle.std.proofs.lemmas.List.{get_or-map, length-map, set-get_or}
use Rattle.std.proofs.lemmas.List.Elements.{All-cons, All-get_or, All-nil, All-set, All-weaker}
use Rattle.std.proofs.lemmas.List.Folds.{find-append}
use Rattle.sqlite.specs.State.{State, HasCleanDisk}
use Rattle.poll_book.specs.Tables.{Tables}
use Rattle.poll_book.specs.declared.rows.PointRow.{PointRow}
use Rattle.poll_book.specs.declared.rows.SettingRow.{SettingRow}
use Rattle.poll_book.specs.Orders.{Settings, as_setting, point_at}
use Rattle.office_store.specs.declared.waiting.WaitingOrder.{WaitingOrder}
use Rattle.office_store.specs.Kept.{Holds, Keeps}
use Rattle.office_store.specs.Waiting.{AreKnown, AreOfTheirDevices, AreRead, IsOfItsDevice, OnlyLookedUp, device_at, entry_of, not_looked_up}
use Rattle.office_store.proofs.Keeping.{keeps_then}

abbrev its_device : PointRow → List ℕ
its_device known = known.point.device

-- ---- while points are added

-- a point that is there stays so
device_stays : (points more : List PointRow) (number : ℕ) (device : List ℕ) → device_at points number ≡ Some device → device_at (points ++ more) number ≡ Some device
device_stays points more number device is = ap (option_map its_device) (find-append (λ (known : PointRow). known.number == number) points more) ∙ step (point_at points number) is
  where
    step : (found : Option PointRow) → option_map its_device found ≡ Some device → option_map its_device (option_or found (point_at more number)) ≡ Some device
    step None is = absurd (cc)
    step (Some known) is = is

order_stays : (points more : List PointRow) (waiting : WaitingOrder) → IsOfItsDevice points waiting → IsOfItsDevice (points ++ more) waiting
order_stays points more waiting is = step waiting.device is
  where
    step : (known : Option (List ℕ)) → IfSome known (λ device. device_at points waiting.order.point ≡ Some device) → IfSome known (λ device. device_at (points ++ more) waiting.order.point ≡ Some device)
    step None is = tt
    step (Some device) is = device_stays points more waiting.order.point device is

-- what was read stays so
pub read_on : (points more : List PointRow) (table : Settings) (read : Option (Vec WaitingOrder Global)) → AreRead points table read → AreRead (points ++ more) table read
read_on points more table None is = tt
read_on points more table (Some orders) is = (is.0, All-weaker (IsOfItsDevice points) (IsOfItsDevice (points ++ more)) (order_stays points more) orders.items is.1)

-- ---- before they are looked up

-- they are the orders that were read
pub their_entries : (rows : List SettingRow) → map entry_of (map not_looked_up rows) ≡ map as_setting rows
their_entries [] = refl
their_entries (row ∷ rows) = ap (λ entries. as_setting row ∷ entries) (their_entries rows)

-- and nothing is remembered that isn't so
pub not_yet : (points : List PointRow) (rows : List SettingRow) → AreOfTheirDevices points (map not_looked_up rows)
not_yet points [] = All-nil (IsOfItsDevice points)
not_yet points (row ∷ rows) = All-cons (IsOfItsDevice points) (not_looked_up row) (map not_looked_up rows) tt (not_yet points rows)

-- ---- one after the other

same_length : (first now : List WaitingOrder) → map entry_of now ≡ map entry_of first → length now ≡ length first
same_length first now same = sym (length-map now entry_of) ∙ ap length same ∙ length-map first entry_of

module _ (first now : List WaitingOrder) (same : map entry_of now ≡ map entry_of first) (i : ℕ) (d : WaitingOrder) (within : i < length first) where
  within_now : i < length now
  within_now = subst (λ n. i < n) (sym (same_length first now same)) within

  -- the entry at this place
  pub entry_is : get_or (map entry_of first) i (entry_of d) ≡ entry_of (get_or now i d)
  entry_is = ap (λ entries. get_or entries i (entry_of d)) (sym same) ∙ get_or-map entry_of now i d (entry_of d) within_now

  -- what is remembered here
  pub its_own : (points : List PointRow) → AreOfTheirDevices points now → IsOfItsDevice points (get_or now i d)
  its_own points all = All-get_or (IsOfItsDevice points) now i d within_now all

  -- where each device is known, this one is
  pub known_so : AreKnown first → now ≡ first → IsSome (get_or now i d).device
  known_so all still = All-get_or (λ waiting. IsSome waiting.device) now i d within_now (subst AreKnown (sym still) all)

-- one more is looked up
pub looked_on : {start before after : State} {first now : List WaitingOrder} {i : ℕ} (d new : WaitingOrder) → OnlyLookedUp start before first now → i < length first
    → Keeps before after → new.order ≡ (get_or now i d).order → (HasCleanDisk after → (kept : Tables) → Holds before kept → IsOfItsDevice kept.points (get_or now i d) → IsOfItsDevice kept.points new)
    → OnlyLookedUp start after first (set now i new)
looked_on {start = start} {before = before} {after = after} {first = first} {now = now} {i = i} d new was within keeps order known = record {
  keeps = keeps_then start before after was.keeps keeps;
  same = map-set_same entry_of now i new d (ap as_setting order) ∙ was.same;
  known = λ clean kept holds all.
      let so_far = was.known (keeps.clean clean) kept holds all in
      let own = its_own first now was.same i d within kept.points so_far in
      All-set (IsOfItsDevice kept.points) now i new (known clean kept (was.keeps.holds kept holds) own) so_far;
}

-- nothing changes where this order doesn't
pub all_stay : (first now : List WaitingOrder) (i : ℕ) (d new : WaitingOrder) → now ≡ first → new ≡ get_or now i d → set now i new ≡ first
all_stay first now i d new still stays = ap (set now i) stays ∙ set-get_or now i d ∙ still
