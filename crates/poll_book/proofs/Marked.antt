-- What marks save: orders that don't wait on a device are passed.
use Rattle.std.proofs.Common.{◌≡◌, ℕ, zero, suc, ◌+◌, ◌<◌, ◌≤◌, Bool, true, false, cond, List, [], ◌∷◌, ◌++◌, length, get_or, set, take, drop, Option, Some, None, Result, Ok, Err, refl, sym, ap, subst, ◌∙◌, arith, append-nil, length-append}
use Rattle.std.specs.Prelude.{All, ◌&&◌, OnErr, OnOk, option_map}
use Rattle.std.specs.BTreeMap.{Updates, get, is_at}
use Rattle.std.specs.Cmp.Lexicographic.{slice_cmp}
use Rattle.std.specs.List.{insert, slice_get}
use Rattle.std.specs.Map.{lookup}
use Rattle.std.specs.Option.{unwrap_or}
use Rattle.std.specs.Ordering.{nat_cmp}
use Rattle.std.specs.Str.{bytes_eq}
use Rattle.std.proofs.Math.Seq.{split_at}
use Rattle.std.proofs.Math.ListN.{length-set}
use Rattle.std.proofs.lemmas.List.{take-append-le, take_all}
use Rattle.std.proofs.lemmas.List.Edits.{insert_end}
use Rattle.std.proofs.lemmas.List.Elements.{All-head, All-tail, All-cons, All-more}
use Rattle.std.proofs.lemmas.Map.Text.{is_eq-slice_cmp}
use Rattle.std.proofs.lemmas.Option.{slice_get-get_or, slice_get_past}
use Rattle.std.proofs.lemmas.Slice.Eq.{bytes_eq-Decides}
use Rattle.poll_book.specs.declared.rows.PointRow.{PointRow}
use Rattle.poll_book.specs.declared.rows.SettingRow.{SettingRow}
use Rattle.poll_book.specs.Orders.{as_setting, is_of, is_waiting, oldest_waiting, point_at, waits_on}
use Rattle.poll_book.specs.Marks.{settings_of, ArePast, AreRight, AreSettled, IsPast, Past, past_in}
use Rattle.poll_book.specs.declared.marks.Marks.{Marks}

module _ (points : List PointRow) (device : List ℕ) where
  -- orders that don't wait are passed
  skip : (xs ys : List SettingRow) → All (λ row. waits_on points device (as_setting row) ≡ false) xs → oldest_waiting points device (settings_of (xs ++ ys)) ≡ oldest_waiting points device (settings_of ys)
  skip [] ys h = refl
  skip (x ∷ xs) ys h =
      ap (λ b. cond b (Some (as_setting x)) (oldest_waiting points device (settings_of (xs ++ ys)))) (All-head (λ row. waits_on points device (as_setting row) ≡ false) x xs h)
      ∙ skip xs ys (All-tail (λ row. waits_on points device (as_setting row) ≡ false) x xs h)

  -- the first order that waits behind the passed ones is the oldest
  pub oldest_here : (orders : List SettingRow) (at : ℕ) (d : SettingRow) → IsPast points orders device at → at < length orders → waits_on points device (as_setting (get_or orders at d)) ≡ true
      → option_map as_setting (slice_get orders at) ≡ oldest_waiting points device (settings_of orders)
  oldest_here orders at d past in_range here =
      let row = get_or orders at d in
      let rest = drop (suc at) orders in
      ap (option_map as_setting) (slice_get-get_or orders at d in_range)
      ∙ sym (ap (λ b. cond b (Some (as_setting row)) (oldest_waiting points device (settings_of rest))) here)
      ∙ sym (skip (take at orders) (row ∷ rest) past.none)
      ∙ ap (λ l. oldest_waiting points device (settings_of l)) (sym (split_at orders at d in_range))

  -- no order waits where all are passed
  pub oldest_none : (orders : List SettingRow) (at : ℕ) → IsPast points orders device at → length orders ≤ at → option_map as_setting (slice_get orders at) ≡ oldest_waiting points device (settings_of orders)
  oldest_none orders at past le =
      ap (option_map as_setting) (slice_get_past orders at le)
      ∙ sym (skip (take at orders) [] past.none)
      ∙ ap (λ l. oldest_waiting points device (settings_of l)) (append-nil (take at orders) ∙ take_all at orders le)

  pub past_none : (orders : List SettingRow) → IsPast points orders device 0
  past_none orders = record { in_range = omega arith; none = λ k d lt. absurd (omega arith) }

  pub past_more : (orders : List SettingRow) (at : ℕ) (d : SettingRow) → IsPast points orders device at → at < length orders → waits_on points device (as_setting (get_or orders at d)) ≡ false
      → IsPast points orders device (at + 1)
  past_more orders at d past in_range other =
      record { in_range = omega (arith, in_range); none = All-more (λ row. waits_on points device (as_setting row) ≡ false) orders at d in_range past.none other }

  -- where none of so many first orders waits at all, they are passed
  pub past_settled : (orders : List SettingRow) (count : ℕ) → AreSettled orders count → IsPast points orders device count
  past_settled orders count settled =
      record {
        in_range = settled.in_range;
        none = λ k d lt. ap (λ b. b && is_of device (point_at points (get_or (take count orders) k d).point)) (settled.none k d lt);
      }

-- one more order that doesn't wait
pub settled_more : (orders : List SettingRow) (count : ℕ) (d : SettingRow) → AreSettled orders count → count < length orders → is_waiting (get_or orders count d).state ≡ false
    → AreSettled orders (count + 1)
settled_more orders count d settled in_range here =
    record { in_range = omega (arith, in_range); none = All-more (λ row. is_waiting row.state ≡ false) orders count d in_range settled.none here }

-- what holds of the first elements, after a write of one of which it holds
take-set_all : {X : Type 0} (P : X → Type 0) (n : ℕ) (l : List X) (at : ℕ) (y : X) → P y → All P (take n l) → All P (take n (set l at y))
take-set_all P zero l at y here h = h
take-set_all P (suc n) [] at y here h = h
take-set_all P (suc n) (x ∷ xs) zero y here h = All-cons P y (take n xs) here (All-tail P x (take n xs) h)
take-set_all P (suc n) (x ∷ xs) (suc at) y here h = All-cons P x (take n (set xs at y)) (All-head P x (take n xs) h) (take-set_all P n xs at y here (All-tail P x (take n xs) h))

-- the label of a text is that text
pub label_is : (b : Bool) (label text : List ℕ) → Some label ≡ cond b (Some text) None → label ≡ text
label_is true label text e = cc
label_is false label text e = absurd (cc)

module _ (points : List PointRow) (orders : List SettingRow) where
  -- the same marks say the same
  past_same : (old new : Past) → new.entries ≡ old.entries → ArePast points orders old → ArePast points orders new
  past_same old new same right device =
      subst (λ (es : List (List ℕ × ℕ)). IsPast points orders device (unwrap_or (lookup (is_at (slice_cmp nat_cmp device)) es) 0)) (sym same) (right device)

  -- a mark that is set is right where so many orders are passed, and the others stay
  past_put : (old new : Past) (device : List ℕ) (past : ℕ)
      → ((other : List ℕ) → get (slice_cmp nat_cmp) new other ≡ cond (is_at (slice_cmp nat_cmp device) other) (Some past) (get (slice_cmp nat_cmp) old other))
      → ArePast points orders old → IsPast points orders device past → ArePast points orders new
  past_put old new device past updates right here other =
      subst (λ (o : Option ℕ). IsPast points orders other (unwrap_or o 0))
      (sym (updates other ∙ ap (λ (b : Bool). cond b (Some past) (get (slice_cmp nat_cmp) old other)) (is_eq-slice_cmp device other)))
      (by (bytes_eq device other) refl)
    where
      by : (b : Bool) → bytes_eq device other ≡ b → IsPast points orders other (unwrap_or (cond b (Some past) (get (slice_cmp nat_cmp) old other)) 0)
      by true e = subst (λ (name : List ℕ). IsPast points orders name past) ((bytes_eq-Decides device other).0 e) here
      by false e = right other

  -- so it is where memory may be refused for it, and the marks are what they were
  pub past_set : {X E : Type 0} (result : Result X E) (old new : Past) (device : List ℕ) (past : ℕ)
      → OnOk result (Updates (slice_cmp nat_cmp) old new device (Some past))
      → OnErr result (new.entries ≡ old.entries)
      → ArePast points orders old → IsPast points orders device past → ArePast points orders new
  past_set (Ok x) old new device past updates same right here = past_put old new device past updates.0 right here
  past_set (Err e) old new device past updates same right here = past_same old new same right

  -- an order that doesn't wait, written over another, leaves the marks right
  pub right_over : (marks : Marks) (at : ℕ) (row : SettingRow) → is_waiting row.state ≡ false → AreRight points orders marks → AreRight points (set orders at row) marks
  right_over marks at row settled right = (
    λ device. let past = right.0 device in
        record {
          in_range = omega (arith, past.in_range, length-set orders at row);
          none = take-set_all (λ (x : SettingRow). waits_on points device (as_setting x) ≡ false) (past_in marks.past device) orders at row
              (ap (λ b. b && is_of device (point_at points row.point)) settled) past.none;
        },
    record {
      in_range = omega (arith, right.1.in_range, length-set orders at row);
      none = take-set_all (λ (x : SettingRow). is_waiting x.state ≡ false) marks.settled orders at row settled right.1.none;
    },
  )

  -- and so does one that comes last
  pub right_last : (marks : Marks) (at : ℕ) (row : SettingRow) → at ≡ length orders → AreRight points orders marks → AreRight points (insert orders at row) marks
  right_last marks at row last right =
      subst (λ l. AreRight points l marks) (sym (ap (λ i. insert orders i row) last ∙ insert_end orders row)) (
        λ device. let past = right.0 device in
            record {
              in_range = omega (arith, past.in_range, length-append orders (row ∷ []));
              none = subst (All (λ (x : SettingRow). waits_on points device (as_setting x) ≡ false)) (sym (take-append-le (past_in marks.past device) orders (row ∷ []) past.in_range)) past.none;
            },
        record {
          in_range = omega (arith, right.1.in_range, length-append orders (row ∷ []));
          none = subst (All (λ (x : SettingRow). is_waiting x.state ≡ false)) (sym (take-append-le marks.settled orders (row ∷ []) right.1.in_range)) right.1.none;
        },
      )
