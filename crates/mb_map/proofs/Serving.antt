-- A device among others with different identifiers: it is found by its own, and no other changes with it.
use Rattle.std.proofs.Common.{◌≡◌, ◌≢◌, ℕ, zero, suc, ◌<◌, Bool, true, false, cond, eqb, [], ◌∷◌, length, get_or, map, set, All, Some, None, refl, sym, ◌∙◌, arith, inl, inr}
use Rattle.std.specs.Bool.{OnTrue}
use Rattle.std.proofs.lemmas.Bool.{cases_lt, eq-eqb}
use Rattle.std.proofs.lemmas.Bool.Decides.{eqb_tells}
use Rattle.std.proofs.lemmas.List.{ext_get_or, get_or-map, get_or-set_other, get_or-set_same, length-map, length-set}
use Rattle.mb_map.specs.Queue.{HaveOwnIds}
use Rattle.mb_map.specs.Schedule.{Devices, tables_at, with_tables}
use Rattle.mb_map.specs.Tables.{Tables}

neq-eqb : (a b : ℕ) → a ≢ b → eqb a b ≡ false
neq-eqb a b apart = elim (eqb_tells a b) [ inl same ↦ absurd (apart same.1) | inr other ↦ other.0 ]

-- the first of an identifier
pub first_of_id : (devices : Devices) (place unit_id : ℕ) (d : ℕ × Tables) → place < length devices → ((j : ℕ) → j < place → (get_or devices j d).0 ≢ unit_id)
    → (get_or devices place d).0 ≡ unit_id → tables_at unit_id devices ≡ Some (get_or devices place d).1
first_of_id [] place unit_id d lt before here = absurd (omega arith)
first_of_id (e ∷ devices) zero unit_id d lt before here = rw (eq-eqb e.0 unit_id here) refl
first_of_id (e ∷ devices) (suc place) unit_id d lt before here =
    rw (neq-eqb e.0 unit_id (before 0 (omega arith))) (first_of_id devices place unit_id d (omega arith) (λ j lt. before (suc j) (omega arith)) here)

pub found : (devices : Devices) (place unit_id : ℕ) (d : ℕ × Tables) → HaveOwnIds devices → place < length devices
    → (get_or devices place d).0 ≡ unit_id → tables_at unit_id devices ≡ Some (get_or devices place d).1
found devices place unit_id d own lt here =
    first_of_id devices place unit_id d lt (λ j below same. own j place d below lt (same ∙ sym here)) here

pub not_found : (devices : Devices) (unit_id : ℕ) → All (λ (d : ℕ × Tables). d.0 ≢ unit_id) devices → tables_at unit_id devices ≡ None
not_found [] unit_id none = refl
not_found (e ∷ devices) unit_id none =
    rw (neq-eqb e.0 unit_id (none 0 e (omega arith))) (not_found devices unit_id (λ k d lt. none (suc k) d (omega arith)))

-- another device has another identifier
other_id : (devices : Devices) (place i : ℕ) (d : ℕ × Tables) → HaveOwnIds devices → place < length devices → i < length devices → i ≢ place → (get_or devices i d).0 ≢ (get_or devices place d).0
other_id devices place i d own lt below apart same = elim (cases_lt i place) [
  | inl before ↦ own i place d before lt same
  | inr past ↦ elim (cases_lt place i) [
    | inl after ↦ own place i d after below (sym same)
    | inr le ↦ absurd (apart (omega arith))
  ]
]

-- a write to one device
pub set_tables : (devices : Devices) (place : ℕ) (new : Tables) (d : ℕ × Tables) → HaveOwnIds devices → place < length devices
    → set devices place ((get_or devices place d).0, new) ≡ with_tables (get_or devices place d).0 new devices
set_tables devices place new d own lt =
    let id : ℕ = (get_or devices place d).0 in
    let change : ℕ × Tables → ℕ × Tables = λ x. (x.0, cond (eqb x.0 id) new x.1) in
    ext_get_or d (set devices place (id, new)) (map change devices) (length-set devices place (id, new) ∙ sym (length-map devices change)) (λ i lt'.
    let below : i < length devices = omega (arith, length-set devices place (id, new)) in
    elim (eqb_tells i place) [
      | inl same ↦
          let there : get_or (map change devices) place d ≡ change (get_or devices place d) = get_or-map change devices place d d lt in
          rw (same.1, there, eq-eqb id id refl) (get_or-set_same devices place (id, new) d lt)
      | inr other ↦
          let there : get_or (map change devices) i d ≡ change (get_or devices i d) = get_or-map change devices i d d below in
          rw (there, neq-eqb (get_or devices i d).0 id (other_id devices place i d own lt below other.1)) (get_or-set_other devices place i (id, new) d other.1)
    ])

pub on_true_more : (b : Bool) (P Q : Type 0) → (P → Q) → OnTrue b P → OnTrue b Q
on_true_more true P Q more p = more p
on_true_more false P Q more p = tt
