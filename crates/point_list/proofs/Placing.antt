-- Points by model: the models of a sound site have room, and so do the points that they place.
use Rattle.std.proofs.Common.{◌≡◌, ◌≤◌, ◌+◌, ℕ, Bool, true, false, cond, leb, List, [], ◌∷◌, Option, Some, None, refl, sym, ap, ◌∙◌, subst, arith}
use Rattle.std.specs.Prelude.{All, IfSome, is_some, ◌==◌}
use Rattle.std.specs.List.{find, list_all}
use Rattle.std.proofs.lemmas.Bool.{and_parts, leb-true}
use Rattle.std.proofs.lemmas.List.Elements.{All-cons, All-nil}
use Rattle.std.proofs.lemmas.Option.{none-some, same_Some}
use Rattle.sunspec.specs.PointType.{row}
use Rattle.sunspec.specs.declared.chain.Model.{Model}
use Rattle.point_list.specs.Columns.{◌then◌}
use Rattle.point_list.specs.Resolving.{address_by, address_in_model, first_misplaced, misplaced, misplaced_by, misplaced_in, model_at, point_placed}
use Rattle.point_list.specs.Sites.{IsSound, device_named, has_room}
use Rattle.point_list.proofs.Sound.{sound_keeps}
use Rattle.point_list.specs.declared.error.ListError.{ListError}
use Rattle.point_list.specs.declared.point.ListRow.{ListRow}
use Rattle.point_list.specs.declared.site.Device.{Device}
use Rattle.point_list.specs.declared.site.Site.{Site}

-- what holds of all holds of the one that is found
all_found : {A : Type 0} (p q : A → Bool) (xs : List A) (x : A) → list_all q xs ≡ true → find p xs ≡ Some x → q x ≡ true
all_found p q [] x all is = absurd (none-some x is)
all_found p q (y ∷ ys) x all is = by (p y) is (all_found p q ys x parts.1)
  where
    parts : (q y ≡ true) × (list_all q ys ≡ true)
    parts = and_parts (q y) (list_all q ys) all

    by : (b : Bool) → cond b (Some y) (find p ys) ≡ Some x → (find p ys ≡ Some x → q x ≡ true) → q x ≡ true
    by true e later = subst (λ z. q z ≡ true) (same_Some y x e) parts.0
    by false e later = later e

-- the model that a point is placed by ends before the last address
pub has_room_at : (site : Site) (device : List ℕ) (id : ℕ) (m : Model) → IsSound site → model_at site device id ≡ Some m → m.address + 2 + m.length ≤ 65535
has_room_at site device id m sound is = by (device_named site device) refl is
  where
    by : (o : Option Device) → device_named site device ≡ o → (o then (λ (d : Device). find (λ (x : Model). x.id == id) d.models)) ≡ Some m → m.address + 2 + m.length ≤ 65535
    by None named e = absurd (none-some m e)
    by (Some d) named e =
        let room = all_found _ (λ (x : Device). list_all has_room x.models) site.devices d (sound_keeps site sound).room named in
        leb-true (m.address + 2 + m.length) 65535 (all_found (λ (x : Model). x.id == id) has_room d.models m room e)

-- the same of a model that may be found
pub room_if : (site : Site) (name : List ℕ) (id : ℕ) (d : Device) (o : Option Model) → IsSound site → Some d ≡ device_named site name
    → o ≡ find (λ (x : Model). x.id == id) d.models → IfSome o (λ (m : Model). m.address + 2 + m.length ≤ 65535)
room_if site name id d None sound named is = tt
room_if site name id d (Some m) sound named is =
    has_room_at site name id m sound (ap (λ o. o then (λ (x : Device). find (λ (y : Model). y.id == id) x.models)) (sym named) ∙ sym is)

-- ---- rows that have a place

passes : (b : Bool) (e : ListError) → cond b None (Some e) ≡ None → b ≡ true
passes true e is = refl
passes false e is = absurd (none-some e (sym is))

-- a point that ends by the last address does where its model places it
pub placed_inside : (site : Site) (said : ListRow) → IsSound site → misplaced site said ≡ None
    → said.point.address + (row said.point.kind).registers ≤ 65536 → (point_placed site said).address + (row said.point.kind).registers ≤ 65536
placed_inside site said sound none ends = by said.model none
  where
    registers : ℕ
    registers = (row said.point.kind).registers

    inside : (id offset : ℕ) (o : Option Model) → model_at site said.point.device id ≡ o → misplaced_in said offset o ≡ None → address_in_model said offset o + registers ≤ 65536
    inside id offset None there missing = ends
    inside id offset (Some m) there none =
        let within : offset + registers ≤ m.length + 2 = leb-true (offset + registers) (m.length + 2) (passes (leb (offset + registers) (m.length + 2)) _ none) in
        let room : m.address + 2 + m.length ≤ 65535 = has_room_at site said.point.device id m sound there in
        omega (arith, within, room)

    by : (place : Option (ℕ × ℕ)) → misplaced_by site said place ≡ None → address_by site said place + registers ≤ 65536
    by None none = ends
    by (Some place) none = inside place.0 place.1 (model_at site said.point.device place.0) refl none

-- where no row is the first without a place each has one
pub none_misplaced : (site : Site) (rows : List ListRow) → first_misplaced site rows ≡ None → All (λ (said : ListRow). misplaced site said ≡ None) rows
none_misplaced site [] none = All-nil (λ (said : ListRow). misplaced site said ≡ None)
none_misplaced site (said ∷ rows) none = by (misplaced site said) refl none (none_misplaced site rows)
  where
    by : (o : Option ListError) → misplaced site said ≡ o
        → (cond (is_some o) (Some said) (find (λ (x : ListRow). is_some (misplaced site x)) rows) then misplaced site) ≡ None
        → (first_misplaced site rows ≡ None → All (λ (x : ListRow). misplaced site x ≡ None) rows) → All (λ (x : ListRow). misplaced site x ≡ None) (said ∷ rows)
    by None is later rest = All-cons (λ (x : ListRow). misplaced site x ≡ None) said rows is (rest later)
    by (Some e) is here rest = absurd (none-some e (sym here ∙ is))
