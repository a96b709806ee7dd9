-- Points chosen by two tests at once.
use Rattle.std.proofs.Common.{◌≡◌, ◌&&◌, ℕ, Bool, true, false, List, [], ◌∷◌, map, refl, ap, ◌∙◌}
use Rattle.std.specs.Prelude.{filter}
use Rattle.std.specs.Str.{bytes_eq}
use Rattle.point_list.specs.declared.point.Point.{Point}
use Rattle.poll_book.specs.declared.rows.PointRow.{PointRow}
use Rattle.office_net.specs.Jobs.{can_read, points_on, readable}

-- two choices, one after the other, are one by both tests
filter_both : {X : Type 0} (p q : X → Bool) (xs : List X) → filter (λ x. p x && q x) xs ≡ filter p (filter q xs)
filter_both p q [] = refl
filter_both p q (x ∷ xs) = by (p x) (q x) refl refl (filter_both p q xs)
  where
    by : (a b : Bool) → p x ≡ a → q x ≡ b → filter (λ y. p y && q y) xs ≡ filter p (filter q xs) → filter (λ y. p y && q y) (x ∷ xs) ≡ filter p (filter q (x ∷ xs))
    by true true e h more = rw (h, e, more) refl
    by true false e h more = rw (h, e, more) refl
    by false true e h more = rw (h, e, more) refl
    by false false e h more = rw (h, e, more) refl

-- the known points that are a device's and can be read are those of the readable ones that are the device's
pub chosen : (known : List PointRow) (device : List ℕ) (points : List Point)
    → points ≡ map (λ (row : PointRow). row.point) (filter (λ (row : PointRow). bytes_eq row.point.device device && can_read row.point) known)
    → points ≡ points_on (readable known) device
chosen known device points is =
    is ∙ ap (map (λ (row : PointRow). row.point)) (filter_both (λ (row : PointRow). bytes_eq row.point.device device) (λ (row : PointRow). can_read row.point) known)
