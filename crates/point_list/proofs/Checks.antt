-- The first check that fails, among checks one after another.
use Rattle.std.proofs.Common.{◌≡◌, ℕ, List, [], ◌∷◌, ◌++◌, Bool, true, false, cond, Option, Some, None, refl}
use Rattle.point_list.specs.Lists.{Check, first_failed}
use Rattle.point_list.specs.declared.error.ListFault.{ListFault}

pass : (b : Bool) (x : Option (ListFault × ℕ)) (f : ListFault × ℕ) → cond b x (Some f) ≡ None → (b ≡ true) × (x ≡ None)
pass true x f h = (refl, h)
pass false x f h = cc

-- behind checks that pass
pub failed-behind : (a b : List Check) → first_failed a ≡ None → first_failed (a ++ b) ≡ first_failed b
failed-behind [] b h = refl
failed-behind (c ∷ cs) b h =
    let p = pass c.passes (first_failed cs) (c.fault, c.column) h in
    rw (p.0, failed-behind cs b p.1) refl

-- a check that fails in front
pub failed-front : (a b : List Check) (e : ListFault × ℕ) → first_failed a ≡ Some e → first_failed (a ++ b) ≡ Some e
failed-front [] b e h = cc
failed-front (c ∷ cs) b e h = front c.passes (first_failed cs) (first_failed (cs ++ b)) (c.fault, c.column) e h (failed-front cs b e)
  where
    front : (t : Bool) (x y : Option (ListFault × ℕ)) (f g : ListFault × ℕ) → cond t x (Some f) ≡ Some g → (x ≡ Some g → y ≡ Some g) → cond t y (Some f) ≡ Some g
    front true x y f g k more = more k
    front false x y f g k more = k
