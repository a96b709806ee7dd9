-- What a device does, from its parts.
use Rattle.std.proofs.Common.{◌≡◌, Bool, true, false, Option, Some, None, ap}
use Rattle.std.specs.Prelude.{IfNone}
use Rattle.std.specs.Bool.{OnTrue}
use Rattle.mb_map.specs.Tables.{Cells, Tables}

-- where none would be wrong, there is some
pub none_of : {A P : Type 0} (Q : Type 0) (found : Option A) → IfNone found (P → ⊥) → P → IfNone found Q
none_of Q None wrong here = absurd (wrong here)
none_of Q (Some x) wrong here = tt

-- tables whose coils are new
pub coils_done : (done : Bool) (before : Tables) (coils new : Cells) → OnTrue done (coils ≡ new) → OnTrue done (◌≡◌ {A = Tables} (record before { coils = coils }) (record before { coils = new }))
coils_done true before coils new is = ap (λ (c : Cells). record before { coils = c }) is
coils_done false before coils new is = tt
