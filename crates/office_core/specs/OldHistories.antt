-- Histories of offices that knew neither orders of words nor voids.
use Rattle.std.specs.Prelude.{[], ◌∷◌, ⊤}
use Rattle.point_list.specs.Edition.{First, Second}
use Rattle.office_core.specs.History.{Load, Void, History}

-- each list was judged by the first edition, and no slot was voided
abbrev pub IsOld : History → Type 0
IsOld [] = ⊤
IsOld (Load First caller key list ∷ before) = IsOld before
IsOld (Load Second caller key list ∷ before) = ⊥
IsOld (Void caller key point slot ∷ before) = ⊥
IsOld (_ ∷ before) = IsOld before
