-- What a crash leaves of an office's tables.
use Rattle.std.specs.Prelude.{◌≡◌, ◌⊎◌, Bool, true, false, if◌then◌else◌, List, [], ◌∷◌, ⊤}
use Rattle.poll_book.specs.Tables.{Tables, Within}
use Rattle.office_core.specs.declared.event.Event.{Event}
use Rattle.office_core.specs.declared.event.EventAnswer.{EventAnswer}
use Rattle.office_core.specs.History.{Happening, History, tables}
use Rattle.office_core.specs.Legal.{MayHappen}
use Rattle.office_core.specs.Standing.{Sees, is_store}

-- ---- after one event

-- What a crash may leave after an event, from what it might leave before it, the tables before it and with it, and
-- whether the store refused it. A refused event adds the tables that it would have made. One that it did not refuse
-- leaves its tables alone where it changed any, and adds nothing where it changed none
abbrev pub LeftAfter : (Tables → Type 0) → Tables → Tables → Bool → Tables → Type 0
LeftAfter may old new true left = may left ⊎ (left ≡ new)
LeftAfter may old new false left = (left ≡ new) ⊎ ((new ≡ old) × may left)

-- whatever the office stood for, and whatever it sees as this event, a crash leaves that after it
abbrev pub Leaves : (History → Type 0) → (Tables → Type 0) → (Tables → Type 0) → Event → EventAnswer → Type 0
Leaves stands may may' seen told =
    (before : History) (happening : Happening) → stands before → MayHappen before happening → Sees before happening seen
    → Within may' (LeftAfter may (tables before) (tables (happening ∷ before)) (is_store told))

-- ---- after many

-- an event that the store refused leaves the history as it was
abbrev pub after_told : History → Happening → EventAnswer → History
after_told before happening told = if is_store told then before else happening ∷ before

-- what a crash may leave after events that were told so
abbrev pub LeftBy : History → (Tables → Type 0) → List Happening → List EventAnswer → Tables → Type 0
LeftBy before may [] told = may
LeftBy before may (happening ∷ rest) [] = may
LeftBy before may (happening ∷ rest) (a ∷ told) =
    LeftBy (after_told before happening a) (LeftAfter may (tables before) (tables (happening ∷ before)) (is_store a)) rest told

-- each event, refused or not, is seen as its happening, which may happen where it stands
abbrev pub IsTold : History → List Happening → List Event → List EventAnswer → Type 0
IsTold before [] [] [] = ⊤
IsTold before (happening ∷ rest) (seen ∷ more) (a ∷ told) =
    MayHappen before happening × Sees before happening seen × IsTold (after_told before happening a) rest more told
IsTold before rest events told = ⊥

-- whatever the office stood for, and whatever it sees as these events, a crash leaves that after them
abbrev pub LeavesAll : (History → Type 0) → (Tables → Type 0) → (Tables → Type 0) → List Event → List EventAnswer → Type 0
LeavesAll stands may may' events told =
    (before : History) (rest : List Happening) → stands before → IsTold before rest events told → Within may' (LeftBy before may rest told)

-- ---- in short

-- what happened of what was told so: all that the store didn't refuse
abbrev pub happened : List Happening → List EventAnswer → List Happening
happened [] told = []
happened (happening ∷ rest) [] = []
happened (happening ∷ rest) (a ∷ told) = if is_store a then happened rest told else happening ∷ happened rest told

-- none of them changed a table but those that the store refused
abbrev pub ChangesNothing : History → List Happening → List EventAnswer → Type 0
ChangesNothing before [] told = ⊤
ChangesNothing before (happening ∷ rest) [] = ⊤
ChangesNothing before (happening ∷ rest) (a ∷ told) =
    (is_store a ≡ false → tables (happening ∷ before) ≡ tables before) × ChangesNothing (after_told before happening a) rest told

-- the tables of what happened before one event, which the store refused, and of that event, where nothing that
-- happened after it changed a table
abbrev pub IsOfRefused : History → List Happening → List EventAnswer → Tables → Type 0
IsOfRefused before [] told left = ⊥
IsOfRefused before (happening ∷ rest) [] left = ⊥
IsOfRefused before (happening ∷ rest) (a ∷ told) left =
    ((is_store a ≡ true) × (left ≡ tables (happening ∷ before)) × ChangesNothing before rest told)
    ⊎ IsOfRefused (after_told before happening a) rest told left
