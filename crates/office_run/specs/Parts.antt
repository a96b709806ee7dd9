-- The parts of a run: what each line and each caller's place did in it.
use Rattle.std.specs.Prelude.{◌≤◌, ℕ, zero, suc, List, [], ◌∷◌}
use Rattle.run_beat.specs.declared.sockets.Source.TheVariants.{Caller, Line}
use Rattle.office_core.specs.History.{History}
use Rattle.run_deeds.specs.Deeds.{AllOf, Deed, IsNot, Passes}
use Rattle.run_lines.specs.Wires.{Down, LineMoves, State, Terms}
use Rattle.run_callers.specs.Sessions.{Free, Session, Through}

-- what the site says of the line at a place: where there is none, none of its queries may wait
abbrev pub terms_at : List Terms → ℕ → Terms
terms_at [] place = record { name = []; most = 0 }
terms_at (terms ∷ all) zero = terms
terms_at (terms ∷ all) (suc place) = terms_at all place

-- what each line did is what it may, where no round was begun at first and no connection stood
abbrev pub AreWired : List Terms → History → List Deed → Type 0
AreWired all now deeds = (place : ℕ) → (state : State) × Passes (LineMoves (terms_at all place)) (Line place) now (record { from = 0; wire = Down }) deeds state

-- whoever was taken at any place, each byte that was written to it is of the answer to what it had asked for; and there are at most 64 places
abbrev pub AreServed : History → List Deed → Type 0
AreServed now deeds =
    ((caller : ℕ) → (session : Session) × Through (Caller caller) now Free deeds session)
    × ((caller : ℕ) → 64 ≤ caller → AllOf (IsNot (Caller caller)) deeds)
