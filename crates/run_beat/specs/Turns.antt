-- What turns do to those that are called, and to the world that they work on.
use Rattle.std.specs.Prelude.{◌≡◌, ℕ, zero, suc, Bool, false, ◌||◌, List, [], ◌∷◌, Result, Ok}
use Rattle.run_beat.specs.declared.sockets.SocketFault.{SocketFault}

-- each makes one step, in the world as the one before it left it, and tells whether it has more to do: the three lists
-- are as long as each other
abbrev pub EachSteps : {M W : Type 0} → (M → W → Bool → M → W → Type 0) → List M → W → List Bool → List M → W → Type 0
EachSteps steps [] world [] [] world' = world' ≡ world
EachSteps {W = W} steps (old ∷ olds) world (more ∷ mores) (new ∷ news) world' =
    (between : W) × steps old world more new between × EachSteps steps olds between mores news world'
EachSteps steps _ world _ _ world' = ⊥

-- one of them has more to do
abbrev pub any_more : List Bool → Bool
any_more [] = false
any_more (more ∷ mores) = more || any_more mores

module _ {L C W : Type 0} (of_line : L → W → Bool → L → W → Type 0) (of_caller : C → W → Bool → C → W → Type 0)
    (waits : W → Bool → Result (Unit {0}) SocketFault → W → Type 0) where
  -- a turn: each line makes a step, then each caller's place, and then it waits, which may fail
  pub record Turn (lines : List L) (callers : List C) (world : W) (result : Result (Unit {0}) SocketFault)
      (lines' : List L) (callers' : List C) (world' : W) : Type 0 where
    pub of_lines : List Bool
    pub of_callers : List Bool
    pub behind_lines : W
    pub behind_callers : W
    pub by_lines : EachSteps of_line lines world of_lines lines' behind_lines
    pub by_callers : EachSteps of_caller callers behind_lines of_callers callers' behind_callers
    pub waited : waits behind_callers (any_more of_lines || any_more of_callers) result world'

  -- so many turns, one behind the other
  abbrev pub Turns : ℕ → List L → List C → W → List L → List C → W → Type 0
  Turns zero lines callers world lines' callers' world' = (lines' ≡ lines) × (callers' ≡ callers) × (world' ≡ world)
  Turns (suc turns) lines callers world lines' callers' world' =
      (some : List L) × (others : List C) × (between : W) × Turns turns lines callers world some others between
      × Turn some others between (Ok tt) lines' callers' world'
