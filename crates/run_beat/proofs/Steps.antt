-- Calling the members of a list one by one.
use Rattle.std.proofs.Common.{◌≡◌, ◌<◌, ◌+◌, ℕ, zero, suc, Bool, true, false, ◌||◌, List, [], ◌∷◌, ◌++◌, length, take, drop, set, get_or, refl, sym, ap, arith, subst, add-one}
use Rattle.run_beat.specs.Turns.{EachSteps, any_more}

-- the first so many have made a step, and the others are as they were
abbrev pub HaveStepped : {M W : Type 0} → (M → W → Bool → M → W → Type 0) → ℕ → List M → W → List Bool → List M → W → Type 0
HaveStepped steps count old world mores new world' =
    EachSteps steps (take count old) world mores (take count new) world' × (drop count old ≡ drop count new)

module _ {M W : Type 0} (steps : M → W → Bool → M → W → Type 0) where
  one_more : (count : ℕ) (old now : List M) (world : W) (mores : List Bool) (new default : M) (more : Bool) (between world' : W) → count < length now
      → HaveStepped steps count old world mores now between → steps (get_or now count default) between more new world'
      → HaveStepped steps (suc count) old world (mores ++ more ∷ []) (set now count new) world'
  one_more count old [] world mores new default more between world' within stepped step = absurd (omega arith)
  one_more zero [] (y ∷ ys) world mores new default more between world' within stepped step = absurd (cc)
  one_more zero (x ∷ xs) (y ∷ ys) world (m ∷ mores) new default more between world' within stepped step = absurd stepped.0
  one_more zero (x ∷ xs) (y ∷ ys) world [] new default more between world' within stepped step = (
    (
      world',
      subst (λ (w : W). steps x w more new world') stepped.0
          (subst (λ (member : M). steps member between more new world') (sym (ap (λ members. get_or members 0 default) stepped.1)) step),
      refl,
    ),
    ap (drop 1) stepped.1,
  )
  one_more (suc count) [] (y ∷ ys) world [] new default more between world' within stepped step = absurd stepped.0
  one_more (suc count) [] (y ∷ ys) world (m ∷ mores) new default more between world' within stepped step = absurd stepped.0
  one_more (suc count) (x ∷ xs) (y ∷ ys) world [] new default more between world' within stepped step = absurd stepped.0
  one_more (suc count) (x ∷ xs) (y ∷ ys) world (m ∷ mores) new default more between world' within stepped step =
      let rest = one_more count xs ys stepped.0.0 mores new default more between world' (omega arith) (stepped.0.2, stepped.1) step in
      ((stepped.0.0, stepped.0.1, rest.0), rest.1)

  -- then the next one makes a step
  pub next_steps : (count : ℕ) (old now : List M) (world : W) (mores : List Bool) (new default : M) (more : Bool) (between world' : W) → count < length now
      → HaveStepped steps count old world mores now between → steps (get_or now count default) between more new world'
      → HaveStepped steps (count + 1) old world (mores ++ more ∷ []) (set now count new) world'
  next_steps count old now world mores new default more between world' within stepped step =
      subst (λ n. HaveStepped steps n old world (mores ++ more ∷ []) (set now count new) world') (sym (add-one count))
      (one_more count old now world mores new default more between world' within stepped step)

-- whether one of them has more to do, after the next one
pub any_more-push : (mores : List Bool) (more : Bool) → any_more (mores ++ more ∷ []) ≡ (any_more mores || more)
any_more-push [] true = refl
any_more-push [] false = refl
any_more-push (true ∷ mores) more = refl
any_more-push (false ∷ mores) more = any_more-push mores more
