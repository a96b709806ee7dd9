-- Held replies that are brought closer.
use Rattle.std.proofs.Common.{◌≡◌, ℕ, zero, suc, ◌<◌, true, false, cond, not, eqb, List, [], ◌∷◌, length, get_or, map, filter, All, refl, arith}
use Rattle.std.proofs.lemmas.Bool.{eqb-false}
use Rattle.mb_map.specs.declared.held.Held.{Held}
use Rattle.mb_map.specs.Queue.{closer, is_later}

-- every reply of a list, brought closer
pub same_held : (new old : List Held) → length new ≡ length old → ((k : ℕ) (d : Held) → k < length old → get_or new k d ≡ closer (get_or old k d)) → new ≡ map closer old
same_held [] [] size each = refl
same_held [] (h ∷ old) size each = absurd (omega arith)
same_held (n ∷ new) [] size each = absurd (omega arith)
same_held (n ∷ new) (h ∷ old) size each = λ i. each 0 h (omega arith) i ∷ same_held new old (omega arith) (λ k d lt. each (suc k) d (omega arith)) i

all_cons : (h : Held) (hs : List Held) → 0 < h.left → All (λ (x : Held). 0 < x.left) hs → All (λ (x : Held). 0 < x.left) (h ∷ hs)
all_cons h hs here rest zero d lt = here
all_cons h hs here rest (suc k) d lt = rest k d (omega arith)

-- those that are kept are still to wait
pub later_left : (hs : List Held) → All (λ (x : Held). 0 < x.left) hs → All (λ (x : Held). 0 < x.left) (filter is_later hs)
later_left [] left = λ k d lt. absurd (omega arith)
later_left (h ∷ hs) left =
    let rest : All (λ (x : Held). 0 < x.left) (filter is_later hs) = later_left hs (λ k d lt. left (suc k) d (omega arith)) in
    let here : 0 < h.left = left 0 h (omega arith) in
    elim (eqb h.left 1) as (λ b. All (λ (x : Held). 0 < x.left) (cond (not b) (h ∷ filter is_later hs) (filter is_later hs))) [ true ↦ rest | false ↦ all_cons h (filter is_later hs) here rest ]

pub closer_left : (hs : List Held) → All (λ (x : Held). 0 < x.left) hs → All (λ (x : Held). 0 < x.left) (map closer (filter is_later hs))
closer_left [] left = λ k d lt. absurd (omega arith)
closer_left (h ∷ hs) left =
    let rest : All (λ (x : Held). 0 < x.left) (map closer (filter is_later hs)) = closer_left hs (λ k d lt. left (suc k) d (omega arith)) in
    let here : 0 < h.left = left 0 h (omega arith) in
    elim (eqb h.left 1) as (λ b. eqb h.left 1 ≡ b → All (λ (x : Held). 0 < x.left) (map closer (cond (not b) (h ∷ filter is_later hs) (filter is_later hs)))) [
      | true ↦ λ due. rest
      | false ↦ λ later. all_cons (closer h) (map closer (filter is_later hs)) (omega (arith, eqb-false h.left 1 later)) rest
    ] refl
