-- Walks along the models of an image: one model more, and why a walk stops.
use Rattle.std.proofs.Common.{◌≡◌, ◌⊎◌, inl, inr, ℕ, ◌+◌, ◌<◌, ◌≤◌, List, [], ◌∷◌, ◌++◌, length, get_or, Option, Some, None, refl, sym, ap, subst, zero, suc, arith}
use Rattle.std.specs.Prelude.{if◌then◌else◌}
use Rattle.std.proofs.lemmas.Bool.{le-ltb}
use Rattle.sunspec.specs.Sources.{Image, register_at}
use Rattle.sunspec.specs.Chains.{AreModels, HasNoLength, IsBase, IsChainless, IsFirstMarked, IsMarked, IsModelAt, IsNoEnd}
use Rattle.sunspec.specs.Walks.{IsStopped}
use Rattle.sunspec.specs.declared.chain.Model.{Model}
use Rattle.sunspec.specs.declared.error.SunError.{SunError}
use Rattle.sunspec.specs.declared.error.SunError.TheVariants.{BadScale, Memory, NoMarker, OutOfRange, PastEnd, SourceFault, TooManyModels}

-- no register stands past the last address
pub past_last : (image : Image) (address : ℕ) → 65536 ≤ address → register_at image address ≡ None
past_last image address past = ap (λ b. if b then image address else None) (le-ltb address 65536 past)

-- a length register at the last address says too much, and past it stands none
pub none_long : (image : Image) (address : ℕ) → 65534 ≤ address → HasNoLength image address
none_long image address late = by (register_at image (address + 1)) refl
  where
    by : (found : Option ℕ) → register_at image (address + 1) ≡ found → HasNoLength image address
    by None is = inl is
    by (Some n) is = inr (n, is, omega arith)

-- the walk with one model more
pub one_more : (image : Image) (address : ℕ) (models : List Model) (next : ℕ) (model : Model)
    → AreModels image address models next → IsModelAt image next model → AreModels image address (models ++ model ∷ []) (next + 2 + model.length)
one_more image address [] next model are here = (subst (λ a. IsModelAt image a model) are here, ap (λ a. a + 2 + model.length) are)
one_more image address (x ∷ xs) next model are here = (are.0, one_more image (address + 2 + x.length) xs next model are.1 here)

-- what stops a walk, as one read tells it or a length
pub stopped_there : (image : Image) (address before : ℕ) (e : SunError)
    → (e ≡ SourceFault) ⊎ ((e ≡ PastEnd) × (register_at image address ≡ None)) → (e ≡ SourceFault) ⊎ IsStopped image address before e
stopped_there image address before e (inl failed) = inl failed
stopped_there image address before e (inr (is, none)) = inr (subst (IsStopped image address before) (sym is) (inl none))

pub stopped_long : (image : Image) (address before : ℕ) (e : SunError) → IsNoEnd image address → before < 256
    → (e ≡ SourceFault) ⊎ ((e ≡ PastEnd) × HasNoLength image address) → (e ≡ SourceFault) ⊎ IsStopped image address before e
stopped_long image address before e begins few (inl failed) = inl failed
stopped_long image address before e begins few (inr (is, long)) = inr (subst (IsStopped image address before) (sym is) (inr (begins, long, few)))

-- where a walk stops there is no chain
pub chainless : (image : Image) (base : ℕ) (models : List Model) (next : ℕ) (e : SunError)
    → IsBase image base → AreModels image (base + 2) models next → length models ≤ 256 → IsStopped image next (length models) e → IsChainless image e
chainless image base models next PastEnd is_base are few stopped =
    record { models = models; next = next; begins = record { base = base; is_base = is_base; are = are }; few = few; missing = stopped }
chainless image base models next TooManyModels is_base are few stopped =
    record { models = models; next = next; begins = record { base = base; is_base = is_base; are = are }; many = omega (arith, stopped.1); more = stopped.0 }
chainless image base models next NoMarker is_base are few stopped = absurd stopped
chainless image base models next SourceFault is_base are few stopped = absurd stopped
chainless image base models next Memory is_base are few stopped = absurd stopped
chainless image base models next BadScale is_base are few stopped = absurd stopped
chainless image base models next OutOfRange is_base are few stopped = absurd stopped

-- the first marked base, where those before it aren't marked
pub first_marked : (image : Image) (bs : List ℕ) (i : ℕ) → i < length bs
    → ((k : ℕ) → k < i → IsMarked image (get_or bs k 0) → ⊥) → IsMarked image (get_or bs i 0) → IsFirstMarked image bs (get_or bs i 0)
first_marked image [] i below before here = absurd (omega arith)
first_marked image (b ∷ bs) zero below before here = inl (here, refl)
first_marked image (b ∷ bs) (suc i) below before here =
    inr (before 0 (omega arith), first_marked image bs i (omega arith) (λ k lt. before (suc k) (omega arith)) here)
