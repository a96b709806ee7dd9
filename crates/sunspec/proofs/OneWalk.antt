-- An image says one thing: two walks along its models go the same way, and end for one reason.
use Rattle.std.proofs.Common.{◌≡◌, ◌⊎◌, inl, inr, ℕ, suc, ◌+◌, ◌<◌, List, [], ◌∷◌, length, Option, Some, None, refl, sym, ap, subst, ◌∙◌, arith}
use Rattle.std.specs.Prelude.{All}
use Rattle.sunspec.specs.Sources.{Image, register_at}
use Rattle.sunspec.specs.Chains.{AreModels, HasNoLength, HasNoMarker, HasTooMany, IsBase, IsChain, IsCutOff, IsFirstMarked, IsMarked, IsModelAt, IsNoEnd, bases, end_id, most}
use Rattle.sunspec.specs.declared.chain.Chain.{Chain}
use Rattle.sunspec.specs.declared.chain.Model.{Model}

-- ---- bases

pub one_base : (image : Image) (bs : List ℕ) (a b : ℕ) → IsFirstMarked image bs a → IsFirstMarked image bs b → a ≡ b
one_base image [] a b p q = absurd p
one_base image (x ∷ xs) a b (inl p) (inl q) = p.1 ∙ sym q.1
one_base image (x ∷ xs) a b (inl p) (inr q) = absurd (q.0 p.0)
one_base image (x ∷ xs) a b (inr p) (inl q) = absurd (p.0 q.0)
one_base image (x ∷ xs) a b (inr p) (inr q) = one_base image xs a b p.1 q.1

pub no_base : (image : Image) (bs : List ℕ) (b : ℕ) → All (λ base. IsMarked image base → ⊥) bs → IsFirstMarked image bs b → ⊥
no_base image [] b none p = p
no_base image (x ∷ xs) b none (inl p) = none 0 0 (omega arith) p.0
no_base image (x ∷ xs) b none (inr p) = no_base image xs b (λ k d lt. none (suc k) d (omega arith)) p.1

-- ---- what stands at an address

abbrev pub GoesOn : Image → ℕ → Type 0
GoesOn image next = (model : Model) × IsModelAt image next model

abbrev pub IsMissing : Image → ℕ → ℕ → Type 0
IsMissing image next before = (register_at image next ≡ None) ⊎ (IsNoEnd image next × HasNoLength image next × (before < most))

-- a model isn't the end
pub not_end : (image : Image) (next : ℕ) → GoesOn image next → register_at image next ≡ Some end_id → ⊥
not_end image next (model, here) end = let ids : model.id ≡ end_id = id_of (register_at image next) model.id end_id here.id end in here.no_end ids
  where
    id_of : (found : Option ℕ) (a b : ℕ) → found ≡ Some a → found ≡ Some b → a ≡ b
    id_of found a b p q = cc

-- a model has its length
pub not_missing : (image : Image) (next before : ℕ) → GoesOn image next → IsMissing image next before → ⊥
not_missing image next before (model, here) (inl none) = apart (register_at image next) model.id here.id none
  where
    apart : (found : Option ℕ) (a : ℕ) → found ≡ Some a → found ≡ None → ⊥
    apart found a p q = cc
not_missing image next before (model, here) (inr cut) = no_length (register_at image (next + 1)) here.long cut.1
  where
    no_length : (found : Option ℕ) → found ≡ Some model.length → (found ≡ None) ⊎ ((n : ℕ) × (found ≡ Some n) × (65535 < next + 2 + n)) → ⊥
    no_length found long (inl none) = cc
    no_length found long (inr (n, says, much)) = let same : n ≡ model.length = cc in omega (arith, here.inside)

pub no_end_apart : (image : Image) (next : ℕ) → IsNoEnd image next → register_at image next ≡ Some end_id → ⊥
no_end_apart image next (id, is, other) end = other (ids (register_at image next) id end_id is end)
  where
    ids : (found : Option ℕ) (a b : ℕ) → found ≡ Some a → found ≡ Some b → a ≡ b
    ids found a b p q = cc

pub no_end_there : (image : Image) (next : ℕ) → IsNoEnd image next → register_at image next ≡ None → ⊥
no_end_there image next (id, is, other) none = apart (register_at image next) id is none
  where
    apart : (found : Option ℕ) (a : ℕ) → found ≡ Some a → found ≡ None → ⊥
    apart found a p q = cc

-- ---- two walks

-- both are the same, or one goes on where the other ends
abbrev pub Compared : Image → List Model → ℕ → List Model → ℕ → Type 0
Compared image xs n ys m =
    ((xs ≡ ys) × (n ≡ m)) ⊎ ((GoesOn image n × (length xs < length ys)) ⊎ (GoesOn image m × (length ys < length xs)))

abbrev model_of : ℕ → ℕ → ℕ → Model
model_of id address long = record { id = id; address = address; length = long }

one_model : (image : Image) (address : ℕ) (x y : Model) → IsModelAt image address x → IsModelAt image address y → x ≡ y
one_model image address x y p q =
    ap (λ n. model_of n x.address x.length) (same (register_at image address) x.id y.id p.id q.id)
    ∙ ap (λ n. model_of y.id n x.length) (p.at ∙ sym q.at)
    ∙ ap (λ n. model_of y.id y.address n) (same (register_at image (address + 1)) x.length y.length p.long q.long)
  where
    same : (found : Option ℕ) (a b : ℕ) → found ≡ Some a → found ≡ Some b → a ≡ b
    same found a b e f = cc

longer : (image : Image) (x y : Model) (xs ys : List Model) (n m : ℕ) → x ≡ y → Compared image xs n ys m → Compared image (x ∷ xs) n (y ∷ ys) m
longer image x y xs ys n m same (inl e) = inl (ap (λ z. z ∷ xs) same ∙ ap (λ zs. y ∷ zs) e.0, e.1)
longer image x y xs ys n m same (inr (inl (on, lt))) = inr (inl (on, omega arith))
longer image x y xs ys n m same (inr (inr (on, lt))) = inr (inr (on, omega arith))

pub compared : (image : Image) (address : ℕ) (xs ys : List Model) (n m : ℕ) → AreModels image address xs n → AreModels image address ys m → Compared image xs n ys m
compared image address [] [] n m p q = inl (refl, p ∙ sym q)
compared image address [] (y ∷ ys) n m p q = inr (inl ((y, subst (λ k. IsModelAt image k y) (sym p) q.0), omega arith))
compared image address (x ∷ xs) [] n m p q = inr (inr ((x, subst (λ k. IsModelAt image k x) (sym q) p.0), omega arith))
compared image address (x ∷ xs) (y ∷ ys) n m p q =
    let same : x ≡ y = one_model image address x y p.0 q.0 in
    let rest : AreModels image (address + 2 + x.length) ys m = subst (λ (z : Model). AreModels image (address + 2 + z.length) ys m) (sym same) q.1 in
    longer image x y xs ys n m same (compared image (address + 2 + x.length) xs ys n m p.1 rest)

-- from the base of an image
from_base : (image : Image) (a b : ℕ) (xs ys : List Model) (n m : ℕ)
    → IsBase image a → IsBase image b → AreModels image (a + 2) xs n → AreModels image (b + 2) ys m → Compared image xs n ys m
from_base image a b xs ys n m is_a is_b p q =
    compared image (a + 2) xs ys n m p (subst (λ c. AreModels image (c + 2) ys m) (one_base image bases b a is_b is_a) q)

-- ---- one thing

pub one_chain : (image : Image) (x y : Chain) → IsChain image x → IsChain image y
    → (x.base ≡ y.base) × (x.models.items ≡ y.models.items) × (x.end ≡ y.end)
one_chain image x y p q = by (from_base image x.base y.base x.models.items y.models.items x.end y.end p.base q.base p.models q.models)
  where
    by : Compared image x.models.items x.end y.models.items y.end → (x.base ≡ y.base) × (x.models.items ≡ y.models.items) × (x.end ≡ y.end)
    by (inl e) = (one_base image bases x.base y.base p.base q.base, e.0, e.1)
    by (inr (inl (on, lt))) = absurd (not_end image x.end on p.end)
    by (inr (inr (on, lt))) = absurd (not_end image y.end on q.end)

pub chain_or_cut : (image : Image) (x : Chain) → IsChain image x → IsCutOff image → ⊥
chain_or_cut image x p q = by (from_base image x.base q.begins.base x.models.items q.models x.end q.next p.base q.begins.is_base p.models q.begins.are)
  where
    ended : IsMissing image q.next (length q.models) → register_at image q.next ≡ Some end_id → ⊥
    ended (inl none) end = apart (register_at image q.next) end_id end none
      where
        apart : (found : Option ℕ) (a : ℕ) → found ≡ Some a → found ≡ None → ⊥
        apart found a e f = cc
    ended (inr cut) end = no_end_apart image q.next cut.0 end

    by : Compared image x.models.items x.end q.models q.next → ⊥
    by (inl e) = ended q.missing (subst (λ n. register_at image n ≡ Some end_id) e.1 p.end)
    by (inr (inl (on, lt))) = not_end image x.end on p.end
    by (inr (inr (on, lt))) = not_missing image q.next (length q.models) on q.missing

pub chain_or_many : (image : Image) (x : Chain) → IsChain image x → HasTooMany image → ⊥
chain_or_many image x p q = by (from_base image x.base q.begins.base x.models.items q.models x.end q.next p.base q.begins.is_base p.models q.begins.are)
  where
    by : Compared image x.models.items x.end q.models q.next → ⊥
    by (inl e) = no_end_apart image q.next q.more (subst (λ n. register_at image n ≡ Some end_id) e.1 p.end)
    by (inr (inl (on, lt))) = not_end image x.end on p.end
    by (inr (inr (on, lt))) = absurd (omega (arith, p.few, q.many))

pub cut_or_many : (image : Image) → IsCutOff image → HasTooMany image → ⊥
cut_or_many image p q = by (from_base image p.begins.base q.begins.base p.models q.models p.next q.next p.begins.is_base q.begins.is_base p.begins.are q.begins.are)
  where
    ended : IsMissing image p.next (length p.models) → p.models ≡ q.models → p.next ≡ q.next → ⊥
    ended (inl none) same e = no_end_there image q.next q.more (subst (λ n. register_at image n ≡ None) e none)
    ended (inr cut) same e = absurd (omega (arith, cut.2, q.many, ap length same))

    by : Compared image p.models p.next q.models q.next → ⊥
    by (inl e) = ended p.missing e.0 e.1
    by (inr (inl (on, lt))) = not_missing image p.next (length p.models) on p.missing
    by (inr (inr (on, lt))) = absurd (omega (arith, p.few, q.many))

pub marked_chain : (image : Image) (b : ℕ) → HasNoMarker image → IsBase image b → ⊥
marked_chain image b none p = no_base image bases b none p
