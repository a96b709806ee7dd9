-- Chains of models (SunSpec Device Information Model, sections on the marker, the model chain and
-- model 1). Which base is tried first is this project's profile.
use Rattle.std.specs.Prelude.{◌≡◌, ◌≢◌, ◌⊎◌, ℕ, ◌+◌, ◌<◌, ◌≤◌, Bool, ◌&&◌, ◌||◌, ◌==◌, List, [], ◌∷◌, All, length, Option, Some, None, Result, Ok, Err, find, ⊤}
use Rattle.sunspec.specs.Sources.{Image, register_at, Stand}
use Rattle.sunspec.specs.Value.{AreRegistersOf, value}
use Rattle.sunspec.specs.declared.chain.Model.{Model}
use Rattle.sunspec.specs.declared.chain.Chain.{Chain}
use Rattle.sunspec.specs.declared.chain.Common.{Common}
use Rattle.sunspec.specs.declared.error.SunError.{SunError}
use Rattle.sunspec.specs.declared.error.SunError.TheVariants.{NoMarker, PastEnd, TooManyModels}
use Rattle.sunspec.specs.declared.point_type.PointType.{PointType}
use Rattle.sunspec.specs.declared.point_type.PointType.TheVariants.{Str, Uint16}
use Rattle.sunspec.specs.declared.value.Value.{Value}

-- ---- the base

-- where a chain may begin, in the order in which it is looked for
abbrev pub bases : List ℕ
bases = 40000 ∷ 50000 ∷ 0 ∷ []

-- the marker SunS stands at the base
abbrev pub IsMarked : Image → ℕ → Type 0
IsMarked image base = (register_at image base ≡ Some 0x5375) × (register_at image (base + 1) ≡ Some 0x6E53)

-- the first of these bases with the marker
abbrev pub IsFirstMarked : Image → List ℕ → ℕ → Type 0
IsFirstMarked image [] base = ⊥
IsFirstMarked image (b ∷ bs) base = (IsMarked image b × (base ≡ b)) ⊎ ((IsMarked image b → ⊥) × IsFirstMarked image bs base)

abbrev pub IsBase : Image → ℕ → Type 0
IsBase image base = IsFirstMarked image bases base

-- ---- models

-- the identifier of the end model
abbrev pub end_id : ℕ
end_id = 0xFFFF

-- the most models before the end
abbrev pub most : ℕ
most = 256

-- a model begins at an address: its identifier, its length, and as many registers, before the last address
pub record IsModelAt (image : Image) (address : ℕ) (model : Model) : Type 0 where
  pub at : model.address ≡ address
  pub id : register_at image address ≡ Some model.id
  pub no_end : model.id ≢ end_id
  pub long : register_at image (address + 1) ≡ Some model.length
  pub inside : address + 2 + model.length ≤ 65535

-- one after the other, from an address up to another
abbrev pub AreModels : Image → ℕ → List Model → ℕ → Type 0
AreModels image address [] next = next ≡ address
AreModels image address (model ∷ models) next = IsModelAt image address model × AreModels image (address + 2 + model.length) models next

-- the chain of an image: the models between the marker and the end model
pub record IsChain (image : Image) (chain : Chain) : Type 0 where
  pub base : IsBase image chain.base
  pub models : AreModels image (chain.base + 2) chain.models.items chain.end
  pub few : length chain.models.items ≤ most
  pub end : register_at image chain.end ≡ Some end_id

-- ---- why an image has no chain

-- no base has the marker
abbrev pub HasNoMarker : Image → Type 0
HasNoMarker image = All (λ base. IsMarked image base → ⊥) bases

-- these models are the first of an image, and the next one would begin at an address
pub record Begins (image : Image) (models : List Model) (next : ℕ) : Type 0 where
  pub base : ℕ
  pub is_base : IsBase image base
  pub are : AreModels image (base + 2) models next

-- a model that isn't the end begins at an address
abbrev pub IsNoEnd : Image → ℕ → Type 0
IsNoEnd image address = (id : ℕ) × (register_at image address ≡ Some id) × (id ≢ end_id)

-- what says how long a model is isn't there, or says more than there are addresses for
abbrev pub HasNoLength : Image → ℕ → Type 0
HasNoLength image address =
    (register_at image (address + 1) ≡ None) ⊎ ((n : ℕ) × (register_at image (address + 1) ≡ Some n) × (65535 < address + 2 + n))

-- something is missing before the end
pub record IsCutOff (image : Image) : Type 0 where
  pub models : List Model
  pub next : ℕ
  pub begins : Begins image models next
  pub few : length models ≤ most
  pub missing : (register_at image next ≡ None) ⊎ (IsNoEnd image next × HasNoLength image next × (length models < most))

-- one more begins where the end of the longest chain would be
pub record HasTooMany (image : Image) : Type 0 where
  pub models : List Model
  pub next : ℕ
  pub begins : Begins image models next
  pub many : length models ≡ most
  pub more : IsNoEnd image next

-- why there is no chain
abbrev pub IsChainless : Image → SunError → Type 0
IsChainless image NoMarker = HasNoMarker image
IsChainless image PastEnd = IsCutOff image
IsChainless image TooManyModels = HasTooMany image
IsChainless image _ = ⊥

-- what an image says: a chain, or why there is none
abbrev pub Says : Image → Result Chain SunError → Type 0
Says image (Ok chain) = IsChain image chain
Says image (Err e) = IsChainless image e

-- ---- model 1, the common model

-- its length is 65 or 66
abbrev pub is_common : Model → Bool
is_common model = (model.id == 1) && ((model.length == 65) || (model.length == 66))

-- the first one in a chain
abbrev pub common_of : List Model → Option Model
common_of models = find is_common models

-- the value of a type whose registers stand from an address on
abbrev pub HasValue : Image → ℕ → PointType → Value → Type 0
HasValue image address kind v = (words : List ℕ) × AreRegistersOf kind words × Stand image address words × (v ≡ value kind words)

-- the values of a common model that begins at an address
pub record AreCommon (image : Image) (address : ℕ) (common : Common) : Type 0 where
  pub mn : HasValue image (address + 2) (Str 16) common.mn
  pub md : HasValue image (address + 18) (Str 16) common.md
  pub opt : HasValue image (address + 34) (Str 8) common.opt
  pub vr : HasValue image (address + 42) (Str 8) common.vr
  pub sn : HasValue image (address + 50) (Str 16) common.sn
  pub da : HasValue image (address + 66) Uint16 common.da

-- a register of one of these values isn't there; they take the 65 registers from the second on
abbrev pub LacksValue : Image → ℕ → Type 0
LacksValue image address = (k : ℕ) × (2 ≤ k) × (k ≤ 66) × (register_at image (address + k) ≡ None)

-- what is said of the model 1, if a chain has one
abbrev pub AreOf : Image → Option Model → Option Common → Type 0
AreOf image (Some model) (Some common) = AreCommon image model.address common
AreOf image None None = ⊤
AreOf image _ _ = ⊥

abbrev pub Lacks : Image → Option Model → Type 0
Lacks image (Some model) = LacksValue image model.address
Lacks image None = ⊥
