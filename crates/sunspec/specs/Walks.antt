-- What stops a walk along the models of an image.
use Rattle.std.specs.Prelude.{◌≡◌, ◌⊎◌, ℕ, ◌<◌, ◌≤◌, None}
use Rattle.sunspec.specs.Sources.{Image, register_at}
use Rattle.sunspec.specs.Chains.{HasNoLength, IsNoEnd, most}
use Rattle.sunspec.specs.declared.error.SunError.{SunError}
use Rattle.sunspec.specs.declared.error.SunError.TheVariants.{PastEnd, TooManyModels}

-- why neither a model nor the end begins at an address after so many models
abbrev pub IsStopped : Image → ℕ → ℕ → SunError → Type 0
IsStopped image address before PastEnd = (register_at image address ≡ None) ⊎ (IsNoEnd image address × HasNoLength image address × (before < most))
IsStopped image address before TooManyModels = IsNoEnd image address × (most ≤ before)
IsStopped image address before _ = ⊥
