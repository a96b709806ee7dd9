-- What a piece of a stream does to a reader of frames.
use Rattle.std.specs.Prelude.{◌≡◌, ℕ, ◌<◌, ◌≤◌, List, [], ◌++◌, length, take, Option, Some, None, is_some, if◌then◌else◌}
use Rattle.mb_mbap.specs.declared.frame.Frame.{Frame}
use Rattle.mb_mbap.specs.declared.fault.FrameFault.{FrameFault}
use Rattle.mb_mbap.specs.declared.fault.FrameFault.TheVariants.{Failed}
use Rattle.mb_mbap.specs.declared.judging.Step.{Step}
use Rattle.mb_mbap.specs.declared.judging.Step.TheVariants.{More, Whole, Bad}
use Rattle.mb_mbap.specs.Stream.{Splits, spelled, IsFrame, IsOpen, fault_of}

-- what these bytes, held since the last frame, are taken for: held on, a frame, or a bad header
abbrev pub StandsAs : List ℕ → Step → List ℕ → Type 0
StandsAs xs More new = (new ≡ xs) × IsOpen xs
StandsAs xs (Whole f) new = IsFrame f × (spelled f ≡ xs) × (new ≡ [])
StandsAs xs (Bad e) new = fault_of xs ≡ Some e

-- so many bytes of the next ones were taken, and what they make of those held
abbrev pub TakeMeans : List ℕ → List ℕ → ℕ → Step → List ℕ → Type 0
TakeMeans held next taken step new =
    (0 < taken) × (taken ≤ length next) × StandsAs (held ++ take taken next) step new

-- what a reader keeps of a rest: nothing after a bad header
abbrev pub kept : List ℕ → Option (List ℕ)
kept rest = if is_some (fault_of rest) then None else Some rest

-- what a piece does to a reader that holds these bytes, or to one that has failed
abbrev pub FeedMeans : Option (List ℕ) → List ℕ → List Frame → Option FrameFault → Option (List ℕ) → Type 0
FeedMeans None piece frames fault new = (frames ≡ []) × (fault ≡ Some Failed) × (new ≡ None)
FeedMeans (Some held) piece frames fault new =
    (rest : List ℕ) × Splits (held ++ piece) frames rest × (fault ≡ fault_of rest) × (new ≡ kept rest)

-- a reader that was fed this stream, of which it gave these frames
abbrev pub StandsFor : Option (List ℕ) → List ℕ → List Frame → Type 0
StandsFor reader stream frames = (rest : List ℕ) × Splits stream frames rest × (reader ≡ kept rest)

-- the fault that is told with a piece: the stream's, but `Failed` where it was told before
abbrev pub told : Option (List ℕ) → List ℕ → Option FrameFault
told None rest = Some Failed
told (Some held) rest = fault_of rest

-- what a piece adds to a stream of which these frames were given before
pub record Adds (old : Option (List ℕ)) (stream : List ℕ) (before : List Frame) (piece : List ℕ) (frames : List Frame) (fault : Option FrameFault) (new : Option (List ℕ)) : Type 0 where
  pub rest : List ℕ
  pub splits : Splits (stream ++ piece) (before ++ frames) rest
  pub fault_is : fault ≡ told old rest
  pub new_is : new ≡ kept rest
