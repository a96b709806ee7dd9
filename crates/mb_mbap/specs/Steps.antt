-- What a byte makes of the bytes held.
use Rattle.std.specs.Prelude.{◌≡◌, ℕ, ◌≤◌, List, length, take, None, Some}
use Rattle.mb_mbap.specs.declared.judging.Step.{Step}
use Rattle.mb_mbap.specs.declared.judging.Step.TheVariants.{More, Whole, Bad}
use Rattle.mb_mbap.specs.Stream.{spelled, IsFrame, IsOpen, fault_of, wanted}

-- what the front of these bytes is: less than a frame, a frame, or a bad header
abbrev pub StepMeans : List ℕ → Step → Type 0
StepMeans xs More = IsOpen xs
StepMeans xs (Whole f) = IsFrame f × (spelled f ≡ take (wanted xs) xs) × (wanted xs ≤ length xs) × (fault_of xs ≡ None)
StepMeans xs (Bad e) = fault_of xs ≡ Some e
