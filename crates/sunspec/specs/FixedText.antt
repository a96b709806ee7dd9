-- Texts in an array: zero past their end, so that the bytes of the text give the fields.
use Rattle.std.specs.Prelude.{◌≡◌, ℕ, ◌≤◌, ◌-◌, List, ◌++◌, length, replicate, take}
use Rattle.std.proofs.Common.{arith, refl}
use Rattle.std.proofs.lemmas.List.{length-take-le}

pub record IsPadded (room len : ℕ) (bytes : List ℕ) : Type 0 where
  pub whole : length bytes ≡ room
  pub short : len ≤ room
  pub rest : bytes ≡ take len bytes ++ replicate (room - len) 0

pub len_again : (room len : ℕ) (bytes : List ℕ) → IsPadded room len bytes → length (take len bytes) ≡ len
len_again room len bytes h = length-take-le len bytes (omega (arith, h.whole, h.short))

pub bytes_again : (room len : ℕ) (bytes : List ℕ) → IsPadded room len bytes → take len bytes ++ replicate (room - length (take len bytes)) 0 ≡ bytes
bytes_again room len bytes h = rw (len_again room len bytes h, ← h.rest) refl
