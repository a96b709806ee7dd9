-- How look-ups are counted.
use Rattle.std.specs.Prelude.{◌≡◌, ◌⊎◌, ℕ, ◌+◌, ◌-◌, ◌^◌, ◌≤◌, ◌==◌, if◌then◌else◌, Result, MatchResult, Vec, vec_len}
use Rattle.std.specs.declared.alloc.Global.{Global}

-- so many counts on. From the greatest count on it says that no more were counted
abbrev pub IsRaisedBy : ℕ → ℕ → ℕ → Type 0
IsRaisedBy n old new = (new ≡ old + n) ⊎ ((old ≤ new) × (new ≤ old + n) × (2 ^ 64 - 1 ≤ new))

-- one for each of so many readings, and one more for their marks if there is a reading at all
abbrev pub looks_shown : ℕ → ℕ
looks_shown n = if n == 0 then 0 else n + 1

-- the readings that are given are counted with the look at their marks, and nothing is where the call is refused
abbrev pub CountsShown : {X E : Type 0} → ℕ → ℕ → Result (Vec X Global) E → Type 0
CountsShown old new result = MatchResult result (λ shown. IsRaisedBy (looks_shown (vec_len shown)) old new) (λ _. new ≡ old)

-- at most so many counts on
abbrev pub IsRaisedAtMost : ℕ → ℕ → ℕ → Type 0
IsRaisedAtMost most old new = (old ≤ new) × (new ≤ old + most)
