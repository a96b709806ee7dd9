-- Slots that calls begin, one behind another.
use Rattle.std.proofs.Common.{◌≤◌, ℕ, List, [], ◌∷◌, Option, None, Some, arith}
use Rattle.std.specs.Prelude.{⊤}
use Rattle.run_beat.specs.declared.beat.Beat.{Beat}
use Rattle.run_beat.specs.Beats.{Calls, NeverFall, begun_by}

-- the last one that was begun is at most this one
abbrev pub IsUpTo : ℕ → List ℕ → Type 0
IsUpTo most [] = ⊤
IsUpTo most (slot ∷ slots) = slot ≤ most

rises : (slots : List ℕ) (less most : ℕ) → less ≤ most → IsUpTo less slots → IsUpTo most slots
rises [] less most grows up = tt
rises (slot ∷ slots) less most grows up = omega arith

follows : (slots : List ℕ) (from slot : ℕ) → from ≤ slot → IsUpTo from slots → NeverFall slots → NeverFall (slot ∷ slots)
follows [] from slot grows up fall = tt
follows (earlier ∷ slots) from slot grows up fall = (omega arith, fall)

-- none is before the one that was begun before it, and the last one is at most the first that may be begun still
pub in_order : (first last : Beat) (calls : List (Option ℕ)) → Calls first calls last
    → NeverFall (begun_by calls) × IsUpTo last.from (begun_by calls)
in_order first last [] called = (tt, tt)
in_order first last (None ∷ calls) called =
    let before = in_order first called.0 calls called.1 in
    (before.0, rises (begun_by calls) called.0.from last.from (omega (arith, called.2)) before.1)
in_order first last (Some slot ∷ calls) called =
    let before = in_order first called.0 calls called.1 in
    (follows (begun_by calls) called.0.from slot called.2.0 before.1 before.0, omega (arith, called.2.1))
