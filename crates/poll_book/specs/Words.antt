-- The registers of a reading, in place or in a vector.
use Rattle.std.specs.Prelude.{◌<◌, ◌≤◌, ℕ, List, length, take}
use Rattle.poll_book.specs.declared.words.Held.{Held}
use Rattle.poll_book.specs.declared.words.Held.TheVariants.{Few, Many}

abbrev pub held_words : Held → List ℕ
held_words (Few words count) = take count words
held_words (Many words) = words.items

-- 1 to 4 of them in place, or 1 to 125 in a vector
abbrev pub AreHeld : Held → Type 0
AreHeld (Few words count) = (0 < count) × (count ≤ 4)
AreHeld (Many words) = (0 < length words.items) × (length words.items ≤ 125)
