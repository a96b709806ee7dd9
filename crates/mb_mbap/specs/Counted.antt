-- What a clause reads of a `Counted`, and how its counts rise.
use Rattle.std.specs.Prelude.{ℕ, ◌+◌, ◌-◌, ◌^◌, ◌<◌, min, ◌==◌, Result, Ok, Err, ◌&&◌, nat_lt, if◌then◌else◌}
use Rattle.mb_mbap.specs.declared.counted.Counted.{Counted}

-- the reader or writer inside
abbrev pub inner_of : {T : Type 0} → Counted T → T
inner_of c = c.inner

-- how many calls answered a fault
abbrev pub failures_of : {T : Type 0} → Counted T → ℕ
failures_of c = c.failures

-- how many reads met the end
abbrev pub ends_of : {T : Type 0} → Counted T → ℕ
ends_of c = c.ends

-- the greatest count
abbrev pub count_limit : ℕ
count_limit = 2 ^ 64 - 1

-- one more, unless the count is at its greatest
abbrev pub one_more : ℕ → ℕ
one_more n = min (n + 1) count_limit

-- the count after a call: one more exactly where the call answered a fault
abbrev pub failures_after : {A E : Type 0} → ℕ → Result A E → ℕ
failures_after n (Ok _) = n
failures_after n (Err _) = one_more n

-- the count of ends after a read: one more exactly where it read nothing into a room that isn't empty
abbrev pub ends_after : {E : Type 0} → ℕ → Result ℕ E → ℕ → ℕ
ends_after n (Ok k) room = if k == 0 && nat_lt 0 room then one_more n else n
ends_after n (Err _) room = n

-- the count has risen, where it wasn't at its greatest
abbrev pub HasRisen : ℕ → ℕ → Type 0
HasRisen old new = old < count_limit → old < new
