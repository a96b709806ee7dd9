-- What an outbox stands for.
use Rattle.std.specs.Prelude.{ℕ, List, ◌≤◌, drop, length}
use Rattle.run_beat.specs.declared.outbox.Outbox.TheInside.{Inside}

-- the bytes that wait
abbrev pub waiting : Inside → List ℕ
waiting box = drop box.written box.bytes.items

-- no more were written than there were
abbrev pub IsOutbox : Inside → Type 0
IsOutbox box = box.written ≤ length box.bytes.items
