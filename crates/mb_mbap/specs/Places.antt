-- How the bytes held lie in their arrays.
use Rattle.std.specs.Prelude.{ℕ, ◌≤◌, List, take, Option, Some, None, if◌then◌else◌}
use Rattle.mb_mbap.specs.declared.held.Held.TheInside.{Inside as HeldInside}
use Rattle.mb_mbap.specs.declared.reader.FrameReader.TheInside.{Inside as ReaderInside}
use Rattle.mb_mbap.specs.Stream.{IsOpen}

abbrev pub held_bytes : HeldInside → List ℕ
held_bytes h = take h.len h.bytes

abbrev pub IsHeld : HeldInside → Type 0
IsHeld h = (h.len ≤ 259) × IsOpen (take h.len h.bytes)

abbrev pub held_by : ReaderInside → Option (List ℕ)
held_by r = if r.failed then None else Some (take r.len r.rest)

abbrev pub IsReader : ReaderInside → Type 0
IsReader r = (r.len ≤ 259) × IsOpen (take r.len r.rest)
