use Rattle.std.proofs.Common.{◌≡◌, map, take, string_bytes}
use Rattle.sunspec.specs.Text.{printable}
use Rattle.sunspec.proofs.shown.printable_text.Given as goal

abbrev pub invariant-loop-byte : goal.invariant-loop-byte
invariant-loop-byte l = string_bytes l.text ≡ map printable (take l.byte-index l.bytes)
