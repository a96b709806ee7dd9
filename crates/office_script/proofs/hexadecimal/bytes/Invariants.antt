use Rattle.std.proofs.Common.{◌≡◌, Some, take}
use Rattle.office_script.specs.Words.{bytes_of, texts}
use Rattle.office_script.proofs.hexadecimal.bytes.Given as goal

abbrev pub invariant-loop-word : goal.invariant-loop-word
invariant-loop-word l = bytes_of (texts (take l.word-index l.spelled)) ≡ Some l.bytes.items
