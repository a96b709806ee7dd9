use Rattle.std.proofs.Common.{◌≡◌, ◌*◌, length, take}
use Rattle.office_store.specs.Rows.{register_bytes}
use Rattle.office_store.proofs.write_readings.put_words.Given as goal

abbrev pub invariant-loop-word : goal.invariant-loop-word
invariant-loop-word l = record {
  place : l.place ≡ 2 * l.word-index;
  written : take l.place l.bytes ≡ register_bytes (take l.word-index l.words);
  room : length l.bytes ≡ 250;
}
