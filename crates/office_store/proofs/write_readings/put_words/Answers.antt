use Rattle.std.proofs.Common.{◌+◌, ◌<◌, ◌/◌, ◌%◌, ◌∙◌, length, slice_set, arith, slice_index_or}
use Rattle.std.proofs.lemmas.List.{length-set}
use Rattle.office_store.proofs.Registers.{written_more}
use Rattle.office_store.proofs.write_readings.put_words.Goals as goal

pub loop-word-preserved : goal.loop-word-preserved
loop-word-preserved c =
    let before = c.loop-word.invariant in
    let i = c.loop-word.word-index in
    let words = c.args.words.now in
    let bytes = c.loop-word.bytes in
    let here : i < length words = omega arith in
    let room : c.loop-word.place + 1 < length bytes = omega (arith, before.place, before.room, here, c.requires) in
    let first = slice_set bytes c.loop-word.place (slice_index_or words i 0 / 256) in
    record {
      place = omega (arith, before.place);
      written = written_more bytes words i c.loop-word.place room here before.written;
      room = length-set first (c.loop-word.place + 1) (slice_index_or words i 0 % 256) ∙ length-set bytes c.loop-word.place (slice_index_or words i 0 / 256) ∙ before.room;
    }
