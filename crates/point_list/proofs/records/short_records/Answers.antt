use Rattle.std.proofs.Common.{sym, map, ◌∷◌, []}
use Rattle.std.proofs.lemmas.List.{map-append}
use Rattle.csv.specs.Reading.{strip_bom}
use Rattle.csv.specs.Records.{fields_of}
use Rattle.point_list.proofs.RecordsRead.{all_read, more_read, none_read}
use Rattle.point_list.proofs.records.short_records.Goals as goal

pub records-init : goal.records-init
records-init c = rw (c.new-rows.ensures.items, c.without_mark-rest.ensures) (none_read (strip_bom c.args.bytes.now))

pub records-preserved : goal.records-preserved
records-preserved c =
    let text = strip_bom c.args.bytes.now in
    let rows = map fields_of c.records.rows.items in
    let read = rw c.in-Some.is at c.in_ok-more.ensures.same in
    let more = more_read text rows c.records.rest.now (fields_of c.read_record.new.row) c.in-Some.more.now c.records.invariant read in
    rw (c.in_ok-push.ensures.items, map-append fields_of c.records.rows.items (c.in_ok-clone.field-0 ∷ []), c.in_ok-clone.ensures.cases) more

pub returns : goal.returns
returns c =
    let text = strip_bom c.args.bytes.now in
    let none = rw c.in_default.is at c.in_ok-more.ensures.same in
    sym (all_read text (map fields_of c.records.rows.items) c.records.rest.now c.records.invariant none)
