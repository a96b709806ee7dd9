use Rattle.std.proofs.Common.{length, map}
use Rattle.csv.specs.Reading.{strip_bom}
use Rattle.csv.specs.Records.{fields_of}
use Rattle.point_list.proofs.RecordsRead.{HaveRead}
use Rattle.point_list.proofs.records.short_records.Given as goal

abbrev pub invariant-records : goal.invariant-records
invariant-records l = HaveRead (strip_bom l.fn.bytes) (map fields_of l.rows.items) l.rest

abbrev pub decreases-records : goal.decreases-records
decreases-records l = length l.rest
