use Rattle.std.proofs.Common.{◌≡◌, ◌≤◌, ◌+◌, ℕ, List, length, map, take, true}
use Rattle.std.specs.List.{All, list_any}
use Rattle.std.specs.Str.{bytes_eq}
use Rattle.csv.specs.Records.{fields_of}
use Rattle.point_list.specs.DeviceNames.{has_device}
use Rattle.point_list.specs.Lists.{FaultlessBelow, SayRows, names_of, names_in}
use Rattle.point_list.specs.Texts.{has_text}
use Rattle.point_list.specs.declared.point.ListRow.{ListRow}
use Rattle.point_list.proofs.list.rows_of.Given as goal

abbrev pub invariant-loop-record : goal.invariant-loop-record
invariant-loop-record l = record {
  number : l.number ≡ l.record-index + 2;
  count : length l.rows.items ≡ l.record-index;
  few : l.record-index ≤ 10000;
  faultless : FaultlessBelow l.columns (has_device l.devices) (map fields_of l.body) l.record-index;
  say : SayRows 2 (take l.record-index (map fields_of l.body)) l.rows.items;
  named : names_of l.rows.items ≡ names_in (take l.record-index (map fields_of l.body));
  known : (text : List ℕ) → has_text l.names text ≡ list_any (λ name. bytes_eq text name) (names_of l.rows.items);
  devices : All (λ (row : ListRow). has_device l.devices row.point.device ≡ true) l.rows.items;
}
