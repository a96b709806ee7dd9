use Rattle.std.proofs.Common.{◌≡◌, ◌≤◌, take, map}
use Rattle.httparse.specs.Spans.{header_bytes}
use Rattle.office_http.specs.Fields.{named_count}
use Rattle.office_http.proofs.fields.count_named.Given as goal

abbrev pub invariant-loop-header : goal.invariant-loop-header
invariant-loop-header l = (l.count ≤ l.header-index) × (l.count ≡ named_count l.name (map (header_bytes l.bytes) (take l.header-index l.headers)))
