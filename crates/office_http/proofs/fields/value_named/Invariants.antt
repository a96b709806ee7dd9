use Rattle.std.proofs.Common.{◌≡◌, None, take, map, find}
use Rattle.httparse.specs.Spans.{header_bytes}
use Rattle.office_http.specs.Fields.{is_named}
use Rattle.office_http.proofs.fields.value_named.Given as goal

abbrev pub invariant-loop-header : goal.invariant-loop-header
invariant-loop-header l = find (is_named l.name) (map (header_bytes l.bytes) (take l.header-index l.headers)) ≡ None
