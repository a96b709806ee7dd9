use Rattle.std.proofs.Common.{◌∙◌, sym, ap, arith, option_map, Some}
use Rattle.httparse.specs.Spans.{header_bytes}
use Rattle.office_http.specs.Fields.{FieldText, is_named}
use Rattle.office_http.proofs.Finding.{find_here, find_on}
use Rattle.office_http.proofs.fields.value_named.Goals as goal

pub returns-then-has_name : goal.returns-then-has_name
returns-then-has_name c =
    let at = c.loop-header.header-index in
    let found = find_here (is_named c.args.name.now) (header_bytes c.args.bytes.now) c.args.headers.now at (record { name = record { start = 0; end = 0 }; value = record { start = 0; end = 0 } }) (omega arith) c.loop-header.invariant (sym c.if-has_name.ensures) in
    sym (ap (option_map (λ (f : FieldText). f.1)) found ∙ ap (λ b. Some b) (sym c.of.ensures))

pub loop-header-preserved : goal.loop-header-preserved
loop-header-preserved c =
    find_on (is_named c.args.name.now) (header_bytes c.args.bytes.now) c.args.headers.now c.loop-header.header-index (record { name = record { start = 0; end = 0 }; value = record { start = 0; end = 0 } }) (omega arith) c.loop-header.invariant (sym c.if-has_name.ensures)
