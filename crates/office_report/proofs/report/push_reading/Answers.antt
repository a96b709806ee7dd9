use Rattle.std.proofs.Common.{◌≡◌, ◌++◌, ◌∷◌, [], ap, ◌∙◌, subst}
use Rattle.std.specs.Prelude.{OnOk, option_map, string_bytes, unwrap_or}
use Rattle.std.specs.Fmt.{styled_decimal}
use Rattle.poll_book.specs.Showing.{as_shown}
use Rattle.office_report.proofs.Lines.{line_of, slot_in_ten}
use Rattle.office_report.proofs.report.push_reading.Goals as goal

pub returns-in-Some : goal.returns-in-Some
returns-in-Some c = λ form are.
    subst (λ line. OnOk c.writeln.result (string_bytes c.writeln.new.self ≡ string_bytes c.args.report.now ++ line))
    (line_of c.args.point.now (as_shown c.args.shown.now) _ c.as_slice.result.now (option_map string_bytes c.in_ok-text.field-0) (string_bytes c.in-Some.text) c.mark-mark.result.now
    (ap (λ l. styled_decimal l c.args.shown.now.reading.slot) c.laid_out.ensures ∙ slot_in_ten c.args.shown.now.reading.slot) c.as_slice.ensures.value (c.in_ok-text.ensures form) are (ap (λ o. unwrap_or (option_map string_bytes o) (45 ∷ [])) c.in-Some.is) c.mark-mark.ensures)
    c.writeln.ensures.bytes

pub returns-in-None : goal.returns-in-None
returns-in-None c = λ form are.
    subst (λ line. OnOk c.writeln-in-None.result (string_bytes c.writeln-in-None.new.self ≡ string_bytes c.args.report.now ++ line))
    (line_of c.args.point.now (as_shown c.args.shown.now) _ c.as_slice.result.now (option_map string_bytes c.in_ok-text.field-0) (45 ∷ []) c.mark-mark.result.now
    (ap (λ l. styled_decimal l c.args.shown.now.reading.slot) c.laid_out-in-None.ensures ∙ slot_in_ten c.args.shown.now.reading.slot) c.as_slice.ensures.value (c.in_ok-text.ensures form) are (ap (λ o. unwrap_or (option_map string_bytes o) (45 ∷ [])) c.in-None.is) c.mark-mark.ensures)
    c.writeln-in-None.ensures.bytes
