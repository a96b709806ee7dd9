use Rattle.std.proofs.Common.{arith, length-take, refl, subst}
use Rattle.office_http.specs.declared.asked.Asked.{Asked}
use Rattle.office_http.specs.declared.asked.Asked.TheVariants.{Known}
use Rattle.office_http.specs.Awaiting.{Asks, asked_with}
use Rattle.office_http.specs.Heard.{meaning_of}
use Rattle.office_http.proofs.Reading.{asks_headed, asks_in, decided_full, decided_refused, decides_known, front_whole_or_full, headless, headless_over}
use Rattle.office_http.proofs.verdict.verdict_of.Goals as goal

pub returns-in-Known : goal.returns-in-Known
returns-in-Known c =
    let bytes = c.args.bytes.now in
    let spans = c.in-Whole.spans in
    let n = c.min.ensures in
    let asks = asks_in c.args.routes bytes c.min.result c.judge_head.new.headers spans _ (omega (arith, n)) (omega (arith, c.judge_head.array_long)) c.in-Whole.ensures.0 c.in-Whole.ensures.1
    c.in_ok-heard-in-Whole.ensures in
    let known = subst (λ (asked : Asked). Asks c.args.routes bytes spans.len (asked_with asked)) c.in-Known.is asks in
    (decides_known c.args.routes bytes spans.len (asked_with (Known c.in-Known.heard)) (meaning_of c.in-Known.heard) (λ rest. refl) known, asks_headed c.args.routes bytes spans.len _ known)

pub returns-in-Awaits : goal.returns-in-Awaits
returns-in-Awaits c =
    let bytes = c.args.bytes.now in
    let spans = c.in-Whole.spans in
    let n = c.min.ensures in
    let fits = c.in-Whole.ensures.1.section.len_fits in
    let asks = asks_in c.args.routes bytes c.min.result c.judge_head.new.headers spans _ (omega (arith, n)) (omega (arith, c.judge_head.array_long)) c.in-Whole.ensures.0 c.in-Whole.ensures.1
    c.in_ok-heard-in-Whole.ensures in
    (omega (arith, fits, n, length-take c.min.result bytes), subst (λ (asked : Asked). Asks c.args.routes bytes spans.len (asked_with asked)) c.in-Awaits.is asks)

pub returns-then-bytes-lt-MOST_HEAD : goal.returns-then-bytes-lt-MOST_HEAD
returns-then-bytes-lt-MOST_HEAD c =
    let bytes = c.args.bytes.now in
    let few = c.if-bytes-lt-MOST_HEAD.true in
    (omega (arith, few), headless bytes c.min.result (front_whole_or_full bytes c.min.result c.min.ensures) c.in-Partial.ensures)

pub returns-else-bytes-lt-MOST_HEAD : goal.returns-else-bytes-lt-MOST_HEAD
returns-else-bytes-lt-MOST_HEAD c =
    let bytes = c.args.bytes.now in
    let n = c.min.ensures in
    let many = c.if-bytes-lt-MOST_HEAD.false in (
      decided_full c.args.routes bytes c.min.result c.requires (omega (arith, n, many, length-take c.min.result bytes)) c.in-Partial.ensures,
      headless bytes c.min.result (front_whole_or_full bytes c.min.result c.min.ensures) c.in-Partial.ensures,
    )

pub returns-in-Refused : goal.returns-in-Refused
returns-in-Refused c =
    (decided_refused c.args.routes c.args.bytes.now c.min.result c.requires c.in-Refused.ensures, headless_over c.args.bytes.now c.min.result c.in-Refused.ensures)
