use Rattle.std.proofs.Common.{◌≡◌, ◌∙◌, ◌<◌, ◌≤◌, ◌-◌, length, drop, take, not, arith, sym, ap}
use Rattle.std.proofs.lemmas.List.{drop_all, length-drop, take_all}
use Rattle.std.proofs.lemmas.List.Quantifiers.{position-Some}
use Rattle.point_list.specs.Records.{ends_record}
use Rattle.point_list.proofs.RecordsRead.{begun, begun_at, found_at, found_nowhere, starts}
use Rattle.point_list.proofs.records.next_start.Goals as goal

pub returns-in-Some-clause-same : goal.returns-in-Some-clause-same
returns-in-Some-clause-same c =
    let text = c.args.text.now in
    let n = c.in-Some.at in
    let found = sym c.in-Some.ensures in
    let at = found_at (λ byte. not (ends_record byte)) text n found in
    let (low, is, first) = position-Some (λ byte. not (ends_record byte)) text n 0 found in
    let left = length-drop n text in
    let long : 0 < length (drop n text) = omega arith in
    let short : length (drop n text) ≤ length text - n = omega arith in
    let whole : take (length text - n) (drop n text) ≡ drop n text = take_all (length text - n) (drop n text) short in
    rw whole (starts text ∙ ap (λ k. begun (drop k text)) at ∙ begun_at (drop n text) long)

pub returns-in-None-clause-same : goal.returns-in-None-clause-same
returns-in-None-clause-same c =
    let text = c.args.text.now in
    let at = found_nowhere (λ byte. not (ends_record byte)) text (sym c.in-None.ensures) in
    starts text ∙ ap (λ k. begun (drop k text)) at ∙ ap begun (drop_all (length text) text (omega arith))
