use Rattle.std.proofs.Common.{◌∙◌, arith}
use Rattle.point_list.proofs.RecordsRead.{IsPart, part_closed, part_doubled, part_open, part_shorter}
use Rattle.point_list.proofs.records.read_inside.Goals as goal

pub returns-in_default-clause-same : goal.returns-in_default-clause-same
returns-in_default-clause-same c = λ fields.
    let part : IsPart c.parts.rest.now c.split_quoted.result.0.now c.split_quoted.result.1.now = record { first = c.split_quoted.ensures.part; rest = c.split_quoted.ensures.rest } in
    c.parts.invariant.same fields ∙ rw c.in_ok-extend_from_slice.ensures.items (part_open fields c.parts.quoted.items _ _ _ part c.in_default.ensures.rest)

pub returns-in_default-behind-clause-same : goal.returns-in_default-behind-clause-same
returns-in_default-behind-clause-same c = λ fields.
    let part : IsPart c.parts.rest.now c.split_quoted.result.0.now c.split_quoted.result.1.now = record { first = c.split_quoted.ensures.part; rest = c.split_quoted.ensures.rest } in
    c.parts.invariant.same fields
    ∙ rw c.in_ok-extend_from_slice.ensures.items (part_closed fields c.parts.quoted.items _ _ _ _ part c.in-Some.ensures.rest c.in_default-behind.ensures.rest)

pub parts-preserved : goal.parts-preserved
parts-preserved c =
    let part : IsPart c.parts.rest.now c.split_quoted.result.0.now c.split_quoted.result.1.now = record { first = c.split_quoted.ensures.part; rest = c.split_quoted.ensures.rest } in
    record {
      same = λ fields. c.parts.invariant.same fields
          ∙ rw (c.in_ok-push.ensures.items, c.in_ok-extend_from_slice.ensures.items)
          (part_doubled fields c.parts.quoted.items _ _ _ _ _ part c.in-Some.ensures.rest c.in-Some-behind.ensures.rest);
      short = omega (arith, part_shorter _ _ _ part, c.in-Some.ensures.short, c.in-Some-behind.ensures.short, c.parts.invariant.short);
    }
