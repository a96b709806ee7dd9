use Rattle.std.proofs.Common.{◌++◌, ap, ap₂, ◌∙◌}
use Rattle.std.specs.Int.{w128, to_be_bytes, cast_unsigned}
use Rattle.std.proofs.lemmas.Int.{to_z-of_z}
use Rattle.office_store.proofs.Spoken.{order_written}
use Rattle.office_store.proofs.write_requests.order_bytes.Goals as goal

pub returns : goal.returns
returns c =
    let first = c.in_ok-bytes.ensures.items ∙ c.to_be_bytes.ensures ∙ ap (λ z. to_be_bytes w128 (cast_unsigned w128 z)) (to_z-of_z w128 c.args.value c.ranges.value) in
    let whole = c.in_ok-extend_from_slice.ensures.items ∙ ap₂ (λ bytes name. bytes ++ name) first c.as_bytes.ensures.value in
    order_written c.extend_from_slice.new.self.items c.args.point.now c.args.value c.ranges.value c.utf8.point whole
