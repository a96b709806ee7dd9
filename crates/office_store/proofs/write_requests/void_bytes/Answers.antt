use Rattle.std.proofs.Common.{◌++◌, ap₂, ◌∙◌}
use Rattle.office_store.proofs.Spoken.{void_written}
use Rattle.office_store.proofs.write_requests.void_bytes.Goals as goal

pub returns : goal.returns
returns c =
    let first = c.in_ok-bytes.ensures.items ∙ c.to_be_bytes.ensures in
    let whole = c.in_ok-extend_from_slice.ensures.items ∙ ap₂ (λ bytes name. bytes ++ name) first c.as_bytes.ensures.value in
    void_written c.extend_from_slice.new.self.items c.args.point.now c.args.slot c.ranges.slot.fits c.utf8.point whole
