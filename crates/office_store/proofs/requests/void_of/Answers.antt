use Rattle.std.proofs.Common.{◌∙◌}
use Rattle.office_store.proofs.Spoken.{void_coded}
use Rattle.office_store.proofs.requests.void_of.Goals as goal

pub returns : goal.returns
returns c =
    let cut = c.in-Some.ensures.cases in
    let name = c.in-Ok.ensures.cases in
    void_coded c.args.bytes.now c.in-Some.slot.now c.in-Some.name.now c.from_string.result c.from_be_bytes.result cut.0 cut.1 cut.2 name.1 (c.from_string.ensures ∙ c.in_ok-from_str.ensures.ok ∙ name.0) c.from_be_bytes.ensures
