use Rattle.std.proofs.Common.{◌∙◌, ◌++◌, ap}
use Rattle.std.specs.Prelude.{flat_map}
use Rattle.office_script.specs.Printing.{spaced_byte}
use Rattle.office_script.proofs.Parts.{then}
use Rattle.office_script.proofs.printing.push_query.Goals as goal

pub returns : goal.returns
returns c =
    then c.args.out.now.items c.extend_from_slice.new.self.items c.push.new.self.items _ _ c.in_ok-extend_from_slice.ensures.items
    (then c.extend_from_slice.new.self.items c.push_bytes.new.out.items c.push.new.self.items _ _ (c.in_ok-push_bytes.ensures ∙ ap (λ bytes. c.extend_from_slice.new.self.items ++ flat_map spaced_byte bytes) (c.as_bytes.ensures.value ∙ c.encode.ensures)) c.in_ok-push.ensures.items)
