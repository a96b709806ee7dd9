use Rattle.std.proofs.Common.{◌∙◌, ap, ◌==◌}
use Rattle.std.specs.List.{find}
use Rattle.sunspec.specs.declared.chain.Model.{Model}
use Rattle.point_list.proofs.Placing.{room_if}
use Rattle.point_list.proofs.resolving.model_at.Goals as goal

pub returns-clause-room : goal.returns-clause-room
returns-clause-room c =
    room_if c.args.site.now c.args.device.now c.args.id c.in-Some.device.now c.model_of_id.result c.requires c.in-Some.ensures
    (c.model_of_id.ensures ∙ ap (find (λ (model : Model). model.id == c.args.id)) c.as_slice.ensures)
