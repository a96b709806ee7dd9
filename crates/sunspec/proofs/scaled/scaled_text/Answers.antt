use Rattle.std.proofs.Common.{rules}
use Rattle.std.specs.Int.{w32, w128}
use Rattle.std.proofs.lemmas.Int.{to_z-of_z}
use Rattle.sunspec.specs.Text.{IsScale}
use Rattle.sunspec.proofs.ScaledTexts.{scaled_places, signed_small}
use Rattle.sunspec.proofs.scaled.scaled_text.Goals as goal

pub returns-clause-places : goal.returns-clause-places
returns-clause-places c =
    let number = to_z-of_z w128 c.args.number c.ranges.number in
    let scale = to_z-of_z w32 c.args.scale c.ranges.scale in
    let within : IsScale c.args.scale = search rules in
    rw (c.in_ok-text_at.ensures, number, scale) (scaled_places c.args.number c.args.scale within (signed_small c.args.number c.ranges.number))
