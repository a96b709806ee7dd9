use Rattle.std.proofs.Common.{◌≡◌, map, take}
use Rattle.serde_json.specs.View.{view}
use Rattle.office_http.specs.Answers.{reading_data}
use Rattle.office_http.specs.Shown.{shown}
use Rattle.office_http.proofs.reading_body.items_of.Given as goal

abbrev pub invariant-loop-reading : goal.invariant-loop-reading
invariant-loop-reading l = map view l.items.items ≡ map (λ r. reading_data (shown r)) (take l.reading-index l.readings)
