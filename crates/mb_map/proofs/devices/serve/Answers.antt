use Rattle.std.proofs.Common.{◌∙◌, ℕ, refl, ap}
use Rattle.mb_map.specs.Schedule.{with_tables}
use Rattle.mb_map.proofs.Serving.{found, not_found, set_tables}
use Rattle.mb_map.proofs.devices.serve.Goals as goal
use Rattle.mb_map.proofs.devices.serve.Goals.{in-Some, in-None}

pub returns-clause-serves : goal.returns-clause-serves
returns-clause-serves c = (
  refl,
  refl,
  elim c.match-place_of.branch [
    | in-Some w ↦
        let devices = c.args.devices.now in
        let id = c.args.frame.now.unit_id in
        let place = w.in-Some.place in
        let d = w.index-devices-place.result in
        let here = w.in-Some.ensures.found d in
        rw (found devices place id d c.requires w.in-Some.ensures.place here, w.devices-is, w.unit-is) (
          w.reply-unit.new.self,
          w.reply-unit.ensures,
          set_tables devices place w.reply-unit.new.self d c.requires w.in-Some.ensures.place ∙ ap (λ (n : ℕ). with_tables n w.reply-unit.new.self devices) here,
        )
    | in-None w ↦ rw (not_found c.args.devices.now c.args.frame.now.unit_id w.in-None.ensures.none) (w.unit-is ∙ w.exception-unit.ensures, w.devices-is)
  ],
)
