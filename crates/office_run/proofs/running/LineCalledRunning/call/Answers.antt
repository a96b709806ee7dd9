use Rattle.std.proofs.Common.{◌≡◌, [], ◌∙◌, ap, refl, sym, subst}
use Rattle.run_beat.specs.declared.sockets.Source.TheVariants as source
use Rattle.run_lines.specs.Lines.{place_of, state_at, terms_of}
use Rattle.run_lines.specs.Wires.{LineMoves, Lined, State}
use Rattle.run_lines.proofs.Lines.{keeps_state, lined_at, one_of, one_then, same_then, terms_same}
use Rattle.run_deeds.proofs.Passing.{part_asked, part_still, part_then, then_office}
use Rattle.office_run.proofs.running.LineCalledRunning.call.Goals as goal

pub returns : goal.returns
returns g c =
    let line = c.args.self.now in
    let name = terms_of line in
    let here = source.Line (place_of line) in
    let office = c.args.world.now.office.now in
    let old = c.args.world.now.sockets.now in
    let looked = c.look_up.new.self.sockets.now in
    let turned = c.turn-turned.new.sockets in
    let between = c.look_up.new.line in
    let after = c.turn-turned.new.self in
    let same_office = c.look_up.ensures.office ∙ c.admit_line.ensures.same.0 in
    let same = same_then line c.admit_line.new.line between c.admit_line.ensures.line.0 c.look_up.ensures.line.0 in
    let look : g.S.Sockets.acts old [] looked = subst (λ sockets. g.S.Sockets.acts sockets.now [] looked) c.admit_line.ensures.same.1 c.look_up.ensures.acts in
    let turn : Lined name here office c.turn-turned.new.office (λ acts. g.S.Sockets.acts looked acts turned) (state_at line) (state_at after) =
    subst (λ some. Lined name here some.now c.turn-turned.new.office (λ acts. g.S.Sockets.acts looked acts turned) (state_at line) (state_at after)) same_office
    (subst (λ (state : State). Lined name here c.look_up.new.self.office.now c.turn-turned.new.office (λ acts. g.S.Sockets.acts looked acts turned) state (state_at after))
    (keeps_state line between same (c.look_up.ensures.line.1 ∙ c.admit_line.ensures.line.1))
    (lined_at line between c.look_up.new.self.office.now c.turn-turned.new.office (λ acts. g.S.Sockets.acts looked acts turned) (state_at between) (state_at after) (one_of line between same) c.turn-turned.ensures.lined)) in
    let went = part_then (LineMoves name) here office office c.turn-turned.new.office (λ acts. g.S.Sockets.acts old acts looked) (λ acts. g.S.Sockets.acts looked acts turned) (λ acts. g.S.Sockets.acts old acts turned)
    (state_at line) (state_at line) (state_at after) (g.S.Sockets.joins old looked turned) (part_still (LineMoves name) here office (λ acts. g.S.Sockets.acts old acts looked) (state_at line) look) turn in
    let noted = then_office (LineMoves name) here office c.turn-turned.new.office c.note_line.new.self.office.now (λ acts. g.S.Sockets.acts old acts turned) (state_at line) (state_at after) (state_at after) went
    (part_asked (LineMoves name) here c.turn-turned.new.office c.note_line.new.self.office.now (λ acts. acts ≡ []) (state_at after) c.note_line.ensures.along.1 refl) in
    let all = one_then line between after (one_of line between same) (record { place = c.turn-turned.ensures.one.place; name = c.turn-turned.ensures.one.name; most = c.turn-turned.ensures.one.most }) in (
      c.note_line.ensures.along.0 ∙ ap (λ some. some.ghost_name) same_office,
      ap (λ some. some.ghost_name) c.note_line.ensures.sockets ∙ c.look_up.ensures.name ∙ ap (λ some. some.ghost_name) c.admit_line.ensures.same.1,
      all.place,
      terms_same line after all,
      subst (λ sockets. Lined name here office c.note_line.new.self.office.now (λ acts. g.S.Sockets.acts old acts sockets.now) (state_at line) (state_at after)) (sym c.note_line.ensures.sockets) noted,
    )
