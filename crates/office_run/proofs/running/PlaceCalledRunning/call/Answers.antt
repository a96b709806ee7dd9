use Rattle.std.proofs.Common.{◌≡◌, [], ℕ, ◌∙◌, ap, refl, sym, subst}
use Rattle.run_beat.specs.declared.sockets.Source.TheVariants as source
use Rattle.run_callers.specs.Callers.{at_of, session_at}
use Rattle.run_callers.specs.Sessions.{Acting, Exchanges, Moves, Session}
use Rattle.run_deeds.proofs.Passing.{part_acting, part_asked, part_then, then_office}
use Rattle.office_run.proofs.running.PlaceCalledRunning.call.Goals as goal

pub returns : goal.returns
returns g c =
    let at = at_of c.args.self.now in
    let here = source.Caller at in
    let office = c.args.world.now.office.now in
    let old = c.args.world.now.sockets.now in
    let roomy = c.make_room.new.self.sockets.now in
    let turned = c.turn-is_more.new.sockets in
    let before = session_at c.args.self.now in
    let between = session_at c.make_room.new.place in
    let after = session_at c.turn-is_more.new.self in
    let same_at = c.make_room.ensures.at ∙ c.admit.ensures.place.0 in
    let same_office = c.make_room.ensures.office ∙ c.admit.ensures.same.0 in
    let room : Acting here (λ acts. g.S.Sockets.acts old acts roomy) before between =
    subst (λ (session : Session). Acting here (λ acts. g.S.Sockets.acts old acts roomy) session between) c.admit.ensures.place.1
    (subst (λ sockets. Acting here (λ acts. g.S.Sockets.acts sockets.now acts roomy) (session_at c.admit.new.place) between) c.admit.ensures.same.1
    (subst (λ (place : ℕ). Acting (source.Caller place) (λ acts. g.S.Sockets.acts c.admit.new.self.sockets.now acts roomy) (session_at c.admit.new.place) between) c.admit.ensures.place.0
    c.make_room.ensures.acts)) in
    let turn : Exchanges here office c.turn-is_more.new.office (λ acts. g.S.Sockets.acts roomy acts turned) between after =
    subst (λ some. Exchanges here some.now c.turn-is_more.new.office (λ acts. g.S.Sockets.acts roomy acts turned) between after) same_office
    (subst (λ (place : ℕ). Exchanges (source.Caller place) c.make_room.new.self.office.now c.turn-is_more.new.office (λ acts. g.S.Sockets.acts roomy acts turned) between after) same_at
    c.turn-is_more.ensures.goes) in
    let went = part_then Moves here office office c.turn-is_more.new.office (λ acts. g.S.Sockets.acts old acts roomy) (λ acts. g.S.Sockets.acts roomy acts turned) (λ acts. g.S.Sockets.acts old acts turned)
    before between after (g.S.Sockets.joins old roomy turned) (part_acting Moves here office (λ acts. g.S.Sockets.acts old acts roomy) before between room) turn in
    let noted = then_office Moves here office c.turn-is_more.new.office c.note_place.new.self.office.now (λ acts. g.S.Sockets.acts old acts turned) before after after went
    (part_asked Moves here c.turn-is_more.new.office c.note_place.new.self.office.now (λ acts. acts ≡ []) after c.note_place.ensures.along.1 refl) in (
      c.note_place.ensures.along.0 ∙ ap (λ some. some.ghost_name) same_office,
      ap (λ some. some.ghost_name) c.note_place.ensures.sockets ∙ c.make_room.ensures.name ∙ ap (λ some. some.ghost_name) c.admit.ensures.same.1,
      c.note_place.ensures.place.0 ∙ c.turn-is_more.ensures.at ∙ same_at,
      subst (λ (session : Session). Exchanges here office c.note_place.new.self.office.now (λ acts. g.S.Sockets.acts old acts c.note_place.new.self.sockets.now) before session) (sym c.note_place.ensures.place.1)
          (subst (λ sockets. Exchanges here office c.note_place.new.self.office.now (λ acts. g.S.Sockets.acts old acts sockets.now) before after) (sym c.note_place.ensures.sockets) noted),
    )
