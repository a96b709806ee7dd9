use Rattle.std.proofs.Common.{◌≤◌, List, length, ap, sym, subst}
use Rattle.run_callers.specs.Callers.{at_of, session_at}
use Rattle.run_deeds.specs.Deeds.{GoesBy}
use Rattle.run_lines.specs.Lines.{place_of, state_at, terms_of}
use Rattle.office_run.specs.Beginnings.{AreDown, AreEmpty, all_terms}
use Rattle.office_run.specs.Parts.{AreServed, AreWired}
use Rattle.run_lines.specs.declared.line.Line.{Line}
use Rattle.run_callers.specs.declared.place.Place.{Place}
use Rattle.office_run.specs.declared.running.Running.{Running}
use Rattle.office_run.proofs.Beginning.{from_nothing, numbered_down, numbered_empty}
use Rattle.office_run.proofs.Staying.{turns_fail, turns_go}
use Rattle.office_run.proofs.running.stay.Goals as goal

pub returns : goal.returns
returns g c =
    let ran = c.in_ok-run.ensures in
    let lines = c.deref_mut.result.now in
    let places = c.deref_mut-2.result.now in
    let down : AreDown 0 lines = subst (λ (some : List Line). AreDown 0 some) (sym c.deref_mut.ensures.value) c.requires.lines in
    let empty : AreEmpty 0 places = subst (λ (some : List Place). AreEmpty 0 some) (sym c.deref_mut-2.ensures.value) c.requires.places in
    let few : length places ≤ 64 = subst (λ (some : List Place). length some ≤ 64) (sym c.deref_mut-2.ensures.value) c.requires.few in
    let went = turns_go {W = Running g.row.K.Denot g.row.S.Denot g.K.Neighbours} (λ world. world.office.now) (λ world. world.sockets.now) (λ world. world.office.ghost_name) (λ world. world.sockets.ghost_name)
    g.S.Sockets.acts g.S.Sockets.rests g.S.Sockets.joins place_of terms_of state_at at_of session_at _ _ _
    (λ line one more line' two step. step) (λ place one more place' two step. step)
    (λ one more result two waited. (ap (λ office. office.ghost_name) waited.0, waited.1, ap (λ office. office.now) waited.0, waited.2))
    ran.0 lines places _ _ _ _ ran.1.0 (numbered_down 0 lines down, numbered_empty 0 places empty) in (
      went.1,
      went.2,
      subst (λ (some : List Line). GoesBy c.args.world.now.office.now c.run.new.world.office.now (λ acts. g.S.Sockets.acts c.args.world.now.sockets.now acts c.run.new.world.sockets.now)
          (λ now deeds. AreWired (all_terms some) now deeds × AreServed now deeds)) c.deref_mut.ensures.value
          (from_nothing c.args.world.now.office.now c.run.new.world.office.now (λ acts. g.S.Sockets.acts c.args.world.now.sockets.now acts c.run.new.world.sockets.now) lines c.run.new.lines
          places c.run.new.callers down empty few went.3),
    )

pub returns-in_err-run : goal.returns-in_err-run
returns-in_err-run g c =
    let ran = c.in_err-run.ensures in
    let lines = c.deref_mut.result.now in
    let places = c.deref_mut-2.result.now in
    let down : AreDown 0 lines = subst (λ (some : List Line). AreDown 0 some) (sym c.deref_mut.ensures.value) c.requires.lines in
    let empty : AreEmpty 0 places = subst (λ (some : List Place). AreEmpty 0 some) (sym c.deref_mut-2.ensures.value) c.requires.places in
    let few : length places ≤ 64 = subst (λ (some : List Place). length some ≤ 64) (sym c.deref_mut-2.ensures.value) c.requires.few in
    let went = turns_fail {W = Running g.row.K.Denot g.row.S.Denot g.K.Neighbours} (λ world. world.office.now) (λ world. world.sockets.now) (λ world. world.office.ghost_name) (λ world. world.sockets.ghost_name)
    g.S.Sockets.acts g.S.Sockets.rests g.S.Sockets.joins place_of terms_of state_at at_of session_at _ _ _
    (λ line one more line' two step. step) (λ place one more place' two step. step)
    (λ one more result two waited. (ap (λ office. office.ghost_name) waited.0, waited.1, ap (λ office. office.now) waited.0, waited.2))
    ran.0 lines _ _ places _ _ _ _ _ _ ran.1.3 ran.1.4 (numbered_down 0 lines down, numbered_empty 0 places empty) in (
      went.1,
      went.2,
      subst (λ (some : List Line). GoesBy c.args.world.now.office.now c.run.new.world.office.now (λ acts. g.S.Sockets.acts c.args.world.now.sockets.now acts c.run.new.world.sockets.now)
          (λ now deeds. AreWired (all_terms some) now deeds × AreServed now deeds)) c.deref_mut.ensures.value
          (from_nothing c.args.world.now.office.now c.run.new.world.office.now (λ acts. g.S.Sockets.acts c.args.world.now.sockets.now acts c.run.new.world.sockets.now) lines c.run.new.lines
          places c.run.new.callers down empty few went.3),
    )
