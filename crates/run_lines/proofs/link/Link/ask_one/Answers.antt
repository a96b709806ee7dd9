use Rattle.std.proofs.Common.{◌≡◌, ◌<◌, ℕ, [], Option, length, ap, refl, rules, sym, subst}
use Rattle.std.specs.Prelude.{is_some}
use Rattle.office_net.specs.Querying.{Makes}
use Rattle.run_lines.specs.declared.loss.Loss.TheVariants.{Memory}
use Rattle.run_lines.specs.declared.round.Asked.{Asked}
use Rattle.run_lines.specs.declared.window.Query.{Query as Waiting}
use Rattle.run_lines.specs.Links.{asked_in, slot_of, standing_of, wire_of}
use Rattle.run_lines.specs.Rounds.{number_for, query_of}
use Rattle.run_lines.specs.Wires.{Queries, Sends, Standing, Up, WireMoves, sent}
use Rattle.run_deeds.proofs.Passing.{part_asked}
use Rattle.run_lines.proofs.Wires.{asked_none, shown, shown_lost, wired_missed, wired_query}
use Rattle.run_lines.proofs.link.Link.ask_one.Goals as goal

pub returns-in_err-asked : goal.returns-in_err-asked
returns-in_err-asked g c = λ terms source is. (
  wire_of c.args.self.now,
  wired_missed terms source c.args.office.now c.next.new.office (standing_of c.args.self.now) c.in_err-asked.ensures.made,
  shown c.from_residual.result (wire_of c.args.self.now) (wire_of c.next.new.self) (ap Up c.next.ensures.standing),
)

pub returns-in_default : goal.returns-in_default
returns-in_default g c = λ terms source is. (
  wire_of c.args.self.now,
  part_asked (WireMoves terms) source c.args.office.now c.next.new.office (λ acts. acts ≡ []) (wire_of c.args.self.now)
      (asked_none c.args.self.now.conn (slot_of c.args.self.now.round) (asked_in c.args.self.now) c.args.office.now c.next.new.office _ (ap is_some c.in_default.is) c.in_ok-asked.ensures.made) refl,
  ap Up c.next.ensures.standing,
)

pub returns-in_err-send : goal.returns-in_err-send
returns-in_err-send g c = λ terms source is.
    let at = standing_of c.args.self.now in
    let query = c.in-Some.asked.query in
    let room : length (asked_in c.args.self.now) < c.args.most = search rules in
    let few : length (asked_in c.args.self.now) < terms.most = subst (λ (most : ℕ). length (asked_in c.args.self.now) < most) (sym is) room in
    let asked : Waiting = record { transaction = query.transaction; device = c.in-Some.asked.device; order = c.in-Some.asked.order; sent = c.args.now } in (
      Up (sent query asked at),
      wired_query terms source c.args.office.now c.next.new.office at query c.in-Some.asked.order (Up (sent query asked at)) few (asked, refl, refl, refl)
          (subst (λ (some : Option Asked). Makes (Queries c.args.self.now.conn (slot_of c.args.self.now.round) (asked_in c.args.self.now) (number_for some)) c.args.office.now c.next.new.office (query_of some)) c.in-Some.is c.in_ok-asked.ensures.made),
      shown_lost _ c.from_residual-in_err-send.result Memory (Up (sent query asked at)) (wire_of c.send.new.self) c.from_residual-in_err-send.ensures.1,
    )

pub returns : goal.returns
returns g c = λ terms source is.
    let at = standing_of c.args.self.now in
    let query = c.in-Some.asked.query in
    let room : length (asked_in c.args.self.now) < c.args.most = search rules in
    let few : length (asked_in c.args.self.now) < terms.most = subst (λ (most : ℕ). length (asked_in c.args.self.now) < most) (sym is) room in (
      wire_of c.send.new.self,
      wired_query terms source c.args.office.now c.next.new.office at query c.in-Some.asked.order (wire_of c.send.new.self) few
          (subst (λ (some : Standing). Sends some query c.in-Some.asked.order (wire_of c.send.new.self)) c.next.ensures.standing c.in_ok-send.ensures)
          (subst (λ (some : Option Asked). Makes (Queries c.args.self.now.conn (slot_of c.args.self.now.round) (asked_in c.args.self.now) (number_for some)) c.args.office.now c.next.new.office (query_of some)) c.in-Some.is c.in_ok-asked.ensures.made),
      refl,
    )
