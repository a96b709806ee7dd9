use Rattle.std.proofs.Common.{◌≡◌, ◌<◌, ◌-◌, ◌∙◌, ap, length, arith, rules, Some, None, true}
use Rattle.std.specs.Prelude.{slice_get}
use Rattle.std.proofs.lemmas.List.{length-set}
use Rattle.poll_match.specs.Window.{Open, with_settled}
use Rattle.poll_match.proofs.Connections.{ring-settled, ring_holds, ring_item, valid-settled}
use Rattle.poll_match.proofs.connection.Connection.settle.Goals as goal
use Rattle.poll_match.proofs.connection.Connection.settle.Goals.{in-Some, in_default}

pub invariant_of-self : goal.invariant_of-self
invariant_of-self c =
    let queries = c.self.inside.queries.items in
    let made = ap (λ (o : Open). o.made) c.self.view_is in
    elim c.match-get_mut.branch [
      | in-Some w ↦
          let place = c.args.number - c.first_number.result in
          let query = w.in-Some.query.now in
          let there : Some query ≡ slice_get queries place = search rules in
          let lt : place < length queries = omega (arith, c.requires.0, c.requires.1, made, c.self.invariant.kept, c.first_number.ensures) in
          rw (w.self-inside-is) (record {
            room = c.self.invariant.room;
            kept = length-set queries place (record { asked = query.asked; settled = true }) ∙ c.self.invariant.kept;
            valid = valid-settled place queries query lt (ring_item queries place query there) c.self.invariant.valid;
          })
      | in_default w ↦ rw (w.self-inside-is) c.self.invariant
    ]

pub returns : goal.returns
returns c =
    let inside = c.self.inside in
    let queries = inside.queries.items in
    let place = c.args.number - c.first_number.result in
    let made = ap (λ (o : Open). o.made) c.self.view_is in
    let lt : place < length queries = omega (arith, c.requires.0, c.requires.1, made, c.self.invariant.kept, c.first_number.ensures) in
    elim c.match-get_mut.branch [
      | in-Some w ↦
          let query = w.in-Some.query.now in
          let there : Some query ≡ slice_get queries place = search rules in
          rw (w.self-inside-is) (
          ring-settled inside.conn inside.line inside.made c.args.number place queries query (ap (λ first. c.args.number - first) c.first_number.ensures) lt (ring_item queries place query there)
          ∙ ap (with_settled c.args.number) c.self.view_is)
      | in_default w ↦
          let there : None ≡ slice_get queries place = search rules in
          absurd (ring_holds queries place lt there)
    ]
