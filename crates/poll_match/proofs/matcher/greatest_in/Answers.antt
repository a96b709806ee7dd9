use Rattle.std.proofs.Common.{◌≡◌, ◌∙◌, arith, rules}
use Rattle.poll_match.specs.Window.{greater}
use Rattle.poll_match.proofs.Greatest.{greatest_more}
use Rattle.poll_match.proofs.matcher.greatest_in.Goals as goal

pub loop-connection-preserved : goal.loop-connection-preserved
loop-connection-preserved c =
    let number : c.number.result ≡ c.connection-item.result.number = search rules in
    c.greater-greatest.ensures ∙ (λ i. greater (c.loop-connection.invariant i) (number i))
    ∙ greatest_more c.args.connections.now c.loop-connection.connection-index c.connection-item.result (omega arith) c.connection-item.is
