use Rattle.std.proofs.Common.{Option, sym, subst}
use Rattle.std.specs.Prelude.{MatchResult}
use Rattle.office_net.specs.Querying.{Makes, Misses}
use Rattle.run_lines.specs.declared.round.Asked.{Asked}
use Rattle.run_lines.specs.declared.round.Round.{Round}
use Rattle.run_lines.specs.Links.{asked_in, slot_of}
use Rattle.run_lines.specs.Rounds.{number_for, query_of}
use Rattle.run_lines.specs.Wires.{Queries, SomeQuery}
use Rattle.run_lines.proofs.link.Link.next.Goals as goal

pub returns-in-Some-clause-made : goal.returns-in-Some-clause-made
returns-in-Some-clause-made g c =
    subst (λ (round : Option Round). MatchResult c.next.result
    (λ (asked : Option Asked). Makes (Queries c.args.self.now.conn (slot_of round) (asked_in c.args.self.now) (number_for asked)) c.args.office.now c.next.new.office (query_of asked))
    (λ _. Misses (SomeQuery c.args.self.now.conn (slot_of round) (asked_in c.args.self.now)) c.args.office.now c.next.new.office)) (sym c.in-Some.is) c.next.ensures.made
