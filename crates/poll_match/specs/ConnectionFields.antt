-- How a connection is kept: with its last queries, in a ring.
use Rattle.std.specs.Prelude.{◌≡◌, min, true, length}
use Rattle.std.specs.List.{list_all}
use Rattle.poll_match.specs.declared.asked.Matched.{Matched}
use Rattle.poll_match.specs.declared.connection.Connection.TheInside.{Inside}
use Rattle.poll_match.specs.declared.connection.TheConstants.{KEPT}
use Rattle.poll_match.specs.Queries.{is_valid}
use Rattle.poll_match.specs.Window.{Open}

abbrev pub connection_view : Inside → Open
connection_view c = record { number = c.conn; line = c.line; made = c.made; last = c.queries.items }

-- the ring holds the last queries, and each was valid
pub record IsConnection (c : Inside) : Type 0 where
  pub room : c.queries.capacity ≡ KEPT
  pub kept : length c.queries.items ≡ min c.made KEPT
  pub valid : list_all (λ (query : Matched). is_valid query.asked) c.queries.items ≡ true
