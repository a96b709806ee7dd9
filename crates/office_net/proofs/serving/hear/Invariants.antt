use Rattle.std.proofs.Common.{◌≡◌, ◌<◌, ◌-◌, length}
use Rattle.std.specs.Io.KnownBytes.{Consumes}
use Rattle.mb_mbap.specs.Counted.{ends_of, failures_of, inner_of}
use Rattle.office_http.specs.declared.routes.Routes.TheVariants.{Basic}
use Rattle.office_http.specs.Deciding.{Lacks}
use Rattle.office_http.specs.Exchanges.{bytes_of, routes_of}
use Rattle.office_net.proofs.serving.hear.Given as goal

abbrev pub invariant-pieces : goal.invariant-pieces
invariant-pieces g l = record {
  read : Consumes (g.R.Read.remaining (inner_of l.fn.reader)) (g.R.Read.remaining (inner_of l.reader)) (bytes_of l.exchange);
  routes : routes_of l.exchange ≡ Basic;
  lacks : Lacks (routes_of l.exchange) (bytes_of l.exchange);
  few : length (bytes_of l.exchange) < 270336;
  room : length l.piece ≡ 4096;
  calm : failures_of l.reader ≡ failures_of l.fn.reader;
  going : ends_of l.reader ≡ ends_of l.fn.reader;
}

abbrev pub decreases-pieces : goal.decreases-pieces
decreases-pieces g l = 270336 - length (bytes_of l.exchange)
