-- The bytes of a connection so far.
use Rattle.std.specs.Prelude.{ℕ, List}
use Rattle.office_http.specs.declared.routes.Routes.{Routes}

-- what contracts see of an exchange: the routes that it offers, and what came
pub record Arrived : Type 0 where
  pub routes : Routes
  pub bytes : List ℕ

abbrev pub routes_of : Arrived → Routes
routes_of arrived = arrived.routes

abbrev pub bytes_of : Arrived → List ℕ
bytes_of arrived = arrived.bytes
