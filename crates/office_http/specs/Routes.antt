-- The routes, as matchit keeps them.
use Rattle.std.specs.Prelude.{ℕ, List, [], codes, Option, Some, None, Result, Ok, Err}
use Rattle.matchit.specs.Rows.{RowsOf}
use Rattle.matchit.specs.Route.{Scan, parse_route}
use Rattle.matchit.specs.Order.{placed}
use Rattle.matchit.specs.Router.{RouteOf, route_from}
use Rattle.matchit.specs.Seek.{first}
use Rattle.matchit.specs.declared.error.InsertError.{InsertError}
use Rattle.office_http.specs.declared.heard.Page.TheVariants.{Points, Metrics, Office}
use Rattle.office_http.specs.declared.routes.Route.{Route}
use Rattle.office_http.specs.declared.routes.Route.TheVariants.{Orders, Lists, Voids, Readings, Total, Report, Page, Device}
use Rattle.office_http.specs.declared.routes.Routes.{Routes}
use Rattle.office_http.specs.declared.routes.Routes.TheVariants.{Basic, Extended}

abbrev pub with_scan : Result Scan InsertError → Route → RowsOf (RouteOf Route) → RowsOf (RouteOf Route)
with_scan (Ok s) route rows = placed (s.pattern, route_from s route) rows
with_scan (Err e) route rows = rows

-- the rows with one route more
abbrev pub with_route : List ℕ → Route → RowsOf (RouteOf Route) → RowsOf (RouteOf Route)
with_route text route rows = with_scan (parse_route text) route rows

-- these rows with the routes of callers
abbrev pub caller_routes : RowsOf (RouteOf Route) → RowsOf (RouteOf Route)
caller_routes rows =
    with_route (codes "/callers/{caller}/voids/{key}") Voids
    (with_route (codes "/callers/{caller}/lists/{key}") Lists (with_route (codes "/callers/{caller}/orders/{key}") Orders rows))

-- and with those of points
abbrev pub point_routes : RowsOf (RouteOf Route) → RowsOf (RouteOf Route)
point_routes rows = with_route (codes "/points/{point}/total") Total (with_route (codes "/points/{point}/readings/{from}/{to}") Readings rows)

abbrev pub basic_routes : RowsOf (RouteOf Route)
basic_routes = point_routes (caller_routes [])

-- these rows with the routes of what is shown piece by piece
abbrev pub page_routes : RowsOf (RouteOf Route) → RowsOf (RouteOf Route)
page_routes rows =
    with_route (codes "/") (Page Office) (with_route (codes "/metrics") (Page Metrics) (with_route (codes "/points") (Page Points) rows))

-- the routes that are offered
abbrev pub the_routes : Routes → RowsOf (RouteOf Route)
the_routes Basic = basic_routes
the_routes Extended = with_route (codes "/devices/{place}") Device (page_routes (with_route (codes "/points/{point}/report/{from}/{to}") Report basic_routes))

abbrev pub value_of : Option (RouteOf Route) → Option Route
value_of (Some r) = Some r.value
value_of None = None

-- the route that matchit gives for a target among these
abbrev pub route_of : Routes → List ℕ → Option Route
route_of routes target = value_of (first (the_routes routes) target)
