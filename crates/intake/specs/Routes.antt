-- The routes, and the route of a path with its parts, as `matchit` defines them.
use Rattle.std.specs.Prelude.{ℕ, List, [], if◌then◌else◌, Option, Some, None, Result, Ok, Err, codes, unwrap_or}
use Rattle.std.specs.Str.{is_utf8}
use Rattle.matchit.specs.Rows.{RowsOf}
use Rattle.matchit.specs.Router.{RouteOf, route_from}
use Rattle.matchit.specs.Route.{Scan, parse_route}
use Rattle.matchit.specs.Order.{placed}
use Rattle.matchit.specs.Seek.{first}
use Rattle.matchit.specs.Params.{walk, named}
use Rattle.matchit.specs.declared.error.InsertError.{InsertError}
use Rattle.definitions.specs.Response.{Route, ToExchange, ToStock, ToOutbox, ToContent, Nowhere}
use Rattle.intake.specs.declared.routes.RouteKind.{RouteKind}
use Rattle.intake.specs.declared.routes.RouteKind.TheVariants.{Exchange, Stock, Outbox, Content}
use Rattle.intake.specs.declared.routes.Route.{Route as Found}
use Rattle.intake.specs.declared.routes.Route.TheVariants as found

-- the rows with one more route, which is read from its text
abbrev pub with_route : List ℕ → RouteKind → RowsOf (RouteOf RouteKind) → RowsOf (RouteOf RouteKind)
with_route text value rows = by_scan (parse_route text)
  where
    by_scan : Result Scan InsertError → RowsOf (RouteOf RouteKind)
    by_scan (Ok s) = placed (s.pattern, route_from s value) rows
    by_scan (Err e) = rows

abbrev pub table : RowsOf (RouteOf RouteKind)
table =
    with_route (codes "/outbox/{who}/{n}") Content
    (with_route (codes "/outbox/{who}") Outbox
    (with_route (codes "/stock/{who}") Stock
    (with_route (codes "/x12") Exchange [])))

-- the part of the path that a name took
abbrev pub part : List ℕ → List (List ℕ × List ℕ) → List ℕ
part name parts = unwrap_or (named name parts) []

abbrev pub route_by : RouteKind → List (List ℕ × List ℕ) → Route
route_by Exchange parts = ToExchange
route_by Stock parts = ToStock (part (codes "who") parts)
route_by Outbox parts = ToOutbox (part (codes "who") parts)
route_by Content parts = ToContent (part (codes "who") parts) (part (codes "n") parts)

abbrev pub route_by_row : List ℕ → Option (RouteOf RouteKind) → Route
route_by_row path None = Nowhere
route_by_row path (Some r) = route_by r.value (walk r.pattern r.text path r.names 0 0)

-- a path that isn't UTF-8 has no route
abbrev pub route_of : List ℕ → Route
route_of path = if is_utf8 path then route_by_row path (first table path) else Nowhere

abbrev pub seen_route : Found → Route
seen_route found.Exchange = ToExchange
seen_route (found.Stock who) = ToStock who.now
seen_route (found.Outbox who) = ToOutbox who.now
seen_route (found.Content who n) = ToContent who.now n.now
seen_route found.Nowhere = Nowhere
