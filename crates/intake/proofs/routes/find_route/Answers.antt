use Rattle.std.proofs.Common.{subst, ◌≡◌, IfOk}
use Rattle.definitions.specs.Response.{Route}
use Rattle.intake.specs.Routes.{seen_route}
use Rattle.intake.proofs.Paths.{route_of_text, no_route}
use Rattle.intake.proofs.routes.find_route.Goals as goal

pub returns-in-Ok : goal.returns-in-Ok
returns-in-Ok c =
    let e = c.in-Ok.ensures.cases in
    subst (λ (r : Route). IfOk c.route_in.result (λ route. seen_route route ≡ r)) (route_of_text _ _ e.0 e.1) c.route_in.ensures

pub returns-in-Err : goal.returns-in-Err
returns-in-Err c = no_route _ c.in-Err.ensures.cases.0
