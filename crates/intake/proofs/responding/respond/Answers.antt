use Rattle.std.proofs.Common.{◌≡◌, ◌∙◌, ap, subst}
use Rattle.definitions.specs.Response.{Method, Route}
use Rattle.intake.specs.Answers.{seen}
use Rattle.intake.specs.Asking.{IsShutResponse}
use Rattle.intake.specs.Fields.{seen_method, method_of}
use Rattle.intake.specs.Routes.{route_of}
use Rattle.intake.specs.Serving.{IsRouteServed}
use Rattle.intake.proofs.Answered.{may_want, no_memory}
use Rattle.intake.proofs.responding.respond.Goals as goal

pub returns-in-Ok : goal.returns-in-Ok
returns-in-Ok g c =
    let old = g.K.Keeper.standing c.args.keeper.now in
    let new = g.K.Keeper.standing c.respond_at.new.keeper in
    let named : seen_method c.read_method-method.result ≡ method_of c.args.method.now
    = c.read_method-method.ensures ∙ ap method_of (c.as_bytes.ensures.value ∙ c.as_str.ensures.value) in
    subst (λ (m : Method). IsRouteServed old new c.args.moment m (route_of c.args.path.now) c.args.body.now IsShutResponse (seen c.respond_at.result)) named
    (subst (λ (r : Route). IsRouteServed old new c.args.moment (seen_method c.read_method-method.result) r c.args.body.now IsShutResponse (seen c.respond_at.result)) c.in-Ok.ensures
    (may_want _ _ _ _ _ _ _ c.respond_at.ensures))

pub returns-in-Err : goal.returns-in-Err
returns-in-Err g c = no_memory _ _ _ _ _ _ c.of_fault.ensures
