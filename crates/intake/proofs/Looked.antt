-- how a request for the health of the book is served
use Rattle.std.proofs.Common.{◌≡◌, Bool, false, None, sym, subst, if◌then◌else◌}
use Rattle.definitions.specs.Moments.{Moment}
use Rattle.definitions.specs.Response.{Head, Method, Response, bare}
use Rattle.store.specs.Standing.{Standing}
use Rattle.intake.specs.Asking.{IsShutResponse}
use Rattle.intake.specs.Health.{health_by, health_response, health_asks, is_get}
use Rattle.intake.specs.Serving.{IsRequestServed}

-- by what its head says
pub by_head : (old new : Standing) (t : Moment) (h : Head) (m : Method) (r : Response) → h.is_encoded ≡ false → h.method ≡ m
    → IsRequestServed old new t None (health_by m) (is_get m) IsShutResponse r → IsRequestServed old new t None (health_response h) (health_asks h) IsShutResponse r
by_head old new t h m r e same is =
    let at : IsRequestServed old new t None (health_by h.method) (is_get h.method) IsShutResponse r =
    subst (λ (k : Method). IsRequestServed old new t None (health_by k) (is_get k) IsShutResponse r) (sym same) is in
    subst (λ (b : Bool). IsRequestServed old new t None (λ L. if b then bare 501 else health_by h.method L) (if b then false else is_get h.method) IsShutResponse r) (sym e) at
