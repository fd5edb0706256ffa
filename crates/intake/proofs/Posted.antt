-- what is posted, and where
use Rattle.std.proofs.Common.{◌≡◌, ℕ, List, true, false, Some}
use Rattle.definitions.specs.Rules.{Today}
use Rattle.definitions.specs.Header.{Who}
use Rattle.definitions.specs.Moments.{Moment}
use Rattle.definitions.specs.Register.{Entry, Interchange}
use Rattle.definitions.specs.Accepted.{reply_to}
use Rattle.definitions.specs.Response.{Response, Route, ToExchange, ToStock, ToOutbox, ToContent, Nowhere, Post, OtherMethod, is_exchange, resp, reply_response}
use Rattle.store.specs.Standing.{Standing}
use Rattle.store.specs.Fault.TheVariants.{Reopen}
use Rattle.store.proofs.Changes.{unchanged_refl}
use Rattle.intake.specs.Asking.{IsResponseOf}
use Rattle.intake.specs.Serving.{IsRequestServed, IsRouteServed}
use Rattle.intake.proofs.Answered.{shown}

-- anywhere else POST is as any other method but GET
pub posted_elsewhere : (s : Standing) (t : Moment) (body : List ℕ) (answer : Response) (r : Route) → is_exchange Post r ≡ false
    → ((W : Who) (L : List Entry) (b : List ℕ) (at : Moment) → answer ≡ resp Today W L OtherMethod r b at)
    → IsRouteServed s s t Post r body (IsResponseOf Reopen) answer
posted_elsewhere s t body answer ToExchange e is = cc
posted_elsewhere s t body answer (ToStock who) e is = shown s s t _ _ _ answer (λ clean L keeps legal. is s.warehouse L body t) (unchanged_refl s) (λ was yes. cc)
posted_elsewhere s t body answer (ToOutbox who) e is = shown s s t _ _ _ answer (λ clean L keeps legal. is s.warehouse L body t) (unchanged_refl s) (λ was yes. cc)
posted_elsewhere s t body answer (ToContent who n) e is = shown s s t _ _ _ answer (λ clean L keeps legal. is s.warehouse L body t) (unchanged_refl s) (λ was yes. cc)
posted_elsewhere s t body answer Nowhere e is = shown s s t _ _ _ answer (λ clean L keeps legal. is s.warehouse L body t) (unchanged_refl s) (λ was yes. cc)

pub posted_there : (old new : Standing) (t : Moment) (body : List ℕ) (answer : Response) (r : Route) → is_exchange Post r ≡ true
    → IsRequestServed old new t (Some (Interchange body)) (λ L. reply_response (reply_to Today old.warehouse L (Interchange body) t)) true (IsResponseOf Reopen) answer
    → IsRouteServed old new t Post r body (IsResponseOf Reopen) answer
posted_there old new t body answer ToExchange e is = is
posted_there old new t body answer (ToStock who) e is = cc
posted_there old new t body answer (ToOutbox who) e is = cc
posted_there old new t body answer (ToContent who n) e is = cc
posted_there old new t body answer Nowhere e is = cc
