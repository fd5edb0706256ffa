-- what clerks are answered
use Rattle.std.proofs.Common.{◌≡◌, ◌≢◌, ◌∙◌, ◌⊎◌, inl, inr, ℕ, List, Bool, true, None, refl, ap}
use Rattle.std.specs.Prelude.{Result}
use Rattle.definitions.specs.Header.{Who}
use Rattle.definitions.specs.Moments.{Moment}
use Rattle.definitions.specs.Register.{Command, Entry}
use Rattle.definitions.specs.Response.{Response, Post, OtherMethod, fault_response}
use Rattle.store.specs.Fault.{Fault}
use Rattle.store.specs.Fault.TheVariants.{OutOfMemory, Reopen}
use Rattle.store.specs.Standing.{Standing, IsQueryFault, IsUnchanged}
use Rattle.store.proofs.Changes.{unchanged_refl}
use Rattle.intake.specs.Asking.{deed_asks, IsShutResponse}
use Rattle.intake.specs.Calls.{deed_response, deed_command, call_resp}
use Rattle.intake.specs.Serving.{IsRequestServed, IsCallServed}
use Rattle.intake.specs.Targets.{seen_call}
use Rattle.intake.specs.declared.calls.Deed.{Deed}
use Rattle.intake.specs.declared.calls.Call.{Call}
use Rattle.intake.specs.declared.calls.Call.TheVariants as calls
use Rattle.intake.proofs.Answered.{shown}

-- how what a deed comes to is served
abbrev pub Deeds : Standing → Standing → Moment → Response → Result Command Response → Type 0
Deeds old new t answer q = IsRequestServed old new t (deed_command q) (λ L. deed_response old.warehouse L t q) (deed_asks q) IsShutResponse answer

-- and one that is tried out
abbrev pub Trials : Standing → Standing → Moment → Response → Result Command Response → Type 0
Trials old new t answer q = IsRequestServed old new t None (λ L. deed_response old.warehouse L t q) (deed_asks q) IsShutResponse answer

module _ (s : Standing) (t : Moment) where
  -- anything but a deed, and what is tried out, is called for by GET alone
  pub not_posted : (call : Call) (body : List ℕ) (answer : Response) → ((d : Deed) → call ≢ calls.Deed d)
      → ((d : Deed) → call ≢ calls.TriedDeed d) → call ≢ calls.TriedExchange
      → ((W : Who) (L : List Entry) (b : List ℕ) (at : Moment) → answer ≡ call_resp W L OtherMethod (seen_call call) b at)
      → IsCallServed s s t Post (seen_call call) body answer
  not_posted (calls.Deed d) body answer not tried exchange is = absurd (not d refl)
  not_posted (calls.TriedDeed d) body answer not tried exchange is = absurd (tried d refl)
  not_posted calls.TriedExchange body answer not tried exchange is = absurd (exchange refl)
  not_posted calls.Page body answer not tried exchange is = shown s s t _ _ _ answer (λ clean L keeps legal. is s.warehouse L body t) (unchanged_refl s) (λ was yes. cc)
  not_posted (calls.Order who number) body answer not tried exchange is = shown s s t _ _ _ answer (λ clean L keeps legal. is s.warehouse L body t) (unchanged_refl s) (λ was yes. cc)
  not_posted (calls.Form form who number) body answer not tried exchange is = shown s s t _ _ _ answer (λ clean L keeps legal. is s.warehouse L body t) (unchanged_refl s) (λ was yes. cc)
  not_posted (calls.Export who) body answer not tried exchange is = shown s s t _ _ _ answer (λ clean L keeps legal. is s.warehouse L body t) (unchanged_refl s) (λ was yes. cc)
  not_posted (calls.Open who) body answer not tried exchange is = shown s s t _ _ _ answer (λ clean L keeps legal. is s.warehouse L body t) (unchanged_refl s) (λ was yes. cc)
  not_posted calls.Depositors body answer not tried exchange is = shown s s t _ _ _ answer (λ clean L keeps legal. is s.warehouse L body t) (unchanged_refl s) (λ was yes. cc)

-- a query that failed, of a book that has to be opened again by 42 or 40
pub unshown_or_want : (old new : Standing) (t : Moment) (fault : Fault) (meant : List Entry → Response) (asks : Bool) (answer : Response) → answer ≡ fault_response fault
    → IsQueryFault fault old new → IsUnchanged old new → (old.shut ≡ true → asks ≡ true → (fault ≡ Reopen) ⊎ (fault ≡ OutOfMemory))
    → IsRequestServed old new t None meant asks IsShutResponse answer
unshown_or_want old new t fault meant asks answer response why same shut = record {
  answered = inr (record {
    fault = fault;
    response = response;
    why = record { clean = λ e. same; broken = λ was now. cc same.shut; why = why };
    kept = λ e. same;
    left = λ c e. cc;
  });
  goes = same.goes;
  shut = λ was yes. elim (shut was yes) [ inl e ↦ inl (response ∙ ap fault_response e) | inr e ↦ inr (response ∙ ap fault_response e) ];
}
