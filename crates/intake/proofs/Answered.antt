-- how a request is served: by a response that is as defined, or the 503 of a fault
use Rattle.std.proofs.Common.{◌≡◌, ◌∙◌, List, Bool, true, false, Option, Some, None, sym, ap, subst, inl, inr}
use Rattle.definitions.specs.Rules.{Today}
use Rattle.definitions.specs.Moments.{Moment}
use Rattle.definitions.specs.Register.{Command, Entry}
use Rattle.definitions.specs.Reply as replies
use Rattle.definitions.specs.Accepted.{is_accepted, reply_to, after}
use Rattle.definitions.specs.Response.{Response, fault_response}
use Rattle.store.specs.Runs.{told, UnlessAccepted}
use Rattle.store.specs.Standing.{Standing, GoesOn, IsUsable, IsUnchanged, IsFault, IsQueryFault, LeavesEither, OfKept, OfUsable}
use Rattle.store.specs.Fault.{Fault}
use Rattle.store.specs.Fault.TheVariants.{OutOfMemory, Reopen}
use Rattle.store.specs.declared.serving.Reply.{Reply}
use Rattle.store.proofs.Changes.{unchanged_refl, leaves_first}
use Rattle.intake.specs.Asking.{IsResponseOf, IsShutResponse}
use Rattle.intake.specs.Serving.{IsAnswered, IsRequestServed}
use Rattle.intake.proofs.Replied.{not_accepted}

module _ (old new : Standing) (t : Moment) where
  abbrev Taken : Command → Type 0
  Taken c = OfUsable old new (λ L. IsUsable new (after Today old.warehouse L (c, t)))

  abbrev Repeated : Command → Type 0
  Repeated c = OfKept old new
      (λ L. is_accepted (reply_to Today old.warehouse L c t) ≡ false → IsUnchanged old new)

  abbrev Left : Command → Type 0
  Left c = OfUsable old new (λ L. LeavesEither new L (after Today old.warehouse L (c, t)))

  -- what is shown, and the book is as it was
  pub shown : (meant : List Entry → Response) (asks : Bool) (says : Response → Type 0) (answer : Response)
      → OfKept old new (λ L. answer ≡ meant L)
      → IsUnchanged old new → (old.shut ≡ true → asks ≡ true → says answer) → IsRequestServed old new t None meant asks says answer
  shown meant asks says answer response same shut = record {
    answered = inl (record {
      response = response;
      kept = λ e. same;
      taken = λ c e. cc;
      repeated = λ c e. cc;
      opened = λ c e. cc;
    });
    goes = same.goes;
    shut = shut;
  }

  pub unshown : (fault : Fault) (meant : List Entry → Response) (asks : Bool) (answer : Response) → answer ≡ fault_response fault
      → IsQueryFault fault old new → IsUnchanged old new → (old.shut ≡ true → asks ≡ true → fault ≡ Reopen)
      → IsRequestServed old new t None meant asks (IsResponseOf Reopen) answer
  unshown fault meant asks answer response why same shut = record {
    answered = inr (record {
      fault = fault;
      response = response;
      why = record { clean = λ e. same; broken = λ was now. cc same.shut; why = why };
      kept = λ e. same;
      left = λ c e. cc;
    });
    goes = same.goes;
    shut = λ was yes. response ∙ ap fault_response (shut was yes);
  }

  -- a command that was answered, whose reply is told so
  pub done : (tells : replies.Reply → Response) (a c : Command) (reply : Reply) (answer : Response) → a ≡ c → answer ≡ tells (told reply)
      → OfKept old new (λ L. told reply ≡ reply_to Today old.warehouse L a t)
      → Taken a → UnlessAccepted reply (IsUnchanged old new) → new.shut ≡ false → GoesOn old new → (old.shut ≡ true → ⊥)
      → IsRequestServed old new t (Some c) (λ L. tells (reply_to Today old.warehouse L c t)) true (IsResponseOf Reopen) answer
  done tells a c reply answer same is said taken kept opened goes shut = record {
    answered =
        subst (λ (k : Command). IsAnswered old new t (Some k) (λ L. tells (reply_to Today old.warehouse L k t)) answer) same (inl (record {
          response = λ clean L keeps legal. is ∙ ap tells (said clean L keeps legal);
          kept = λ e. cc;
          taken = λ k e. let at : a ≡ k = cc in subst Taken at taken;
          repeated = λ k e. let at : a ≡ k = cc in subst Repeated at
              (λ clean L keeps legal no. not_accepted reply (subst (λ (r : replies.Reply). is_accepted r ≡ false) (sym (said clean L keeps legal)) no) kept);
          opened = λ k e. opened;
        }));
    goes = goes;
    shut = λ was yes. absurd (shut was);
  }

  -- one that was tried out
  pub tried_out : (tells : replies.Reply → Response) (a c : Command) (reply : Reply) (answer : Response) → a ≡ c → answer ≡ tells (told reply)
      → OfKept old new (λ L. told reply ≡ reply_to Today old.warehouse L a t) → IsUnchanged old new → (old.shut ≡ true → ⊥)
      → IsRequestServed old new t None (λ L. tells (reply_to Today old.warehouse L c t)) true (IsResponseOf Reopen) answer
  tried_out tells a c reply answer same is said unchanged shut =
      shown _ _ _ _
      (λ clean L keeps legal. is ∙ ap tells (said clean L keeps legal ∙ ap (λ (k : Command). reply_to Today old.warehouse L k t) same))
      unchanged (λ was yes. absurd (shut was))

  -- and one at which a fault happened
  pub undone : (a c : Command) (fault : Fault) (meant : List Entry → Response) (answer : Response) → a ≡ c → answer ≡ fault_response fault
      → IsFault fault old new → Left a → GoesOn old new → (old.shut ≡ true → fault ≡ Reopen)
      → IsRequestServed old new t (Some c) meant true (IsResponseOf Reopen) answer
  undone a c fault meant answer same is why left goes shut = record {
    answered = inr (record {
      fault = fault;
      response = is;
      why = why;
      kept = λ e. cc;
      left = λ k e. let at : a ≡ k = cc in subst Left at left;
    });
    goes = goes;
    shut = λ was yes. is ∙ ap fault_response (shut was);
  }

  -- what says so by 42 alone says so by 42 or 40
  pub may_want : (submits : Option Command) (meant : List Entry → Response) (asks : Bool) (answer : Response)
      → IsRequestServed old new t submits meant asks (IsResponseOf Reopen) answer → IsRequestServed old new t submits meant asks IsShutResponse answer
  may_want submits meant asks answer is = record { answered = is.answered; goes = is.goes; shut = λ was yes. inl (is.shut was yes) }

-- where memory is wanting and nothing was done
pub no_memory : (s : Standing) (t : Moment) (submits : Option Command) (meant : List Entry → Response) (asks : Bool) (answer : Response)
    → answer ≡ fault_response OutOfMemory → IsRequestServed s s t submits meant asks IsShutResponse answer
no_memory s t submits meant asks answer response = record {
  answered = inr (record {
    fault = OutOfMemory;
    response = response;
    why = record {
      clean = λ same. unchanged_refl s;
      broken = λ was now. cc;
      why = record { store = λ e. cc; reopen = λ e. cc; not_this = λ e clean L keeps. cc; device = λ e. cc };
    };
    kept = λ e. unchanged_refl s;
    left = λ c e clean L u. leaves_first s L (after Today s.warehouse L (c, t)) u;
  });
  goes = (unchanged_refl s).goes;
  shut = λ was yes. inr response;
}
