-- who sent what a request submits
use Rattle.std.proofs.Common.{◌≡◌, ℕ, List, Bool, true, false, Option, Some, None, refl, sym, subst, ap, if◌then◌else◌}
use Rattle.std.specs.Prelude.{Result, Ok, Err, option_map}
use Rattle.definitions.specs.Rules.{Today}
use Rattle.definitions.specs.Accepted.{depositor_of, subject}
use Rattle.definitions.specs.declared.sheet_kind.SheetKind.{SheetKind}
use Rattle.definitions.specs.Header.{Who}
use Rattle.definitions.specs.Means.{Line}
use Rattle.definitions.specs.declared.refusals.Refusal.{Refusal}
use Rattle.definitions.specs.Register.{Command, Interchange, command_mark}
use Rattle.definitions.specs.Moments.{Moment}
use Rattle.definitions.specs.Response.{Method, Get, Post, OtherMethod, Response, bare, is_exchange}
use Rattle.store.specs.Standing.{Standing}
use Rattle.store.proofs.Changes.{unchanged_refl}
use Rattle.sheet_texts.specs.Texts.{sheet_of_text}
use Rattle.intake.specs.Calls.{Call, ToDeed, ToTriedDeed, ToTriedExchange, ToPage, ToOrder, ToForm, ToExport, ToOpen, ToDepositors, depositor_of as owner_of_deed, with_sheet, by_depositor, deed_command, call_command}
use Rattle.intake.specs.Reaching.{sent_for}
use Rattle.request_guard.specs.Askers.{may_send}
use Rattle.intake.specs.Lines.{sender_in}
use Rattle.request_guard.specs.declared.askers.Asker.{Asker}
use Rattle.intake.specs.Asking.{IsShutResponse}
use Rattle.intake.specs.Serving.{IsAskedServed, IsTargetServed}
use Rattle.intake.specs.Targets.{Target, ToRoute, ToCall, command_with, hands_in, has_interchange, interchange_with, target_command}
use Rattle.intake.proofs.Answered.{shown}

-- the depositor that a command names stands beside its key

pub named_none : (c : Command) → subject c ≡ None → None ≡ depositor_of c
named_none c e = by (depositor_of c) e
  where
    by : (o : Option Who) → option_map {U = Who × List ℕ} (λ w. (w, command_mark c)) o ≡ None → None ≡ o
    by None e = refl
    by (Some w) e = cc

pub named_some : (c : Command) (w : Who) (mark : List ℕ) → subject c ≡ Some (w, mark) → Some w ≡ depositor_of c
named_some c w mark e = by (depositor_of c) e
  where
    by : (o : Option Who) → option_map {U = Who × List ℕ} (λ w. (w, command_mark c)) o ≡ Some (w, mark) → Some w ≡ o
    by None e = cc
    by (Some v) e = sym (ap (λ (o : Option (Who × List ℕ)). option_map (λ p. p.0) o) e)

-- a deed is no interchange

deed_unsent : (kind : SheetKind) (o : Option Who) (ticket number body : List ℕ) → sender_in (deed_command (by_depositor kind o ticket number body)) ≡ None
deed_unsent kind None ticket number body = refl
deed_unsent kind (Some w) ticket number body = by (sheet_of_text Today kind body)
  where
    by : (s : Result (List Line) Refusal) → sender_in (deed_command (with_sheet kind w ticket number s)) ≡ None
    by (Ok sheet) = refl
    by (Err r) = refl

pub call_unsent : (m : Method) (call : Call) (body : List ℕ) → sender_in (call_command m call body) ≡ None
call_unsent Post (ToDeed kind who ticket number) body = deed_unsent kind (owner_of_deed kind who ticket number) ticket number body
call_unsent Post (ToTriedDeed kind who ticket number) body = refl
call_unsent Post ToTriedExchange body = refl
call_unsent Post ToPage body = refl
call_unsent Post (ToOrder who number) body = refl
call_unsent Post (ToForm form who number) body = refl
call_unsent Post (ToExport who) body = refl
call_unsent Post (ToOpen who) body = refl
call_unsent Post ToDepositors body = refl
call_unsent Get call body = refl
call_unsent OtherMethod call body = refl

-- what isn't handed in has no sender

pub unsent_at : (m : Method) (to : Target) (body : List ℕ) → hands_in m to ≡ false → None ≡ sender_in (target_command m to body)
unsent_at m (ToRoute route) body e = by (is_exchange m route) e
  where
    by : (x : Bool) → x ≡ false → None ≡ sender_in (if x then Some (Interchange body) else None)
    by true e = cc
    by false e = refl
unsent_at m (ToCall call) body e = by (call_command m call body) (call_unsent m call body)
  where
    by : (c : Option Command) → sender_in c ≡ None → None ≡ sender_in c
    by c e = cc

-- and what is has that of the interchange that comes with it

pub sent_at : (m : Method) (to : Target) (body : List ℕ) (o : Option Who) → hands_in m to ≡ true → o ≡ sender_in (interchange_with m to body) → o ≡ sender_in (target_command m to body)
sent_at m (ToRoute route) body o e is = is
sent_at m (ToCall call) body o e is = cc

-- which has one where one comes with it

pub comes_without : (m : Method) (to : Target) (body : List ℕ) → has_interchange m to ≡ false → None ≡ sender_in (interchange_with m to body)
comes_without m to body e = rw e refl

pub comes_with : (m : Method) (to : Target) (body : List ℕ) (o : Option Who) → has_interchange m to ≡ true → o ≡ depositor_of (Interchange body) → o ≡ sender_in (interchange_with m to body)
comes_with m to body o e is = rw e is

-- what is handed in for its asker is asked with, and what isn't is told as turned away

module _ (asker : Asker) (m : Method) (to : Target) (body : List ℕ) (sender : Option Who) where
  pub may_be_sent : sender ≡ sender_in (interchange_with m to body) → may_send asker sender ≡ true → sent_for asker m to (Ok body) ≡ Ok body
  may_be_sent is may = rw (sym is, may) refl

  pub may_not_be_sent : sender ≡ sender_in (interchange_with m to body) → may_send asker sender ≡ false → sent_for asker m to (Ok body) ≡ Err 403
  may_not_be_sent is may = rw (sym is, may) refl

-- and so its response and its sender
module _ (old new : Standing) (t : Moment) (m : Method) (to : Target) (r : Response) where
  pub sent_served : (q : Result (List ℕ) ℕ) (body : List ℕ) → q ≡ Ok body → IsTargetServed old new t m to body r → IsAskedServed old new t m to q r
  sent_served q body e is = subst (λ (k : Result (List ℕ) ℕ). IsAskedServed old new t m to k r) (sym e) is

pub sent_turned : (s : Standing) (t : Moment) (m : Method) (to : Target) (status : ℕ) (r : Response) (q : Result (List ℕ) ℕ) → q ≡ Err status → r ≡ bare status → IsAskedServed s s t m to q r
sent_turned s t m to status r q e is =
    subst (λ (k : Result (List ℕ) ℕ). IsAskedServed s s t m to k r) (sym e)
    (shown s s t (λ L. bare status) false IsShutResponse r (λ clean L keeps legal. is) (unchanged_refl s) (λ was asks. absurd (cc)))

pub sent_sender : (m : Method) (to : Target) (sender : Option Who) (q : Result (List ℕ) ℕ) {p : Result (List ℕ) ℕ} → q ≡ p → sender ≡ sender_in (command_with m to p) → sender ≡ sender_in (command_with m to q)
sent_sender m to sender q e is = rw e is
