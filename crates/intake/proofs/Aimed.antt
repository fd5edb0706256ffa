-- the answer to what is asked for at a target is the answer to a request, and so is what is
-- submitted
use Rattle.std.proofs.Common.{◌≡◌, ℕ, Bool, true, false, List, Option, Some, None, option_map, Result, Err, Ok, sym, ◌∙◌, refl, ap, subst, if◌then◌else◌}
use Rattle.httparse.specs.Grammar.{RequestHead}
use Rattle.definitions.specs.Rules.{Today}
use Rattle.definitions.specs.Moments.{Moment}
use Rattle.definitions.specs.Register.{Command, Interchange}
use Rattle.definitions.specs.Response.{Response, Method, Route, Head, is_exchange, body_after, asked, submitted_by, response_of, resp}
use Rattle.store.specs.Standing.{Standing}
use Rattle.intake.specs.Calls.{Call, call_of}
use Rattle.intake.specs.Fields.{head_of}
use Rattle.intake.specs.Admitting.{call_submitted, call_answer, command_in, command_for, answer_of, answer_for}
use Rattle.intake.specs.Reaching.{asked_for, sent_for}
use Rattle.request_guard.specs.declared.askers.Asker.{Asker}
use Rattle.request_guard.specs.declared.askers.Asker.TheVariants.{Unnamed, Depositor, Unknown}
use Rattle.intake.specs.Serving.{IsAnswered}
use Rattle.intake.specs.Targets.{Target, ToRoute, ToCall, call_for, target_by, target_of, handed_in, asked_with, command_with, response_with}
use Rattle.intake.specs.declared.audience.Audience.{Audience}
use Rattle.intake.specs.declared.audience.Audience.TheVariants.{Partners, Testers, Clerks}

abbrev with_head : Head → Result (List ℕ) ℕ → Result (Head × List ℕ) ℕ
with_head h (Err status) = Err status
with_head h (Ok body) = Ok (h, body)

-- what is asked for at a route
as_asked : (h : Head) (rest : List ℕ) → asked (Some h) rest ≡ with_head h (asked_with h (ToRoute h.route) rest)
as_asked h rest = by h.is_encoded (is_exchange h.method h.route) (body_after h.lengths rest) refl refl refl
  where
    by : (e x : Bool) (b : Result (List ℕ) ℕ) → h.is_encoded ≡ e → is_exchange h.method h.route ≡ x → body_after h.lengths rest ≡ b
        → asked (Some h) rest ≡ with_head h (asked_with h (ToRoute h.route) rest)
    by true x b p q s = rw p refl
    by false false b p q s = rw (p, q) refl
    by false true (Err status) p q s = rw (p, q, s) refl
    by false true (Ok body) p q s = rw (p, q, s) refl

as_submitted : (m : Method) (to : Route) (body : List ℕ) → handed_in m to body ≡ option_map Interchange (if is_exchange m to then Some body else None)
as_submitted m to body = by (is_exchange m to)
  where
    by : (x : Bool) → (if x then Some (Interchange body) else None) ≡ option_map Interchange (if x then Some body else None)
    by true = refl
    by false = refl

-- what is submitted by what is asked for

submitted_at_route : (h : Head) (q : Result (List ℕ) ℕ) → option_map Interchange (submitted_by (with_head h q)) ≡ command_with h.method (ToRoute h.route) q
submitted_at_route h (Err status) = refl
submitted_at_route h (Ok body) = sym (as_submitted h.method h.route body)

submitted_at : (o : Option Call) (h : RequestHead) (rest : List ℕ) (q : Result (List ℕ) ℕ) → asked_with (head_of h) (target_by o h.target) rest ≡ q
    → call_submitted o h rest ≡ command_with (head_of h).method (target_by o h.target) q
submitted_at None h rest q e =
    ap (λ a. option_map Interchange (submitted_by a)) (as_asked (head_of h) rest ∙ ap (with_head (head_of h)) e)
    ∙ submitted_at_route (head_of h) q
submitted_at (Some call) h rest q e = ap (command_with (head_of h).method (ToCall call)) e

pub submits : (audience : Audience) (h : RequestHead) (rest : List ℕ) (q : Result (List ℕ) ℕ) → asked_with (head_of h) (target_of audience h.target) rest ≡ q
    → command_in audience (Some h) rest ≡ command_with (head_of h).method (target_of audience h.target) q
submits Partners h rest q e = submitted_at None h rest q e
submits Testers h rest q e = submitted_at (call_for Testers h.target) h rest q e
submits Clerks h rest q e = submitted_at (call_of h.target) h rest q e

-- where nobody is to say for whom a request is asked, it is asked for as ever

sent_unnamed : (m : Method) (to : Target) (q : Result (List ℕ) ℕ) → sent_for Unnamed m to q ≡ q
sent_unnamed m to (Err status) = refl
sent_unnamed m to (Ok body) = refl

pub asked_unnamed : (h : Head) (to : Target) (rest : List ℕ) → asked_for Unnamed h to rest ≡ asked_with h to rest
asked_unnamed h to rest = sent_unnamed h.method to (asked_with h to rest)

pub submits_for : (asker : Asker) (audience : Audience) (h : RequestHead) (rest : List ℕ) (q : Result (List ℕ) ℕ) → asked_for asker (head_of h) (target_of audience h.target) rest ≡ q
    → command_for asker audience h rest ≡ command_with (head_of h).method (target_of audience h.target) q
submits_for Unnamed audience h rest q e = submits audience h rest q (sym (asked_unnamed (head_of h) (target_of audience h.target) rest) ∙ e)
submits_for (Depositor w) audience h rest q e = ap (command_with (head_of h).method (target_of audience h.target)) e
submits_for Unknown audience h rest q e = ap (command_with (head_of h).method (target_of audience h.target)) e

module _ (old new : Standing) (t : Moment) (r : Response) where
  -- an answer to what is asked for at a target
  abbrev pub Answers : Method → Target → Result (List ℕ) ℕ → Type 0
  Answers m to q = IsAnswered old new t (command_with m to q) (λ L. response_with old.warehouse L m to t q) r

  -- and at a route alone
  abbrev Asked : Result (Head × List ℕ) ℕ → Type 0
  Asked q = IsAnswered old new t (option_map Interchange (submitted_by q)) (λ L. response_of Today old.warehouse L t q) r

  at_route : (h : Head) (q : Result (List ℕ) ℕ) → Answers h.method (ToRoute h.route) q → Asked (with_head h q)
  at_route h (Err status) answer = answer
  at_route h (Ok body) answer =
      subst (λ (c : Option Command). IsAnswered old new t c (λ L. resp Today old.warehouse L h.method h.route body t) r) (as_submitted h.method h.route body) answer

  at_call : (o : Option Call) (h : RequestHead) (rest : List ℕ) (q : Result (List ℕ) ℕ) → asked_with (head_of h) (target_by o h.target) rest ≡ q
      → Answers (head_of h).method (target_by o h.target) q
      → IsAnswered old new t (call_submitted o h rest) (λ L. call_answer o old.warehouse L h rest t) r
  at_call None h rest q e answer = subst Asked (sym (as_asked (head_of h) rest ∙ ap (with_head (head_of h)) e)) (at_route (head_of h) q answer)
  at_call (Some call) h rest q e answer = subst (Answers (head_of h).method (ToCall call)) (sym e) answer

  pub to_request : (audience : Audience) (h : RequestHead) (rest : List ℕ) (q : Result (List ℕ) ℕ) → asked_with (head_of h) (target_of audience h.target) rest ≡ q
      → Answers (head_of h).method (target_of audience h.target) q
      → IsAnswered old new t (command_in audience (Some h) rest) (λ L. answer_of audience old.warehouse L (Some h) rest t) r
  to_request Partners h rest q e answer = at_call None h rest q e answer
  to_request Testers h rest q e answer = at_call (call_for Testers h.target) h rest q e answer
  to_request Clerks h rest q e answer = at_call (call_of h.target) h rest q e answer

  pub to_asker : (asker : Asker) (audience : Audience) (h : RequestHead) (rest : List ℕ) (q : Result (List ℕ) ℕ) → asked_for asker (head_of h) (target_of audience h.target) rest ≡ q
      → Answers (head_of h).method (target_of audience h.target) q
      → IsAnswered old new t (command_for asker audience h rest) (λ L. answer_for asker audience old.warehouse L h rest t) r
  to_asker Unnamed audience h rest q e answer = to_request audience h rest q (sym (asked_unnamed (head_of h) (target_of audience h.target) rest) ∙ e) answer
  to_asker (Depositor w) audience h rest q e answer = subst (Answers (head_of h).method (target_of audience h.target)) (sym e) answer
  to_asker Unknown audience h rest q e answer = subst (Answers (head_of h).method (target_of audience h.target)) (sym e) answer
