-- the response by each of the tests
use Rattle.std.proofs.Common.{◌≡◌, ℕ, Bool, ◌<◌, ◌≤◌, List, [], ◌++◌, take, drop, Option, Some, None, IfSome, Result, Err, Ok, sym, length, ◌∙◌, refl, true, false, unwrap_or, option_map, nat_lt, arith, ap, subst, inl, inr}
use Rattle.std.proofs.lemmas.Bool.Decides.{nat_tests}
use Rattle.std.specs.Io.KnownBytes.{Consumes}
use Rattle.httparse.specs.Grammar.{RequestHead}
use Rattle.httparse.specs.Spans.{IsRequestWithin, IsRequestAt}
use Rattle.httparse.specs.declared.spans.HeaderSpan.{HeaderSpan}
use Rattle.httparse.specs.declared.spans.RequestSpans.{RequestSpans}
use Rattle.definitions.specs.Header.{Who}
use Rattle.definitions.specs.Moments.{Moment}
use Rattle.definitions.specs.Response.{Response, Method, Head, bare, stated_length, fault_response}
use Rattle.store.specs.Standing.{Standing}
use Rattle.store.specs.Fault.TheVariants.{OutOfMemory}
use Rattle.store.proofs.Changes.{unchanged_refl}
use Rattle.intake.specs.Fields.{head_of}
use Rattle.intake.specs.Asking.{IsShutAnswer, IsShutResponse}
use Rattle.intake.specs.Lines.{IsLineAt, TellsOf, HasLine, TellsSender, sender_in}
use Rattle.request_guard.specs.Doors.{status_of}
use Rattle.request_guard.specs.declared.barred.Barred.{Barred}
use Rattle.intake.specs.declared.audience.Access.{Access}
use Rattle.intake.specs.declared.audience.Audience.{Audience}
use Rattle.intake.specs.declared.audience.Audience.TheVariants.{Partners, Testers, Clerks}
use Rattle.intake.specs.declared.served.RequestLine.{RequestLine}
use Rattle.head_fields.specs.Fields.{most_head, most_fields}
use Rattle.counted_io.specs.Inputs.{IsInput}
use Rattle.intake.specs.Requests.{HasNoHead}
use Rattle.intake.specs.Admitting.{Admission, TurnedAway, ForHealth, LetIn, admission_by, admission_of, answer_of, answer_past, asker_at, asks_past, barred_at, command_for, command_in, command_past, is_health}
use Rattle.intake.specs.Health.{leads_to_health, health_response, health_asks}
use Rattle.intake.specs.Reaching.{asked_for, may_reach, sent_for}
use Rattle.request_guard.specs.declared.askers.Asker.{Asker}
use Rattle.intake.specs.Serving.{IsAnswered, IsAskedServed, IsExchange, IsExchangeAfter, IsExchangeOf, IsRequestServed}
use Rattle.intake.specs.Targets.{Target, target_of, has_body, asked_with, command_with}
use Rattle.intake.proofs.Heads.{head_within}
use Rattle.counted_io.proofs.InputLemmas.{had_input, more_input}
use Rattle.intake.proofs.Filling.{own_input}
use Rattle.intake.proofs.Aimed.{submits_for, to_asker}
use Rattle.intake.proofs.Answered.{no_memory}
use Rattle.intake.proofs.Asked.{asked_by_asker}

-- what is asked for, by each of the tests
module _ (h : Head) (to : Target) (rest : List ℕ) where
  asked_encoded : h.is_encoded ≡ true → asked_with h to rest ≡ Err 501
  asked_encoded e = rw e refl

  asked_else : h.is_encoded ≡ false → has_body h.method to ≡ false → asked_with h to rest ≡ Ok []
  asked_else e x = rw (e, x) refl

  asked_badly : (status : ℕ) → h.is_encoded ≡ false → has_body h.method to ≡ true → stated_length h.lengths ≡ Err status → asked_with h to rest ≡ Err status
  asked_badly status e x l = rw (e, x, l) refl

  asked_cut_off : (n : ℕ) → h.is_encoded ≡ false → has_body h.method to ≡ true → stated_length h.lengths ≡ Ok n → length rest < n → asked_with h to rest ≡ Err 400
  asked_cut_off n e x l short =
      let t : nat_lt (length rest) n ≡ true = grind (arith, nat_tests) in
      rw (e, x, l, t) refl

  asked_whole : (n : ℕ) → h.is_encoded ≡ false → has_body h.method to ≡ true → stated_length h.lengths ≡ Ok n → n ≤ length rest → asked_with h to rest ≡ Ok (take n rest)
  asked_whole n e x l fits =
      let t : nat_lt (length rest) n ≡ false = grind (arith, nat_tests) in
      rw (e, x, l, t) refl

-- a response that was not asked of the book
at_error : (s : Standing) (t : Moment) (meant r : Response) → r ≡ meant → IsAnswered s s t None (λ L. meant) r
at_error s t meant r is = inl (record {
  response = λ clean L keeps legal. is;
  kept = λ e. unchanged_refl s;
  taken = λ c e. cc;
  repeated = λ c e. cc;
  opened = λ c e. cc;
})

-- what is asked for by one who may reach it
module _ (asker : Asker) (h : Head) (to : Target) (rest : List ℕ) where
  pub reached : may_reach asker to ≡ true → (q : Result (List ℕ) ℕ) → asked_with h to rest ≡ q → asked_for asker h to rest ≡ sent_for asker h.method to q
  reached y q e = rw (y, e) refl

  not_reached : may_reach asker to ≡ false → asked_for asker h to rest ≡ Err 403
  not_reached y = rw y refl

module _ (asker : Asker) (audience : Audience) (known : Option (List ℕ)) (t : Moment) (h : RequestHead) (start : List ℕ) (r : Response) (sender : Option Who) where
  abbrev At : Target
  At = target_of audience h.target

  abbrev After : Standing → Standing → Type 0
  After old new = IsExchangeAfter asker audience old new known t h start r sender

  -- the sender of what is submitted is told
  sent_with : (rest : List ℕ) (q : Result (List ℕ) ℕ) → asked_for asker (head_of h) At rest ≡ q
      → sender ≡ sender_in (command_with (head_of h).method At q) → TellsSender sender (command_for asker audience h rest) r
  sent_with rest q e is = inl (is ∙ sym (ap sender_in (submits_for asker audience h rest q e)))

  -- by a test that fails before the book is asked
  module _ (s : Standing) where
    at_test : (input : List ℕ) (status : ℕ) → IsInput known input → asked_for asker (head_of h) At (start ++ input) ≡ Err status → r ≡ bare status
        → sender ≡ None → After s s
    at_test input status i q is none = record {
      input = input;
      is_input = i;
      sent = sent_with (start ++ input) (Err status) q none;
      answered = to_asker s s t r asker audience h (start ++ input) (Err status) q (at_error s t (bare status) r is);
      shut = asked_by_asker s r asker audience h (start ++ input) (Err status) q (λ was yes. cc);
    }

    pub foreign : may_reach asker At ≡ false → r ≡ bare 403 → sender ≡ None → After s s
    foreign y is none = at_test (unwrap_or known []) 403 (own_input known) (not_reached asker (head_of h) At _ y) is none

    pub encoded : may_reach asker At ≡ true → (head_of h).is_encoded ≡ true → r ≡ bare 501 → sender ≡ None → After s s
    encoded y e is none = at_test (unwrap_or known []) 501 (own_input known) (reached asker (head_of h) At _ y (Err 501) (asked_encoded (head_of h) _ _ e)) is none

    pub refused : (status : ℕ) → may_reach asker At ≡ true → (head_of h).is_encoded ≡ false → has_body (head_of h).method At ≡ true
        → stated_length (head_of h).lengths ≡ Err status → r ≡ bare status → sender ≡ None → After s s
    refused status y e x l is none =
        at_test (unwrap_or known []) status (own_input known) (reached asker (head_of h) At _ y (Err status) (asked_badly (head_of h) _ _ status e x l)) is none

    pub cut_off : (n : ℕ) (input tail : List ℕ) → tail ≡ start → IsInput known input → may_reach asker At ≡ true → (head_of h).is_encoded ≡ false
        → has_body (head_of h).method At ≡ true → stated_length (head_of h).lengths ≡ Ok n
        → length (tail ++ input) < n → r ≡ bare 400 → sender ≡ None → After s s
    cut_off n input tail same i y e x l short is none =
        at_test input 400 i
        (reached asker (head_of h) At _ y (Err 400) (asked_cut_off (head_of h) _ _ n e x l (subst (λ (b : List ℕ). length (b ++ input) < n) same short))) is none

    -- where memory is wanting
    pub wanting : r ≡ fault_response OutOfMemory → sender ≡ None → After s s
    wanting is none = record {
      input = unwrap_or known [];
      is_input = own_input known;
      sent = inr (none, is);
      answered = (no_memory s t _ _ false r is).answered;
      shut = λ was yes. inr is;
    }

  -- by the book
  module _ (old new : Standing) where
    -- what a body is asked with
    abbrev With : List ℕ → Result (List ℕ) ℕ
    With body = sent_for asker (head_of h).method At (Ok body)

    -- a request with this body is served
    abbrev pub Told : List ℕ → Type 0
    Told body = IsAskedServed old new t (head_of h).method At (With body) r

    -- and its sender is told
    abbrev pub Sent : List ℕ → Type 0
    Sent body = sender ≡ sender_in (command_with (head_of h).method At (With body))

    pub queried : may_reach asker At ≡ true → (head_of h).is_encoded ≡ false → has_body (head_of h).method At ≡ false → Told [] → Sent [] → After old new
    queried y e x is from =
        let rest : List ℕ = start ++ unwrap_or known [] in
        let q : asked_for asker (head_of h) At rest ≡ With [] = reached asker (head_of h) At rest y (Ok []) (asked_else (head_of h) _ rest e x) in
        record {
          input = unwrap_or known [];
          is_input = own_input known;
          sent = sent_with rest (With []) q from;
          answered = to_asker old new t r asker audience h rest (With []) q is.answered;
          shut = asked_by_asker old r asker audience h rest (With []) q is.shut;
        }

    pub handed : (n : ℕ) (input body tail : List ℕ) → tail ≡ start → IsInput known input → may_reach asker At ≡ true → (head_of h).is_encoded ≡ false
        → has_body (head_of h).method At ≡ true → stated_length (head_of h).lengths ≡ Ok n
        → n ≤ length (tail ++ input) → body ≡ take n (tail ++ input) → Told body → Sent body → After old new
    handed n input body tail same i y e x l fits b is from =
        let w : asked_with (head_of h) At (start ++ input) ≡ Ok body =
        asked_whole (head_of h) _ (start ++ input) n e x l (subst (λ (k : List ℕ). n ≤ length (k ++ input)) same fits)
        ∙ ap (λ (k : List ℕ). Ok k) (sym (b ∙ ap (λ (k : List ℕ). take n (k ++ input)) same)) in
        let q : asked_for asker (head_of h) At (start ++ input) ≡ With body = reached asker (head_of h) At (start ++ input) y (Ok body) w in
        record {
          input = input;
          is_input = i;
          sent = sent_with (start ++ input) (With body) q from;
          answered = to_asker old new t r asker audience h (start ++ input) (With body) q is.answered;
          shut = asked_by_asker old r asker audience h (start ++ input) (With body) q is.shut;
        }

-- what is served for an asker, by a method and a target, is served for that of the head, by those of
-- the head
pub at_head : (audience : Audience) (old new : Standing) (t : Moment) (h : RequestHead) (own asker : Asker) (m : Method) (to : Target) (body : List ℕ) (r : Response)
    → own ≡ asker → (head_of h).method ≡ m → target_of audience h.target ≡ to
    → IsAskedServed old new t m to (sent_for asker m to (Ok body)) r
    → IsAskedServed old new t (head_of h).method (target_of audience h.target) (sent_for own (head_of h).method (target_of audience h.target) (Ok body)) r
at_head audience old new t h own asker m to body r s e f is =
    subst (λ (a : Asker). IsAskedServed old new t (head_of h).method (target_of audience h.target) (sent_for a (head_of h).method (target_of audience h.target) (Ok body)) r) (sym s)
    (subst (λ (k : Method). IsAskedServed old new t k (target_of audience h.target) (sent_for asker k (target_of audience h.target) (Ok body)) r) (sym e)
    (subst (λ (k : Target). IsAskedServed old new t m k (sent_for asker m k (Ok body)) r) (sym f) is))

-- and so the sender
pub from_head : (audience : Audience) (h : RequestHead) (own asker : Asker) (m : Method) (to : Target) (body : List ℕ) (sender : Option Who)
    → own ≡ asker → (head_of h).method ≡ m → target_of audience h.target ≡ to → sender ≡ sender_in (command_with m to (sent_for asker m to (Ok body)))
    → sender ≡ sender_in (command_with (head_of h).method (target_of audience h.target) (sent_for own (head_of h).method (target_of audience h.target) (Ok body)))
from_head audience h own asker m to body sender s e f is = rw (s, e, f) is

-- what the spans cover are the method and the path of the head
told_of : (line : Option RequestLine) (got : List ℕ) (fields : List HeaderSpan) (spans : RequestSpans) (h : RequestHead)
    → IsRequestAt got fields spans h → IfSome line (IsLineAt got spans) → TellsOf line (Some h)
told_of None got fields spans h at copied = tt
told_of (Some line) got fields spans h at copied = (h, refl, (copied.0 ∙ at.method, copied.1 ∙ at.path))

-- what a reader began with has that line, where it then failed
pub line_read : (line : Option RequestLine) (known mid : Option (List ℕ)) (got : List ℕ) (fields : List HeaderSpan) (spans : RequestSpans) (h : RequestHead)
    → length got ≤ most_head → length fields ≤ most_fields → IsRequestWithin got fields spans → IsRequestAt got fields spans h → Consumes known mid got → IfSome line (IsLineAt got spans)
    → IfSome line (HasLine known)
line_read None known mid got fields spans h room many within at bytes copied = tt
line_read (Some line) known mid got fields spans h room many within at bytes copied = record {
  input = got ++ unwrap_or mid [];
  is_input = had_input known mid got bytes;
  head = h;
  rest = drop spans.len got ++ unwrap_or mid [];
  begins = head_within got (unwrap_or mid []) fields spans h room many within at;
  told = (copied.0 ∙ at.method, copied.1 ∙ at.path);
}

-- the answer to a head is the answer to the input that begins with it
pub whole_answer : (access : Access) (old new : Standing) (t : Moment) (known mid : Option (List ℕ)) (got : List ℕ) (fields : List HeaderSpan) (spans : RequestSpans) (h : RequestHead) (r : Response) (line : Option RequestLine) (sender : Option Who) (health : Bool)
    → length got ≤ most_head → length fields ≤ most_fields → IsRequestWithin got fields spans → IsRequestAt got fields spans h → Consumes known mid got → IfSome line (IsLineAt got spans)
    → IsExchangeOf access old new mid t h (drop spans.len got) r sender health → IsExchange access old new known t r line sender health
whole_answer access old new t known mid got fields spans h r line sender health room many within at bytes copied answer = record {
  input = got ++ answer.input;
  is_input = more_input known mid got answer.input bytes answer.is_input;
  head = Some h;
  rest = drop spans.len got ++ answer.input;
  begins = head_within got answer.input fields spans h room many within at;
  told = told_of line got fields spans h at copied;
  sent = answer.sent;
  answered = answer.answered;
  shut = answer.shut;
  health = answer.health;
}

-- by the status that tells why a head is turned away
pub unbarred : (o : Option Barred) → None ≡ option_map status_of o → o ≡ None
unbarred None is = refl
unbarred (Some why) is = absurd (cc)

pub why_barred : (status : ℕ) (o : Option Barred) → Some status ≡ option_map status_of o → (why : Barred) × (o ≡ Some why) × (status ≡ status_of why)
why_barred status None is = absurd (cc)
why_barred status (Some why) is = (why, refl, cc)

-- the answer to a head by how its request comes in
module _ (access : Access) (known : Option (List ℕ)) (t : Moment) (h : RequestHead) (start : List ℕ) (r : Response) (sender : Option Who) where
  abbrev Rest : List ℕ → List ℕ
  Rest input = start ++ input

  comes_in : (old new : Standing) (a : Admission) (input : List ℕ) → admission_of access h ≡ a → IsInput known input
      → TellsSender sender (command_past a access h (Rest input)) r
      → IsAnswered old new t (command_past a access h (Rest input)) (λ L. answer_past a access old.warehouse L h (Rest input) t) r
      → IsShutAnswer old (asks_past a access h (Rest input)) r → IsExchangeOf access old new known t h start r sender (is_health a)
  comes_in old new a input e is_input sent answered shut = record {
    input = input;
    is_input = is_input;
    sent = subst (λ (b : Admission). TellsSender sender (command_past b access h (Rest input)) r) (sym e) sent;
    answered = subst (λ (b : Admission). IsAnswered old new t (command_past b access h (Rest input)) (λ L. answer_past b access old.warehouse L h (Rest input) t) r) (sym e) answered;
    shut = subst (λ (b : Admission). IsShutAnswer old (asks_past b access h (Rest input)) r) (sym e) shut;
    health = ap is_health (sym e);
  }

  -- one that is turned away hands nothing in and asks for nothing
  pub turned_away : (s : Standing) (why : Barred) → barred_at access.doors h ≡ Some why → r ≡ bare (status_of why) → sender ≡ None
      → IsExchangeOf access s s known t h start r sender false
  turned_away s why is says unsent =
      comes_in s s (TurnedAway why) (unwrap_or known []) (ap (λ (o : Option Barred). admission_by o (leads_to_health access h.target)) is) (own_input known)
      (inl unsent) (at_error s t (bare (status_of why)) r says) (λ was asks. cc)

  -- one for the health of the book only looks
  pub health_told : (old new : Standing) (told : Response) → barred_at access.doors h ≡ None → leads_to_health access h.target ≡ true → r ≡ told → sender ≡ None
      → IsRequestServed old new t None (health_response (head_of h)) (health_asks (head_of h)) IsShutResponse told
      → IsExchangeOf access old new known t h start r sender true
  health_told old new told past leads same unsent is =
      let served = subst (λ (k : Response). IsRequestServed old new t None (health_response (head_of h)) (health_asks (head_of h)) IsShutResponse k) (sym same) is in
      comes_in old new ForHealth (unwrap_or known []) (rw (past, leads) refl) (own_input known) (inl unsent) served.answered served.shut

  -- any other is answered by what it asks for
  pub let_in : (old new : Standing) → barred_at access.doors h ≡ None → leads_to_health access h.target ≡ false
      → IsExchangeAfter (asker_at access h) access.audience old new known t h start r sender → IsExchangeOf access old new known t h start r sender false
  let_in old new past leads is = comes_in old new LetIn is.input (rw (past, leads) refl) is.is_input is.sent is.answered is.shut

-- no head, whoever is served: nothing is handed in
unsent_by : (audience : Audience) (r : Response) (sender : Option Who) → sender ≡ None → TellsSender sender (command_in audience None []) r
unsent_by Partners r sender none = inl none
unsent_by Testers r sender none = inl none
unsent_by Clerks r sender none = inl none

headless : (audience : Audience) (s : Standing) (t : Moment) (r : Response) → r ≡ bare 400
    → IsAnswered s s t (command_in audience None []) (λ L. answer_of audience s.warehouse L None [] t) r
headless Partners s t r is = at_error s t (bare 400) r is
headless Testers s t r is = at_error s t (bare 400) r is
headless Clerks s t r is = at_error s t (bare 400) r is

pub headless_answer : (access : Access) (s : Standing) (t : Moment) (known mid : Option (List ℕ)) (got : List ℕ) (r : Response) (sender : Option Who)
    → Consumes known mid got → HasNoHead (got ++ unwrap_or mid []) → r ≡ bare 400 → sender ≡ None → IsExchange access s s known t r None sender false
headless_answer access s t known mid got r sender bytes none is unsent = record {
  input = got ++ unwrap_or mid [];
  is_input = had_input known mid got bytes;
  head = None;
  rest = [];
  begins = none;
  told = tt;
  sent = unsent_by access.audience r sender unsent;
  answered = headless access.audience s t r is;
  shut = λ was yes. cc;
  health = refl;
}
