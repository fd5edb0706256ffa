-- What a request is answered, and what it leaves of the book.
use Rattle.std.specs.Prelude.{◌≡◌, ◌⊎◌, ℕ, Bool, true, false, List, ◌++◌, Option, Some, None, Result, IfSome, length}
use Rattle.httparse.specs.Grammar.{RequestHead}
use Rattle.definitions.specs.Rules.{Today}
use Rattle.definitions.specs.Moments.{Moment}
use Rattle.definitions.specs.Header.{Who}
use Rattle.definitions.specs.Register.{Command, Entry}
use Rattle.definitions.specs.Accepted.{is_accepted, reply_to, after}
use Rattle.definitions.specs.Response.{Method, Route, Response, fault_response, resp, response_bytes}
use Rattle.store.specs.Standing.{Standing, IsUsable, IsUnchanged, IsFault, GoesOn, LeavesEither, OfKept, OfUsable}
use Rattle.store.specs.Fault.{Fault}
use Rattle.std.specs.Io.KnownBytes.{Appends}
use Rattle.counted_io.specs.Gauges.{Grew, AppendsBeginning}
use Rattle.intake.specs.Asking.{asks_with, route_asks, call_asks, target_asks, IsShutAnswer, IsShutResponse}
use Rattle.counted_io.specs.Inputs.{IsInput}
use Rattle.intake.specs.Requests.{HasRequestHead, HasNoHead}
use Rattle.intake.specs.Lines.{TellsOf, HasLine, TellsSender}
use Rattle.intake.specs.Admitting.{answer_by, answer_for, asks_by, asks_for, command_by, command_for, is_health_by}
use Rattle.intake.specs.Calls.{Call, call_command, call_resp}
use Rattle.intake.specs.Targets.{Target, command_with, handed_in, response_with, target_command, target_resp}
use Rattle.request_guard.specs.declared.askers.Asker.{Asker}
use Rattle.intake.specs.declared.audience.Access.{Access}
use Rattle.intake.specs.declared.audience.Audience.{Audience}
use Rattle.intake.specs.declared.served.RequestLine.{RequestLine}

-- The response of the definitions, over a register that the book keeps. The book is left as the
-- command that was submitted leaves it; where none was, or it isn't accepted now, the book is as it
-- was.
pub record IsAsDefined
    (old new : Standing) (t : Moment) (submits : Option Command) (meant : List Entry → Response)
    (r : Response) : Type 0 where
  pub response : OfKept old new (λ L. r ≡ meant L)
  pub kept : submits ≡ None → IsUnchanged old new
  pub taken : (c : Command) → submits ≡ Some c
      → OfUsable old new (λ L. IsUsable new (after Today old.warehouse L (c, t)))
  pub repeated : (c : Command) → submits ≡ Some c → OfKept old new
      (λ L. is_accepted (reply_to Today old.warehouse L c t) ≡ false → IsUnchanged old new)
  pub opened : (c : Command) → submits ≡ Some c → new.shut ≡ false

-- The 503 of a fault that happened. The book is as it was, or it has to be opened again; then a
-- crash leaves the register as it was, or with the entry of the command that was submitted.
pub record IsFaulted
    (old new : Standing) (t : Moment) (submits : Option Command) (r : Response) : Type 0 where
  pub fault : Fault
  pub response : r ≡ fault_response fault
  pub why : IsFault fault old new
  pub kept : submits ≡ None → IsUnchanged old new
  pub left : (c : Command) → submits ≡ Some c
      → OfUsable old new (λ L. LeavesEither new L (after Today old.warehouse L (c, t)))

abbrev pub IsAnswered : Standing → Standing → Moment → Option Command → (List Entry → Response)
    → Response → Type 0
IsAnswered old new t submits meant r = IsAsDefined old new t submits meant r
    ⊎ IsFaulted old new t submits r

-- A request is served: it is answered so, no count falls and the warehouse is the same, and a book
-- that has to be opened again says so, if it is asked for anything.
pub record IsRequestServed
    (old new : Standing) (t : Moment) (submits : Option Command) (meant : List Entry → Response)
    (asks : Bool) (says : Response → Type 0) (r : Response) : Type 0 where
  pub answered : IsAnswered old new t submits meant r
  pub goes : GoesOn old new
  pub shut : old.shut ≡ true → asks ≡ true → says r

-- the same of what is asked at a route, of a target, and of what a path calls for, with this body
abbrev pub IsRouteServed : Standing → Standing → Moment → Method → Route → List ℕ
    → (Response → Type 0) → Response → Type 0
IsRouteServed old new t method route body says r =
    IsRequestServed old new t (handed_in method route body)
    (λ L. resp Today old.warehouse L method route body t) (route_asks method route) says r

abbrev pub IsTargetServed : Standing → Standing → Moment → Method → Target → List ℕ → Response
    → Type 0
IsTargetServed old new t method to body r =
    IsRequestServed old new t (target_command method to body)
    (λ L. target_resp old.warehouse L method to body t) (target_asks method to body)
    IsShutResponse r

-- the same of a target that was asked for with a body, or of which a test failed with a status
abbrev pub IsAskedServed : Standing → Standing → Moment → Method → Target → Result (List ℕ) ℕ
    → Response → Type 0
IsAskedServed old new t method to asked r =
    IsRequestServed old new t (command_with method to asked)
    (λ L. response_with old.warehouse L method to t asked) (asks_with method to asked)
    IsShutResponse r

abbrev pub IsCallServed : Standing → Standing → Moment → Method → Call → List ℕ → Response → Type 0
IsCallServed old new t method call body r =
    IsRequestServed old new t (call_command method call body)
    (λ L. call_resp old.warehouse L method call body t) (call_asks method call body)
    IsShutResponse r

-- what an input begins with: a head, and what is after it; or none
abbrev pub BeginsWith : List ℕ → Option RequestHead → List ℕ → Type 0
BeginsWith input None rest = HasNoHead input
BeginsWith input (Some h) rest = HasRequestHead input h rest

-- The response to what a reader has, with what became of the book, and what is told of the head and
-- of the sender, and whether the health of the book was asked for. A request that is turned away by
-- its head submits nothing and asks nothing. A book that has to be opened again answers as
-- `IsShutAnswer` says.
pub record IsExchange
    (access : Access) (old new : Standing) (known : Option (List ℕ)) (t : Moment) (r : Response)
    (line : Option RequestLine) (sender : Option Who) (is_health : Bool) : Type 0 where
  pub input : List ℕ
  pub is_input : IsInput known input
  pub head : Option RequestHead
  pub rest : List ℕ
  pub begins : BeginsWith input head rest
  pub told : TellsOf line head
  pub sent : TellsSender sender (command_by access head rest) r
  pub answered : IsAnswered old new t (command_by access head rest)
      (λ L. answer_by access old.warehouse L head rest t) r
  pub shut : IsShutAnswer old (asks_by access head rest) r
  pub health : is_health ≡ is_health_by access head

-- The same of a request whose head was read, with the first bytes of what is after it.
pub record IsExchangeOf
    (access : Access) (old new : Standing) (known : Option (List ℕ)) (t : Moment) (h : RequestHead)
    (start : List ℕ) (r : Response) (sender : Option Who) (is_health : Bool) : Type 0 where
  pub input : List ℕ
  pub is_input : IsInput known input
  pub sent : TellsSender sender (command_by access (Some h) (start ++ input)) r
  pub answered : IsAnswered old new t (command_by access (Some h) (start ++ input))
      (λ L. answer_by access old.warehouse L (Some h) (start ++ input) t) r
  pub shut : IsShutAnswer old (asks_by access (Some h) (start ++ input)) r
  pub health : is_health ≡ is_health_by access (Some h)

-- The same of a request that the doors don't turn away, and that isn't for the health of the book.
pub record IsExchangeAfter
    (asker : Asker) (audience : Audience) (old new : Standing) (known : Option (List ℕ))
    (t : Moment) (h : RequestHead) (start : List ℕ) (r : Response) (sender : Option Who)
    : Type 0 where
  pub input : List ℕ
  pub is_input : IsInput known input
  pub sent : TellsSender sender (command_for asker audience h (start ++ input)) r
  pub answered : IsAnswered old new t (command_for asker audience h (start ++ input))
      (λ L. answer_for asker audience old.warehouse L h (start ++ input) t) r
  pub shut : IsShutAnswer old (asks_for asker audience h (start ++ input)) r

-- A response was written: it was that to what the reader had. What is told is its status, the line
-- of the request, who sent the interchange that was handed in, how many bytes the response has, and
-- whether the health of the book was asked for.
pub record IsResponseWritten
    (access : Access) (old new : Standing) (known : Option (List ℕ)) (t : Moment)
    (before later : Option (List ℕ)) (status : ℕ) (line : Option RequestLine) (sender : Option Who)
    (bytes : ℕ) (is_health : Bool) : Type 0 where
  pub response : Response
  pub exchange : IsExchange access old new known t response line sender is_health
  pub status_of : status ≡ response.status
  pub whole : Appends before later (response_bytes response)
  pub counted : bytes ≡ length (response_bytes response)

-- The reader failed: nothing was handed in or written, and the book is as it was. The line is told
-- where the head was read.
pub record IsUnread
    (old new : Standing) (known before later : Option (List ℕ)) (errors more : ℕ)
    (line : Option RequestLine) (sender : Option Who) (bytes : ℕ) (is_health : Bool) : Type 0 where
  pub book : IsUnchanged old new
  pub nothing : later ≡ before
  pub grew : Grew errors more
  pub told : IfSome line (HasLine known)
  pub sent : sender ≡ None
  pub counted : bytes ≡ 0
  pub health : is_health ≡ false

-- The writer failed: a beginning of the response was written, of so many bytes, and the book is as
-- the request left it.
pub record IsUnwritten
    (access : Access) (old new : Standing) (known : Option (List ℕ)) (t : Moment)
    (before later : Option (List ℕ)) (errors more : ℕ) (line : Option RequestLine)
    (sender : Option Who) (bytes : ℕ) (is_health : Bool) : Type 0 where
  pub response : Response
  pub exchange : IsExchange access old new known t response line sender is_health
  pub beginning : AppendsBeginning before later (response_bytes response) bytes
  pub grew : Grew errors more
