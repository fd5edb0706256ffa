-- Which requests ask the book for anything, and what a book that has to be opened again answers
-- them.
use Rattle.std.specs.Prelude.{◌≡◌, ◌⊎◌, ℕ, Bool, true, false, ◌&&◌, List, Option, Some, None, Result, Ok, Err, is_some}
use Rattle.httparse.specs.Grammar.{RequestHead}
use Rattle.definitions.specs.Header.{who_of}
use Rattle.definitions.specs.Register.{Command}
use Rattle.definitions.specs.Response.{Method, Get, Post, Route, ToExchange, ToStock, ToOutbox, ToContent, Response, is_plain_number, fault_response}
use Rattle.store.specs.Standing.{Standing}
use Rattle.store.specs.Fault.{Fault}
use Rattle.store.specs.Fault.TheVariants.{OutOfMemory, Reopen}
use Rattle.intake.specs.Calls.{Call, ToDeed, ToTriedDeed, ToTriedExchange, ToOrder, ToForm, ToExport, ToOpen, ToDepositors, deed_of, owner_of}
use Rattle.intake.specs.Fields.{head_of}
use Rattle.intake.specs.Targets.{Target, ToRoute, ToCall, asked_with, target_of}
use Rattle.intake.specs.declared.audience.Audience.{Audience}

-- an interchange that is handed in, and what a depositor has or was sent, where the parts of the
-- path can be read
abbrev pub route_asks : Method → Route → Bool
route_asks Post ToExchange = true
route_asks Get (ToStock who) = is_some (who_of who)
route_asks Get (ToOutbox who) = is_some (who_of who)
route_asks Get (ToContent who n) = is_some (who_of who) && is_plain_number n
route_asks method route = false

-- a deed that is a command
abbrev pub deed_asks : Result Command Response → Bool
deed_asks (Ok c) = true
deed_asks (Err r) = false

-- the same tried out, an interchange that is, and what clerks are shown, where the parts of the
-- path can be read; the page is no part of the book
abbrev pub call_asks : Method → Call → List ℕ → Bool
call_asks Post (ToDeed kind who ticket number) body =
    deed_asks (deed_of kind who ticket number body)
call_asks Post (ToTriedDeed kind who ticket number) body =
    deed_asks (deed_of kind who ticket number body)
call_asks Post ToTriedExchange body = true
call_asks Get (ToOrder who number) body = is_some (owner_of who number)
call_asks Get (ToForm form who number) body = is_some (owner_of who number)
call_asks Get (ToExport who) body = is_some (who_of who)
call_asks Get (ToOpen who) body = is_some (who_of who)
call_asks Get ToDepositors body = true
call_asks method call body = false

abbrev pub target_asks : Method → Target → List ℕ → Bool
target_asks method (ToRoute route) body = route_asks method route
target_asks method (ToCall call) body = call_asks method call body

-- by the body that is asked with; a request that fails a test asks nothing
abbrev pub asks_with : Method → Target → Result (List ℕ) ℕ → Bool
asks_with method to (Err status) = false
asks_with method to (Ok body) = target_asks method to body

-- by the head of a request, if that is good, and the bytes after it
abbrev pub asks_in : Audience → Option RequestHead → List ℕ → Bool
asks_in audience None rest = false
asks_in audience (Some h) rest =
    asks_with (head_of h).method (target_of audience h.target)
    (asked_with (head_of h) (target_of audience h.target) rest)

-- the response of a fault
abbrev pub IsResponseOf : Fault → Response → Type 0
IsResponseOf fault r = r ≡ fault_response fault

-- A book that has to be opened again says so, by 42; where memory for the request itself is
-- wanting, before the book is asked, that is 40.
abbrev pub IsShutResponse : Response → Type 0
IsShutResponse r = IsResponseOf Reopen r ⊎ IsResponseOf OutOfMemory r

-- It says so to whatever asks it for anything.
abbrev pub IsShutAnswer : Standing → Bool → Response → Type 0
IsShutAnswer old asks r = old.shut ≡ true → asks ≡ true → IsShutResponse r
