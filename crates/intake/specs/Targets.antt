-- Where a path leads, by whom a server answers, and what is asked for there.
use Rattle.std.specs.Prelude.{ℕ, Bool, false, List, [], if◌then◌else◌, Option, Some, None, Result, Ok, Err, codes, bytes_eq}
use Rattle.definitions.specs.Rules.{Today}
use Rattle.definitions.specs.Header.{Who}
use Rattle.definitions.specs.Moments.{Moment}
use Rattle.definitions.specs.Register.{Command, Interchange, Entry}
use Rattle.definitions.specs.Response.{Method, Route, Head, Response, bare, is_exchange, body_after, resp}
use Rattle.intake.specs.Calls.{Call, ToDeed, ToTriedDeed, ToTriedExchange, ToPage, ToOrder, ToForm, ToExport, ToOpen, ToDepositors, call_of, call_has_body, is_tried_exchange, call_command, call_resp}
use Rattle.intake.specs.Routes.{route_of, seen_route}
use Rattle.intake.specs.declared.audience.Audience.{Audience}
use Rattle.intake.specs.declared.audience.Audience.TheVariants.{Partners, Testers, Clerks}
use Rattle.intake.specs.declared.calls.Deed.{Deed}
use Rattle.intake.specs.declared.calls.Call.{Call as FoundCall}
use Rattle.intake.specs.declared.calls.Call.TheVariants as calls
use Rattle.intake.specs.declared.targets.Target.{Target as Found}
use Rattle.intake.specs.declared.targets.Target.TheVariants as found

-- one of the routes that are always served, or a clerk's call
pub data Target : Type 0 where
  ToRoute : Route → Target
  ToCall : Call → Target

-- what a path calls for: nothing where partners alone are served; where they may try an
-- interchange out, that and no more
abbrev pub call_for : Audience → List ℕ → Option Call
call_for Partners path = None
call_for Testers path =
    if bytes_eq path (codes "/try/x12") then Some ToTriedExchange else None
call_for Clerks path = call_of path

abbrev pub target_by : Option Call → List ℕ → Target
target_by None path = ToRoute (route_of path)
target_by (Some call) path = ToCall call

abbrev pub target_of : Audience → List ℕ → Target
target_of audience path = target_by (call_for audience path) path

-- whether the request is one that has a body
abbrev pub has_body : Method → Target → Bool
has_body method (ToRoute route) = is_exchange method route
has_body method (ToCall call) = call_has_body method call

-- whether the request hands an interchange in
abbrev pub hands_in : Method → Target → Bool
hands_in method (ToRoute route) = is_exchange method route
hands_in method (ToCall call) = false

-- whether an interchange comes with the request: it hands it in, or tries it out
abbrev pub has_interchange : Method → Target → Bool
has_interchange method (ToRoute route) = is_exchange method route
has_interchange method (ToCall call) = is_tried_exchange method call

-- the interchange that comes with a request, if one does
abbrev pub interchange_with : Method → Target → List ℕ → Option Command
interchange_with method to body =
    if has_interchange method to then Some (Interchange body) else None

-- the interchange that a request hands in, if it does
abbrev pub handed_in : Method → Route → List ℕ → Option Command
handed_in method route body = if is_exchange method route then Some (Interchange body) else None

-- the command that a request submits, if it does
abbrev pub target_command : Method → Target → List ℕ → Option Command
target_command method (ToRoute route) body = handed_in method route body
target_command method (ToCall call) body = call_command method call body

abbrev pub target_resp : Who → List Entry → Method → Target → List ℕ → Moment → Response
target_resp W L method (ToRoute route) body t = resp Today W L method route body t
target_resp W L method (ToCall call) body t = call_resp W L method call body t

-- the body that is asked with, none where there needn't be one; or the status of the first test
-- that fails
abbrev pub asked_with : Head → Target → List ℕ → Result (List ℕ) ℕ
asked_with h to rest =
    if h.is_encoded then Err 501
    else (if has_body h.method to then body_after h.lengths rest else Ok [])

abbrev pub command_with : Method → Target → Result (List ℕ) ℕ → Option Command
command_with method to (Err status) = None
command_with method to (Ok body) = target_command method to body

abbrev pub response_with : Who → List Entry → Method → Target → Moment → Result (List ℕ) ℕ
    → Response
response_with W L method to t (Err status) = bare status
response_with W L method to t (Ok body) = target_resp W L method to body t

-- What was found of a path.

abbrev pub seen_deed : Deed → Call
seen_deed d = ToDeed d.kind d.who.now d.ticket.now d.number.now

abbrev pub seen_tried : Deed → Call
seen_tried d = ToTriedDeed d.kind d.who.now d.ticket.now d.number.now

abbrev pub seen_call : FoundCall → Call
seen_call (calls.Deed d) = seen_deed d
seen_call (calls.TriedDeed d) = seen_tried d
seen_call calls.TriedExchange = ToTriedExchange
seen_call calls.Page = ToPage
seen_call (calls.Order who number) = ToOrder who.now number.now
seen_call (calls.Form form who number) = ToForm form who.now number.now
seen_call (calls.Export who) = ToExport who.now
seen_call (calls.Open who) = ToOpen who.now
seen_call calls.Depositors = ToDepositors

abbrev pub seen_target : Found → Target
seen_target (found.Route route) = ToRoute (seen_route route)
seen_target (found.Call call) = ToCall (seen_call call)
