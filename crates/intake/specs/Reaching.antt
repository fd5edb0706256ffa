-- What may be asked for, where a server stands behind one that says for whom it asks.
use Rattle.std.specs.Prelude.{ℕ, Bool, true, false, List, Result, Ok, Err, if◌then◌else◌, bytes_eq}
use Rattle.definitions.specs.Header.{Who, who_text}
use Rattle.definitions.specs.Response.{Head, Method, Route, ToExchange, ToStock, ToOutbox, ToContent, Nowhere}
use Rattle.intake.specs.Calls.{Call, ToDeed, ToTriedDeed, ToTriedExchange, ToPage, ToOrder, ToForm, ToExport, ToOpen, ToDepositors}
use Rattle.intake.specs.Lines.{sender_in}
use Rattle.intake.specs.Targets.{Target, ToRoute, ToCall, asked_with, interchange_with}
use Rattle.request_guard.specs.Askers.{may_send}
use Rattle.request_guard.specs.declared.askers.Asker.{Asker}
use Rattle.request_guard.specs.declared.askers.Asker.TheVariants.{Unnamed, Depositor, Unknown}

-- nothing of another depositor is at a route
abbrev pub is_own_route : Who → Route → Bool
is_own_route w (ToStock who) = bytes_eq (who_text w) who
is_own_route w (ToOutbox who) = bytes_eq (who_text w) who
is_own_route w (ToContent who n) = bytes_eq (who_text w) who
is_own_route w ToExchange = true
is_own_route w Nowhere = true

-- nor in what a path calls for; the list of depositors has others, and the page is for clerks
abbrev pub is_own_call : Who → Call → Bool
is_own_call w (ToDeed kind who ticket number) = bytes_eq (who_text w) who
is_own_call w (ToTriedDeed kind who ticket number) = bytes_eq (who_text w) who
is_own_call w ToTriedExchange = true
is_own_call w ToPage = false
is_own_call w (ToOrder who number) = bytes_eq (who_text w) who
is_own_call w (ToForm form who number) = bytes_eq (who_text w) who
is_own_call w (ToExport who) = bytes_eq (who_text w) who
is_own_call w (ToOpen who) = bytes_eq (who_text w) who
is_own_call w ToDepositors = false

-- a request may be asked for by its path
abbrev pub may_reach : Asker → Target → Bool
may_reach Unnamed to = true
may_reach Unknown to = false
may_reach (Depositor w) (ToRoute route) = is_own_route w route
may_reach (Depositor w) (ToCall call) = is_own_call w call

-- the body that is asked with, unless it is an interchange that may not be handed in or tried out
abbrev pub sent_for : Asker → Method → Target → Result (List ℕ) ℕ → Result (List ℕ) ℕ
sent_for asker method to (Err status) = Err status
sent_for asker method to (Ok body) =
    if may_send asker (sender_in (interchange_with method to body)) then Ok body else Err 403

-- The body that is asked with, or the status of the first test that fails: that of what belongs to
-- another depositor comes first, and that of what another sent last.
abbrev pub asked_for : Asker → Head → Target → List ℕ → Result (List ℕ) ℕ
asked_for asker h to rest =
    if may_reach asker to then sent_for asker h.method to (asked_with h to rest) else Err 403
