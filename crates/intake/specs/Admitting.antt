-- What a request asks for, and which requests a server turns away by their heads.
use Rattle.std.specs.Prelude.{ℕ, Bool, true, false, List, Option, Some, None, map, option_map}
use Rattle.httparse.specs.Grammar.{RequestHead}
use Rattle.httparse.specs.Spans.{name_and_value}
use Rattle.request_guard.specs.Doors.{barred_of, names_of, status_of}
use Rattle.request_guard.specs.declared.barred.Barred.{Barred}
use Rattle.request_guard.specs.declared.judging.Doors.{Doors}
use Rattle.definitions.specs.Rules.{Today}
use Rattle.definitions.specs.Moments.{Moment}
use Rattle.definitions.specs.Header.{Who}
use Rattle.definitions.specs.Register.{Command, Entry, Interchange}
use Rattle.definitions.specs.Response.{Response, bare, response_to, submitted}
use Rattle.intake.specs.Reaching.{asked_for}
use Rattle.request_guard.specs.Askers.{asker_of}
use Rattle.intake.specs.Asking.{asks_in, asks_with}
use Rattle.intake.specs.Calls.{Call, call_of}
use Rattle.intake.specs.Fields.{head_of}
use Rattle.intake.specs.Health.{leads_to_health, health_response, health_asks}
use Rattle.intake.specs.Targets.{ToCall, asked_with, call_for, command_with, response_with, target_of}
use Rattle.request_guard.specs.declared.askers.Asker.{Asker}
use Rattle.request_guard.specs.declared.askers.Asker.TheVariants.{Unnamed}
use Rattle.peers.specs.declared.entrances.Door.{Door}
use Rattle.peers.specs.declared.entrances.Door.TheVariants.{First, Second}
use Rattle.intake.specs.declared.audience.Access.{Access}
use Rattle.intake.specs.declared.audience.Audience.{Audience}
use Rattle.intake.specs.declared.audience.Audience.TheVariants.{Partners, Testers, Clerks}

-- By partners an interchange or a route, as ever; by others the same, but where a path calls for
-- something: by partners who may try an interchange out for that alone.

abbrev pub call_submitted : Option Call → RequestHead → List ℕ → Option Command
call_submitted None h rest = option_map Interchange (submitted (Some (head_of h)) rest)
call_submitted (Some call) h rest =
    command_with (head_of h).method (ToCall call) (asked_with (head_of h) (ToCall call) rest)

abbrev pub call_answer : Option Call → Who → List Entry → RequestHead → List ℕ → Moment → Response
call_answer None W L h rest t = response_to Today W L (Some (head_of h)) rest t
call_answer (Some call) W L h rest t =
    response_with W L (head_of h).method (ToCall call) t (asked_with (head_of h) (ToCall call) rest)

-- the command that a request submits, by its head, if that is good, and the bytes after it
abbrev pub command_in : Audience → Option RequestHead → List ℕ → Option Command
command_in Partners head rest = option_map Interchange (submitted (option_map head_of head) rest)
command_in Testers None rest = None
command_in Testers (Some h) rest = call_submitted (call_for Testers h.target) h rest
command_in Clerks None rest = None
command_in Clerks (Some h) rest = call_submitted (call_of h.target) h rest

-- the response to it
abbrev pub answer_of : Audience → Who → List Entry → Option RequestHead → List ℕ → Moment → Response
answer_of Partners W L head rest t = response_to Today W L (option_map head_of head) rest t
answer_of Testers W L None rest t = response_to Today W L None rest t
answer_of Testers W L (Some h) rest t = call_answer (call_for Testers h.target) W L h rest t
answer_of Clerks W L None rest t = response_to Today W L None rest t
answer_of Clerks W L (Some h) rest t = call_answer (call_of h.target) W L h rest t

-- For whom requests are asked.

-- where what stands in front is to say it, by the body that is asked with; else as ever
abbrev pub command_for : Asker → Audience → RequestHead → List ℕ → Option Command
command_for Unnamed audience h rest = command_in audience (Some h) rest
command_for asker audience h rest =
    let to = target_of audience h.target in
    command_with (head_of h).method to (asked_for asker (head_of h) to rest)

abbrev pub answer_for : Asker → Audience → Who → List Entry → RequestHead → List ℕ → Moment
    → Response
answer_for Unnamed audience W L h rest t = answer_of audience W L (Some h) rest t
answer_for asker audience W L h rest t =
    let to = target_of audience h.target in
    response_with W L (head_of h).method to t (asked_for asker (head_of h) to rest)

abbrev pub asks_for : Asker → Audience → RequestHead → List ℕ → Bool
asks_for Unnamed audience h rest = asks_in audience (Some h) rest
asks_for asker audience h rest =
    let to = target_of audience h.target in
    asks_with (head_of h).method to (asked_for asker (head_of h) to rest)

-- Which requests are turned away.

-- partners are served, nobody is turned away, nobody is to say for whom a request is asked, and no
-- health is told
abbrev pub of_partners : Access
of_partners = record { audience = Partners; doors = None; from = None; tells_health = false }

-- an access that tells no health, and is the same else
abbrev pub without_health : Access → Access
without_health access = record {
  audience = access.audience;
  doors = access.doors;
  from = access.from;
  tells_health = false;
}

-- whom a server answers by its second door: clerks, who come to an address of their own, so that
-- nobody in front says for whom they ask; but where partners alone are served, nobody else
abbrev pub access_beside : Audience → Access → Access
access_beside Partners access = access
access_beside audience access = record {
  audience = Clerks;
  doors = access.doors;
  from = None;
  tells_health = access.tells_health;
}

-- whom it answers by a door
abbrev pub access_by : Access → Door → Access
access_by access First = access
access_by access Second = access_beside access.audience access

-- why a request is turned away at these doors; where there are none, no request is
abbrev pub barred_at : Option Doors → RequestHead → Option Barred
barred_at None h = None
barred_at (Some doors) h =
    barred_of (names_of doors.names) h.method (map name_and_value h.fields)

-- for whom a request with this head is asked
abbrev pub asker_at : Access → RequestHead → Asker
asker_at access h = asker_of access.from (map name_and_value h.fields)

-- how a request comes in: it is turned away; it is for the health of the book, whoever asks;
-- or it asks as any other
pub data Admission : Type 0 where
  TurnedAway : Barred → Admission
  ForHealth : Admission
  LetIn : Admission

abbrev pub admission_by : Option Barred → Bool → Admission
admission_by (Some why) is_health = TurnedAway why
admission_by None true = ForHealth
admission_by None false = LetIn

abbrev pub admission_of : Access → RequestHead → Admission
admission_of access h =
    admission_by (barred_at access.doors h) (leads_to_health access h.target)

-- the command that a request submits: one that is turned away submits none, nor does one for the
-- health of the book
abbrev pub command_past : Admission → Access → RequestHead → List ℕ → Option Command
command_past LetIn access h rest = command_for (asker_at access h) access.audience h rest
command_past ForHealth access h rest = None
command_past (TurnedAway why) access h rest = None

abbrev pub command_by : Access → Option RequestHead → List ℕ → Option Command
command_by access None rest = command_in access.audience None rest
command_by access (Some h) rest = command_past (admission_of access h) access h rest

-- the response to it: to one that is turned away, the status that says why
abbrev pub answer_past : Admission → Access → Who → List Entry → RequestHead → List ℕ → Moment
    → Response
answer_past LetIn access W L h rest t =
    answer_for (asker_at access h) access.audience W L h rest t
answer_past ForHealth access W L h rest t = health_response (head_of h) L
answer_past (TurnedAway why) access W L h rest t = bare (status_of why)

abbrev pub answer_by : Access → Who → List Entry → Option RequestHead → List ℕ → Moment → Response
answer_by access W L None rest t = answer_of access.audience W L None rest t
answer_by access W L (Some h) rest t = answer_past (admission_of access h) access W L h rest t

-- whether it asks the book for anything
abbrev pub asks_past : Admission → Access → RequestHead → List ℕ → Bool
asks_past LetIn access h rest = asks_for (asker_at access h) access.audience h rest
asks_past ForHealth access h rest = health_asks (head_of h)
asks_past (TurnedAway why) access h rest = false

abbrev pub asks_by : Access → Option RequestHead → List ℕ → Bool
asks_by access None rest = asks_in access.audience None rest
asks_by access (Some h) rest = asks_past (admission_of access h) access h rest

-- whether it is one for the health of the book that was let in
abbrev pub is_health : Admission → Bool
is_health ForHealth = true
is_health (TurnedAway why) = false
is_health LetIn = false

abbrev pub is_health_by : Access → Option RequestHead → Bool
is_health_by access None = false
is_health_by access (Some h) = is_health (admission_of access h)
