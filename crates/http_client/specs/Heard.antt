-- What an answer of a server comes to, and what is printed of it.
use Rattle.std.specs.Prelude.{◌≡◌, ℕ, Bool, false, ◌==◌, ◌&&◌, ◌||◌, not, List, [], ◌∷◌, take, length, nat_lt, if◌then◌else◌, Option, Some, None, slice_get, slice_index, unwrap_or, option_and_then, min}
use Rattle.std.specs.List.{slice_split, list_all}
use Rattle.std.specs.Io.KnownBytes.{Appends}
use Rattle.definitions.specs.Bytes.{is_digit, value}
use Rattle.definitions.specs.Lists.{first_of}
use Rattle.definitions.specs.Refusals.{refusal_numbered, fault_numbered}
use Rattle.store.specs.Refusal.{Refusal}
use Rattle.store.specs.Refusal.TheVariants as refusals
use Rattle.store.specs.Fault.{Fault}
use Rattle.store.specs.Fault.TheVariants as faults
use Rattle.intake.specs.declared.audience.Audience.{Audience}
use Rattle.intake.specs.declared.audience.Audience.TheVariants.{Partners, Testers, Clerks}
use Rattle.commands.specs.Telling.{line_of, refused_line}
use Rattle.commands.specs.Stops.{HasDeviceFault, fault_in}
use Rattle.commands.specs.declared.told.CommandError.{CommandError}
use Rattle.commands.specs.declared.told.ExitStatus.{ExitStatus}
use Rattle.commands.specs.declared.told.ExitStatus.TheVariants as statuses
use Rattle.http_client.specs.declared.answers.TheConstants.{PAST_NUMBERS}
use Rattle.http_client.specs.declared.answers.HeardAs.{HeardAs}
use Rattle.http_client.specs.declared.answers.HeardAs.TheVariants.{Done, Refused, Stopped}

-- the value of digits; 0 for any other text, and what is past all numbers for any that is larger
abbrev pub value_of : List ℕ → ℕ
value_of text = if list_all is_digit text then min (value text) PAST_NUMBERS else 0

-- the number that a text begins with, before its first space
abbrev pub number_in : List ℕ → ℕ
number_in text = value_of (unwrap_or (slice_get (slice_split (λ b. b == 32) text) 0) [])

-- the note code that the first three digits of a piece are
abbrev pub note_of : List ℕ → Option ℕ
note_of piece =
    if nat_lt (length piece) 3 then None
    else (if nat_lt 255 (min (value (take 3 piece)) PAST_NUMBERS) then None
    else Some (min (value (take 3 piece)) PAST_NUMBERS))

-- The code of the note in an interchange that refuses another, which is TA105. What separates its
-- elements is its fourth byte; the sixteen elements of ISA and four of TA1 stand before it.
abbrev pub note_in : List ℕ → Option ℕ
note_in text =
    if nat_lt (length text) 4 then None
    else option_and_then note_of (slice_get (slice_split (λ b. b == slice_index text 3) text) 21)

-- the fault that a body tells by its number; a server that can be heard tells no 44 of itself, so
-- that stands for what no such server answers
abbrev pub fault_in_body : List ℕ → Fault
fault_in_body body = unwrap_or (fault_numbered (number_in body)) faults.Device

-- whether a server tells the refusal under this status: what can't be read is 404 in a path and 422
-- in a sheet
abbrev pub stands_under : ℕ → Refusal → Bool
stands_under status refusals.Unreadable = status == 400
stands_under status refusals.UnknownDepositor = status == 404
stands_under status refusals.BadText = status == 404 || status == 422
stands_under status refusals.TicketUsed = status == 409
stands_under status r = status == 422

-- a refusal by its number
abbrev pub heard_line : ℕ → List ℕ → HeardAs
heard_line status line = by (refusal_numbered (number_in line))
  where
    by : Option Refusal → HeardAs
    by (Some r) = if stands_under status r then Refused r else Stopped faults.Device
    by None = Stopped faults.Device

abbrev pub heard_note : List ℕ → HeardAs
heard_note text = by (note_in text)
  where
    by : Option ℕ → HeardAs
    by (Some code) = Refused (refusals.Note code)
    by None = Stopped faults.Device

-- The answer to a command: what is done has a document, or nothing (204) where an interchange has
-- an empty answer.
abbrev pub heard : ℕ → Bool → List ℕ → HeardAs
heard status is_interchange body = first_of (heard_line status body)
    ((status == 200 && is_interchange, Done)
    ∷ (status == 204, Done)
    ∷ (status == 409 && is_interchange, Refused refusals.Duplicate)
    ∷ (status == 422 && is_interchange, heard_note body)
    ∷ (status == 413, Refused refusals.Unreadable)
    ∷ (status == 503, Stopped (fault_in_body body))
    ∷ [])

-- Whether a 404 is of a depositor whom the server doesn't know. Of what partners are shown a server
-- says `404 Not Found` then. Where clerks alone are shown something, why they aren't stands in the
-- body by its own number, so a 404 without one is no server's that takes clerks' requests.
abbrev pub is_nobody : Audience → List ℕ → Bool
is_nobody Partners body = number_in body == 404
is_nobody Testers body = number_in body == 404
is_nobody Clerks body = false

-- The answer to a query of what these are shown, which is no interchange.
abbrev pub heard_query : Audience → ℕ → Bool → List ℕ → HeardAs
heard_query shown status is_interchange body = first_of (heard_line status body)
    ((status == 200 && not is_interchange, Done)
    ∷ (status == 404 && is_nobody shown body, Refused refusals.UnknownDepositor)
    ∷ (status == 503, Stopped (fault_in_body body))
    ∷ [])

-- a document, or the interchange that refuses another, and a line feed
abbrev pub printed_document : Bool → List ℕ → List ℕ
printed_document is_interchange body = if is_interchange then line_of body else []

-- a report as it is
abbrev pub printed_report : ℕ → List ℕ → List ℕ
printed_report status body = if status == 200 then body else []

-- the exit status that an answer gives; a fault stops a command
abbrev pub IsStatus : HeardAs → ExitStatus → Type 0
IsStatus Done status = status ≡ statuses.Done
IsStatus (Refused r) status = status ≡ statuses.Refused
IsStatus (Stopped f) status = ⊥

-- an answer was told: this was printed, and the exit status is its
pub record IsAnswerTold
    (printed : List ℕ) (h : HeardAs) (before after : Option (List ℕ)) (status : ExitStatus)
    : Type 0 where
  pub text : Appends before after printed
  pub says : IsStatus h status

-- the fault that an answer tells, if it tells one
abbrev pub stop_of : HeardAs → Option Fault
stop_of (Stopped fault) = Some fault
stop_of h = None

-- what stops a command with an answer: the fault that it tells; and where it tells none, a device
-- that doesn't take what is printed, or want of memory
abbrev pub IsAnswerHalted : HeardAs → CommandError → Type 0
IsAnswerHalted h stop = by (stop_of h)
  where
    by : Option Fault → Type 0
    by (Some fault) = fault_in stop ≡ Some fault
    by None = HasDeviceFault stop

-- nothing went out under the number that was asked for, which the status alone says
abbrev pub TellsNothing : Option (List ℕ) → Option (List ℕ) → ExitStatus → Type 0
TellsNothing before after status = Appends before after [] × (status ≡ statuses.Refused)

-- what is told of an answer on standard error: the line of a refusal
abbrev pub told_line : HeardAs → List ℕ
told_line (Refused refusal) = refused_line refusal
told_line other = []
