-- What clerks ask for by the path of a request, and what they are answered.
use Rattle.std.specs.Prelude.{ℕ, Bool, true, false, ◌&&◌, ◌==◌, List, [], ◌∷◌, ◌++◌, length, if◌then◌else◌, Option, Some, None, Result, Ok, Err, codes, bytes_eq}
use Rattle.definitions.specs.Rules.{Today}
use Rattle.definitions.specs.Accepted.{reply_to}
use Rattle.definitions.specs.Bytes.{is_identifier}
use Rattle.definitions.specs.declared.sheet_kind.SheetKind.{SheetKind}
use Rattle.definitions.specs.declared.sheet_kind.SheetKind.TheVariants.{Count as CountSheet, Pick as PickSheet, Recount as RecountSheet}
use Rattle.definitions.specs.Decision.{standing}
use Rattle.definitions.specs.Header.{Who, who_of}
use Rattle.definitions.specs.History.{History}
use Rattle.definitions.specs.Limits.{most_ticket, most_number}
use Rattle.definitions.specs.Means.{Line}
use Rattle.definitions.specs.Moments.{Moment}
use Rattle.definitions.specs.Readings.{parts_at}
use Rattle.definitions.specs.Refusals.{told_refusal}
use Rattle.definitions.specs.declared.refusals.Refusal.{Refusal}
use Rattle.definitions.specs.declared.refusals.Refusal.TheVariants.{UnknownDepositor, TicketUsed, BadText}
use Rattle.definitions.specs.Register.{Act, Count, Pick, Recount, Command, Clerk, Interchange, Entry, own}
use Rattle.definitions.specs.Reply.{Reply, Accepted, Stored, Refused}
use Rattle.definitions.specs.Reports.{stock_csv}
use Rattle.definitions.specs.Response.{Method, Get, Post, Response, with_body, plain_type, x12_type, refused_response, reply_response, found_for, not_allowed}
use Rattle.definitions.specs.Rows.{stock_of}
use Rattle.page.specs.Pages.{page_text, page_type}
use Rattle.reports.specs.Open.{open_report, depositor_list}
use Rattle.sheet_texts.specs.Texts.{sheet_of_text}
use Rattle.intake.specs.Forms.{form_text}
use Rattle.intake.specs.declared.calls.Form.{Form}
use Rattle.intake.specs.declared.calls.Form.TheVariants.{PickList, ReceivingList, ReceivingCsv, PickingCsv}
use Rattle.store.specs.Open.{OpenWork, open_of, enrolled}

-- Paths.

-- what a path calls for, with its parts
pub data Call : Type 0 where
  -- /count/{who}/{ticket}/{shipment}, /pick/{who}/{ticket}/{order}, and /recount/{who}/{ticket},
  -- which has no number
  ToDeed : SheetKind → List ℕ → List ℕ → List ℕ → Call
  -- the same after /try: it is answered and not done
  ToTriedDeed : SheetKind → List ℕ → List ℕ → List ℕ → Call
  -- /try/x12
  ToTriedExchange : Call
  -- /
  ToPage : Call
  -- /orders/{who}/{order}
  ToOrder : List ℕ → List ℕ → Call
  -- /advices/{who}/{shipment}, the same and /csv, and /orders/{who}/{order}/csv
  ToForm : Form → List ℕ → List ℕ → Call
  -- /stock/{who}/csv
  ToExport : List ℕ → Call
  -- /open/{who}
  ToOpen : List ℕ → Call
  -- /depositors
  ToDepositors : Call

-- of one part
abbrev pub call_of_one : List ℕ → Option Call
call_of_one name =
    if length name == 0 then Some ToPage
    else (if bytes_eq name (codes "depositors") then Some ToDepositors else None)

-- of two
abbrev pub call_of_two : List ℕ → List ℕ → Option Call
call_of_two name who = if bytes_eq name (codes "open") then Some (ToOpen who) else None

-- of three
abbrev pub call_of_three : List ℕ → List ℕ → List ℕ → Option Call
call_of_three name who last =
    if bytes_eq name (codes "recount") then Some (ToDeed RecountSheet who last [])
    else (if bytes_eq name (codes "orders") then Some (ToOrder who last)
    else (if bytes_eq name (codes "advices") then Some (ToForm ReceivingList who last)
    else (if bytes_eq name (codes "stock") && bytes_eq last (codes "csv") then Some (ToExport who)
    else None)))

-- of four, the last of which is csv
abbrev pub form_of : List ℕ → List ℕ → List ℕ → List ℕ → Option Call
form_of name who number last =
    if bytes_eq name (codes "advices") && bytes_eq last (codes "csv")
    then Some (ToForm ReceivingCsv who number)
    else (if bytes_eq name (codes "orders") && bytes_eq last (codes "csv")
    then Some (ToForm PickingCsv who number)
    else None)

-- of four
abbrev pub call_of_four : List ℕ → List ℕ → List ℕ → List ℕ → Option Call
call_of_four name who middle last =
    if bytes_eq name (codes "count") then Some (ToDeed CountSheet who middle last)
    else (if bytes_eq name (codes "pick") then Some (ToDeed PickSheet who middle last)
    else form_of name who middle last)

-- by the parts after the first slash, where it isn't to be tried out alone
abbrev pub call_to_do : List (List ℕ) → Option Call
call_to_do (name ∷ []) = call_of_one name
call_to_do (name ∷ who ∷ []) = call_of_two name who
call_to_do (name ∷ who ∷ last ∷ []) = call_of_three name who last
call_to_do (name ∷ who ∷ middle ∷ last ∷ []) = call_of_four name who middle last
call_to_do parts = None

-- a deed, tried out; nothing else that is called for can be
abbrev pub tried : Option Call → Option Call
tried (Some (ToDeed kind who ticket number)) = Some (ToTriedDeed kind who ticket number)
tried call = None

-- by the parts after /try: an interchange or a deed
abbrev pub call_to_try : List (List ℕ) → Option Call
call_to_try (name ∷ []) = if bytes_eq name (codes "x12") then Some ToTriedExchange else None
call_to_try parts = tried (call_to_do parts)

-- by the parts after the first slash
abbrev pub call_of_parts : List (List ℕ) → Option Call
call_of_parts [] = None
call_of_parts (name ∷ parts) =
    if bytes_eq name (codes "try") then call_to_try parts else call_to_do (name ∷ parts)

-- nothing stands before the first slash
abbrev pub call_in : List (List ℕ) → Option Call
call_in [] = None
call_in (front ∷ parts) = if length front == 0 then call_of_parts parts else None

-- what a path calls for, by its parts between slashes, if it does; a part may be empty
abbrev pub call_of : List ℕ → Option Call
call_of path = call_in (parts_at 47 path)

-- Deeds: a clerk's acts, each with its sheet.

-- number and name of a refusal, under a status of its own
abbrev pub line_response : ℕ → Refusal → Response
line_response status r = with_body status plain_type (told_refusal r ++ codes "\n")

abbrev pub act_of : SheetKind → List ℕ → List Line → Act
act_of CountSheet number sheet = Count number sheet
act_of PickSheet number sheet = Pick number sheet
act_of RecountSheet number sheet = Recount sheet

-- whether an advice or an order is named, where a sheet of this kind wants one
abbrev pub is_named : SheetKind → List ℕ → Bool
is_named RecountSheet number = true
is_named kind number = is_identifier 1 most_number number

-- the depositor that the parts of a deed's path name; none where one of the parts can't be read
abbrev pub depositor_of : SheetKind → List ℕ → List ℕ → List ℕ → Option Who
depositor_of kind who ticket number =
    if is_identifier 1 most_ticket ticket && is_named kind number then who_of who else None

abbrev pub with_sheet : SheetKind → Who → List ℕ → List ℕ → Result (List Line) Refusal
    → Result Command Response
with_sheet kind w ticket number (Ok sheet) = Ok (Clerk w ticket (act_of kind number sheet))
with_sheet kind w ticket number (Err r) = Err (refused_response r [])

abbrev pub by_depositor : SheetKind → Option Who → List ℕ → List ℕ → List ℕ
    → Result Command Response
by_depositor kind None ticket number body = Err (line_response 404 BadText)
by_depositor kind (Some w) ticket number body =
    with_sheet kind w ticket number (sheet_of_text Today kind body)

-- the command of a deed, its sheet being the body; or the response of the first test that fails: a
-- part of the path that can't be read, and what keeps the text from being a sheet
abbrev pub deed_of : SheetKind → List ℕ → List ℕ → List ℕ → List ℕ → Result Command Response
deed_of kind who ticket number body =
    by_depositor kind (depositor_of kind who ticket number) ticket number body

-- a stranger is 404, a ticket of another deed 409, and any other refusal as that of an interchange
abbrev pub deed_refused : Refusal → List ℕ → Response
deed_refused UnknownDepositor text = line_response 404 UnknownDepositor
deed_refused TicketUsed text = line_response 409 TicketUsed
deed_refused r text = refused_response r text

-- the document of a deed, also where it was done before
abbrev pub deed_reply : Reply → Response
deed_reply (Accepted text) = with_body 200 x12_type text
deed_reply (Stored text) = with_body 200 x12_type text
deed_reply (Refused r text) = deed_refused r text

abbrev pub deed_response : Who → List Entry → Moment → Result Command Response → Response
deed_response W L t (Ok c) = deed_reply (reply_to Today W L c t)
deed_response W L t (Err r) = r

abbrev pub deed_command : Result Command Response → Option Command
deed_command (Ok c) = Some c
deed_command (Err r) = None

-- Forms.

-- the depositor whose order or advice is named; none where a part of the path can't be read
abbrev pub owner_of : List ℕ → List ℕ → Option Who
owner_of who number = if is_identifier 1 most_number number then who_of who else None

abbrev pub sheet_response : Result (List ℕ) Refusal → Response
sheet_response (Ok text) = with_body 200 plain_type text
sheet_response (Err r) = refused_response r []

-- by the history of the depositor; a stranger has none
abbrev pub form_by : Form → List ℕ → Option History → Response
form_by form number None = line_response 404 UnknownDepositor
form_by form number (Some h) = sheet_response (form_text form h.events number)

abbrev pub form_response : List Entry → Form → Option Who → List ℕ → Response
form_response L form None number = line_response 404 BadText
form_response L form (Some w) number = form_by form number (standing (own L w))

-- What is open, and who is enrolled.

-- a stranger has no work
abbrev pub work_response : Option OpenWork → Response
work_response None = line_response 404 UnknownDepositor
work_response (Some work) = with_body 200 plain_type (open_report work)

-- of the depositor that is named; none where the part of the path can't be read
abbrev pub open_response : List Entry → Option Who → Response
open_response L None = line_response 404 BadText
open_response L (Some w) = work_response (open_of L w)

abbrev pub depositors_response : List Entry → Response
depositors_response L = with_body 200 plain_type (depositor_list (enrolled L))

-- Calls.

-- whether an interchange comes as the body, to be tried out
abbrev pub is_tried_exchange : Method → Call → Bool
is_tried_exchange Post ToTriedExchange = true
is_tried_exchange method call = false

-- whether the request is one that has a body
abbrev pub call_has_body : Method → Call → Bool
call_has_body Post (ToDeed kind who ticket number) = true
call_has_body Post (ToTriedDeed kind who ticket number) = true
call_has_body method call = is_tried_exchange method call

-- the command that is submitted, if one is: of what is tried out none is
abbrev pub call_command : Method → Call → List ℕ → Option Command
call_command Post (ToDeed kind who ticket number) body =
    deed_command (deed_of kind who ticket number body)
call_command method call body = None

-- The response to a request whose head is good, by its method, what its path calls for, and its
-- body. What is tried out is answered as the same deed or interchange would be now.
abbrev pub call_resp : Who → List Entry → Method → Call → List ℕ → Moment → Response
call_resp W L Post (ToDeed kind who ticket number) body t =
    deed_response W L t (deed_of kind who ticket number body)
call_resp W L Post (ToTriedDeed kind who ticket number) body t =
    deed_response W L t (deed_of kind who ticket number body)
call_resp W L Post ToTriedExchange body t =
    reply_response (reply_to Today W L (Interchange body) t)
call_resp W L Get ToPage body t = with_body 200 page_type page_text
call_resp W L Get (ToOrder who number) body t =
    form_response L PickList (owner_of who number) number
call_resp W L Get (ToForm form who number) body t =
    form_response L form (owner_of who number) number
call_resp W L Get (ToExport who) body t =
    found_for who (stock_of L) (λ rows. with_body 200 plain_type (stock_csv Today rows))
call_resp W L Get (ToOpen who) body t = open_response L (who_of who)
call_resp W L Get ToDepositors body t = depositors_response L
call_resp W L method (ToDeed kind who ticket number) body t = not_allowed (codes "POST")
call_resp W L method (ToTriedDeed kind who ticket number) body t = not_allowed (codes "POST")
call_resp W L method ToTriedExchange body t = not_allowed (codes "POST")
call_resp W L method call body t = not_allowed (codes "GET")
