-- HTTP/1.1: the response to a request, and its bytes.
use Rattle.std.specs.Prelude.{ℕ, Bool, true, false, not, ◌&&◌, List, [], ◌∷◌, ◌++◌, length, take, if◌then◌else◌, nat_lt, nat_le, ◌==◌, slice_index, Some, None, Ok, Err, codes, decimal, find, flat_map, Option, Result, unwrap_or, option_map, option_and_then, option_to_list}
use Rattle.definitions.specs.declared.rules.Rules.{Rules}
use Rattle.definitions.specs.Limits.{most_bytes}
use Rattle.definitions.specs.Bytes.{is_number, value}
use Rattle.definitions.specs.Lists.{first_of}
use Rattle.definitions.specs.Moments.{Moment}
use Rattle.definitions.specs.Header.{Who, who_of}
use Rattle.definitions.specs.Register.{Interchange, Entry}
use Rattle.definitions.specs.Refusals.{Refusal, Unreadable, Note, Duplicate, Fault, told_refusal, told_fault}
use Rattle.definitions.specs.Texts.{answer}
use Rattle.definitions.specs.Reply.{Reply, Accepted, Stored, Refused}
use Rattle.definitions.specs.Accepted.{reply_to}
use Rattle.definitions.specs.Rows.{OutRow, stock_of, outbox_of}
use Rattle.definitions.specs.Reports.{stock_report, outbox_list}

pub data Method : Type 0 where
  Get : Method
  Post : Method
  OtherMethod : Method

-- where a path leads, with the parts of it that stand for a depositor and a number
pub data Route : Type 0 where
  -- /x12
  ToExchange : Route
  -- /stock/{who}
  ToStock : List ℕ → Route
  -- /outbox/{who}
  ToOutbox : List ℕ → Route
  -- /outbox/{who}/{n}
  ToContent : List ℕ → List ℕ → Route
  Nowhere : Route

pub record Response : Type 0 where
  pub status : ℕ
  -- Content-Type, where there is a body
  pub kind : Option (List ℕ)
  -- Allow, of a 405
  pub allow : Option (List ℕ)
  pub body : List ℕ

-- the reason phrases of the statuses that are answered
abbrev pub phrases : List (ℕ × List ℕ)
phrases =
    (200, codes "OK")
    ∷ (204, codes "No Content")
    ∷ (400, codes "Bad Request")
    ∷ (403, codes "Forbidden")
    ∷ (404, codes "Not Found")
    ∷ (405, codes "Method Not Allowed")
    ∷ (409, codes "Conflict")
    ∷ (411, codes "Length Required")
    ∷ (413, codes "Payload Too Large")
    ∷ (421, codes "Misdirected Request")
    ∷ (422, codes "Unprocessable Entity")
    ∷ (501, codes "Not Implemented")
    ∷ (503, codes "Service Unavailable")
    ∷ []

abbrev pub phrase : ℕ → List ℕ
phrase status = unwrap_or (option_map (λ p. p.1) (find (λ p. p.0 == status) phrases)) []

abbrev pub plain_type : List ℕ
plain_type = codes "text/plain"

-- the media type of RFC 1767
abbrev pub x12_type : List ℕ
x12_type = codes "application/EDI-X12"

abbrev pub with_body : ℕ → List ℕ → List ℕ → Response
with_body status kind body = record { status = status; kind = Some kind; allow = None; body = body }

abbrev pub no_content : Response
no_content = record { status = 204; kind = None; allow = None; body = [] }

-- a body of the status and its phrase
abbrev pub status_text : ℕ → List ℕ
status_text status = decimal status ++ codes " " ++ phrase status ++ codes "\n"

abbrev pub bare : ℕ → Response
bare status = with_body status plain_type (status_text status)

abbrev pub not_allowed : List ℕ → Response
not_allowed method =
    record { status = 405; kind = Some plain_type; allow = Some method; body = status_text 405 }

-- a fault inside is answered 503 with its number and name
abbrev pub fault_response : Fault → Response
fault_response f = with_body 503 plain_type (told_fault f ++ codes "\n")

-- Interchanges.

-- an answer, or 204 where it is empty
abbrev pub answer_response : List ℕ → Response
answer_response text = if length text == 0 then no_content else with_body 200 x12_type text

abbrev pub refused_response : Refusal → List ℕ → Response
refused_response Duplicate text = with_body 409 x12_type text
refused_response (Note code) text = with_body 422 x12_type text
refused_response Unreadable text = with_body 400 plain_type (told_refusal Unreadable ++ codes "\n")
refused_response r text = with_body 422 plain_type (told_refusal r ++ codes "\n")

abbrev pub reply_response : Reply → Response
reply_response (Accepted text) = answer_response text
reply_response (Stored text) = answer_response text
reply_response (Refused r text) = refused_response r text

-- Queries.

-- what is found of the depositor that a part of the path names, or 404
abbrev pub found_for : {X : Type 0} → List ℕ → (Who → Option X) → (X → Response) → Response
found_for who query answer =
    unwrap_or (option_map answer (option_and_then query (who_of who))) (bare 404)

-- 1 to 6 digits without a leading zero
abbrev pub is_plain_number : List ℕ → Bool
is_plain_number n = is_number n && nat_le (length n) 6 && not (slice_index n 0 == 48)

-- the content under a number
abbrev pub content_response : List ℕ → List OutRow → Response
content_response n rows = if is_plain_number n then unwrap_or
    (option_map (λ r. with_body 200 x12_type r.content) (find (λ r. r.n == value n) rows))
    (bare 404) else bare 404

-- The response to a request whose head is good, by the rules of the program, and by its method, the
-- route of its path and its body.
abbrev pub resp : Rules → Who → List Entry → Method → Route → List ℕ → Moment → Response
resp r W L Post ToExchange body t = reply_response (reply_to r W L (Interchange body) t)
resp r W L Get (ToStock who) body t =
    found_for who (stock_of L) (λ rows. with_body 200 plain_type (stock_report r rows))
resp r W L Get (ToOutbox who) body t =
    found_for who (outbox_of W L) (λ rows. with_body 200 plain_type (outbox_list rows))
resp r W L Get (ToContent who n) body t = found_for who (outbox_of W L) (content_response n)
resp r W L method Nowhere body t = bare 404
resp r W L method ToExchange body t = not_allowed (codes "POST")
resp r W L method route body t = not_allowed (codes "GET")

-- A request, and the tests that it meets in order.

-- What a request's head says. Which bytes are a head, and what it says, is told where requests are
-- read: a head is the shortest beginning of the input that is one in the grammar of `httparse`,
-- within 8,192 bytes and 32 fields; fields are found by name without case and their values trimmed;
-- the route is what `matchit` finds of the path, nowhere where that isn't UTF-8.
pub record Head : Type 0 where
  pub method : Method
  pub route : Route
  -- whether there is a Transfer-Encoding field
  pub is_encoded : Bool
  -- the values of the Content-Length fields
  pub lengths : List (List ℕ)

-- the length of a body, or the status that refuses it: 411 for none stated, 400 for more than one
-- or no digits, 413 for too much
abbrev pub stated_length : List (List ℕ) → Result ℕ ℕ
stated_length [] = Err 411
stated_length (text ∷ []) = first_of (Ok (value text))
    ((not (is_number text), Err 400)
    ∷ (nat_lt most_bytes (value text), Err 413)
    ∷ [])
stated_length (text ∷ other ∷ more) = Err 400

-- the body that stands after the head, or the status that refuses it: 400 where it is cut off
abbrev pub body_after : List (List ℕ) → List ℕ → Result (List ℕ) ℕ
body_after lengths rest = by_length (stated_length lengths)
  where
    by_length : Result ℕ ℕ → Result (List ℕ) ℕ
    by_length (Err status) = Err status
    by_length (Ok n) = if nat_lt (length rest) n then Err 400 else Ok (take n rest)

-- whether the request is one that has a body
abbrev pub is_exchange : Method → Route → Bool
is_exchange Post ToExchange = true
is_exchange method route = false

-- what is asked for: with the body of an exchange, and no body else; or the status of the first
-- test that fails, a bad head 400, a Transfer-Encoding 501, and for an exchange the tests of its
-- body
abbrev pub asked : Option Head → List ℕ → Result (Head × List ℕ) ℕ
asked None rest = Err 400
asked (Some h) rest =
    if h.is_encoded then Err 501
    else (if is_exchange h.method h.route then by_body (body_after h.lengths rest) else Ok (h, []))
  where
    by_body : Result (List ℕ) ℕ → Result (Head × List ℕ) ℕ
    by_body (Err status) = Err status
    by_body (Ok body) = Ok (h, body)

abbrev pub response_of : Rules → Who → List Entry → Moment → Result (Head × List ℕ) ℕ → Response
response_of r W L t (Err status) = bare status
response_of r W L t (Ok p) = resp r W L p.0.method p.0.route p.1 t

-- The response to a request, by its head, if that is good, and the bytes after it: that of the
-- first test which it fails, else of what is asked for, where no route is 404 and a wrong method
-- 405.
abbrev pub response_to : Rules → Who → List Entry → Option Head → List ℕ → Moment → Response
response_to r W L head rest t = response_of r W L t (asked head rest)

-- the interchange that a request submits, if it passes these tests
abbrev pub submitted_by : Result (Head × List ℕ) ℕ → Option (List ℕ)
submitted_by (Err status) = None
submitted_by (Ok p) = if is_exchange p.0.method p.0.route then Some p.1 else None

abbrev pub submitted : Option Head → List ℕ → Option (List ℕ)
submitted head rest = submitted_by (asked head rest)

-- The bytes.

abbrev pub header : List ℕ → List ℕ → List ℕ
header name text = name ++ codes ": " ++ text ++ codes "\r\n"

abbrev pub body_headers : Response → List ℕ
body_headers r = by_kind r.kind
  where
    by_kind : Option (List ℕ) → List ℕ
    by_kind None = []
    by_kind (Some kind) = header (codes "Content-Type") kind
        ++ header (codes "Content-Length") (decimal (length r.body))

abbrev pub response_bytes : Response → List ℕ
response_bytes r = codes "HTTP/1.1 " ++ decimal r.status ++ codes " " ++ phrase r.status
    ++ codes "\r\n"
    ++ body_headers r
    ++ flat_map (header (codes "Allow")) (option_to_list r.allow)
    ++ header (codes "Connection") (codes "close")
    ++ codes "\r\n" ++ r.body
