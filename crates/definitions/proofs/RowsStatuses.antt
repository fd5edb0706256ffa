-- Worked examples of HTTP: the status and the body of each outcome, and of each test of a request.
use Rattle.std.specs.Prelude.{◌≡◌, ℕ, true, false, List, [], ◌∷◌, ◌++◌, map, replicate, Some, None, Ok, Err, codes, Option}
use Rattle.std.proofs.Common.{refl}
use Rattle.std.specs.Fmt.{digits}
use Rattle.definitions.specs.declared.rules.Rules.{Rules}
use Rattle.definitions.specs.declared.rules.Rules.TheVariants.{One, Two}
use Rattle.definitions.specs.Refusals.{Unreadable, Note, Duplicate, NumbersUsedUp, OutOfMemory, Store, Reopen, NotThisBook, Device}
use Rattle.definitions.specs.Reply.{Accepted, Stored, Refused}
use Rattle.definitions.specs.Response.{Method, Get, Post, OtherMethod, Route, ToExchange, ToStock, ToOutbox, ToContent, Nowhere, Response, bare, reply_response, fault_response, resp, Head, stated_length, body_after, response_to, submitted, response_bytes}
use Rattle.definitions.proofs.Sample.{WHSE1, morning, first_advice, first_answer, sends, book}

-- Outcomes of an interchange.

abbrev typed : ℕ → List ℕ → List ℕ → Response
typed status kind body = record { status = status; kind = Some kind; allow = None; body = body }

abbrev x12 : ℕ → List ℕ → Response
x12 status body = typed status (codes "application/EDI-X12") body

abbrev plain : ℕ → List ℕ → Response
plain status body = typed status (codes "text/plain") body

abbrev empty : Response
empty = record { status = 204; kind = None; allow = None; body = [] }

abbrev text : List ℕ
text = codes "ISA*.."

outcomes : map reply_response
    (Accepted text ∷ Stored text ∷ Accepted [] ∷ Stored []
    ∷ Refused Unreadable [] ∷ Refused Duplicate text ∷ Refused NumbersUsedUp [] ∷ [])
    ≡ x12 200 text ∷ x12 200 text ∷ empty ∷ empty
    ∷ plain 400 (codes "1 Unreadable\n") ∷ x12 409 text ∷ plain 422 (codes "34 NumbersUsedUp\n") ∷ []
unfolding digits
outcomes = refl

-- every note but that of a duplicate
notes : map (λ code. reply_response (Refused (Note code) text))
    (6 ∷ 9 ∷ 10 ∷ 11 ∷ 12 ∷ 13 ∷ 14 ∷ 15 ∷ 2 ∷ 3 ∷ 19 ∷ 20 ∷ 23 ∷ 22 ∷ 1 ∷ 21 ∷ 24 ∷ [])
    ≡ replicate 17 (x12 422 text)
unfolding digits
notes = refl

faults : map fault_response (OutOfMemory ∷ Store ∷ Reopen ∷ NotThisBook ∷ Device ∷ [])
    ≡ plain 503 (codes "40 OutOfMemory\n")
    ∷ plain 503 (codes "41 Store\n")
    ∷ plain 503 (codes "42 Reopen\n")
    ∷ plain 503 (codes "43 NotThisBook\n")
    ∷ plain 503 (codes "44 Device\n")
    ∷ []
unfolding digits
faults = refl

-- the statuses of a request that is answered without a look at the book
bare_statuses : map bare (400 ∷ 404 ∷ 411 ∷ 413 ∷ 501 ∷ [])
    ≡ plain 400 (codes "400 Bad Request\n")
    ∷ plain 404 (codes "404 Not Found\n")
    ∷ plain 411 (codes "411 Length Required\n")
    ∷ plain 413 (codes "413 Payload Too Large\n")
    ∷ plain 501 (codes "501 Not Implemented\n")
    ∷ []
unfolding digits
bare_statuses = refl

-- a response's bytes: its status line, the type and the length of its body, and the body
abbrev written : List ℕ → List ℕ → List ℕ → List ℕ → List ℕ
written status kind size body = codes "HTTP/1.1 " ++ status
    ++ codes "\r\nContent-Type: " ++ kind ++ codes "\r\nContent-Length: " ++ size
    ++ codes "\r\nConnection: close\r\n\r\n" ++ body

abbrev written_plain : List ℕ → List ℕ → List ℕ → List ℕ
written_plain status size body = written status (codes "text/plain") size body

responses_written : map response_bytes
    (bare 411
    ∷ bare 501
    ∷ reply_response (Refused (Note 24) text)
    ∷ reply_response (Refused Duplicate text)
    ∷ reply_response (Refused NumbersUsedUp [])
    ∷ reply_response (Stored text)
    ∷ reply_response (Stored [])
    ∷ fault_response Reopen
    ∷ [])
    ≡ written_plain (codes "411 Length Required") (codes "20") (codes "411 Length Required\n")
    ∷ written_plain (codes "501 Not Implemented") (codes "20") (codes "501 Not Implemented\n")
    ∷ written (codes "422 Unprocessable Entity") (codes "application/EDI-X12") (codes "6") text
    ∷ written (codes "409 Conflict") (codes "application/EDI-X12") (codes "6") text
    ∷ written_plain (codes "422 Unprocessable Entity") (codes "17") (codes "34 NumbersUsedUp\n")
    ∷ written (codes "200 OK") (codes "application/EDI-X12") (codes "6") text
    ∷ codes "HTTP/1.1 204 No Content\r\nConnection: close\r\n\r\n"
    ∷ written_plain (codes "503 Service Unavailable") (codes "10") (codes "42 Reopen\n")
    ∷ []
unfolding digits
responses_written = refl

-- Routes and methods.

abbrev allowed : List ℕ → Response
allowed method = record {
  status = 405;
  kind = Some (codes "text/plain");
  allow = Some method;
  body = codes "405 Method Not Allowed\n";
}

abbrev asked_by : Rules → Method → Route → Response
asked_by r method route = resp r WHSE1 (book r []) method route [] morning

abbrev queries : List Route
queries = ToStock (codes "ZZ-ACME") ∷ ToOutbox (codes "ZZ-ACME")
    ∷ ToContent (codes "ZZ-ACME") (codes "1") ∷ []

wrong_methods : (r : Rules) → map (asked_by r Get) (ToExchange ∷ []) ++ map (asked_by r OtherMethod) (ToExchange ∷ [])
    ++ map (asked_by r Post) queries ++ map (asked_by r OtherMethod) queries
    ≡ replicate 2 (allowed (codes "POST")) ++ replicate 6 (allowed (codes "GET"))
unfolding digits
wrong_methods r = refl

nowhere : (r : Rules) → map (λ method. asked_by r method Nowhere) (Get ∷ Post ∷ OtherMethod ∷ [])
    ≡ replicate 3 (bare 404)
unfolding digits
nowhere r = refl

-- a number in a path: 1 to 6 digits without a leading zero, of a content that is there
abbrev content : Rules → List ℕ → Response
content r n = resp r WHSE1 (book r (sends first_advice ∷ [])) Get (ToContent (codes "ZZ-ACME") n) [] morning

content_there : (r : Rules) → content r (codes "1") ≡ x12 200 first_answer
unfolding digits
content_there One = refl
content_there Two = refl

content_missing : (r : Rules) → map (content r)
    (codes "0" ∷ codes "2" ∷ codes "01" ∷ codes "999999" ∷ codes "1000001" ∷ codes "0000001"
    ∷ codes "+1" ∷ codes "1 " ∷ codes "A" ∷ [] ∷ [])
    ≡ replicate 10 (bare 404)
unfolding digits
content_missing One = refl
content_missing Two = refl

-- Lengths of a body as they are stated.

lengths : map stated_length
    ([]
    ∷ ([] ∷ [])
    ∷ (codes "-1" ∷ [])
    ∷ (codes "+1" ∷ [])
    ∷ (codes "1 0" ∷ [])
    ∷ (codes "1," ∷ [])
    ∷ (codes "0x10" ∷ [])
    ∷ (codes "12a" ∷ [])
    ∷ (codes "9999999a" ∷ [])
    ∷ (codes "0" ∷ codes "0" ∷ [])
    ∷ (codes "1048577" ∷ codes "1048577" ∷ [])
    ∷ ([] ∷ codes "1" ∷ [])
    ∷ (codes "1" ∷ codes "2" ∷ codes "3" ∷ [])
    ∷ (codes "0" ∷ [])
    ∷ (codes "00000000000000000000255" ∷ [])
    ∷ (codes "1048576" ∷ [])
    ∷ (codes "1048577" ∷ [])
    ∷ (codes "99999999999999999999" ∷ [])
    ∷ [])
    ≡ Err 411 ∷ replicate 12 (Err 400) ++ Ok 0 ∷ Ok 255 ∷ Ok 1048576 ∷ Err 413 ∷ Err 413 ∷ []
lengths = refl

bodies : body_after (codes "0" ∷ []) []
    ∷ body_after (codes "0" ∷ []) (codes "abc")
    ∷ body_after (codes "3" ∷ []) (codes "abc")
    ∷ body_after (codes "3" ∷ []) (codes "abcd")
    ∷ body_after (codes "4" ∷ []) (codes "abc")
    ∷ []
    ≡ Ok [] ∷ Ok [] ∷ Ok (codes "abc") ∷ Ok (codes "abc") ∷ Err 400 ∷ []
bodies = refl

-- The tests of a request, each before those after it.

abbrev head : Method → Route → List (List ℕ) → Option Head
head method route stated =
    Some (record { method = method; route = route; is_encoded = false; lengths = stated })

abbrev encoded : Method → Route → List (List ℕ) → Option Head
encoded method route stated =
    Some (record { method = method; route = route; is_encoded = true; lengths = stated })

abbrev status_of : Rules → Option Head → List ℕ → ℕ
status_of r h rest = (response_to r WHSE1 (book r []) h rest morning).status

abbrev twice : List (List ℕ)
twice = codes "1" ∷ codes "1" ∷ []

tests : (r : Rules) → status_of r (encoded Post ToExchange twice) []
    ∷ status_of r (encoded OtherMethod ToExchange []) []
    ∷ status_of r (encoded Get (ToStock (codes "ZZ-ACME")) []) []
    ∷ status_of r (head OtherMethod Nowhere twice) []
    ∷ status_of r (head Post Nowhere twice) []
    ∷ status_of r (head Get ToExchange twice) []
    ∷ status_of r (head OtherMethod ToExchange (codes "1048577" ∷ [])) []
    ∷ status_of r (head Post (ToOutbox (codes "ZZ-ACME")) twice) []
    ∷ status_of r (head Get (ToOutbox (codes "ZZ-ACME")) twice) []
    ∷ status_of r (head Post ToExchange (codes "1048577" ∷ [])) []
    ∷ status_of r (head Post ToExchange (codes "2" ∷ [])) (codes "a")
    ∷ status_of r (head Post ToExchange (codes "0" ∷ [])) []
    ∷ status_of r (head Post ToExchange (codes "106" ∷ [])) first_advice
    ∷ status_of r (head Post ToExchange (codes "255" ∷ [])) first_advice
    ∷ []
    ≡ 501 ∷ 501 ∷ 501 ∷ 404 ∷ 404 ∷ 405 ∷ 405 ∷ 405 ∷ 200 ∷ 413 ∷ 400 ∷ 400 ∷ 422 ∷ 200 ∷ []
unfolding digits
tests One = refl
tests Two = refl

-- nothing is submitted by a request that fails a test
nothing_submitted : map (λ h. submitted h first_advice)
    (None
    ∷ encoded Post ToExchange (codes "255" ∷ [])
    ∷ head Post Nowhere (codes "255" ∷ [])
    ∷ head OtherMethod ToExchange (codes "255" ∷ [])
    ∷ head Post (ToStock (codes "ZZ-ACME")) (codes "255" ∷ [])
    ∷ head Post ToExchange []
    ∷ head Post ToExchange (codes "255" ∷ codes "255" ∷ [])
    ∷ head Post ToExchange (codes "256" ∷ [])
    ∷ [])
    ≡ replicate 8 None
unfolding digits
nothing_submitted = refl
