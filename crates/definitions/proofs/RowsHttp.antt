-- Worked examples of HTTP: from the parts of a request to the bytes of its response.
use Rattle.std.specs.Prelude.{◌≡◌, ℕ, true, false, List, [], ◌∷◌, ◌++◌, map, length, take, replicate, Some, None, codes, Option}
use Rattle.std.specs.List.{range_with_len}
use Rattle.std.proofs.Common.{refl}
use Rattle.std.specs.Fmt.{digits}
use Rattle.definitions.specs.declared.rules.Rules.{Rules}
use Rattle.definitions.specs.declared.rules.Rules.TheVariants.{One, Two}
use Rattle.definitions.specs.Moments.{Moment}
use Rattle.definitions.specs.Register.{Command}
use Rattle.definitions.specs.Refusals.{OutOfMemory}
use Rattle.definitions.specs.Response.{Method, Get, Post, OtherMethod, Route, ToExchange, ToStock, ToOutbox, ToContent, Nowhere, Response, bare, fault_response, resp, Head, response_to, submitted, response_bytes}
use Rattle.definitions.proofs.Sample.{WHSE1, morning, received, refusal_of, first_advice, first_answer, sends, book}
use Rattle.definitions.proofs.RowsTrade.{last_acknowledgment, count_text, until_count, until_pick, until_acknowledgment}

abbrev respond : Rules → List (Command × Moment) → Method → Route → List ℕ → Response
respond r cs method route body = resp r WHSE1 (book r cs) method route body morning

-- a POST to /x12, and a GET
abbrev posted : Rules → List (Command × Moment) → List ℕ → List ℕ
posted r cs body = response_bytes (respond r cs Post ToExchange body)

abbrev got : Rules → List (Command × Moment) → Route → List ℕ
got r cs route = response_bytes (respond r cs Get route [])

first_posted : (r : Rules) → posted r [] first_advice ≡ codes "HTTP/1.1 200 OK\r\nContent-Type: application/EDI-X12\r\nContent-Length: 265\r\nConnection: close\r\n\r\n" ++ first_answer
unfolding digits
first_posted One = refl
first_posted Two = refl

first_posted_length : (r : Rules) → length (posted r [] first_advice) ≡ 359
unfolding digits
first_posted_length One = refl
first_posted_length Two = refl

changed_posted : (r : Rules) → posted r (sends first_advice ∷ []) (received (codes "000000001") (codes "1") (codes "AR") (codes "1")
    (codes "ST*943*0001~W06*F*PO77*20250303*SHP1~W04*101*EA**SK*BOLT~N9*LT*L1~W03*101~SE*6*0001~"))
    ≡ codes "HTTP/1.1 409 Conflict\r\nContent-Type: application/EDI-X12\r\nContent-Length: 154\r\nConnection: close\r\n\r\n"
    ++ refusal_of (codes "000000001") (codes "025")
unfolding digits
changed_posted r = refl

cut_off_posted : (r : Rules) → posted r [] (take 105 first_advice)
    ≡ codes "HTTP/1.1 400 Bad Request\r\nContent-Type: text/plain\r\nContent-Length: 13\r\nConnection: close\r\n\r\n1 Unreadable\n"
unfolding digits
cut_off_posted r = refl

note_posted : (r : Rules) → (respond r [] Post ToExchange (take 106 first_advice)).status ≡ 422
unfolding digits
note_posted r = refl

stock_got_first : got One until_count (ToStock (codes "ZZ-ACME"))
    ≡ codes "HTTP/1.1 200 OK\r\nContent-Type: text/plain\r\nContent-Length: 196\r\nConnection: close\r\n\r\n"
    ++ codes "item                 lot                 expected         on hand        reserved         shipped\n"
    ++ codes "BOLT                 L1                         0              90               0               0\n"
unfolding digits
stock_got_first = refl

stock_got : got Two until_count (ToStock (codes "ZZ-ACME"))
    ≡ codes "HTTP/1.1 200 OK\r\nContent-Type: text/plain\r\nContent-Length: 214\r\nConnection: close\r\n\r\n"
    ++ codes "item                 lot          expiry          expected         on hand        reserved         shipped\n"
    ++ codes "BOLT                 L1                                  0              90               0               0\n"
unfolding digits
stock_got = refl

content_got : (r : Rules) → got r until_count (ToContent (codes "ZZ-ACME") (codes "2"))
    ≡ codes "HTTP/1.1 200 OK\r\nContent-Type: application/EDI-X12\r\nContent-Length: 259\r\nConnection: close\r\n\r\n" ++ count_text
unfolding digits
content_got One = refl
content_got Two = refl

outbox_got : (r : Rules) → got r until_acknowledgment (ToOutbox (codes "ZZ-ACME"))
    ≡ codes "HTTP/1.1 200 OK\r\nContent-Type: text/plain\r\nContent-Length: 62\r\nConnection: close\r\n\r\n"
    ++ codes "     1 ANS -\n     2 944 open\n     3 ANS -\n     4 945 accepted\n"
unfolding digits
outbox_got One = refl
outbox_got Two = refl

abbrev not_found : List ℕ
not_found = codes "HTTP/1.1 404 Not Found\r\nContent-Type: text/plain\r\nContent-Length: 14\r\nConnection: close\r\n\r\n404 Not Found\n"

not_found_got : (r : Rules) → map (got r until_acknowledgment)
    (ToContent (codes "ZZ-ACME") (codes "02")
    ∷ ToContent (codes "ZZ-ACME") (codes "5")
    ∷ ToContent (codes "ZZ-ACME") (codes "6")
    ∷ ToContent (codes "ZZ-ACME") []
    ∷ ToContent (codes "ZZ-NONE") (codes "2")
    ∷ ToStock (codes "ZZ-NONE")
    ∷ ToOutbox (codes "ACME")
    ∷ Nowhere
    ∷ [])
    ≡ replicate 8 not_found
unfolding digits
not_found_got One = refl
not_found_got Two = refl

wrong_method : (r : Rules) → got r [] ToExchange
    ≡ codes "HTTP/1.1 405 Method Not Allowed\r\nContent-Type: text/plain\r\nContent-Length: 23\r\nAllow: POST\r\nConnection: close\r\n\r\n405 Method Not Allowed\n"
unfolding digits
wrong_method r = refl

wrong_method_there : (r : Rules) → response_bytes (respond r [] Post (ToStock (codes "ZZ-ACME")) [])
    ≡ codes "HTTP/1.1 405 Method Not Allowed\r\nContent-Type: text/plain\r\nContent-Length: 23\r\nAllow: GET\r\nConnection: close\r\n\r\n405 Method Not Allowed\n"
unfolding digits
wrong_method_there r = refl

acknowledgment_posted : (r : Rules) → posted r until_pick last_acknowledgment ≡ codes "HTTP/1.1 204 No Content\r\nConnection: close\r\n\r\n"
unfolding digits
acknowledgment_posted One = refl
acknowledgment_posted Two = refl

-- what is answered where a head or a body is refused, and where the book can't serve
cut_off_request : response_bytes (bare 400)
    ≡ codes "HTTP/1.1 400 Bad Request\r\nContent-Type: text/plain\r\nContent-Length: 16\r\nConnection: close\r\n\r\n400 Bad Request\n"
unfolding digits
cut_off_request = refl

cut_off_length : length (response_bytes (bare 400)) ≡ 109
unfolding digits
cut_off_length = refl

no_memory : response_bytes (fault_response OutOfMemory)
    ≡ codes "HTTP/1.1 503 Service Unavailable\r\nContent-Type: text/plain\r\nContent-Length: 15\r\nConnection: close\r\n\r\n40 OutOfMemory\n"
unfolding digits
no_memory = refl

too_large : response_bytes (bare 413)
    ≡ codes "HTTP/1.1 413 Payload Too Large\r\nContent-Type: text/plain\r\nContent-Length: 22\r\nConnection: close\r\n\r\n413 Payload Too Large\n"
unfolding digits
too_large = refl

-- Requests, by their heads.

abbrev head : Method → Route → List (List ℕ) → Option Head
head method route lengths = Some (record { method = method; route = route; is_encoded = false; lengths = lengths })

abbrev encoded : Method → Route → Option Head
encoded method route = Some (record { method = method; route = route; is_encoded = true; lengths = [] })

abbrev answered_with : Rules → Option Head → List ℕ → ℕ
answered_with r h rest = (response_to r WHSE1 (book r []) h rest morning).status

-- the whole request, and one byte more after it
whole_request : (r : Rules) → response_bytes (response_to r WHSE1 (book r []) (head Post ToExchange (codes "255" ∷ [])) first_advice morning)
    ∷ response_bytes (response_to r WHSE1 (book r []) (head Post ToExchange (codes "255" ∷ [])) (first_advice ++ codes "X") morning) ∷ []
    ≡ posted r [] first_advice ∷ posted r [] first_advice ∷ []
unfolding digits
whole_request r = refl

tests_in_order : (r : Rules) → answered_with r None first_advice
    ∷ answered_with r (encoded Get Nowhere) []
    ∷ answered_with r (head Post Nowhere []) []
    ∷ answered_with r (head OtherMethod ToExchange []) []
    ∷ answered_with r (head Post (ToStock (codes "ZZ-ACME")) []) []
    ∷ answered_with r (head Post ToExchange []) first_advice
    ∷ answered_with r (head Post ToExchange (codes "255" ∷ codes "255" ∷ [])) first_advice
    ∷ answered_with r (head Post ToExchange ([] ∷ [])) first_advice
    ∷ answered_with r (head Post ToExchange (codes "+255" ∷ [])) first_advice
    ∷ answered_with r (head Post ToExchange (codes "1048577" ∷ [])) []
    ∷ answered_with r (head Post ToExchange (codes "1048576" ∷ [])) first_advice
    ∷ answered_with r (head Post ToExchange (codes "256" ∷ [])) first_advice
    ∷ answered_with r (head Post ToExchange (codes "0255" ∷ [])) first_advice
    ∷ answered_with r (head Get (ToStock (codes "ZZ-ACME")) (codes "x" ∷ [])) []
    ∷ []
    ≡ 400 ∷ 501 ∷ 404 ∷ 405 ∷ 405 ∷ 411 ∷ 400 ∷ 400 ∷ 400 ∷ 413 ∷ 400 ∷ 400 ∷ 200 ∷ 200 ∷ []
unfolding digits
tests_in_order One = refl
tests_in_order Two = refl

cut_off_bodies : (r : Rules) → map (answered_with r (head Post ToExchange (codes "255" ∷ []))) (map (λ k. take k first_advice) (range_with_len 0 255)) ≡ replicate 255 400
unfolding digits
cut_off_bodies r = refl

-- only a whole exchange submits anything
submissions : submitted (head Post ToExchange (codes "255" ∷ [])) first_advice
    ∷ submitted (head Post ToExchange (codes "255" ∷ [])) (take 254 first_advice)
    ∷ submitted (head Get ToExchange (codes "255" ∷ [])) first_advice ∷ []
    ≡ Some first_advice ∷ None ∷ None ∷ []
unfolding digits
submissions = refl
