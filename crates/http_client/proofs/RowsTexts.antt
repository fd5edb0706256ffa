-- Worked examples: the texts of requests, and what texts of responses say.
use Rattle.std.proofs.Common.{◌≡◌, ℕ, List, [], ◌∷◌, Some, None, codes, refl, true, false, Vec, Global, lit≤, arith}
use Rattle.std.proofs.lemmas.List.Elements.{All-nil, All-cons}
use Rattle.std.proofs.lemmas.List.Sums.{AllPass-from_list_all}
use Rattle.std.specs.Char.{is_ascii_digit}
use Rattle.std.specs.Fmt.{digits}
use Rattle.httparse.specs.Grammar.{ResponseHead, IsResponseHead, Field, IsField, crlf, is_token_byte, is_uri_byte, is_value_byte, print_response, trim_ows, status_code}
use Rattle.http_client.specs.declared.remote.requests.Verb.TheVariants.{Get, Post}
use Rattle.http_client.specs.Requests.{request_bytes}
use Rattle.http_client.specs.Fields.{stated, is_x12, body_length}
use Rattle.http_client.specs.Answers.{IsAnswer}
use Rattle.http_client.proofs.ReadingBack.{field, is_field}

got : request_bytes Get (codes "/stock/ZZ-ACME") (codes "127.0.0.1:8080") []
    ≡ codes "GET /stock/ZZ-ACME HTTP/1.1\r\nHost: 127.0.0.1:8080\r\nConnection: close\r\n\r\n"
got = refl

posted : request_bytes Post (codes "/count/ZZ-ACME/T1/S1") (codes "127.0.0.1:8080") (codes "BOLT,101,L1\n")
    ≡ codes "POST /count/ZZ-ACME/T1/S1 HTTP/1.1\r\nHost: 127.0.0.1:8080\r\nContent-Length: 12\r\nConnection: close\r\n\r\nBOLT,101,L1\n"
unfolding digits
posted = refl

-- a GET leaves its body out, and a POST with nothing states that it has nothing
got_without : (body : List ℕ) → request_bytes Get (codes "/outbox/ZZ-ACME/1") (codes "[::1]:80") body
    ≡ codes "GET /outbox/ZZ-ACME/1 HTTP/1.1\r\nHost: [::1]:80\r\nConnection: close\r\n\r\n"
got_without body = refl

posted_nothing : request_bytes Post (codes "/x12") (codes "127.0.0.1:80") []
    ≡ codes "POST /x12 HTTP/1.1\r\nHost: 127.0.0.1:80\r\nContent-Length: 0\r\nConnection: close\r\n\r\n"
unfolding digits
posted_nothing = refl

lengths_none : body_length [] ≡ Some 0
lengths_none = refl

length_one : body_length (codes "00265" ∷ []) ≡ Some 265
length_one = refl

length_greatest : body_length (codes "16777216" ∷ []) ≡ Some 16777216
length_greatest = refl

length_greater : body_length (codes "16777217" ∷ []) ≡ None
length_greater = refl

length_signed : body_length (codes "+5" ∷ []) ≡ None
length_signed = refl

length_empty : body_length ([] ∷ []) ≡ None
length_empty = refl

lengths_two : body_length (codes "5" ∷ codes "5" ∷ []) ≡ None
lengths_two = refl

type_x12 : is_x12 (codes "application/EDI-X12" ∷ []) ≡ true
type_x12 = refl

type_plain : is_x12 (codes "text/plain" ∷ []) ≡ false
type_plain = refl

-- the head of a response with an interchange, in letters of another case, and that of one with
-- nothing
abbrev okay_fields : List Field
okay_fields = field (codes "Content-Type") (codes "application/EDI-X12") ∷ field (codes "content-LENGTH") (codes "3") ∷ []

abbrev okay : ResponseHead
okay = record { blank = []; minor = 1; digits = codes "200"; reason = Some (codes "OK"); line_end = crlf; fields = okay_fields; last = crlf }

abbrev empty : ResponseHead
empty = record {
  blank = [];
  minor = 1;
  digits = codes "204";
  reason = Some (codes "No Content");
  line_end = crlf;
  fields = field (codes "Connection") (codes "close") ∷ [];
  last = crlf;
}

empty_text : print_response empty ≡ codes "HTTP/1.1 204 No Content\r\nConnection: close\r\n\r\n"
unfolding print_response
empty_text = refl

empty_status : status_code empty ≡ 204
empty_status = refl

empty_type : is_x12 (stated (codes "Content-Type") empty) ≡ false
empty_type = refl

empty_length : body_length (stated (codes "Content-Length") empty) ≡ Some 0
empty_length = refl

-- the whole answer that the first says; what comes after its three bytes is no part of it
okay_is_head : IsResponseHead okay
unfolding is_token_byte
okay_is_head = record {
  minor = omega arith;
  digits = (refl, AllPass-from_list_all is_ascii_digit (codes "200") refl);
  reason = AllPass-from_list_all is_value_byte (codes "OK") refl;
  fields =
      All-cons IsField (field (codes "Content-Type") (codes "application/EDI-X12")) (field (codes "content-LENGTH") (codes "3") ∷ [])
      (is_field (codes "Content-Type") (codes "application/EDI-X12") (omega arith, AllPass-from_list_all is_token_byte (codes "Content-Type") refl)
      (AllPass-from_list_all is_uri_byte (codes "application/EDI-X12") refl))
      (All-cons IsField (field (codes "content-LENGTH") (codes "3")) []
      (is_field (codes "content-LENGTH") (codes "3") (omega arith, AllPass-from_list_all is_token_byte (codes "content-LENGTH") refl)
      (AllPass-from_list_all is_uri_byte (codes "3") refl))
      (All-nil IsField));
}

okay_answer : (body : Vec ℕ Global) → body.items ≡ codes "ISA"
    → IsAnswer (Some (codes "HTTP/1.1 200 OK\r\nContent-Type: application/EDI-X12\r\ncontent-LENGTH: 3\r\n\r\nISA*")) (record { status = 200; is_interchange = true; body = body })
unfolding print_response trim_ows
okay_answer body is = record {
  input = codes "HTTP/1.1 200 OK\r\nContent-Type: application/EDI-X12\r\ncontent-LENGTH: 3\r\n\r\nISA*";
  is_input = refl;
  head = okay;
  rest = codes "ISA*";
  begins = record { reads = (okay_is_head, refl); size = lit≤ tt; fields = lit≤ tt };
  status = refl;
  kind = refl;
  body = record { whole = refl; size = 3; length = refl; front = (lit≤ tt, is) };
}
