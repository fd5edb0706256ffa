-- a server reads what a request says
use Rattle.std.proofs.Common.{◌≡◌, ℕ, ◌+◌, ◌%◌, ◌^◌, ◌<◌, true, false, List, [], ◌∷◌, ◌++◌, length, reverse, codes, decimal, refl, ap, arith, append_assoc, append-nil, IsUtf8, IsTrue, All, get_or}
use Rattle.std.proofs.lemmas.Bool.Decides.{nat_tests}
use Rattle.std.proofs.lemmas.List.Elements.{All-head, All-nil, All-cons, All-push}
use Rattle.std.proofs.lemmas.List.Sums.{AllPass-from_list_all}
use Rattle.std.proofs.lemmas.Fmt.{decimal_by_steps}
use Rattle.httparse.specs.Grammar.{AllPass, IsToken, is_token_byte, is_uri_byte, is_value_byte, is_ows, skip_ows, trim_ows, Field, IsField, crlf, RequestHead, IsRequestHead, print_request}
use Rattle.httparse.proofs.TrimLemmas.{AllPass-reverse, trim_ows_space}
use Rattle.http_client.specs.declared.remote.requests.Verb.{Verb}
use Rattle.http_client.specs.declared.remote.requests.Verb.TheVariants.{Get, Post}
use Rattle.http_client.specs.Requests.{request_bytes}
use Rattle.http_client.specs.ReadBack.{IsVisible, IsReadBack}

not_ows : (b : ℕ) → is_uri_byte b ≡ true → is_ows b ≡ false
not_ows b h = grind (arith, nat_tests)

value_byte : (b : ℕ) → is_uri_byte b ≡ true → is_value_byte b ≡ true
value_byte b h = grind (arith, nat_tests)

digit_visible : (n : ℕ) → n < 10 → is_uri_byte (48 + n) ≡ true
digit_visible n h = grind (arith, nat_tests)

-- the digits of a number are visible
digits_visible : (n : ℕ) → n < 2 ^ 64 → AllPass is_uri_byte (decimal n)
digits_visible n h = decimal_by_steps (λ _ ds. AllPass is_uri_byte ds)
    (λ n few. All-cons (λ b. IsTrue (is_uri_byte b)) (48 + n) [] (digit_visible n few) (All-nil _))
    (λ n ds many more. All-push (λ b. IsTrue (is_uri_byte b)) ds (48 + n % 10) more (digit_visible (n % 10) (omega arith)))
    n h

-- what is visible has no white space at its ends
visible_skip : (v : List ℕ) → AllPass is_uri_byte v → skip_ows v ≡ v
visible_skip [] h = refl
visible_skip (b ∷ bs) h = rw (not_ows b (All-head (λ b. IsTrue (is_uri_byte b)) b bs h)) refl

trimmed : (v : List ℕ) → AllPass is_uri_byte v → trim_ows (codes " " ++ v) ≡ v
trimmed v h = trim_ows_space v (visible_skip v h) (visible_skip (reverse v) (AllPass-reverse is_uri_byte v h))

-- a field with a visible value
abbrev pub field : List ℕ → List ℕ → Field
field name text = record { name = name; raw = codes " " ++ text; end = crlf }

pub is_field : (name text : List ℕ) → IsToken name → AllPass is_uri_byte text → IsField (field name text)
is_field name text token visible = record {
  name = token;
  raw = All-cons (λ b. IsTrue (is_value_byte b)) 32 text refl (λ k d l. value_byte (get_or text k d) (visible k d l));
}

host_token : IsToken (codes "Host")
unfolding is_token_byte
host_token = (omega arith, AllPass-from_list_all is_token_byte (codes "Host") refl)

connection_token : IsToken (codes "Connection")
unfolding is_token_byte
connection_token = (omega arith, AllPass-from_list_all is_token_byte (codes "Connection") refl)

length_token : IsToken (codes "Content-Length")
unfolding is_token_byte
length_token = (omega arith, AllPass-from_list_all is_token_byte (codes "Content-Length") refl)

get_token : IsToken (codes "GET")
unfolding is_token_byte
get_token = (omega arith, AllPass-from_list_all is_token_byte (codes "GET") refl)

post_token : IsToken (codes "POST")
unfolding is_token_byte
post_token = (omega arith, AllPass-from_list_all is_token_byte (codes "POST") refl)

close_field : IsField (field (codes "Connection") (codes "close"))
close_field = is_field (codes "Connection") (codes "close") connection_token (AllPass-from_list_all is_uri_byte (codes "close") refl)

abbrev head_of : List ℕ → List ℕ → List Field → RequestHead
head_of method path fields = record { blank = []; method = method; target = path; minor = 1; line_end = crlf; fields = fields; last = crlf }

is_head : (method path : List ℕ) (fields : List Field) → IsToken method → IsVisible path → IsUtf8 path → All IsField fields → IsRequestHead (head_of method path fields)
is_head method path fields token visible text each = record {
  method = token;
  target = visible;
  target_text = text;
  minor = omega arith;
  fields = each;
}

-- the last field alone, and with those before it
abbrev closed : List Field
closed = field (codes "Connection") (codes "close") ∷ []

abbrev get_fields : List ℕ → List Field
get_fields host = field (codes "Host") host ∷ closed

abbrev post_fields : List ℕ → List ℕ → List Field
post_fields host digits = field (codes "Host") host ∷ field (codes "Content-Length") digits ∷ closed

all_closed : All IsField closed
all_closed = All-cons IsField (field (codes "Connection") (codes "close")) [] close_field (All-nil IsField)

all_get : (host : List ℕ) → AllPass is_uri_byte host → All IsField (get_fields host)
all_get host visible = All-cons IsField (field (codes "Host") host) closed (is_field (codes "Host") host host_token visible) all_closed

all_post : (host digits : List ℕ) → AllPass is_uri_byte host → AllPass is_uri_byte digits → All IsField (post_fields host digits)
all_post host digits visible plain =
    let rest : All IsField (field (codes "Content-Length") digits ∷ closed) =
    All-cons IsField (field (codes "Content-Length") digits) closed (is_field (codes "Content-Length") digits length_token plain) all_closed in
    All-cons IsField (field (codes "Host") host) (field (codes "Content-Length") digits ∷ closed) (is_field (codes "Host") host host_token visible) rest

-- two ways to put the same texts together
get_parts : (path version end name host close : List ℕ)
    → path ++ (version ++ end) ++ (name ++ (host ++ end)) ++ (close ++ end) ≡ path ++ version ++ end ++ (name ++ (host ++ end ++ close ++ end)) ++ []
get_parts path version end name host close = simp (append_assoc, append-nil)

post_parts : (path version end name host size digits close body : List ℕ)
    → path ++ (version ++ end) ++ (name ++ (host ++ end)) ++ (size ++ (digits ++ end)) ++ (close ++ end) ++ body
    ≡ path ++ version ++ end ++ (name ++ (host ++ end ++ (size ++ (digits ++ end ++ close)) ++ end)) ++ body
post_parts path version end name host size digits close body = simp append_assoc

get_printed : (path host : List ℕ) → request_bytes Get path host [] ≡ print_request (head_of (codes "GET") path (get_fields host)) ++ []
unfolding print_request
get_printed path host = ap (λ l. codes "GET " ++ l) (get_parts path (codes " HTTP/1.1") (codes "\r\n") (codes "Host: ") host (codes "Connection: close\r\n"))

post_printed : (path host body : List ℕ) → request_bytes Post path host body ≡ print_request (head_of (codes "POST") path (post_fields host (decimal (length body)))) ++ body
unfolding print_request
post_printed path host body =
    ap (λ l. codes "POST " ++ l)
    (post_parts path (codes " HTTP/1.1") (codes "\r\n") (codes "Host: ") host (codes "Content-Length: ") (decimal (length body)) (codes "Connection: close\r\n") body)

pub read_back : (verb : Verb) (path host body : List ℕ) → IsVisible path → IsUtf8 path → IsVisible host → length body < 2 ^ 64 → IsReadBack verb path host body
read_back Get path host body about text to short = record {
  head = head_of (codes "GET") path (get_fields host);
  reads = (is_head (codes "GET") path (get_fields host) get_token about text (all_get host to.1), get_printed path host);
  method = refl;
  target = refl;
  hosts = ap (λ l. l ∷ []) (trimmed host to.1);
  sizes = refl;
  in_chunks = refl;
}
read_back Post path host body about text to short =
    let plain = digits_visible (length body) short in
    let digits : List ℕ = decimal (length body) in
    record {
      head = head_of (codes "POST") path (post_fields host digits);
      reads = (is_head (codes "POST") path (post_fields host digits) post_token about text (all_post host digits to.1 plain), post_printed path host body);
      method = refl;
      target = refl;
      hosts = ap (λ l. l ∷ []) (trimmed host to.1);
      sizes = ap (λ l. l ∷ []) (trimmed digits plain);
      in_chunks = refl;
    }
