-- Worked examples: the head of a request from its bytes, and how large one may be.
use Rattle.std.specs.Prelude.{◌≡◌, ◌≢◌, ℕ, ◌+◌, ◌*◌, ◌<◌, ◌≤◌, true, false, Err, List, [], ◌∷◌, ◌++◌, length, take, drop, codes, zero, suc, All, IsTrue}
use Rattle.std.specs.List.{flat_map, list_all, repeat}
use Rattle.std.proofs.Common.{refl, arith, sym, ap, subst, ◌∙◌, length-append, append-nil, take-append-drop}
use Rattle.std.proofs.lemmas.List.{length-take-le}
use Rattle.std.proofs.lemmas.List.Sums.{AllPass-from_list_all}
use Rattle.httparse.proofs.OnLiterals.{httparse_on_literals}
use Rattle.httparse.proofs.GrammarLemmas.{request_unique, print_request-append, ReadsRequest-append}
use Rattle.httparse.specs.Grammar.{LineEnd, crlf, lf, IsToken, Field, IsField, IsRequestHead, ReadsRequest, RequestHead, is_token_byte, is_uri_byte, is_value_byte, print_blank, print_field, print_request}
use Rattle.definitions.specs.Response.{Post, OtherMethod, stated_length}
use Rattle.intake.specs.Fields.{head_of}
use Rattle.intake.specs.Requests.{HasRequestHead, HasNoHead}

-- a line of a field
abbrev field : List ℕ → List ℕ → Field
field name raw = record { name = name; raw = raw; end = crlf }

fits : (name raw : List ℕ) → 0 < length name → list_all is_token_byte name ≡ true → list_all is_value_byte raw ≡ true → IsField (field name raw)
fits name raw long token value = record { name = (long, AllPass-from_list_all is_token_byte name token); raw = AllPass-from_list_all is_value_byte raw value }

none_of : All IsField []
none_of k d low = absurd (omega (arith, low))

one : (a : Field) (fs : List Field) → IsField a → All IsField fs → All IsField (a ∷ fs)
one a fs p q zero d low = p
one a fs p q (suc k) d low = q k d (omega (arith, low))

-- a request by GET to `/` with these fields
abbrev got : List Field → RequestHead
got fields = record { blank = []; method = codes "GET"; target = codes "/"; minor = 1; line_end = crlf; fields = fields; last = crlf }

good : (fields : List Field) → All IsField fields → IsRequestHead (got fields)
unfolding httparse_on_literals lib.Utf8.encode
good fields all = record {
  method = (omega arith, AllPass-from_list_all is_token_byte (codes "GET") refl);
  target = (omega arith, AllPass-from_list_all is_uri_byte (codes "/") refl);
  target_text = (codes "/", (refl, refl));
  minor = omega arith;
  fields = all;
}

-- an interchange of three bytes
abbrev head : RequestHead
head = record { blank = []; method = codes "POST"; target = codes "/x12"; minor = 1; line_end = crlf; fields = field (codes "Host") (codes " w") ∷ field (codes "Content-Length") (codes " 3") ∷ []; last = crlf }

posted : HasRequestHead (codes "POST /x12 HTTP/1.1\r\nHost: w\r\nContent-Length: 3\r\n\r\nISA") head (codes "ISA")
unfolding httparse_on_literals lib.Utf8.encode
posted = record {
  reads = (
    record {
      method = (omega arith, AllPass-from_list_all is_token_byte (codes "POST") refl);
      target = (omega arith, AllPass-from_list_all is_uri_byte (codes "/x12") refl);
      target_text = (codes "/x12", (refl, refl));
      minor = omega arith;
      fields = one (field (codes "Host") (codes " w")) (field (codes "Content-Length") (codes " 3") ∷ []) (fits (codes "Host") (codes " w") (omega arith) refl refl) (one (field (codes "Content-Length") (codes " 3")) [] (fits (codes "Content-Length") (codes " 3") (omega arith) refl refl) none_of);
    },
    refl,
  );
  size = omega arith;
  fields = omega arith;
}

what_is_posted : ((head_of head).method ≡ Post) × ((head_of head).is_encoded ≡ false) × ((head_of head).lengths ≡ codes "3" ∷ [])
unfolding httparse_on_literals lib.Utf8.encode
what_is_posted = (refl, refl, refl)

-- the least of heads: one letter, no field, and no carriage return
abbrev least : RequestHead
least = record { blank = []; method = codes "G"; target = codes "/"; minor = 0; line_end = lf; fields = []; last = lf }

least_is_read : HasRequestHead (codes "G / HTTP/1.0\n\n") least []
unfolding httparse_on_literals lib.Utf8.encode
least_is_read = record {
  reads = (
    record {
      method = (omega arith, AllPass-from_list_all is_token_byte (codes "G") refl);
      target = (omega arith, AllPass-from_list_all is_uri_byte (codes "/") refl);
      target_text = (codes "/", (refl, refl));
      minor = omega arith;
      fields = none_of;
    },
    refl,
  );
  size = omega arith;
  fields = omega arith;
}

what_is_least : ((head_of least).method ≡ OtherMethod) × ((head_of least).is_encoded ≡ false) × ((head_of least).lengths ≡ [])
unfolding httparse_on_literals lib.Utf8.encode
what_is_least = (refl, refl, refl)

-- a length that is stated twice, once in small letters: both are read, and it is refused though
-- they are equal
abbrev twice : RequestHead
twice = got (field (codes "Content-Length") (codes " 3") ∷ field (codes "content-length") (codes "3") ∷ [])

twice_is_read : HasRequestHead (codes "GET / HTTP/1.1\r\nContent-Length: 3\r\ncontent-length:3\r\n\r\n") twice []
unfolding httparse_on_literals lib.Utf8.encode
twice_is_read = record {
  reads = (
    good _ (one _ (field (codes "content-length") (codes "3") ∷ []) (fits (codes "Content-Length") (codes " 3") (omega arith) refl refl)
        (one _ [] (fits (codes "content-length") (codes "3") (omega arith) refl refl) none_of)),
    refl,
  );
  size = omega arith;
  fields = omega arith;
}

what_is_twice : (head_of twice).lengths ≡ codes "3" ∷ codes "3" ∷ []
unfolding httparse_on_literals lib.Utf8.encode
what_is_twice = refl

twice_is_bad : stated_length ((head_of twice).lengths) ≡ Err 400
unfolding httparse_on_literals lib.Utf8.encode
twice_is_bad = refl

-- a body in chunks, by a name in letters of either case
abbrev chunked : RequestHead
chunked = got (field (codes "transfer-ENCODING") (codes " chunked") ∷ [])

chunked_is_read : HasRequestHead (codes "GET / HTTP/1.1\r\ntransfer-ENCODING: chunked\r\n\r\n0\r\n\r\n") chunked (codes "0\r\n\r\n")
unfolding httparse_on_literals lib.Utf8.encode
chunked_is_read = record {
  reads = (good _ (one _ [] (fits (codes "transfer-ENCODING") (codes " chunked") (omega arith) refl refl) none_of), refl);
  size = omega arith;
  fields = omega arith;
}

chunked_is_encoded : (head_of chunked).is_encoded ≡ true
unfolding httparse_on_literals lib.Utf8.encode
chunked_is_encoded = refl

-- so many letters, a field of them, and so many fields without any
abbrev letters : ℕ → List ℕ
letters n = repeat n (codes "a")

abbrev empty : ℕ → List Field
empty n = repeat n (field (codes "A") [] ∷ [])

abbrev long : ℕ → RequestHead
long n = got (field (codes "A") (letters n) ∷ [])

abbrev many : ℕ → RequestHead
many n = got (empty n)

so_many_letters : (n : ℕ) → length (letters n) ≡ n
so_many_letters zero = refl
so_many_letters (suc n) = ap (λ k. suc k) (so_many_letters n)

so_many_fields : (n : ℕ) → length (empty n) ≡ n
so_many_fields zero = refl
so_many_fields (suc n) = ap (λ k. suc k) (so_many_fields n)

all_letters : (n : ℕ) → list_all is_value_byte (letters n) ≡ true
all_letters zero = refl
all_letters (suc n) = all_letters n

all_fields : (n : ℕ) → All IsField (empty n)
unfolding httparse_on_literals
all_fields zero = none_of
all_fields (suc n) = one _ _ (fits (codes "A") [] (omega arith) refl refl) (all_fields n)

long_is_good : (n : ℕ) → IsRequestHead (long n)
unfolding httparse_on_literals
long_is_good n = good _ (one _ [] (fits (codes "A") (letters n) (omega arith) refl (all_letters n)) none_of)

size_of_long : (n : ℕ) → length (print_request (long n)) ≡ 22 + n
unfolding httparse_on_literals
size_of_long n =
    let e : length (letters n) ≡ n = so_many_letters n in
    simp (length-append, e) (omega arith)

size_of_fields : (n : ℕ) → length (flat_map print_field (empty n)) ≡ 4 * n
unfolding httparse_on_literals
size_of_fields zero = refl
size_of_fields (suc n) = omega (arith, size_of_fields n)

size_of_many : (n : ℕ) → length (print_request (many n)) ≡ 18 + 4 * n
unfolding httparse_on_literals
size_of_many n =
    let e : length (flat_map print_field (empty n)) ≡ 4 * n = size_of_fields n in
    simp (length-append, e) (omega arith)

-- what is printed is read, and nothing else is
whole : (h : RequestHead) → IsRequestHead h → ReadsRequest (print_request h) h []
whole h is = (is, sym (append-nil (print_request h)))

alone : (h k : RequestHead) (rest : List ℕ) → IsRequestHead h → ReadsRequest (print_request h) k rest → h ≡ k
alone h k rest is reads = (request_unique (print_request h) h k [] rest (whole h is) reads).0

-- a head that is too large, or has too many fields, is none
too_large : (h : RequestHead) → IsRequestHead h → 8192 < length (print_request h) → HasNoHead (print_request h)
too_large h is large k rest found =
    let size : length (print_request h) ≤ 8192 = subst (λ (j : RequestHead). length (print_request j) ≤ 8192) (sym (alone h k rest is found.reads)) found.size in
    absurd (omega (arith, large, size))

too_many : (h : RequestHead) → IsRequestHead h → 32 < length h.fields → HasNoHead (print_request h)
too_many h is large k rest found =
    let size : length h.fields ≤ 32 = subst (λ (j : RequestHead). length j.fields ≤ 32) (sym (alone h k rest is found.reads)) found.fields in
    absurd (omega (arith, large, size))

-- nor is a beginning of one
cut_off : (h : RequestHead) (n : ℕ) → IsRequestHead h → n < length (print_request h) → HasNoHead (take n (print_request h))
cut_off h n is short k rest found =
    let all : List ℕ = print_request h in
    let more : ReadsRequest (take n all ++ drop n all) k (rest ++ drop n all) = ReadsRequest-append (take n all) k rest (drop n all) found.reads in
    let same : h ≡ k = alone h k (rest ++ drop n all) is (subst (λ (b : List ℕ). ReadsRequest b k (rest ++ drop n all)) (take-append-drop n all) more) in
    let size : length (take n all) ≡ length (print_request k) + length rest = ap length found.reads.1 ∙ length-append (print_request k) rest in
    let taken : length (take n all) ≡ n = length-take-le n all (omega (arith, short)) in
    let long_as : length all ≡ length (print_request k) = ap (λ (j : RequestHead). length (print_request j)) same in
    absurd (omega (arith, short, size, taken, long_as))

-- 8,192 bytes are a head, and 8,193 are none
greatest : HasRequestHead (print_request (long 8170)) (long 8170) []
greatest = record {
  reads = whole (long 8170) (long_is_good 8170);
  size = let e : length (print_request (long 8170)) ≡ 22 + 8170 = size_of_long 8170 in omega (arith, e);
  fields = omega arith;
}

a_byte_more : HasNoHead (print_request (long 8171))
a_byte_more = too_large (long 8171) (long_is_good 8171) (let e : length (print_request (long 8171)) ≡ 22 + 8171 = size_of_long 8171 in omega (arith, e))

-- so are 32 fields, and 33 are none
most_fields : HasRequestHead (print_request (many 32)) (many 32) []
most_fields = record {
  reads = whole (many 32) (good _ (all_fields 32));
  size = let e : length (print_request (many 32)) ≡ 18 + 4 * 32 = size_of_many 32 in omega (arith, e);
  fields = let e : length (empty 32) ≡ 32 = so_many_fields 32 in omega (arith, e);
}

a_field_more : HasNoHead (print_request (many 33))
a_field_more = too_many (many 33) (good _ (all_fields 33)) (let e : length (empty 33) ≡ 33 = so_many_fields 33 in omega (arith, e))

-- the last byte of its empty line is waited for
not_yet : HasNoHead (codes "GET / HTTP/1.1\r\n\r")
unfolding httparse_on_literals lib.Utf8.encode
not_yet = cut_off (got []) 17 (good [] none_of) (omega arith)

-- what begins with no token and no empty line
no_token : (b : ℕ) (rest : List ℕ) → is_token_byte b ≡ false → b ≢ 13 → b ≢ 10 → HasNoHead (b ∷ rest)
unfolding print_request
no_token b rest odd no_return no_feed k more found = by k.blank k.method _ found.reads.0.method (found.reads.1 ∙ print_request-append k more)
  where
    by : (blank : List LineEnd) (method tail : List ℕ) → IsToken method → b ∷ rest ≡ print_blank blank ++ (method ++ tail) → ⊥
    by [] [] tail token e = omega (arith, token.0)
    by [] (m ∷ ms) tail token e =
        let first : IsTrue (is_token_byte m) = token.1 zero 0 (omega arith) in
        let same : b ≡ m = cc e in
        cc (first, same, odd)
    by (crlf ∷ ends) method tail token e = no_return (cc e)
    by (lf ∷ ends) method tail token e = no_feed (cc e)

a_bad_method : HasNoHead (codes "(GET) / HTTP/1.1\r\n\r\n")
unfolding httparse_on_literals lib.Utf8.encode
a_bad_method = no_token 40 _ refl (λ e. cc) (λ e. cc)
