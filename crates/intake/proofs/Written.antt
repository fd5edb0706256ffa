-- a response is its parts
use Rattle.std.proofs.Common.{◌≡◌, ◌≤◌, ◌<◌, ◌^◌, lit≤, List, ℕ, Option, Some, None, decimal, length, length-append, append_assoc, append-nil, refl, ap, sym, ◌∙◌, ◌++◌, [], codes, arith}
use Rattle.std.specs.Option.{option_map, option_to_list}
use Rattle.std.specs.List.{flat_map}
use Rattle.definitions.specs.Response.{status_text, response_bytes, body_headers, header, phrase}
use Rattle.intake.specs.Answers.{fixed_text, parts, seen, type_text, length_text, type_end, allow_text, method_name, number, body_bytes}
use Rattle.intake.specs.declared.response.Response.{Response}
use Rattle.intake.specs.declared.response.Status.{Status}
use Rattle.std.specs.Fmt.{digits}
use Rattle.intake.specs.declared.response.Status.TheVariants.{Okay, NoContent, BadRequest, Forbidden, NotFound, MethodNotAllowed, Conflict, LengthRequired, PayloadTooLarge, MisdirectedRequest, UnprocessableEntity, NotImplemented, ServiceUnavailable}
use Rattle.intake.specs.declared.response.Body.{Body}
use Rattle.intake.specs.declared.response.MediaType.{MediaType}
use Rattle.intake.specs.declared.response.Allow.{Allow}
use Rattle.intake.specs.declared.response.MediaType.TheVariants.{Plain, Interchange, Page}
use Rattle.intake.specs.declared.response.Allow.TheVariants.{Get, Post}

abbrev answer : Status → Option MediaType → Option Allow → Body → Response
answer status kind allow body = record { status = status; kind = kind; allow = allow; body = body }

abbrev Holds : Response → Type 0
Holds r = parts r (decimal (number r.status)) (decimal (length (body_bytes r.body))) ≡ response_bytes (seen r)

regroup : (a d sp p c h al cn line body : List ℕ) → a ++ d ++ sp ++ p ++ c ++ h ++ al ++ cn ++ line ++ body
    ≡ a ++ (d ++ (sp ++ (p ++ (c ++ (h ++ (al ++ (cn ++ (line ++ body))))))))
regroup a d sp p c h al cn line body = simp append_assoc

fields : (s : Status) (k : Option MediaType) (a : Option Allow) (b : Body) (rest : List ℕ)
    → type_text k ++ (length_text k (decimal (length (body_bytes b))) ++ (type_end k ++ rest)) ≡ body_headers (seen (answer s k a b)) ++ rest
fields s None a b rest = refl
fields s (Some Plain) a b rest = ap (λ l. type_text (Some Plain) ++ l) (sym (append_assoc (decimal (length (body_bytes b))) (codes "\r\n") rest))
fields s (Some Interchange) a b rest = ap (λ l. type_text (Some Interchange) ++ l) (sym (append_assoc (decimal (length (body_bytes b))) (codes "\r\n") rest))
fields s (Some Page) a b rest = ap (λ l. type_text (Some Page) ++ l) (sym (append_assoc (decimal (length (body_bytes b))) (codes "\r\n") rest))

allowed : (a : Option Allow) → allow_text a ≡ flat_map (header (codes "Allow")) (option_to_list (option_map method_name a))
allowed None = refl
allowed (Some Get) = refl
allowed (Some Post) = refl

by_parts : (s : Status) (k : Option MediaType) (a : Option Allow) (b : Body) → Holds (answer s k a b)
by_parts s k a b =
    let body = body_bytes b in
    let end : List ℕ = codes "Connection: close\r\n\r\n" ++ body in
    let tail : List ℕ = flat_map (header (codes "Allow")) (option_to_list (option_map method_name a)) ++ end in
    let same : allow_text a ++ (codes "Connection: close\r\n\r\n" ++ (body ++ [])) ≡ tail = rw (append-nil body, allowed a) refl in
    let e : type_text k ++ (length_text k (decimal (length body)) ++ (type_end k ++ (allow_text a ++ (codes "Connection: close\r\n\r\n" ++ (body ++ [])))))
    ≡ body_headers (seen (answer s k a b)) ++ tail =
    ap (λ l. type_text k ++ (length_text k (decimal (length body)) ++ (type_end k ++ l))) same ∙ fields s k a b tail in
    ap (λ l. codes "HTTP/1.1 " ++ (decimal (number s) ++ (codes " " ++ (phrase (number s) ++ (codes "\r\n" ++ l))))) e
    ∙ sym (regroup (codes "HTTP/1.1 ") (decimal (number s)) (codes " ") (phrase (number s)) (codes "\r\n") (body_headers (seen (answer s k a b)))
    (flat_map (header (codes "Allow")) (option_to_list (option_map method_name a))) (header (codes "Connection") (codes "close")) (codes "\r\n") body)

pub bytes_are : (r : Response) → Holds r
bytes_are r = by_parts r.status r.kind r.allow r.body

-- all but the body is short
phrase_short : (s : Status) → length (phrase (number s)) ≤ 40
phrase_short Okay = lit≤ tt
phrase_short NoContent = lit≤ tt
phrase_short BadRequest = lit≤ tt
phrase_short Forbidden = lit≤ tt
phrase_short NotFound = lit≤ tt
phrase_short MethodNotAllowed = lit≤ tt
phrase_short Conflict = lit≤ tt
phrase_short LengthRequired = lit≤ tt
phrase_short PayloadTooLarge = lit≤ tt
phrase_short MisdirectedRequest = lit≤ tt
phrase_short UnprocessableEntity = lit≤ tt
phrase_short NotImplemented = lit≤ tt
phrase_short ServiceUnavailable = lit≤ tt

type_short : (k : Option MediaType) → length (type_text k) ≤ 4096
type_short None = lit≤ tt
type_short (Some Plain) = lit≤ tt
type_short (Some Interchange) = lit≤ tt
type_short (Some Page) = lit≤ tt

length_short : (k : Option MediaType) (digits : List ℕ) → length digits ≤ 40 → length (length_text k digits) ≤ 40
length_short None digits h = lit≤ tt
length_short (Some k) digits h = h

end_short : (k : Option MediaType) → length (type_end k) ≤ 2
end_short None = lit≤ tt
end_short (Some k) = lit≤ tt

allow_short : (a : Option Allow) → length (allow_text a) ≤ 20
allow_short None = lit≤ tt
allow_short (Some Get) = lit≤ tt
allow_short (Some Post) = lit≤ tt

pub parts_short : (r : Response) (code digits : List ℕ) → length code ≤ 40 → length digits ≤ 40 → length (body_bytes r.body) < 2 ^ 63 → length (parts r code digits) < 2 ^ 64
parts_short r code digits few less least =
    let p = phrase_short r.status in
    let t = type_short r.kind in
    let l = length_short r.kind digits less in
    let e = end_short r.kind in
    let a = allow_short r.allow in
    simp length-append (omega arith)

pub texts_are : (s : Status) → fixed_text s ≡ status_text (number s)
unfolding digits
texts_are Okay = refl
texts_are NoContent = refl
texts_are BadRequest = refl
texts_are Forbidden = refl
texts_are NotFound = refl
texts_are MethodNotAllowed = refl
texts_are Conflict = refl
texts_are LengthRequired = refl
texts_are PayloadTooLarge = refl
texts_are MisdirectedRequest = refl
texts_are UnprocessableEntity = refl
texts_are NotImplemented = refl
texts_are ServiceUnavailable = refl
