-- The bytes of a request, and of its path.
use Rattle.std.specs.Prelude.{ℕ, List, ◌++◌, length, codes, decimal}
use Rattle.std.specs.Borrow.{Bor}
use Rattle.std.specs.List.{flat_map}
use Rattle.http_client.specs.declared.remote.requests.Verb.{Verb}
use Rattle.http_client.specs.declared.remote.requests.Verb.TheVariants.{Get, Post}

-- `/` before each part
abbrev pub path_bytes : List (Bor (List ℕ)) → List ℕ
path_bytes parts = flat_map (λ (part : Bor (List ℕ)). codes "/" ++ part.now) parts

-- a field
abbrev pub header : List ℕ → List ℕ → List ℕ
header name text = name ++ codes ": " ++ text ++ codes "\r\n"

-- the request line, and the field of the host
abbrev pub opening : List ℕ → List ℕ → List ℕ → List ℕ
opening method path host = method ++ codes " " ++ path ++ codes " HTTP/1.1\r\n"
    ++ header (codes "Host") host

-- the field of the body's length
abbrev pub length_field : List ℕ → List ℕ
length_field digits = header (codes "Content-Length") digits

-- the last field, and the empty line after the fields
abbrev pub closing : List ℕ
closing = header (codes "Connection") (codes "close") ++ codes "\r\n"

-- the bytes of a request about a path, to a host: a GET has no body, and doesn't state its length
abbrev pub request_bytes : Verb → List ℕ → List ℕ → List ℕ → List ℕ
request_bytes Get path host body = opening (codes "GET") path host ++ closing
request_bytes Post path host body = opening (codes "POST") path host
    ++ length_field (decimal (length body)) ++ closing ++ body
