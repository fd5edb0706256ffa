-- What a server reads of a request.
use Rattle.std.specs.Prelude.{◌≡◌, ℕ, ◌<◌, List, [], ◌∷◌, map, length, codes, decimal}
use Rattle.httparse.specs.Grammar.{AllPass, is_uri_byte, RequestHead, ReadsRequest}
use Rattle.httparse.specs.Spans.{name_and_value}
use Rattle.http_client.specs.declared.remote.requests.Verb.{Verb}
use Rattle.http_client.specs.declared.remote.requests.Verb.TheVariants.{Get, Post}
use Rattle.http_client.specs.Requests.{request_bytes}
use Rattle.head_fields.specs.Fields.{values}

abbrev pub method_name : Verb → List ℕ
method_name Get = codes "GET"
method_name Post = codes "POST"

-- what a request hands in, and the values of Content-Length that state how much that is
abbrev pub handed_in : Verb → List ℕ → List ℕ
handed_in Get body = []
handed_in Post body = body

abbrev pub lengths : Verb → List ℕ → List (List ℕ)
lengths Get body = []
lengths Post body = decimal (length body) ∷ []

-- visible bytes, at least one: no spaces, no line ends
abbrev pub IsVisible : List ℕ → Type 0
IsVisible text = (0 < length text) × AllPass is_uri_byte text

-- the values of the fields of a name in a head
abbrev pub named : List ℕ → RequestHead → List (List ℕ)
named name h = values name (map name_and_value h.fields)

-- a server reads the request as it is meant: its method, its path, its host, and its body with the
-- length of it
pub record IsReadBack (verb : Verb) (path host body : List ℕ) : Type 0 where
  pub head : RequestHead
  pub reads : ReadsRequest (request_bytes verb path host body) head (handed_in verb body)
  pub method : head.method ≡ method_name verb
  pub target : head.target ≡ path
  pub hosts : named (codes "Host") head ≡ host ∷ []
  pub sizes : named (codes "Content-Length") head ≡ lengths verb body
  pub in_chunks : named (codes "Transfer-Encoding") head ≡ []
