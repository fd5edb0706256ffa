-- What the fields of a response's head state.
use Rattle.std.specs.Prelude.{◌≡◌, ◌≢◌, ◌⊎◌, ℕ, Bool, false, ◌&&◌, List, [], ◌∷◌, Option, Some, None, codes, map, nat_le, if◌then◌else◌, bytes_eq}
use Rattle.httparse.specs.Grammar.{ResponseHead}
use Rattle.httparse.specs.Spans.{name_and_value}
use Rattle.head_fields.specs.Fields.{values}
use Rattle.definitions.specs.Bytes.{is_number, value}
use Rattle.http_client.specs.declared.remote.heading.TheConstants.{MOST_BODY}
use Rattle.http_client.specs.declared.remote.heading.Said.{Said}

-- the values of the fields of this name in a head
abbrev pub stated : List ℕ → ResponseHead → List (List ℕ)
stated name h = values name (map name_and_value h.fields)

-- the largest body that is read
abbrev pub most_body : ℕ
most_body = MOST_BODY

-- the length of a body by the values of Content-Length, 0 where there are none, as in a 204; none
-- where there are several, or one that isn't digits, or one that is too large
abbrev pub body_length : List (List ℕ) → Option ℕ
body_length [] = Some 0
body_length (text ∷ []) =
    if is_number text && nat_le (value text) most_body then Some (value text) else None
body_length (text ∷ other ∷ more) = None

-- whether the values of Content-Type are the type of interchanges (RFC 1767) alone
abbrev pub is_x12 : List (List ℕ) → Bool
is_x12 [] = false
is_x12 (text ∷ []) = bytes_eq text (codes "application/EDI-X12")
is_x12 (text ∷ other ∷ more) = false

-- what these fields say of a body, which is in one piece
pub record SaysOfBody (fields : List (List ℕ × List ℕ)) (said : Said) : Type 0 where
  pub whole : values (codes "Transfer-Encoding") fields ≡ []
  pub length : body_length (values (codes "Content-Length") fields) ≡ Some said.size
  pub kind : said.is_interchange ≡ is_x12 (values (codes "Content-Type") fields)

-- these fields say of no body that is read: it is in chunks, or its length isn't one that is read
abbrev pub SaysOfNoBody : List (List ℕ × List ℕ) → Type 0
SaysOfNoBody fields = (values (codes "Transfer-Encoding") fields ≢ [])
    ⊎ (body_length (values (codes "Content-Length") fields) ≡ None)
