-- Which requests are answered at all, as their heads say. What a browser sends for a page of
-- another origin, or for a name that was made to lead here, is barred (RFC 9110, sections 7.2 and
-- 15.5.20; RFC 6454; the Fetch standard; Fetch Metadata Request Headers).
use Rattle.std.specs.Prelude.{ℕ, Bool, true, false, not, ◌&&◌, ◌||◌, nat_lt, nat_le, ◌==◌, List, [], ◌∷◌, length, map, take, drop, reverse, flat_map, if◌then◌else◌, Option, Some, None, is_some, codes, bytes_eq, slice_get}
use Rattle.std.specs.Borrow.{Bor}
use Rattle.std.specs.Char.{to_ascii_lowercase}
use Rattle.std.specs.List.{list_all, list_any, position_or_len, slice_split}
use Rattle.head_fields.specs.Fields.{values}
use Rattle.definitions.specs.Bytes.{is_between, is_digit, value}
use Rattle.request_guard.specs.declared.barred.Barred.{Barred}
use Rattle.request_guard.specs.declared.barred.Barred.TheVariants.{BadRequest, Misdirected, Forbidden}

-- the status that tells it
abbrev pub status_of : Barred → ℕ
status_of BadRequest = 400
status_of Misdirected = 421
status_of Forbidden = 403

-- names and values
abbrev pub Fields : Type 0
Fields = List (List ℕ × List ℕ)

-- the first value of a field, if it is there
abbrev pub value_of : List ℕ → Fields → Option (List ℕ)
value_of name fields = slice_get (values name fields) 0

-- the field is there more than once
abbrev pub is_repeated : Fields → List ℕ → Bool
is_repeated fields name = nat_lt 1 (length (values name fields))

-- the fields that decide
abbrev pub deciding_names : List (List ℕ)
deciding_names = codes "Host" ∷ codes "Origin" ∷ codes "Sec-Fetch-Site" ∷ codes "Sec-Fetch-Mode"
    ∷ codes "Content-Type" ∷ []

-- the texts are the same but for the case of letters
abbrev pub same_letters : List ℕ → List ℕ → Bool
same_letters a b = bytes_eq (map to_ascii_lowercase a) (map to_ascii_lowercase b)

-- Hosts.

-- where the first byte of this value is, or the length where there is none
abbrev pub place_of : ℕ → List ℕ → ℕ
place_of mark text = position_or_len (λ b. b == mark) text

-- 1 to `most` digits
abbrev pub is_number_to : ℕ → List ℕ → Bool
is_number_to most text = nat_lt 0 (length text) && (nat_le (length text) most
    && list_all is_digit text)

-- nothing, or `:` and a port
abbrev pub is_port_or_none : List ℕ → Bool
is_port_or_none [] = true
is_port_or_none (b ∷ port) = b == 58 && is_number_to 5 port

abbrev pub is_octet : List ℕ → Bool
is_octet text = is_number_to 3 text && nat_le (value text) 255

-- four numbers with dots between
abbrev pub is_ipv4 : List ℕ → Bool
is_ipv4 text = let parts = slice_split (λ b. b == 46) text in length parts == 4
    && list_all is_octet parts

-- a digit in base 16, `:` or `.`
abbrev pub is_ipv6_byte : ℕ → Bool
is_ipv6_byte b = is_digit b || (is_between 65 70 b || (is_between 97 102 b || (b == 58 || b == 46)))

-- What stands in the brackets of an IPv6 address. It needn't be one: no name has a colon.
abbrev pub is_ipv6 : List ℕ → Bool
is_ipv6 text = list_all is_ipv6_byte text && list_any (λ b. b == 58) text

-- the names in a text, with a comma between any two
abbrev pub names_in : List ℕ → List (List ℕ)
names_in text = slice_split (λ b. b == 44) text

-- the names that a server is given: those in each of these texts
abbrev pub names_of : Bor (List (Bor (List ℕ))) → List (List ℕ)
names_of texts = flat_map (λ text. names_in text.now) texts.now

-- one of the names that are given; an empty text, or nothing between two commas, is none
abbrev pub is_given : List (List ℕ) → List ℕ → Bool
is_given hosts name = nat_lt 0 (length name) && list_any (same_letters name) hosts

-- a name that is answered
abbrev pub is_own_name : List (List ℕ) → List ℕ → Bool
is_own_name hosts name = is_ipv4 name || (same_letters name (codes "localhost")
    || is_given hosts name)

-- such a name, alone or with a port
abbrev pub is_named : List (List ℕ) → List ℕ → Bool
is_named hosts host =
    let colon = place_of 58 host in is_own_name hosts (take colon host)
    && is_port_or_none (drop colon host)

-- `]`, alone or with a port
abbrev pub is_closed : List ℕ → Bool
is_closed [] = false
is_closed (b ∷ port) = is_port_or_none port

-- an IPv6 address in brackets, alone or with a port
abbrev pub is_bracketed : List ℕ → Bool
is_bracketed [] = false
is_bracketed (b ∷ text) =
    let bracket = place_of 93 text in b == 91
    && (is_ipv6 (take bracket text) && is_closed (drop bracket text))

-- a Host that is answered
abbrev pub is_answered : List (List ℕ) → List ℕ → Bool
is_answered hosts host = is_bracketed host || is_named hosts host

-- The request was sent to a name that isn't answered. Browsers name a host always, so that a request
-- without one is of another program.
abbrev pub is_misdirected : List (List ℕ) → Option (List ℕ) → Bool
is_misdirected hosts None = false
is_misdirected hosts (Some host) = not (is_answered hosts host)

-- Origins.

-- the origin is this scheme and this host
abbrev pub is_origin_by : List ℕ → List ℕ → List ℕ → Bool
is_origin_by scheme host origin = bytes_eq (take (length scheme) origin) scheme
    && same_letters (drop (length scheme) origin) host

-- the origin is the host's own, whose scheme a server behind another one can't tell
abbrev pub is_own_origin : List ℕ → List ℕ → Bool
is_own_origin host origin = is_origin_by (codes "http://") host origin
    || is_origin_by (codes "https://") host origin

-- the request has an origin that isn't its host's own
abbrev pub is_of_another : Option (List ℕ) → Option (List ℕ) → Bool
is_of_another host None = false
is_of_another None (Some origin) = true
is_of_another (Some host) (Some origin) = not (is_own_origin host origin)

-- the request is told to be of another site, or of another origin of this one
abbrev pub is_cross_site : Option (List ℕ) → Bool
is_cross_site None = false
is_cross_site (Some site) = not (bytes_eq site (codes "same-origin") || bytes_eq site (codes "none"))

-- Forms.

-- a space or a tab
abbrev pub is_blank : ℕ → Bool
is_blank b = b == 32 || b == 9

abbrev pub trim_start : List ℕ → List ℕ
trim_start [] = []
trim_start (b ∷ bs) = if is_blank b then trim_start bs else b ∷ bs

abbrev pub trim_end : List ℕ → List ℕ
trim_end text = reverse (trim_start (reverse text))

-- what stands before the parameters of a Content-Type
abbrev pub media_type : List ℕ → List ℕ
media_type text = trim_end (trim_start (take (place_of 59 text) text))

-- the media types of forms, which a page may post anywhere without asking first
abbrev pub form_types : List (List ℕ)
form_types = codes "text/plain" ∷ codes "multipart/form-data"
    ∷ codes "application/x-www-form-urlencoded" ∷ []

abbrev pub is_form_type : Option (List ℕ) → Bool
is_form_type None = false
is_form_type (Some text) = list_any (same_letters (media_type text)) form_types

-- a browser posts, and what it posts may be a form
abbrev pub is_posted_form : List ℕ → Option (List ℕ) → Option (List ℕ) → Option (List ℕ) → Bool
is_posted_form method origin mode media = bytes_eq method (codes "POST")
    && ((is_some origin || is_some mode) && is_form_type media)

-- All of it.

-- the request is of another origin, or looks like a form
abbrev pub is_forbidden : List ℕ → Fields → Bool
is_forbidden method fields =
    let origin = value_of (codes "Origin") fields in
    is_of_another (value_of (codes "Host") fields) origin
    || (is_cross_site (value_of (codes "Sec-Fetch-Site") fields)
    || is_posted_form method origin (value_of (codes "Sec-Fetch-Mode") fields)
    (value_of (codes "Content-Type") fields))

-- why a request of this method and these fields is barred, where these names of hosts are given
abbrev pub barred_of : List (List ℕ) → List ℕ → Fields → Option Barred
barred_of hosts method fields =
    if list_any (is_repeated fields) deciding_names then Some BadRequest
    else (if is_misdirected hosts (value_of (codes "Host") fields) then Some Misdirected
    else (if is_forbidden method fields then Some Forbidden else None))
