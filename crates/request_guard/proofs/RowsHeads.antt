-- Heads that are answered, each beside its nearest that isn't.
use Rattle.std.proofs.Common.{◌≡◌, refl, codes, ℕ, List, [], ◌∷◌, true}
use Rattle.std.specs.Prelude.{Bool, ◌==◌, is_none, option_map, unwrap_or}
use Rattle.std.specs.List.{list_all}
use Rattle.request_guard.specs.Doors.{Fields, barred_of, status_of}

-- the status by which a head is barred, or 0, where no name is given
abbrev status : List ℕ → Fields → ℕ
status method fields = unwrap_or (option_map status_of (barred_of [] method fields)) 0

-- each head of this method is judged so
abbrev all_are : ℕ → List ℕ → List Fields → Bool
all_are n method heads = list_all (λ fields. status method fields == n) heads

abbrev host : List ℕ → List ℕ × List ℕ
host value = (codes "Host", value)

abbrev here : List ℕ × List ℕ
here = host (codes "localhost:8080")

abbrev origin : List ℕ → List ℕ × List ℕ
origin value = (codes "Origin", value)

abbrev own : List ℕ × List ℕ
own = origin (codes "http://localhost:8080")

abbrev site : List ℕ → List ℕ × List ℕ
site value = (codes "Sec-Fetch-Site", value)

abbrev mode : List ℕ → List ℕ × List ℕ
mode value = (codes "Sec-Fetch-Mode", value)

abbrev media : List ℕ → List ℕ × List ℕ
media value = (codes "Content-Type", value)

-- a field that decides, twice
abbrev twice : List Fields
twice =
    (here ∷ here ∷ [])
    ∷ (here ∷ (codes "HOST", codes "evil.example") ∷ [])
    ∷ (here ∷ own ∷ own ∷ [])
    ∷ (here ∷ site (codes "none") ∷ (codes "sec-fetch-site", codes "none") ∷ [])
    ∷ (here ∷ mode (codes "cors") ∷ mode (codes "cors") ∷ [])
    ∷ (here ∷ media (codes "application/edi-x12") ∷ media (codes "application/edi-x12") ∷ []) ∷ []

-- other fields may be there twice
abbrev once : List Fields
once =
    []
    ∷ (here ∷ [])
    ∷ (here ∷ (codes "Accept", codes "*/*") ∷ (codes "Accept", codes "*/*") ∷ []) ∷ []

abbrev of_its_own : List Fields
of_its_own =
    (here ∷ own ∷ [])
    ∷ (here ∷ origin (codes "https://localhost:8080") ∷ [])
    ∷ (here ∷ origin (codes "http://LocalHost:8080") ∷ []) ∷ []

abbrev of_another : List Fields
of_another =
    (here ∷ origin (codes "null") ∷ [])
    ∷ (here ∷ origin [] ∷ [])
    ∷ (host (codes "localhost:8081") ∷ own ∷ [])
    ∷ (here ∷ origin (codes "http://localhost") ∷ [])
    ∷ (here ∷ origin (codes "https://localhost:8080.evil") ∷ [])
    ∷ (here ∷ origin (codes "http://evil.example") ∷ [])
    ∷ (here ∷ origin (codes "file://localhost:8080") ∷ [])
    ∷ (here ∷ origin (codes "localhost:8080") ∷ [])
    ∷ (own ∷ []) ∷ []

abbrev same_site : List Fields
same_site =
    (here ∷ site (codes "same-origin") ∷ [])
    ∷ (here ∷ site (codes "none") ∷ []) ∷ []

abbrev cross_site : List Fields
cross_site =
    (here ∷ site (codes "cross-site") ∷ [])
    ∷ (here ∷ site (codes "same-site") ∷ [])
    ∷ (here ∷ site [] ∷ []) ∷ []

-- a browser's, of the server's own origin, whose media type is that of a form
abbrev forms : List Fields
forms =
    (here ∷ own ∷ media (codes "text/plain; charset=utf-8") ∷ [])
    ∷ (here ∷ own ∷ media (codes " TEXT/PLAIN ") ∷ [])
    ∷ (here ∷ own ∷ media (codes "text/plain\t;x") ∷ [])
    ∷ (here ∷ own ∷ media (codes "multipart/form-data;boundary=x") ∷ [])
    ∷ (here ∷ mode (codes "cors") ∷ media (codes "application/x-www-form-urlencoded") ∷ []) ∷ []

abbrev no_forms : List Fields
no_forms =
    (here ∷ own ∷ media (codes "application/edi-x12") ∷ [])
    ∷ (here ∷ own ∷ media (codes "text/plainer") ∷ [])
    ∷ (here ∷ own ∷ media (codes "application/edi-x12; text/plain") ∷ [])
    ∷ (here ∷ own ∷ [])
    ∷ (here ∷ media (codes "text/plain") ∷ [])
    ∷ (here ∷ site (codes "none") ∷ media (codes "text/plain") ∷ []) ∷ []

-- what curl sends with --data-binary
abbrev of_curl : Fields
of_curl =
    host (codes "127.0.0.1:8080") ∷ (codes "User-Agent", codes "curl/8.5.0")
    ∷ (codes "Accept", codes "*/*") ∷ (codes "Content-Length", codes "1024")
    ∷ media (codes "application/x-www-form-urlencoded") ∷ []

repeated_are_bad : all_are 400 (codes "GET") twice ≡ true
repeated_are_bad = refl

once_are_answered : all_are 0 (codes "GET") once ≡ true
once_are_answered = refl

of_its_own_are_answered : all_are 0 (codes "POST") of_its_own ≡ true
of_its_own_are_answered = refl

of_another_are_forbidden : all_are 403 (codes "GET") of_another ≡ true
of_another_are_forbidden = refl

same_site_are_answered : all_are 0 (codes "POST") same_site ≡ true
same_site_are_answered = refl

cross_site_are_forbidden : all_are 403 (codes "GET") cross_site ≡ true
cross_site_are_forbidden = refl

forms_are_forbidden : all_are 403 (codes "POST") forms ≡ true
forms_are_forbidden = refl

forms_are_read_where_none_is_posted : all_are 0 (codes "GET") forms ≡ true
forms_are_read_where_none_is_posted = refl

no_forms_are_answered : all_are 0 (codes "POST") no_forms ≡ true
no_forms_are_answered = refl

curl_is_answered : (hosts : List (List ℕ)) → is_none (barred_of hosts (codes "POST") of_curl) ≡ true
curl_is_answered hosts = refl

-- the first rule decides
a_host_comes_first : status (codes "GET") (host (codes "evil.example") ∷ origin (codes "null") ∷ [])
    ≡ 421
a_host_comes_first = refl
