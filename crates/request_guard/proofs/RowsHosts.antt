-- Hosts that are answered, each beside its nearest that isn't.
use Rattle.std.proofs.Common.{◌≡◌, refl, codes, ℕ, List, [], ◌∷◌, true}
use Rattle.std.specs.Borrow.{Bor}
use Rattle.std.specs.Prelude.{Option, ◌==◌, is_none, option_map, unwrap_or}
use Rattle.std.specs.List.{list_all}
use Rattle.request_guard.specs.Doors.{barred_of, names_of, status_of}
use Rattle.request_guard.specs.declared.barred.Barred.{Barred}

-- how a GET to a host is barred, where these names are given
abbrev barred_at : List (List ℕ) → List ℕ → Option Barred
barred_at hosts host = barred_of hosts (codes "GET") ((codes "Host", host) ∷ [])

abbrev status : Option Barred → ℕ
status barred = unwrap_or (option_map status_of barred) 0

abbrev own_hosts : List (List ℕ)
own_hosts =
    codes "127.0.0.1" ∷ codes "127.0.0.1:8080" ∷ codes "255.255.255.255" ∷ codes "1.2.3.004"
    ∷ codes "localhost" ∷ codes "LOCALHOST:8080" ∷ codes "localhost:1" ∷ codes "localhost:12345"
    ∷ codes "[::1]" ∷ codes "[::1]:80" ∷ codes "[2001:DB8::192.0.2.1]:65535" ∷ []

abbrev other_hosts : List (List ℕ)
other_hosts =
    codes "127.0.0.1.evil.example" ∷ codes "127.0.0.1.:80" ∷ codes "127.0.0" ∷ codes "127.0.0.1.1"
    ∷ codes "256.0.0.1" ∷ codes "127.0.0.0001" ∷ codes "127..0.1" ∷ codes "evil.127.0.0.1"
    ∷ codes "evil.example" ∷ codes "evil.localhost" ∷ codes "localhost.evil" ∷ codes "localhost."
    ∷ codes "localhostevil" ∷ codes "localhos" ∷ codes " localhost"
    ∷ codes "localhost:" ∷ codes "localhost:123456" ∷ codes "localhost:80x"
    ∷ codes "localhost:80:80" ∷ codes "localhost@evil.example" ∷ codes "localhost:80@evil.example"
    ∷ [] ∷ codes ":8080" ∷ codes "." ∷ codes "..." ∷ codes "::1"
    ∷ codes "[::1" ∷ codes "[]" ∷ codes "[1]" ∷ codes "[::1]evil" ∷ codes "[::1]:" ∷ codes "[::1]80"
    ∷ codes "[::g]" ∷ codes "[::1].evil.example" ∷ codes "evil[::1]" ∷ codes "whx12.house" ∷ []

-- those that lead here only where the name is given
abbrev given_hosts : List (List ℕ)
given_hosts = codes "whx12.house" ∷ codes "WHX12.House:443" ∷ []

abbrev alike_hosts : List (List ℕ)
alike_hosts = codes "evil.whx12.house" ∷ codes "whx12.house.evil" ∷ codes "whx12.house:" ∷ []

hosts_are_answered : list_all (λ host. is_none (barred_at [] host)) own_hosts ≡ true
hosts_are_answered = refl

hosts_are_misdirected : list_all (λ host. status (barred_at [] host) == 421) other_hosts ≡ true
hosts_are_misdirected = refl

given_names_are_answered :
    list_all (λ host. is_none (barred_at (codes "whx12.house" ∷ []) host)) given_hosts ≡ true
given_names_are_answered = refl

names_alike_are_misdirected :
    list_all (λ host. status (barred_at (codes "whx12.house" ∷ []) host) == 421) alike_hosts ≡ true
names_alike_are_misdirected = refl

not_given_is_misdirected : list_all (λ host. status (barred_at [] host) == 421) given_hosts ≡ true
not_given_is_misdirected = refl

-- a server is given several texts
abbrev at_once : {X : Type 0} → X → Bor X
at_once x = record { ref_ptr = (0, 0); now = x }

abbrev named_twice : Bor (List (Bor (List ℕ)))
named_twice =
    at_once (at_once (codes "whx12.house,dock") ∷ at_once [] ∷ at_once (codes "gate") ∷ [])

all_texts_are_read : names_of named_twice
    ≡ codes "whx12.house" ∷ codes "dock" ∷ [] ∷ codes "gate" ∷ []
all_texts_are_read = refl

their_names_are_answered : list_all (λ host. is_none (barred_at (names_of named_twice) host))
    (codes "whx12.house:1" ∷ codes "Dock" ∷ codes "gate" ∷ []) ≡ true
their_names_are_answered = refl

nothing_between_them_is : list_all (λ host. status (barred_at (names_of named_twice) host) == 421)
    (codes "whx12.house,dock" ∷ [] ∷ codes ":80" ∷ codes "dockgate" ∷ []) ≡ true
nothing_between_them_is = refl
