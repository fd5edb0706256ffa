-- What passes the tests of a head, and what a head that passed has.
use Rattle.std.proofs.Common.{◌≡◌, ℕ, Bool, true, false, List, [], ◌∷◌, Option, Some, None, length, refl, ap, ◌∙◌, bytes_eq, codes, rules, tests}
use Rattle.std.specs.Prelude.{not, ◌&&◌, ◌||◌, if◌then◌else◌, nat_lt, slice_get}
use Rattle.std.specs.List.{list_any}
use Rattle.head_fields.specs.Fields.{has_field, is_named, values}
use Rattle.request_guard.specs.Doors.{Fields, is_own_origin, is_of_another, is_repeated, is_cross_site, is_posted_form, is_forbidden, value_of}
use Rattle.request_guard.specs.declared.barred.Barred.{Barred}
use Rattle.request_guard.specs.declared.barred.Barred.TheVariants.{BadRequest, Misdirected, Forbidden}

-- by three tests, one after the other
abbrev pub first_failed : Bool → Bool → Bool → Option Barred
first_failed repeated misdirected forbidden =
    if repeated then Some BadRequest
    else (if misdirected then Some Misdirected
    else (if forbidden then Some Forbidden else None))

pub passes : (r m f : Bool) → r ≡ false → m ≡ false → f ≡ false → first_failed r m f ≡ None
passes true m f a b c = search (rules, tests)
passes false true f a b c = search (rules, tests)
passes false false true a b c = search (rules, tests)
passes false false false a b c = refl

pub passed-last : (r m f : Bool) → first_failed r m f ≡ None → f ≡ false
passed-last true m f e = search (rules, tests)
passed-last false true f e = search (rules, tests)
passed-last false false true e = search (rules, tests)
passed-last false false false e = refl

pub passed-first : (r m f : Bool) → first_failed r m f ≡ None → r ≡ false
passed-first true m f e = search (rules, tests)
passed-first false m f e = refl

pub neither : (a b : Bool) → (a || b) ≡ false → (a ≡ false) × (b ≡ false)
neither true b e = search (rules, tests)
neither false b e = (refl, e)

pub nor : (a b : Bool) → a ≡ false → b ≡ false → (a || b) ≡ false
nor true b e f = e
nor false b e f = f

pub and-false : (a : Bool) → (a && false) ≡ false
and-false true = refl
and-false false = refl

-- values of a name that isn't there
none-more : (named found : Bool) (v : List ℕ) (vs : List (List ℕ)) → (named || found) ≡ false
    → (found ≡ false → vs ≡ []) → (if named then v ∷ vs else vs) ≡ []
none-more true found v vs e more = search (rules, tests)
none-more false found v vs e more = more e

pub no-values : (name : List ℕ) (fields : Fields) → has_field name fields ≡ false
    → values name fields ≡ []
no-values name [] e = refl
no-values name (field ∷ fields) e =
    none-more (is_named name field) (has_field name fields) field.1 (values name fields) e
    (no-values name fields)

pub no-value : (name : List ℕ) (fields : Fields) → has_field name fields ≡ false
    → value_of name fields ≡ None
no-value name fields e = ap (λ vs. slice_get vs 0) (no-values name fields e)

pub not-repeated : (fields : Fields) (names : List (List ℕ))
    → list_any (λ name. has_field name fields) names ≡ false
    → list_any (is_repeated fields) names ≡ false
not-repeated fields [] e = refl
not-repeated fields (name ∷ names) e =
    let parts = neither (has_field name fields) (list_any (λ name. has_field name fields) names) e in
    nor (is_repeated fields name) (list_any (is_repeated fields) names)
    (ap (λ vs. nat_lt 1 (length vs)) (no-values name fields parts.0))
    (not-repeated fields names parts.1)

not-false : (b : Bool) → not b ≡ false → b ≡ true
not-false true e = refl
not-false false e = search (rules, tests)

-- an origin that passes is its host's
pub its-host : (host : Option (List ℕ)) (origin : List ℕ) → is_of_another host (Some origin) ≡ false
    → (h : List ℕ) × (host ≡ Some h) × (is_own_origin h origin ≡ true)
its-host None origin e = search (rules, tests)
its-host (Some h) origin e = (h, refl, not-false (is_own_origin h origin) e)

-- no value that tells of a browser
pub passes-forbidden : (method : List ℕ) (fields : Fields)
    → value_of (codes "Origin") fields ≡ None → value_of (codes "Sec-Fetch-Site") fields ≡ None
    → value_of (codes "Sec-Fetch-Mode") fields ≡ None → is_forbidden method fields ≡ false
passes-forbidden method fields origin site mode =
    let host = value_of (codes "Host") fields in
    let media = value_of (codes "Content-Type") fields in
    nor (is_of_another host (value_of (codes "Origin") fields)) _
    (ap (is_of_another host) origin)
    (nor (is_cross_site (value_of (codes "Sec-Fetch-Site") fields)) _ (ap is_cross_site site)
    (ap (λ o. is_posted_form method o (value_of (codes "Sec-Fetch-Mode") fields) media) origin
    ∙ ap (λ m. is_posted_form method None m media) mode
    ∙ and-false (bytes_eq method (codes "POST"))))
