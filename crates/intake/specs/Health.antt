-- The health of a book: who asks for it, and what is told.
use Rattle.std.specs.Prelude.{ℕ, Bool, true, false, ◌&&◌, List, ◌++◌, if◌then◌else◌, Option, Some, None, codes, decimal, bytes_eq}
use Rattle.definitions.specs.Moments.{Moment, stamp}
use Rattle.definitions.specs.Register.{Entry}
use Rattle.definitions.specs.Response.{Head, Method, Get, Response, bare, not_allowed, plain_type, with_body}
use Rattle.store.specs.Extent.{extent_of}
use Rattle.intake.specs.declared.audience.Access.{Access}

-- whether a path leads to it, at a server that tells it
abbrev pub leads_to_health : Access → List ℕ → Bool
leads_to_health access path = access.tells_health && bytes_eq path (codes "/health")

-- the moment of the last entry, CCYYMMDDHHMM, or `-`
abbrev pub last_text : Option Moment → List ℕ
last_text None = codes "-"
last_text (Some moment) = stamp moment

-- that it serves, the version, how many entries there are, and the moment of the last; LF ends each
-- line
abbrev pub extent_text : ℕ × Option Moment → List ℕ
extent_text extent = codes "ok\nversion 2.0\nentries " ++ (decimal extent.0
    ++ (codes "\nlast " ++ (last_text extent.1 ++ codes "\n")))

abbrev pub health_text : List Entry → List ℕ
health_text L = extent_text (extent_of L)

-- by GET alone
abbrev pub health_by : Method → List Entry → Response
health_by Get L = with_body 200 plain_type (health_text L)
health_by method L = not_allowed (codes "GET")

-- the response to a request for it
abbrev pub health_response : Head → List Entry → Response
health_response h L = if h.is_encoded then bare 501 else health_by h.method L

-- whether it asks the book for anything
abbrev pub is_get : Method → Bool
is_get Get = true
is_get method = false

abbrev pub health_asks : Head → Bool
health_asks h = if h.is_encoded then false else is_get h.method
