-- Worked examples: the health of a book, and which requests are for it.
use Rattle.std.specs.Prelude.{◌≡◌, ℕ, true, false, List, [], Some, None, codes}
use Rattle.std.proofs.Common.{refl}
use Rattle.std.specs.Fmt.{digits}
use Rattle.httparse.specs.Grammar.{RequestHead, crlf}
use Rattle.definitions.specs.Moments.{Moment}
use Rattle.definitions.specs.Register.{Entry}
use Rattle.definitions.specs.Response.{Post, OtherMethod, not_allowed, plain_type, with_body}
use Rattle.definitions.proofs.Sample.{WHSE1}
use Rattle.intake.specs.declared.audience.Access.{Access}
use Rattle.intake.specs.Admitting.{answer_by, asks_by, command_by, is_health_by, of_partners}
use Rattle.intake.specs.Health.{extent_text, health_by, health_text}

-- What is told.

abbrev late : Moment
late = record { year = 2026; month = 11; day = 30; hour = 7; minute = 31 }

of_46 : extent_text (46, Some late) ≡ codes "ok\nversion 2.0\nentries 46\nlast 202611300731\n"
unfolding digits
of_46 = refl

of_none : health_text [] ≡ codes "ok\nversion 2.0\nentries 0\nlast -\n"
unfolding digits
of_none = refl

-- By GET alone.

posted : (L : List Entry) → health_by Post L ≡ not_allowed (codes "GET")
posted L = refl

otherwise : (L : List Entry) → health_by OtherMethod L ≡ not_allowed (codes "GET")
otherwise L = refl

-- Who is told: clerks and partners, and also where a field names for whom requests are asked.

abbrev telling : Access → Access
telling access = record { audience = access.audience; doors = None; from = access.from; tells_health = true }

abbrev got : List ℕ → RequestHead
got path = record { blank = []; method = codes "GET"; target = path; minor = 1; line_end = crlf; fields = []; last = crlf }

module _ (access : Access) where
  is_told : (t : Moment) → answer_by (telling access) WHSE1 [] (Some (got (codes "/health"))) [] t ≡ with_body 200 plain_type (codes "ok\nversion 2.0\nentries 0\nlast -\n")
  unfolding digits
  is_told t = refl

  asks_the_book : asks_by (telling access) (Some (got (codes "/health"))) [] ≡ true
  asks_the_book = refl

  submits_nothing : command_by (telling access) (Some (got (codes "/health"))) [] ≡ None
  submits_nothing = refl

  a_slash_more : is_health_by (telling access) (Some (got (codes "/health/"))) ≡ false
  a_slash_more = refl

  another_case : is_health_by (telling access) (Some (got (codes "/Health"))) ≡ false
  another_case = refl

  a_query : is_health_by (telling access) (Some (got (codes "/health?x"))) ≡ false
  a_query = refl

-- the server of partners alone tells none
untold : is_health_by of_partners (Some (got (codes "/health"))) ≡ false
untold = refl
