-- what is tried out is answered as what would be done, and isn't done
use Rattle.std.proofs.Common.{◌≡◌, ℕ, List, [], ◌∷◌, ◌++◌, length, ◌==◌, Bool, true, false, Option, Some, None, Result, Ok, Err, codes, refl, ap, ◌∙◌, bytes_eq, if◌then◌else◌}
use Rattle.httparse.specs.Grammar.{RequestHead}
use Rattle.definitions.specs.Header.{Who}
use Rattle.definitions.specs.Moments.{Moment}
use Rattle.definitions.specs.Readings.{parts_at}
use Rattle.definitions.specs.Register.{Entry, Interchange}
use Rattle.definitions.specs.Response.{Method, Get, Post, OtherMethod, is_exchange}
use Rattle.definitions.specs.declared.sheet_kind.SheetKind.{SheetKind}
use Rattle.intake.specs.Admitting.{answer_of, call_answer, call_submitted, command_for, command_in}
use Rattle.intake.specs.Calls.{Call, ToDeed, ToTriedDeed, ToTriedExchange, ToPage, ToOrder, ToForm, ToExport, ToOpen, ToDepositors, call_command, call_of, call_of_one, call_of_parts, call_to_do, call_to_try, tried}
use Rattle.intake.specs.Fields.{head_of}
use Rattle.intake.specs.Reaching.{asked_for}
use Rattle.intake.specs.Routes.{route_of}
use Rattle.intake.specs.Targets.{call_for, command_with, target_by, target_command, target_of}
use Rattle.intake.specs.declared.audience.Audience.{Audience}
use Rattle.intake.specs.declared.audience.Audience.TheVariants.{Partners, Testers, Clerks}
use Rattle.request_guard.specs.declared.askers.Asker.{Asker}
use Rattle.intake.proofs.Aimed.{submits_for}
use Rattle.intake.proofs.Whole.{exchange_path}

-- a deed's path after /try calls for the deed to be tried out
module _ (kind : SheetKind) (who ticket number : List ℕ) where
  not_of_one : (name : List ℕ) → call_of_one name ≡ Some (ToDeed kind who ticket number) → ⊥
  not_of_one name = by (length name == 0) (bytes_eq name (codes "depositors"))
    where
      by : (v w : Bool) → (if v then Some ToPage else (if w then Some ToDepositors else None)) ≡ Some (ToDeed kind who ticket number) → ⊥
      by true w e = cc
      by false true e = cc
      by false false e = cc

  not_tried : (o : Option Call) → tried o ≡ Some (ToDeed kind who ticket number) → ⊥
  not_tried None e = cc
  not_tried (Some (ToDeed k a b c)) e = cc
  not_tried (Some (ToTriedDeed k a b c)) e = cc
  not_tried (Some ToTriedExchange) e = cc
  not_tried (Some ToPage) e = cc
  not_tried (Some (ToOrder a b)) e = cc
  not_tried (Some (ToForm f a b)) e = cc
  not_tried (Some (ToExport a)) e = cc
  not_tried (Some (ToOpen a)) e = cc
  not_tried (Some ToDepositors) e = cc

  not_to_try : (parts : List (List ℕ)) → call_to_try parts ≡ Some (ToDeed kind who ticket number) → ⊥
  not_to_try [] e = not_tried (call_to_do []) e
  not_to_try (name ∷ []) e = by (bytes_eq name (codes "x12")) e
    where
      by : (v : Bool) → (if v then Some ToTriedExchange else None) ≡ Some (ToDeed kind who ticket number) → ⊥
      by true e = cc
      by false e = cc
  not_to_try (name ∷ other ∷ more) e = not_tried (call_to_do (name ∷ other ∷ more)) e

  trial : (parts : List (List ℕ)) → call_of_parts parts ≡ Some (ToDeed kind who ticket number) → call_to_try parts ≡ Some (ToTriedDeed kind who ticket number)
  trial [] e = cc
  trial (name ∷ []) e = by (bytes_eq name (codes "try")) e
    where
      by : (v : Bool) → (if v then call_to_try [] else call_of_one name) ≡ Some (ToDeed kind who ticket number) → call_to_try (name ∷ []) ≡ Some (ToTriedDeed kind who ticket number)
      by true e = absurd (not_to_try [] e)
      by false e = absurd (not_of_one name e)
  trial (name ∷ other ∷ more) e = by (bytes_eq name (codes "try")) e
    where
      by : (v : Bool) → (if v then call_to_try (other ∷ more) else call_to_do (name ∷ other ∷ more)) ≡ Some (ToDeed kind who ticket number)
          → tried (call_to_do (name ∷ other ∷ more)) ≡ Some (ToTriedDeed kind who ticket number)
      by true e = absurd (not_to_try (other ∷ more) e)
      by false e = ap tried e

  pub trial_of : (path : List ℕ) → call_of (codes "/" ++ path) ≡ Some (ToDeed kind who ticket number) → call_of (codes "/try/" ++ path) ≡ Some (ToTriedDeed kind who ticket number)
  trial_of path e = trial (parts_at 47 path) e

-- What begins with /try/ submits nothing.

module _ (m : Method) (body : List ℕ) where
  exchange_submits_none : call_command m ToTriedExchange body ≡ None
  exchange_submits_none = by m
    where
      by : (k : Method) → call_command k ToTriedExchange body ≡ None
      by Post = refl
      by Get = refl
      by OtherMethod = refl

  deed_submits_none : (kind : SheetKind) (who ticket number : List ℕ) → call_command m (ToTriedDeed kind who ticket number) body ≡ None
  deed_submits_none kind who ticket number = by m
    where
      by : (k : Method) → call_command k (ToTriedDeed kind who ticket number) body ≡ None
      by Post = refl
      by Get = refl
      by OtherMethod = refl

  module _ (path : List ℕ) where
    abbrev Path : List ℕ
    Path = codes "/try/" ++ path

    route_submits_none : target_command m (target_by None Path) body ≡ None
    route_submits_none = by (is_exchange m (route_of Path)) refl
      where
        by : (x : Bool) → is_exchange m (route_of Path) ≡ x → (if x then Some (Interchange body) else None) ≡ None
        by true e = let path_is : Path ≡ codes "/x12" = exchange_path m Path e in absurd (cc)
        by false e = refl

    tried_submits_none : (o : Option Call) → target_command m (target_by (tried o) Path) body ≡ None
    tried_submits_none None = route_submits_none
    tried_submits_none (Some (ToDeed k a b c)) = deed_submits_none k a b c
    tried_submits_none (Some (ToTriedDeed k a b c)) = route_submits_none
    tried_submits_none (Some ToTriedExchange) = route_submits_none
    tried_submits_none (Some ToPage) = route_submits_none
    tried_submits_none (Some (ToOrder a b)) = route_submits_none
    tried_submits_none (Some (ToForm f a b)) = route_submits_none
    tried_submits_none (Some (ToExport a)) = route_submits_none
    tried_submits_none (Some (ToOpen a)) = route_submits_none
    tried_submits_none (Some ToDepositors) = route_submits_none

    exchange_or_none : (x : Bool) → target_command m (target_by (if x then Some ToTriedExchange else None) Path) body ≡ None
    exchange_or_none true = exchange_submits_none
    exchange_or_none false = route_submits_none

    by_parts : (parts : List (List ℕ)) → target_command m (target_by (call_to_try parts) Path) body ≡ None
    by_parts [] = tried_submits_none (call_to_do [])
    by_parts (name ∷ []) = exchange_or_none (bytes_eq name (codes "x12"))
    by_parts (name ∷ other ∷ more) = tried_submits_none (call_to_do (name ∷ other ∷ more))

    submits_none : (audience : Audience) → target_command m (target_of audience Path) body ≡ None
    submits_none Partners = route_submits_none
    submits_none Testers = exchange_or_none (bytes_eq Path (codes "/try/x12"))
    submits_none Clerks = by_parts (parts_at 47 path)

no_command_with : (audience : Audience) (path : List ℕ) (m : Method) (q : Result (List ℕ) ℕ) → command_with m (target_of audience (codes "/try/" ++ path)) q ≡ None
no_command_with audience path m (Err status) = refl
no_command_with audience path m (Ok body) = submits_none m body path audience

pub trial_submits_none : (asker : Asker) (audience : Audience) (h : RequestHead) (rest path : List ℕ) → h.target ≡ codes "/try/" ++ path → command_for asker audience h rest ≡ None
trial_submits_none asker audience h rest path e =
    let m = (head_of h).method in
    let q = asked_for asker (head_of h) (target_of audience h.target) rest in
    submits_for asker audience h rest q refl
    ∙ ap (λ (l : List ℕ). command_with m (target_of audience l) q) e
    ∙ no_command_with audience path m q

-- Where partners may try an interchange out, any other request is as ever.

module _ (h : RequestHead) (rest : List ℕ) (not : bytes_eq h.target (codes "/try/x12") ≡ false) where
  no_call : call_for Testers h.target ≡ None
  no_call = rw not refl

  pub tester_command : command_in Testers (Some h) rest ≡ command_in Partners (Some h) rest
  tester_command = ap (λ o. call_submitted o h rest) no_call

  pub tester_answer : (W : Who) (L : List Entry) (t : Moment) → answer_of Testers W L (Some h) rest t ≡ answer_of Partners W L (Some h) rest t
  tester_answer W L t = ap (λ o. call_answer o W L h rest t) no_call
