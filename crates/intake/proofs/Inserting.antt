-- A route that conflicts with none is refused for want of memory alone.
use Rattle.std.specs.Prelude.{◌≡◌, ℕ, List, [], None, Result, Ok, Err, IfErr, IsErrAnd}
use Rattle.std.proofs.Common.{◌∙◌, refl}
use Rattle.matchit.specs.declared.error.InsertError.{InsertError}
use Rattle.matchit.specs.declared.error.InsertError.TheVariants.{Conflict, InvalidParamSegment, InvalidParam, InvalidCatchAll, OutOfMemory}
use Rattle.matchit.specs.Route.{Scan, parse_route}
use Rattle.matchit.specs.Rows.{RowsOf}
use Rattle.matchit.specs.Router.{RouteOf, Refused, nearest}

-- the pattern of a route that can be read
abbrev pub pattern_of : List ℕ → List ℕ
pattern_of text = of_scan (parse_route text)
  where
    of_scan : Result Scan InsertError → List ℕ
    of_scan (Ok s) = s.pattern
    of_scan (Err e) = []

pub only_memory : {T : Type 0} (p : List ℕ) (rs : RowsOf (RouteOf T)) (e : InsertError) → nearest p rs ≡ None → Refused p rs e → e ≡ OutOfMemory
only_memory p rs (Conflict with) none h = absurd (let some = h.1 in cc)
only_memory p rs OutOfMemory none h = refl
only_memory p rs InvalidParamSegment none h = absurd h
only_memory p rs InvalidParam none h = absurd h
only_memory p rs InvalidCatchAll none h = absurd h

-- an error that is handed on
pub handed_on : {T : Type 0} (r : Result T InsertError) (e : InsertError) → IsErrAnd r (λ f. f ≡ e) → e ≡ OutOfMemory → IfErr r (λ f. f ≡ OutOfMemory)
handed_on (Ok x) e same is = tt
handed_on (Err f) e same is = same ∙ is
