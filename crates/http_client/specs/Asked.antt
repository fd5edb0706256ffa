-- What a server is only asked for.
use Rattle.std.specs.Prelude.{◌⊎◌, ℕ, List, []}
use Rattle.std.specs.List.{FoldsTo}
use Rattle.http_client.specs.declared.remote.answers.ServerAnswer.{ServerAnswer}
use Rattle.http_client.specs.declared.remote.requests.Verb.TheVariants.{Get}
use Rattle.http_client.specs.Carried.{Brings, Loses}

-- one question was asked, whatever came of it
abbrev pub Asks : {C : Type 0} → Brings C → Loses C → C → List ℕ → C → Type 0
Asks brings loses old path new = ((a : ServerAnswer) × brings old Get path [] a new)
    ⊎ loses old Get path [] new

-- nothing but questions was asked, one after the other
abbrev pub AsksOnly : {C : Type 0} → Brings C → Loses C → C → C → Type 0
AsksOnly brings loses old new =
    (paths : List (List ℕ)) × FoldsTo (Asks brings loses) old paths new
