-- Questions that are asked of a server one after the other.
use Rattle.std.proofs.Common.{refl, sym, subst, ℕ, List, [], ◌∷◌, inl, inr}
use Rattle.std.specs.List.{FoldsTo}
use Rattle.commands.specs.declared.told.CommandError.{CommandError}
use Rattle.http_client.specs.declared.remote.answers.ServerAnswer.{ServerAnswer}
use Rattle.http_client.specs.declared.remote.requests.Verb.TheVariants.{Get}
use Rattle.http_client.specs.Asked.{Asks, AsksOnly}
use Rattle.http_client.specs.Carried.{Brings, Loses, IsHaltedAt}

module _ {C : Type 0} (brings : Brings C) (loses : Loses C) where
  pub none_asked : (c : C) → AsksOnly brings loses c c
  none_asked c = ([], refl)

  pub one_asked : (old : C) (path : List ℕ) (a : ServerAnswer) (new : C) → brings old Get path [] a new → AsksOnly brings loses old new
  one_asked old path a new b = (path ∷ [], (new, inl (a, b), refl))

  -- one at most, where that stopped the command
  pub one_halted : (stop : CommandError) (old new : C) (path : List ℕ) → IsHaltedAt brings loses stop old new Get path [] → AsksOnly brings loses old new
  one_halted stop old new path (inl h) = ([], sym h.0)
  one_halted stop old new path (inr (inl h)) = (path ∷ [], (new, inr h.0, refl))
  one_halted stop old new path (inr (inr h)) = one_asked old path h.0 new h.2

  asked_then : (old mid new : C) (paths : List (List ℕ)) → FoldsTo (Asks brings loses) old paths mid → AsksOnly brings loses mid new → AsksOnly brings loses old new
  asked_then old mid new [] e rest = subst (λ c. AsksOnly brings loses c new) (sym e) rest
  asked_then old mid new (path ∷ paths) h rest =
      let more = asked_then h.0 mid new paths h.2 rest in
      (path ∷ more.0, (h.0, h.1, more.1))

  pub asked_more : (old mid new : C) → AsksOnly brings loses old mid → AsksOnly brings loses mid new → AsksOnly brings loses old new
  asked_more old mid new h rest = asked_then old mid new h.0 h.1 rest
