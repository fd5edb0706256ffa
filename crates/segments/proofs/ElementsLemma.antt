-- The first element and the others after separators are the elements joined.
use Rattle.std.proofs.Common.{◌≡◌, ℕ, List, ◌∷◌, ◌++◌, map, refl, append_assoc}
use Rattle.std.specs.Prelude.{flat_map}
use Rattle.std.specs.Borrow.{Bor}
use Rattle.std.proofs.lemmas.List.Folds.{flat_map-map}
use Rattle.definitions.specs.Cut.{joined}

pub elements_joined : (c : ℕ) (old mid new : List ℕ) (es fs : List (Bor (List ℕ))) (f : Bor (List ℕ)) → es ≡ f ∷ fs → mid ≡ old ++ f.now → new ≡ mid ++ flat_map (λ e. c ∷ e.now) fs
    → new ≡ old ++ joined c (map (λ e. e.now) es)
elements_joined c old mid new es fs f e m n =
    let g : List ℕ → List ℕ = λ x. c ∷ x in
    let v : Bor (List ℕ) → List ℕ = λ x. x.now in
    rw (n, m, e, append_assoc, flat_map-map g v fs) refl
