-- One text more.
use Rattle.std.proofs.Common.{◌≡◌, ℕ, ◌+◌, ◌<◌, Bool, true, false, List, [], ◌∷◌, ◌++◌, length, get_or, take, filter, flat_map, ap, sym, ◌∙◌, append-nil}
use Rattle.std.proofs.lemmas.List.{take_more, flat_map_more}
use Rattle.std.proofs.lemmas.List.Elements.{filter_more}

pub one_more : {X : Type 0} (f : X → List ℕ) (before : List ℕ) (xs : List X) (i : ℕ) (x : X) → i < length xs → x ≡ get_or xs i x
    → (before ++ flat_map f (take i xs)) ++ f x ≡ before ++ flat_map f (take (i + 1) xs)
one_more f before xs i x within is =
    let more : take (i + 1) xs ≡ take i xs ++ x ∷ [] = take_more xs i x within ∙ ap (λ y. take i xs ++ y ∷ []) (sym is) in
    flat_map_more f before (take i xs) x ∙ ap (λ ys. before ++ flat_map f ys) (sym more)

module _ {X : Type 0} (f : X → List ℕ) (p : X → Bool) (before : List ℕ) (xs : List X) (i : ℕ) (x : X) where
  -- one text more of those that pass
  pub one_passes : i < length xs → x ≡ get_or xs i x → p x ≡ true
      → (before ++ flat_map f (filter p (take i xs))) ++ f x ≡ before ++ flat_map f (filter p (take (i + 1) xs))
  one_passes within is passes =
      let found : p (get_or xs i x) ≡ true = ap p (sym is) ∙ passes in
      let more : filter p (take (i + 1) xs) ≡ filter p (take i xs) ++ x ∷ [] =
      filter_more p xs i x within ∙ rw found (ap (λ y. filter p (take i xs) ++ y ∷ []) (sym is)) in
      flat_map_more f before (filter p (take i xs)) x ∙ ap (λ ys. before ++ flat_map f ys) (sym more)

  -- one that doesn't pass
  pub one_fails : i < length xs → x ≡ get_or xs i x → p x ≡ false
      → before ++ flat_map f (filter p (take i xs)) ≡ before ++ flat_map f (filter p (take (i + 1) xs))
  one_fails within is fails =
      let found : p (get_or xs i x) ≡ false = ap p (sym is) ∙ fails in
      let same : filter p (take (i + 1) xs) ≡ filter p (take i xs) =
      filter_more p xs i x within ∙ rw found (append-nil (filter p (take i xs))) in
      ap (λ ys. before ++ flat_map f ys) (sym same)
