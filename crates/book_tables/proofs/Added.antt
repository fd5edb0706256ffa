-- What a loop adds for each item.
use Rattle.std.proofs.Common.{◌≡◌, ℕ, ◌+◌, ◌<◌, List, [], ◌∷◌, ◌++◌, length, get_or, take, flat_map, ap, sym, ◌∙◌}
use Rattle.std.proofs.lemmas.List.{take_more, flat_map_more}

taken_with : {X : Type 0} (xs : List X) (i : ℕ) (x : X) → i < length xs → x ≡ get_or xs i x → take (i + 1) xs ≡ take i xs ++ x ∷ []
taken_with xs i x within is = take_more xs i x within ∙ ap (λ y. take i xs ++ y ∷ []) (sym is)

-- what one item more gives, after what the first ones gave
pub more_added : {X Y : Type 0} (f : X → List Y) (before old ys new : List Y) (xs : List X) (i : ℕ) (x : X) → i < length xs → x ≡ get_or xs i x
    → new ≡ old ++ ys → ys ≡ f x → old ≡ before ++ flat_map f (take i xs) → new ≡ before ++ flat_map f (take (i + 1) xs)
more_added f before old ys new xs i x within is more its so_far =
    more ∙ ap (λ zs. old ++ zs) its ∙ ap (λ zs. zs ++ f x) so_far ∙ flat_map_more f before (take i xs) x ∙ ap (λ zs. before ++ flat_map f zs) (sym (taken_with xs i x within is))
