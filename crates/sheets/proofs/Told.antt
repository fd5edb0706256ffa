-- A loop that appends the text of what each element means.
use Rattle.std.proofs.Common.{◌≡◌, ℕ, ◌+◌, ◌<◌, ◌≤◌, List, [], ◌∷◌, ◌++◌, map, flat_map, length, take, get_or, refl, ◌∙◌, ap, append_assoc}
use Rattle.std.proofs.lemmas.Grind.{flat_map-append}
use Rattle.std.proofs.lemmas.List.{append-nil, map_more, take_all}

-- the texts of one element more, after those of the elements before it
pub told_more_of : {X Y : Type 0} (f : Y → List ℕ) (g : X → Y) (xs : List X) (i : ℕ) (x : X) (a b c : List ℕ) → i < length xs → x ≡ get_or xs i x
    → b ≡ a ++ flat_map f (map g (take i xs)) → c ≡ b ++ f (g x) → c ≡ a ++ flat_map f (map g (take (i + 1) xs))
told_more_of f g xs i x a b c h e told one =
    let more : flat_map f (map g (take (i + 1) xs)) ≡ flat_map f (map g (take i xs)) ++ f (g x) =
    rw (map_more g xs i x h, ← e, flat_map-append f (map g (take i xs)) (g x ∷ []), append-nil (f (g x))) refl in
    one ∙ rw (told, more, append_assoc) refl

pub all_told_of : {X Y : Type 0} (f : Y → List ℕ) (g : X → Y) (xs : List X) (i : ℕ) (a b : List ℕ) → length xs ≤ i
    → b ≡ a ++ flat_map f (map g (take i xs)) → b ≡ a ++ flat_map f (map g xs)
all_told_of f g xs i a b h told = told ∙ ap (λ ys. a ++ flat_map f (map g ys)) (take_all i xs h)
