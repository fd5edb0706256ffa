-- What is appended piece by piece.
use Rattle.std.proofs.Common.{◌≡◌, ℕ, ◌≤◌, Bool, List, [], ◌∷◌, ◌++◌, length, take, filter, flat_map, ap, ◌∙◌, append_assoc}
use Rattle.std.proofs.lemmas.List.{take_all}
use Rattle.definitions.specs.Reports.{columns}

-- columns, put after a text
pub four_columns : (old a b c d : List ℕ) → (((((((old ++ a) ++ 32 ∷ []) ++ b) ++ 32 ∷ []) ++ c) ++ 32 ∷ []) ++ d) ++ 10 ∷ [] ≡ old ++ columns (a ∷ b ∷ c ∷ d ∷ [])
four_columns old a b c d = simp append_assoc

-- three, the last with room after it
pub columns_and_room : (old a b c room : List ℕ) → (((((((old ++ a) ++ 32 ∷ []) ++ b) ++ 32 ∷ []) ++ c) ++ room) ++ 10 ∷ []) ≡ old ++ columns (a ∷ b ∷ (c ++ room) ∷ [])
columns_and_room old a b c room = simp append_assoc

-- the texts of all that pass, after what stands before them
pub all_after : {X : Type 0} (f : X → List ℕ) (p : X → Bool) (old before : List ℕ) (xs : List X) (i : ℕ) → length xs ≤ i
    → (old ++ before) ++ flat_map f (filter p (take i xs)) ≡ old ++ (before ++ flat_map f (filter p xs))
all_after f p old before xs i end = ap (λ ys. (old ++ before) ++ flat_map f (filter p ys)) (take_all i xs end) ∙ append_assoc old before (flat_map f (filter p xs))
