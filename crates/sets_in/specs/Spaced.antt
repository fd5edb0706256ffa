-- Texts with a space between each two.
use Rattle.std.specs.Prelude.{ℕ, List, [], ◌∷◌, ◌++◌}

-- one more text after others, with a space between them where neither is empty
abbrev pub spaced_with : List ℕ → List ℕ → List ℕ
spaced_with out [] = out
spaced_with [] (b ∷ bs) = b ∷ bs
spaced_with (o ∷ os) (b ∷ bs) = o ∷ os ++ 32 ∷ b ∷ bs
