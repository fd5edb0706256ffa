-- Columns, one after another.
use Rattle.std.proofs.Common.{◌≡◌, ℕ, List, [], ◌∷◌, ◌++◌, map, flat_map, ap, sym, ◌∙◌, append-nil, append_assoc}
use Rattle.std.specs.List.{join_with_byte}
use Rattle.definitions.specs.Rules.{Today}
use Rattle.definitions.specs.Bytes.{padded, right_aligned}
use Rattle.definitions.specs.Reports.{stock_columns}

-- columns that follow another
followed : {X : Type 0} (f : X → List ℕ) (cell : List ℕ) (xs : List X) → join_with_byte 32 (cell ∷ map (right_aligned 15) (map f xs)) ≡ cell ++ flat_map (λ x. 32 ∷ right_aligned 15 (f x)) xs
followed f cell [] = sym (append-nil cell)
followed f cell (x ∷ xs) = ap (λ text. cell ++ 32 ∷ text) (followed f (right_aligned 15 (f x)) xs)

-- a line of the stock report, put after a text piece by piece
pub line_text : {X : Type 0} (f : X → List ℕ) (old item lot expiry : List ℕ) (xs : List X)
    → ((((((old ++ padded 20 item) ++ 32 ∷ []) ++ padded 12 lot) ++ 32 ∷ []) ++ padded 8 expiry) ++ flat_map (λ x. 32 ∷ right_aligned 15 (f x)) xs) ++ 10 ∷ []
    ≡ old ++ stock_columns Today item lot expiry (map f xs)
line_text f old item lot expiry xs =
    let cells = flat_map (λ x. 32 ∷ right_aligned 15 (f x)) xs in
    let whole : ((((((old ++ padded 20 item) ++ 32 ∷ []) ++ padded 12 lot) ++ 32 ∷ []) ++ padded 8 expiry) ++ cells) ++ 10 ∷ []
    ≡ old ++ ((padded 20 item ++ 32 ∷ (padded 12 lot ++ 32 ∷ (padded 8 expiry ++ cells))) ++ 10 ∷ []) = simp append_assoc in
    whole ∙ ap (λ text. old ++ ((padded 20 item ++ 32 ∷ (padded 12 lot ++ 32 ∷ text)) ++ 10 ∷ [])) (sym (followed f (padded 8 expiry) xs))
