-- Lists: a test of each element's view, and what stands where blanks are trimmed.
use Rattle.std.proofs.Common.{◌≡◌, ℕ, ◌≤◌, Bool, cond, ltb, List, [], ◌∷◌, ◌++◌, length, map, flat_map, refl, ap, sym, ◌∙◌, arith, Some, None}
use Rattle.std.specs.Prelude.{◌||◌, unwrap_or}
use Rattle.std.specs.List.{list_any, position_or_len}
use Rattle.std.proofs.lemmas.List.Folds.{list_any-append}

pub list_any-map : {A B : Type 0} (test : B → Bool) (f : A → B) (xs : List A)
    → list_any (λ x. test (f x)) xs ≡ list_any test (map f xs)
list_any-map test f [] = refl
list_any-map test f (x ∷ xs) = ap (λ r. test (f x) || r) (list_any-map test f xs)

pub list_any-flat_map : {A B : Type 0} (test : B → Bool) (f : A → List B) (xs : List A)
    → list_any (λ x. list_any test (f x)) xs ≡ list_any test (flat_map f xs)
list_any-flat_map test f [] = refl
list_any-flat_map test f (x ∷ xs) =
    ap (λ r. list_any test (f x) || r) (list_any-flat_map test f xs)
    ∙ sym (list_any-append test (f x) (flat_map f xs))

pub position-within : {A : Type 0} (p : A → Bool) (xs : List A) → position_or_len p xs ≤ length xs
position-within p [] = omega arith
position-within p (x ∷ xs) = grind (arith, position-within p xs)

-- the place that was found, or the length
pub place-or-length : (p n : ℕ) → p ≤ n → unwrap_or (cond (ltb p n) (Some p) None) n ≡ p
place-or-length p n within = grind arith
