-- What a look at each line and the next tells of whether they ascend.
use Rattle.std.proofs.Common.{◌≡◌, ℕ, zero, suc, ◌+◌, ◌<◌, Bool, true, false, ◌&&◌, List, [], ◌∷◌, map, refl, ap, sym, ◌∙◌, subst, arith, length, get_or}
use Rattle.std.specs.List.{AllAdjacentBelow, IsAllAdjacentAnswer}
use Rattle.std.specs.Cmp.Derive.{both_true}
use Rattle.definitions.specs.Clerk.{is_ascending}
use Rattle.definitions.specs.Events.{pair_before}
use Rattle.definitions.specs.Means.{Line}

-- of things that have a line each, where `before` tells it of two
abbrev Tells : {X : Type 0} → (X → Line) → (X → X → Bool) → Type 0
Tells {X} line before = (a b : X) → pair_before (line a) (line b) ≡ before a b

all_ascend : {X : Type 0} (line : X → Line) (before : X → X → Bool) → Tells line before → (xs : List X)
    → AllAdjacentBelow (λ x y. true ≡ before x y) xs (length xs) → is_ascending (map line xs) ≡ true
all_ascend line before t [] h = refl
all_ascend line before t (x ∷ []) h = refl
all_ascend line before t (x ∷ y ∷ xs) h =
    both_true (t x y ∙ sym (h 0 x (omega arith)))
    (all_ascend line before t (y ∷ xs) (λ i d b.
    let next : suc i + 1 ≡ suc (i + 1) = omega arith in
    subst (λ n. true ≡ before (get_or (y ∷ xs) i d) (get_or (x ∷ y ∷ xs) n d)) next (h (suc i) d (omega (arith, b)))))

one_falls : {X : Type 0} (line : X → Line) (before : X → X → Bool) → Tells line before → (xs : List X) (i : ℕ) → i + 1 < length xs
    → ((d : X) → false ≡ before (get_or xs i d) (get_or xs (i + 1) d)) → is_ascending (map line xs) ≡ false
one_falls line before t [] i b h = absurd (omega arith)
one_falls line before t (x ∷ []) i b h = absurd (omega arith)
one_falls line before t (x ∷ y ∷ xs) zero b h = ap (λ b. b && is_ascending (map line (y ∷ xs))) (t x y ∙ sym (h x))
one_falls line before t (x ∷ y ∷ xs) (suc i) b h =
    let next : suc i + 1 ≡ suc (i + 1) = omega arith in
    let rest : is_ascending (map line (y ∷ xs)) ≡ false = one_falls line before t (y ∷ xs) i (omega (arith, b)) (λ d. subst (λ n. false ≡ before (get_or (y ∷ xs) i d) (get_or (x ∷ y ∷ xs) n d)) next (h d)) in
    ap (λ b. pair_before (line x) (line y) && b) rest ∙ never (pair_before (line x) (line y))
  where
    never : (t : Bool) → (t && false) ≡ false
    never true = refl
    never false = refl

pub ascending_answer : {X : Type 0} (line : X → Line) (before : X → X → Bool) → Tells line before → (xs : List X) (r : Bool)
    → IsAllAdjacentAnswer (λ x y b. b ≡ before x y) xs r → r ≡ is_ascending (map line xs)
ascending_answer line before t xs true h = sym (all_ascend line before t xs h)
ascending_answer line before t xs false h = sym (one_falls line before t xs h.0 h.1 h.2)
