-- What is filtered of a list in order is the order of what is filtered.
use Rattle.std.proofs.Common.{◌≡◌, Bool, true, false, cond, ◌&&◌, List, [], ◌∷◌, filter, refl, sym, ap, ◌∙◌}
use Rattle.std.specs.List.{AllByRecursion}
use Rattle.std.proofs.lemmas.Bool.{both_ways}
use Rattle.definitions.specs.Lists.{placed, in_order}

module _ {X : Type 0} (less : X → X → Bool) (through : (x y z : X) → less x y ≡ true → less y z ≡ true → less x z ≡ true) where
  -- each stands before all after it
  abbrev Rises : List X → Type 0
  Rises [] = Unit {0}
  Rises (x ∷ xs) = AllByRecursion (λ z. less x z ≡ true) xs × Rises xs

  all_later : (x y : X) (ys : List X) → less x y ≡ true → AllByRecursion (λ z. less y z ≡ true) ys → AllByRecursion (λ z. less x z ≡ true) ys
  all_later x y [] h all = tt
  all_later x y (z ∷ zs) h all = (through x y z h all.0, all_later x y zs h all.1)

  all_placed : (P : X → Type 0) (x : X) (ys : List X) → P x → AllByRecursion P ys → AllByRecursion P (placed less x ys)
  all_placed P x [] h all = (h, tt)
  all_placed P x (y ∷ ys) h all = by_tests (less x y) (less y x) refl refl (all_placed P x ys h all.1)
    where
      by_tests : (s t : Bool) → less x y ≡ s → less y x ≡ t → AllByRecursion P (placed less x ys) → AllByRecursion P (placed less x (y ∷ ys))
      by_tests true t e f rest = rw e (h, all)
      by_tests false true e f rest = rw (e, f) (all.0, rest)
      by_tests false false e f rest = rw (e, f) all

  rises_placed : (x : X) (ys : List X) → Rises ys → Rises (placed less x ys)
  rises_placed x [] h = (tt, tt)
  rises_placed x (y ∷ ys) h = by_tests (less x y) (less y x) refl refl (rises_placed x ys h.1)
    where
      by_tests : (s t : Bool) → less x y ≡ s → less y x ≡ t → Rises (placed less x ys) → Rises (placed less x (y ∷ ys))
      by_tests true t e f rest = rw e ((e, all_later x y ys e h.0), h)
      by_tests false true e f rest = rw (e, f) (all_placed (λ z. less y z ≡ true) x ys f h.0, rest)
      by_tests false false e f rest = rw (e, f) h

  rises_in_order : (xs : List X) → Rises (in_order less xs)
  rises_in_order [] = tt
  rises_in_order (x ∷ xs) = rises_placed x (in_order less xs) (rises_in_order xs)

  placed_first : (x : X) (ys : List X) → AllByRecursion (λ z. less x z ≡ true) ys → placed less x ys ≡ x ∷ ys
  placed_first x [] all = refl
  placed_first x (y ∷ ys) all = rw all.0 refl

  placed_tied : (x y : X) (ys : List X) → less x y ≡ false → less y x ≡ false → placed less x (y ∷ ys) ≡ y ∷ ys
  placed_tied x y ys e f = rw (e, f) refl

  placed_later : (x y : X) (ys : List X) → less x y ≡ false → less y x ≡ true → placed less x (y ∷ ys) ≡ y ∷ placed less x ys
  placed_later x y ys e f = rw (e, f) refl

  all_filtered : (P : X → Type 0) (p : X → Bool) (ys : List X) → AllByRecursion P ys → AllByRecursion P (filter p ys)
  all_filtered P p [] all = tt
  all_filtered P p (y ∷ ys) all = by_test (p y) refl (all_filtered P p ys all.1)
    where
      by_test : (s : Bool) → p y ≡ s → AllByRecursion P (filter p ys) → AllByRecursion P (filter p (y ∷ ys))
      by_test true e rest = rw e (all.0, rest)
      by_test false e rest = rw e rest

  -- p tells apart no two of which neither stands before the other
  module _ (p : X → Bool) (same : (x y : X) → less x y ≡ false → less y x ≡ false → p x ≡ p y) where
    filter_placed : (x : X) (ys : List X) → Rises ys → filter p (placed less x ys) ≡ cond (p x) (placed less x (filter p ys)) (filter p ys)
    filter_placed x [] h = refl
    filter_placed x (y ∷ ys) h = by_tests (less x y) (less y x) (p x) (p y) refl refl refl refl (filter_placed x ys h.1)
      where
        by_tests : (s t u v : Bool) → less x y ≡ s → less y x ≡ t → p x ≡ u → p y ≡ v → filter p (placed less x ys) ≡ cond (p x) (placed less x (filter p ys)) (filter p ys)
            → filter p (placed less x (y ∷ ys)) ≡ cond (p x) (placed less x (filter p (y ∷ ys))) (filter p (y ∷ ys))
        by_tests true t true v e f a b ih =
            let front = placed_first x (filter p (y ∷ ys)) (all_filtered (λ z. less x z ≡ true) p (y ∷ ys) (e, all_later x y ys e h.0)) in
            rw (e, a) (sym front)
        by_tests true t false v e f a b ih = rw (e, a) refl
        by_tests false true true true e f a b ih = rw (e, f, a, b) (ap (λ zs. y ∷ zs) (rw a at ih) ∙ sym (placed_later x y (filter p ys) e f))
        by_tests false true true false e f a b ih = rw (e, f, a, b) (rw a at ih)
        by_tests false true false true e f a b ih = rw (e, f, a, b) (ap (λ zs. y ∷ zs) (rw a at ih))
        by_tests false true false false e f a b ih = rw (e, f, a, b) (rw a at ih)
        by_tests false false true true e f a b ih = rw (e, f, a, b) (sym (placed_tied x y (filter p ys) e f))
        by_tests false false true false e f a b ih = absurd (both_ways (p y) b (sym (same x y e f) ∙ a))
        by_tests false false false true e f a b ih = absurd (both_ways (p x) a (same x y e f ∙ b))
        by_tests false false false false e f a b ih = rw (e, f, a, b) refl

    pub filter_in_order : (xs : List X) → filter p (in_order less xs) ≡ in_order less (filter p xs)
    filter_in_order [] = refl
    filter_in_order (x ∷ xs) = by_test (p x) refl (filter_placed x (in_order less xs) (rises_in_order xs)) (filter_in_order xs)
      where
        by_test : (s : Bool) → p x ≡ s → filter p (placed less x (in_order less xs)) ≡ cond (p x) (placed less x (filter p (in_order less xs))) (filter p (in_order less xs))
            → filter p (in_order less xs) ≡ in_order less (filter p xs) → filter p (in_order less (x ∷ xs)) ≡ in_order less (filter p (x ∷ xs))
        by_test true e whole rest = whole ∙ rw e (ap (placed less x) rest)
        by_test false e whole rest = whole ∙ rw e rest

-- one filter after another
pub filters : {X : Type 0} (p q : X → Bool) (xs : List X) → filter p (filter q xs) ≡ filter (λ x. p x && q x) xs
filters p q [] = refl
filters p q (x ∷ xs) = by_tests (p x) (q x) refl refl (filters p q xs)
  where
    by_tests : (s t : Bool) → p x ≡ s → q x ≡ t → filter p (filter q xs) ≡ filter (λ x. p x && q x) xs → filter p (filter q (x ∷ xs)) ≡ filter (λ x. p x && q x) (x ∷ xs)
    by_tests true true e f rest = rw f (rw e (ap (λ zs. x ∷ zs) rest))
    by_tests true false e f rest = rw f (rw e rest)
    by_tests false true e f rest = rw f (rw e rest)
    by_tests false false e f rest = rw f (rw e rest)
