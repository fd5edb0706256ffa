-- A list that rises strictly is the only order of its elements that never falls.
use Rattle.std.proofs.Common.{◌≡◌, inl, inr, ℕ, suc, ◌≤◌, List, [], ◌∷◌, Bool, false, cond, Ordering, Less, Equal, Greater, is_lt, is_gt, sum_by, IsSorted, IsPermutation, refl, sym, ap, ◌∙◌, arith, add-one}
use Rattle.std.specs.List.{AllByRecursion}
use Rattle.std.specs.Cmp.{IsTotalOrder}
use Rattle.std.specs.Ordering.{ordering_reverse}
use Rattle.std.proofs.lemmas.Cmp.{upto}
use Rattle.std.proofs.lemmas.List.Sums.{sum_by-cons}
use Rattle.std.proofs.lemmas.List.Sorted.{sum_by-IsPermutation, Contains-permutation, IsPermutation-sym}
use Rattle.sqlite.specs.Query.{Query, Output, output_cmp}
use Rattle.sqlite_sql.proofs.QueryLemmas.{output_cmp_total}
use Rattle.sqlite_trees.specs.Tree.{IsAscending}
use Rattle.sqlite_trees.proofs.ListLemmas.{all_weaker}
use Rattle.sqlite_rules.specs.Lists.{Has}
use Rattle.sqlite_rules.proofs.ListLemmas.{all_has, has_contained, contains_had}

turned : (o : Ordering) → is_lt o ≡ false → is_gt (ordering_reverse o) ≡ false
turned Less h = h
turned Equal h = refl
turned Greater h = refl

turned_back : (o : Ordering) → is_gt o ≡ false → is_lt (ordering_reverse o) ≡ false
turned_back Less h = refl
turned_back Equal h = refl
turned_back Greater h = h

abbrev counts : Bool → ℕ
counts b = cond b 1 0

module _ {X : Type 0} where
  none_counted : (f : X → ℕ) (l : List X) → AllByRecursion (λ z. f z ≡ 0) l → sum_by f l ≡ 0
  none_counted f [] h = refl
  none_counted f (z ∷ l) h = omega (arith, sum_by-cons f z l, h.0, none_counted f l h.1)

  counted : (f : X → ℕ) (l : List X) (z : X) → Has l z → f z ≤ sum_by f l
  counted f [] z h = absurd h
  counted f (w ∷ l) z (inl e) = omega (arith, sum_by-cons f w l, ap f e)
  counted f (w ∷ l) z (inr h) = omega (arith, sum_by-cons f w l, counted f l z h)

module _ {X : Type 0} (cmp : X → X → Ordering) (total : IsTotalOrder cmp) where
  abbrev Below : X → X → Type 0
  Below a b = cmp a b ≡ Less

  abbrev AtMost : X → X → Type 0
  AtMost a b = is_gt (cmp a b) ≡ false

  below_all : (x : X) (ys : List X) → IsSorted cmp (x ∷ ys) → IsAscending AtMost ys → AllByRecursion (AtMost x) ys
  below_all x [] sorted up = tt
  below_all x (y ∷ ys) sorted up =
      let first : AtMost x y = ap is_gt (total.antisymm x y) ∙ turned _ (sorted 0 x (omega arith) (omega arith)) in
      (first, all_weaker _ (AtMost x) (λ z. upto total x y z first) ys up.0)

  pub ascending_from_sorted : (xs : List X) → IsSorted cmp xs → IsAscending AtMost xs
  ascending_from_sorted [] sorted = tt
  ascending_from_sorted (x ∷ xs) sorted =
      let tail : IsSorted cmp xs = λ k d p q. rw add-one (rw add-one at (sorted (suc k) d (omega arith) (omega arith))) in
      let up = ascending_from_sorted xs tail in
      (below_all x xs sorted up, up)

  itself : (x : X) → is_lt (cmp x x) ≡ false
  itself x = by_order (cmp x x) (total.antisymm x x)
    where
      by_order : (o : Ordering) → o ≡ ordering_reverse o → is_lt o ≡ false
      by_order Less e = absurd (let f = ap is_lt e in cc)
      by_order Equal e = refl
      by_order Greater e = refl

  one_head : (x y : X) (xs ys : List X) → AllByRecursion (Below x) xs → AllByRecursion (AtMost y) ys → ((f : X → ℕ) → sum_by f (y ∷ ys) ≡ sum_by f (x ∷ xs)) → Has (x ∷ xs) y → y ≡ x
  one_head x y xs ys up down alike (inl e) = e
  one_head x y xs ys up down alike (inr later) =
      let f : X → ℕ = λ z. counts (is_lt (cmp z y)) in
      let one : f x ≡ 1 = ap (λ o. counts (is_lt o)) (all_has (Below x) xs y up later) in
      let first : f y ≡ 0 = ap counts (itself y) in
      let rest : AllByRecursion (λ z. f z ≡ 0) ys = all_weaker (AtMost y) _ (λ z h. ap counts (ap is_lt (total.antisymm z y) ∙ turned_back (cmp y z) h)) ys down in
      let nothing : sum_by f (y ∷ ys) ≡ 0 = none_counted f (y ∷ ys) (first, rest) in
      absurd (omega (arith, one, nothing, alike f, counted f (x ∷ xs) x (inl refl)))

  -- after the head stand only elements that are greater
  back : (x : X) (xs ys : List X) → AllByRecursion (Below x) xs → ((f : X → ℕ) → sum_by f (x ∷ ys) ≡ sum_by f (x ∷ xs)) → (z : X) → Has ys z → Has (x ∷ xs) z → Has xs z
  back x xs ys up alike z there (inr later) = later
  back x xs ys up alike z there (inl e) =
      let f : X → ℕ = λ w. cond (is_lt (cmp x w)) 0 1 in
      let one : f x ≡ 1 = ap (λ b. cond b 0 1) (itself x) in
      let rest : AllByRecursion (λ w. f w ≡ 0) xs = all_weaker (Below x) _ (λ w h. ap (λ o. cond (is_lt o) 0 1) h) xs up in
      absurd (omega (arith, one, ap f e, none_counted f xs rest, sum_by-cons f x xs, sum_by-cons f x ys, alike f, counted f ys z there))

  once : (xs ys : List X) → IsAscending Below xs → IsAscending AtMost ys → ((f : X → ℕ) → sum_by f ys ≡ sum_by f xs) → ((y : X) → Has ys y → Has xs y) → ys ≡ xs
  once [] [] up down alike each = refl
  once [] (y ∷ ys) up down alike each = absurd (each y (inl refl))
  once (x ∷ xs) [] up down alike each = absurd (omega (arith, alike (λ _. 1), sum_by-cons (λ (_ : X). 1) x xs))
  once (x ∷ xs) (y ∷ ys) up down alike each =
      let same : y ≡ x = one_head x y xs ys up.0 down.0 alike (each y (inl refl)) in
      let more : (f : X → ℕ) → sum_by f (x ∷ ys) ≡ sum_by f (x ∷ xs) = λ f. ap (λ h. sum_by f (h ∷ ys)) (sym same) ∙ alike f in
      let tails : ys ≡ xs = once xs ys up.1 down.1 (λ f. omega (arith, more f, sum_by-cons f x xs, sum_by-cons f x ys)) (λ z there. back x xs ys up.0 more z there (each z (inr there))) in
      (λ i. same i ∷ tails i)

  pub sorted_once : (xs ys : List X) → IsAscending Below xs → IsPermutation xs ys → IsSorted cmp ys → ys ≡ xs
  sorted_once xs ys up same sorted =
      once xs ys up (ascending_from_sorted ys sorted) (λ f. sum_by-IsPermutation f xs ys same)
      (λ y there. has_contained xs y (Contains-permutation ys xs y (IsPermutation-sym xs ys same) (contains_had ys y there)))

-- what ORDER BY makes of outputs that rise already
pub in_order : (q : Query) (kept ordered : List Output) → IsAscending (λ a b. output_cmp q a b ≡ Less) kept → IsPermutation kept ordered → IsSorted (output_cmp q) ordered → ordered ≡ kept
in_order q kept ordered up same sorted = sorted_once (output_cmp q) (output_cmp_total q) kept ordered up same sorted
