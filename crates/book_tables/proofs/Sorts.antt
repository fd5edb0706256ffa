-- What a query sorts: a list in order, whose keys differ, is the list of the same elements that
-- rises.
use Rattle.std.proofs.Common.{◌≡◌, ◌+◌, Bool, true, false, List, [], ◌∷◌, map, filter, get_or, refl, sym, ap, subst, ◌∙◌, inl, inr, arith}
use Rattle.std.specs.Prelude.{if◌then◌else◌}
use Rattle.std.specs.List.{list_all, IsDistinct}
use Rattle.std.specs.List.Sorted.{IsPermutation, IsSorted, IsStrictlySortedBy}
use Rattle.std.specs.Cmp.{IsTotalOrder}
use Rattle.std.specs.Ordering.{is_eq, is_lt, ordering_reverse, eq_by_cmp}
use Rattle.std.specs.declared.cmp.Ordering.{Ordering}
use Rattle.std.specs.declared.cmp.Ordering.TheVariants.{Less, Equal, Greater}
use Rattle.std.proofs.lemmas.Bool.{and_parts}
use Rattle.std.proofs.lemmas.Map.Keys.{IsDistinct-IsPermutation, apart_from_distinct, sorted_from_all_adjacent}
use Rattle.std.proofs.lemmas.List.Sorted.{Contains-permutation, IsPermutation-sym}
use Rattle.sqlite.specs.Order.{Row, value_cmp}
use Rattle.sqlite.specs.Tree.{IsTable, rowid}
use Rattle.sqlite_rules.specs.Lists.{Has}
use Rattle.sqlite_rules.proofs.ListLemmas.{all_has, all_from, test_has, has_contained, contains_had, has_filtered}
use Rattle.sqlite_rules.proofs.ProbeLemmas.{has_mapped, mapped_has}
use Rattle.rules.specs.Keyed.{rises_by}
use Rattle.book_statements.proofs.KeyLemmas.{irreflexive}

-- of two that aren't alike, the second not below the first, the first is below
below : (o p : Ordering) → o ≡ ordering_reverse p → is_lt p ≡ false → is_eq o ≡ false → o ≡ Less
below Less p e h g = refl
below Equal p e h g = absurd (let f : ◌≡◌ {A = Bool} true false = g in cc)
below Greater Less e h g = absurd (let f : ◌≡◌ {A = Bool} true false = h in cc)
below Greater Equal e h g = absurd (let f : ◌≡◌ {A = Ordering} Greater Equal = e in cc)
below Greater Greater e h g = absurd (let f : ◌≡◌ {A = Ordering} Greater Less = e in cc)

flipped : (o p : Ordering) → o ≡ ordering_reverse p → is_eq o ≡ is_eq p
flipped o Less e = ap is_eq e
flipped o Equal e = ap is_eq e
flipped o Greater e = ap is_eq e

is_less : (o : Ordering) → is_lt o ≡ true → o ≡ Less
is_less Less h = refl
is_less Equal h = absurd (let e : ◌≡◌ {A = Bool} false true = h in cc)
is_less Greater h = absurd (let e : ◌≡◌ {A = Bool} false true = h in cc)

module _ {X : Type 0} (cmp : X → X → Ordering) (order : IsTotalOrder cmp) where
  -- in order, and no two alike
  pub sorted_apart : (xs : List X) (d : X) → IsSorted cmp xs → IsDistinct (eq_by_cmp cmp) xs → IsStrictlySortedBy cmp xs
  sorted_apart xs d sorted apart = sorted_from_all_adjacent order xs d (λ k lt.
      below (cmp (get_or xs k d) (get_or xs (k + 1) d)) (cmp (get_or xs (k + 1) d) (get_or xs k d)) (order.antisymm (get_or xs k d) (get_or xs (k + 1) d))
      (sorted k d (omega arith) lt) (apart_from_distinct (eq_by_cmp cmp) xs k (k + 1) d apart (omega arith) lt))

  both_less : (x y : X) → cmp x y ≡ Less → cmp y x ≡ Less → ⊥
  both_less x y h g = let e : ◌≡◌ {A = Ordering} Less Greater = sym h ∙ order.antisymm x y ∙ ap ordering_reverse g in cc

  -- two lists that rise and have the same elements
  pub sorted_same : (xs ys : List X) → IsStrictlySortedBy cmp xs → IsStrictlySortedBy cmp ys → ((x : X) → Has xs x → Has ys x) → ((x : X) → Has ys x → Has xs x) → xs ≡ ys
  unfolding IsStrictlySortedBy
  sorted_same [] [] p q f g = refl
  sorted_same [] (y ∷ ys) p q f g = absurd (g y (inl refl))
  sorted_same (x ∷ xs) [] p q f g = absurd (f x (inl refl))
  sorted_same (x ∷ xs) (y ∷ ys) p q f g =
      let front : (z : X) → Has xs z → cmp x z ≡ Less = λ z h. all_has (λ (w : X). cmp x w ≡ Less) xs z p.0 h in
      let head : (z : X) → Has ys z → cmp y z ≡ Less = λ z h. all_has (λ (w : X). cmp y w ≡ Less) ys z q.0 h in
      let same : x ≡ y = elim (f x (inl refl)) [
        | inl e ↦ e
        | inr here ↦ elim (g y (inl refl)) [ inl e ↦ sym e | inr there ↦ absurd (both_less x y (front y there) (head x here)) ]
      ] in
      let tails : xs ≡ ys = sorted_same xs ys p.1 q.1
      (λ z h. elim (f z (inr h)) [ inl e ↦ absurd (let l = subst (λ (w : X). cmp x w ≡ Less) (e ∙ sym same) (front z h) in both_less x x l l) | inr k ↦ k ])
      (λ z h. elim (g z (inr h)) [ inl e ↦ absurd (let l = subst (λ (w : X). cmp y w ≡ Less) (e ∙ same) (head z h) in both_less y y l l) | inr k ↦ k ]) in
      λ i. same i ∷ tails i

  -- rows of a model that rise, as they are put out
  pub put_out : {M K : Type 0} (less : K → K → Bool) (key : M → K) (out : M → X) → ((m n : M) → is_lt (cmp (out m) (out n)) ≡ less (key m) (key n)) → (ms : List M) → rises_by less key ms ≡ true
      → IsStrictlySortedBy cmp (map out ms)
  unfolding IsStrictlySortedBy
  put_out less key out same [] h = tt
  put_out {M} less key out same (m ∷ ms) h =
      let a = and_parts (list_all (λ (n : M). less (key m) (key n)) ms) (rises_by less key ms) h in (
        all_from (λ (o : X). cmp (out m) o ≡ Less) (map out ms) (λ o there.
            let is = has_mapped out ms o there in
            subst (λ (p : X). cmp (out m) p ≡ Less) (sym is.2) (is_less (cmp (out m) (out is.0)) (same m is.0 ∙ test_has (λ (n : M). less (key m) (key n)) ms is.0 a.0 is.1))),
        put_out less key out same ms a.1,
      )

  -- what is put in order of the rows of a model is the model's list
  pub ordered_is : {M K : Type 0} (less : K → K → Bool) (key : M → K) (out : M → X) → ((m n : M) → is_lt (cmp (out m) (out n)) ≡ less (key m) (key n)) → (ms : List M) → rises_by less key ms ≡ true
      → (kept ordered : List X) (d : X) → IsPermutation kept ordered → IsSorted cmp ordered → IsDistinct (eq_by_cmp cmp) kept
      → ((o : X) → Has kept o → (m : M) × Has ms m × (o ≡ out m)) → ((m : M) → Has ms m → Has kept (out m)) → ordered ≡ map out ms
  ordered_is less key out same ms rises kept ordered d moved sorted apart sound complete =
      let flips : (x y : X) → eq_by_cmp cmp x y ≡ eq_by_cmp cmp y x = λ x y. flipped (cmp x y) (cmp y x) (order.antisymm x y) in
      let into : (o : X) → Has kept o → Has ordered o = λ o h. has_contained ordered o (Contains-permutation kept ordered o moved (contains_had kept o h)) in
      let back : (o : X) → Has ordered o → Has kept o = λ o h. has_contained kept o (Contains-permutation ordered kept o (IsPermutation-sym kept ordered moved) (contains_had ordered o h)) in
      sorted_same ordered (map out ms) (sorted_apart ordered d sorted (IsDistinct-IsPermutation (eq_by_cmp cmp) flips kept ordered moved apart)) (put_out less key out same ms rises)
      (λ o h. let it = sound o (back o h) in subst (Has (map out ms)) (sym it.2) (mapped_has out ms it.0 it.1))
      (λ o h. let it = has_mapped out ms o h in subst (Has ordered) (sym it.2) (into (out it.0) (complete it.0 it.1)))

-- what the rows of a table are shown as differs, where rows that are alike are one
pub shown_apart : {X : Type 0} (alike : X → X → Bool) (f : Row → X) (p : Row → Bool) (stored : List Row) → IsTable stored
    → ((a b : Row) → Has stored a → Has stored b → p a ≡ true → p b ≡ true → alike (f a) (f b) ≡ true → a ≡ b) → IsDistinct alike (map f (filter p stored))
unfolding IsDistinct
shown_apart alike f p [] rise one = tt
shown_apart {X} alike f p (x ∷ xs) rise one = by (p x) refl (shown_apart alike f p xs rise.1 (λ a b h k. one a b (inr h) (inr k)))
  where
    not_true : (b : Bool) → (b ≡ true → ⊥) → b ≡ false
    not_true true h = absurd (h refl)
    not_true false h = refl

    by : (b : Bool) → p x ≡ b → IsDistinct alike (map f (filter p xs)) → IsDistinct alike (map f (if b then x ∷ filter p xs else filter p xs))
    by false e later = later
    by true e later = (
      all_from (λ (o : X). alike (f x) o ≡ false) (map f (filter p xs)) (λ o there.
          let is = has_mapped f (filter p xs) o there in
          let k = has_filtered p xs is.0 is.1 in
          subst (λ (q : X). alike (f x) q ≡ false) (sym is.2) (not_true (alike (f x) (f is.0)) (λ tied.
          let same = one x is.0 (inl refl) (inr k.0) e k.1 tied in
          irreflexive (rowid x) (subst (λ (y : Row). value_cmp (rowid x) (rowid y) ≡ Less) (sym same) (all_has (λ (y : Row). value_cmp (rowid x) (rowid y) ≡ Less) xs is.0 rise.0 k.0))))),
      later,
    )
