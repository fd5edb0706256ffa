-- A list that was sorted, each but once, is the list put in order.
use Rattle.std.proofs.Common.{◌≡◌, ◌⊎◌, ℕ, zero, suc, ◌<◌, ◌≤◌, length, get_or, Bool, true, false, not, cond, List, [], ◌∷◌, ◌++◌, reverse, refl, ap, sym, ◌∙◌, subst, inl, inr, arith, Option, Some, None, IsPermutation, All}
use Rattle.std.specs.Cmp.{IsStrictWeakOrder}
use Rattle.std.specs.List.{dedup, dedup_from}
use Rattle.std.specs.List.Sorted.{IsSortedBy, IsStableBy, ties}
use Rattle.std.specs.Prelude.{filter, find}
use Rattle.std.proofs.lemmas.Bool.{cases_Bool, both_ways, and_parts}
use Rattle.std.proofs.lemmas.List.{reverse-append}
use Rattle.std.proofs.lemmas.List.Elements.{All-nil, All-cons, All-head, All-tail, All-weaker}
use Rattle.std.proofs.lemmas.List.Sorted.{All-permutation, IsPermutation-sym, sorted_far}
use Rattle.definitions.specs.Lists.{placed, in_order, or_else}
use Rattle.page_rows.proofs.Orders.{Has, IsOrder, Rises, in_order_rises, rising_same}

-- What a list has, its permutation has.

all_has : {X : Type 0} (xs : List X) → All (λ z. Has z xs) xs
all_has [] = All-nil (λ z. Has z [])
all_has (x ∷ xs) = All-cons (λ z. Has z (x ∷ xs)) x xs (inl refl) (All-weaker (λ z. Has z xs) (λ z. Has z (x ∷ xs)) (λ z h. inr h) xs (all_has xs))

all_of : {X : Type 0} (P : X → Type 0) (xs : List X) → All P xs → (z : X) → Has z xs → P z
all_of P [] all z h = absurd h
all_of P (x ∷ xs) all z (inl a) = subst P (sym a) (All-head P x xs all)
all_of P (x ∷ xs) all z (inr b) = all_of P xs (All-tail P x xs all) z b

pub has_moved : {X : Type 0} (xs ys : List X) → IsPermutation xs ys → (z : X) → Has z xs → Has z ys
has_moved xs ys moved = all_of (λ z. Has z ys) xs (All-permutation (λ z. Has z ys) ys xs (IsPermutation-sym xs ys moved) (all_has ys))

-- none comes before one that stands before it
abbrev pub Settles : {X : Type 0} → (X → X → Bool) → List X → Type 0
Settles less [] = Unit {0}
Settles {X} less (x ∷ xs) = ((z : X) → Has z xs → less z x ≡ false) × Settles less xs

pub settled : {X : Type 0} (less : X → X → Bool) → IsStrictWeakOrder less → (xs : List X) → IsSortedBy less xs → Settles less xs
settled {X} less weak xs up = settle xs (sorted_far less weak xs up)
  where
    settle : (xs : List X) → ((i j : ℕ) (d : X) → i ≤ j → j < length xs → less (get_or xs j d) (get_or xs i d) ≡ false) → Settles less xs
    settle [] far = tt
    settle (x ∷ xs) far = (
      all_of (λ z. less z x ≡ false) xs (λ k d within. far zero (suc k) d (omega arith) (omega arith)),
      settle xs (λ i j d le within. far (suc i) (suc j) d (omega arith) (omega arith)),
    )

-- What is found first in a list.

abbrev first : {X : Type 0} → List X → Option X
first [] = None
first (x ∷ xs) = Some x

found_first : {X : Type 0} (p : X → Bool) (xs : List X) → find p xs ≡ first (filter p xs)
found_first p [] = refl
found_first p (x ∷ xs) = elim (cases_Bool (p x)) [ inl e ↦ rw e refl | inr e ↦ rw e (found_first p xs) ]

found_none : {X : Type 0} (p : X → Bool) (xs : List X) → ((z : X) → Has z xs → p z ≡ false) → find p xs ≡ None
found_none p [] h = refl
found_none p (x ∷ xs) h = rw (h x (inl refl)) (found_none p xs (λ z has. h z (inr has)))

found_has : {X : Type 0} (p : X → Bool) (z : X) (xs : List X) → find p xs ≡ Some z → Has z xs
found_has p z [] h = absurd (cc)
found_has {X} p z (x ∷ xs) h = elim (cases_Bool (p x)) [
  | inl e ↦ let g : Some x ≡ Some z = rw e at h in inl (some_same g)
  | inr e ↦ inr (found_has p z xs (rw e at h))
]
  where
    some_same : {X : Type 0} {x z : X} → Some x ≡ Some z → z ≡ x
    some_same h = cc

or_none : {X : Type 0} (o : Option X) → o ≡ or_else o None
or_none (Some x) = refl
or_none None = refl

found_both : {X : Type 0} (p : X → Bool) (xs ys : List X) → find p (xs ++ ys) ≡ or_else (find p xs) (find p ys)
found_both p [] ys = refl
found_both p (x ∷ xs) ys = elim (cases_Bool (p x)) [ inl e ↦ rw e refl | inr e ↦ rw e (found_both p xs ys) ]

-- Under an order, of what ties.

module _ {X : Type 0} (less : X → X → Bool) (order : IsOrder less) (weak : IsStrictWeakOrder less) where
  tie_parts : (x y : X) → ties less x y ≡ true → (less x y ≡ false) × (less y x ≡ false)
  tie_parts x y h = let p = and_parts (not (less x y)) (not (less y x)) h in (not_true (less x y) p.0, not_true (less y x) p.1)
    where
      not_true : (v : Bool) → not v ≡ true → v ≡ false
      not_true true h = absurd (cc)
      not_true false h = refl

  tie : (x y : X) → less x y ≡ false → less y x ≡ false → ties less x y ≡ true
  tie x y h g = rw (h, g) refl

  tie_self : (x : X) → ties less x x ≡ true
  tie_self x = tie x x (order.never x) (order.never x)

  tie_back : (x y : X) → ties less x y ≡ true → ties less y x ≡ true
  tie_back x y h = let p = tie_parts x y h in tie y x p.1 p.0

  tie_on : (x y z : X) → ties less x y ≡ true → ties less y z ≡ true → ties less x z ≡ true
  tie_on x y z h g =
      let p = tie_parts x y h in
      let q = tie_parts y z g in
      tie x z (weak.chain x y z p.0 q.0) (weak.chain z y x q.1 p.1)

  -- what comes later ties with nothing that does with an earlier one
  no_tie : (z x w : X) → ties less z x ≡ true → less x w ≡ true → ties less z w ≡ false
  no_tie z x w h g = elim (cases_Bool (ties less z w)) [
    | inl e ↦ absurd (both_ways (less x w) (tie_parts x w (tie_on x z w (tie_back z x h) e)).0 g)
    | inr e ↦ e
  ]

  -- an element that is placed is found where no other ties
  found_placed : (z x : X) (ys : List X) → Rises less ys → find (ties less z) (placed less x ys) ≡ or_else (find (ties less z) ys) (cond (ties less z x) (Some x) None)
  found_placed z x [] h = refl
  found_placed z x (y ∷ ys) h = elim (cases_Bool (less x y)) [
    | inl e ↦ elim (cases_Bool (ties less z x)) [
      | inl t ↦
          let later : (w : X) → Has w (y ∷ ys) → less x w ≡ true = λ w has. elim has [
            | inl a ↦ subst (λ v. less x v ≡ true) (sym a) e
            | inr b ↦ order.through x y w e (h.0 w b)
          ] in
          let none = found_none (ties less z) (y ∷ ys) (λ w has. no_tie z x w t (later w has)) in
          rw (e, t) (sym (ap (λ o. or_else o (Some x)) none))
      | inr t ↦ rw (e, t) (or_none (find (ties less z) (y ∷ ys)))
    ]
    | inr e ↦ elim (cases_Bool (less y x)) [
      | inl f ↦ elim (cases_Bool (ties less z y)) [
        | inl t ↦ rw (e, f, t) refl
        | inr t ↦ rw (e, f, t) (found_placed z x ys h.1)
      ]
      | inr f ↦ elim (cases_Bool (ties less z x)) [
        | inl t ↦ rw (e, f, tie_on z x y t (tie x y e f)) refl
        | inr t ↦ rw (e, f, t) (or_none (find (ties less z) (y ∷ ys)))
      ]
    ]
  ]

  -- of elements that tie, the last is kept
  found_in_order : (z : X) (xs : List X) → find (ties less z) (in_order less xs) ≡ find (ties less z) (reverse xs)
  found_in_order z [] = refl
  found_in_order z (x ∷ xs) =
      found_placed z x (in_order less xs) (in_order_rises less order xs)
      ∙ ap (λ o. or_else o (cond (ties less z x) (Some x) None)) (found_in_order z xs)
      ∙ sym (ap (find (ties less z)) (reverse-append (x ∷ []) xs) ∙ found_both (ties less z) (reverse xs) (x ∷ []))

  found_deduped : (z k : X) (xs : List X) → find (ties less z) (dedup_from (ties less) k xs) ≡ find (ties less z) (k ∷ xs)
  found_deduped z k [] = refl
  found_deduped z k (x ∷ xs) = elim (cases_Bool (ties less x k)) [
    | inl t ↦ elim (cases_Bool (ties less z k)) [
      | inl s ↦ rw t (found_deduped z k xs ∙ rw s refl)
      | inr s ↦
          let other : ties less z x ≡ false = elim (cases_Bool (ties less z x)) [ inl u ↦ absurd (both_ways (ties less z k) s (tie_on z x k u t)) | inr u ↦ u ] in
          rw t (found_deduped z k xs ∙ rw (s, other) refl)
    ]
    | inr t ↦ rw t (ap (λ o. cond (ties less z k) (Some k) o) (found_deduped z x xs))
  ]

  deduped_has : (z k : X) (xs : List X) → Has z (dedup_from (ties less) k xs) → Has z (k ∷ xs)
  deduped_has z k [] h = h
  deduped_has z k (x ∷ xs) h = elim (cases_Bool (ties less x k)) [
    | inl t ↦ elim (deduped_has z k xs (rw t at h)) [ inl a ↦ inl a | inr b ↦ inr (inr b) ]
    | inr t ↦ let g : (z ≡ k) ⊎ Has z (dedup_from (ties less) x xs) = rw t at h in elim g [ inl a ↦ inl a | inr b ↦ inr (deduped_has z x xs b) ]
  ]

  later : (k x z : X) → less k x ≡ true → less z x ≡ false → less k z ≡ true
  later k x z h g = elim (cases_Bool (less k z)) [
    | inl e ↦ e
    | inr e ↦ absurd (both_ways (less k x) (weak.chain k z x e g) h)
  ]

  deduped_rises : (k : X) (xs : List X) → ((z : X) → Has z xs → less z k ≡ false) → Settles less xs → Rises less (dedup_from (ties less) k xs)
  deduped_rises k [] h s = ((λ z b. absurd b), tt)
  deduped_rises k (x ∷ xs) h s = elim (cases_Bool (ties less x k)) [
    | inl t ↦ rw t (deduped_rises k xs (λ z has. h z (inr has)) s.1)
    | inr t ↦
        let first : less k x ≡ true = elim (cases_Bool (less k x)) [ inl e ↦ e | inr e ↦ absurd (both_ways (ties less x k) t (tie x k (h x (inl refl)) e)) ] in
        rw t (
          (λ z has. elim (deduped_has z x xs has) [
            | inl a ↦ subst (λ w. less k w ≡ true) (sym a) first
            | inr b ↦ later k x z first (s.0 z b)
          ]),
          deduped_rises x xs s.0 s.1,
        )
  ]

  found_rising : (z : X) (xs : List X) → Rises less xs → Has z xs → find (ties less z) xs ≡ Some z
  found_rising z [] h has = absurd has
  found_rising z (x ∷ xs) h has = elim has [
    | inl a ↦ subst (λ w. find (ties less z) (w ∷ xs) ≡ Some z) a (rw (tie_self z) refl)
    | inr b ↦
        let apart : ties less z x ≡ false = elim (cases_Bool (ties less z x)) [ inl t ↦ absurd (both_ways (less x z) (tie_parts z x t).1 (h.0 z b)) | inr t ↦ t ] in
        rw apart (found_rising z xs h.1 b)
  ]

  -- rising lists in which the same is found are one
  found_same : (xs ys : List X) → Rises less xs → Rises less ys → ((z : X) → find (ties less z) xs ≡ find (ties less z) ys) → xs ≡ ys
  found_same xs ys p q same = rising_same less order xs ys p q
      (λ z has. found_has (ties less z) z ys (sym (same z) ∙ found_rising z xs p has))
      (λ z has. found_has (ties less z) z xs (same z ∙ found_rising z ys q has))

  -- from its last element on a list was sorted, so that those which tie keep their order, and each
  -- was kept but once
  pub sorted_in_order : (xs ys : List X) → IsSortedBy less ys → IsStableBy less (reverse xs) ys → dedup (ties less) ys ≡ in_order less xs
  sorted_in_order xs ys up stable = found_same (dedup (ties less) ys) (in_order less xs) (rises ys (settled less weak ys up)) (in_order_rises less order xs)
      (λ z. found z ys ∙ found_first (ties less z) ys ∙ ap first (stable z) ∙ sym (found_first (ties less z) (reverse xs)) ∙ sym (found_in_order z xs))
    where
      rises : (ys : List X) → Settles less ys → Rises less (dedup (ties less) ys)
      rises [] s = tt
      rises (y ∷ ys) s = deduped_rises y ys s.0 s.1

      found : (z : X) (ys : List X) → find (ties less z) (dedup (ties less) ys) ≡ find (ties less z) ys
      found z [] = refl
      found z (y ∷ ys) = found_deduped z y ys
