-- A list in order is fixed by what it has.
use Rattle.std.proofs.Common.{◌≡◌, Bool, true, false, List, [], ◌∷◌, ◌⊎◌, refl, ap, sym, ◌∙◌, subst, inl, inr}
use Rattle.std.proofs.lemmas.Bool.{cases_Bool, both_ways}
use Rattle.definitions.specs.Lists.{placed, in_order}

-- the list has x
abbrev pub Has : {X : Type 0} → X → List X → Type 0
Has x [] = ⊥
Has x (y ∷ ys) = (x ≡ y) ⊎ Has x ys

pub record IsOrder {X : Type 0} (less : X → X → Bool) : Type 0 where
  pub never : (x : X) → less x x ≡ false
  pub through : (x y z : X) → less x y ≡ true → less y z ≡ true → less x z ≡ true

-- of all elements, those of which neither comes before the other are one
pub record IsStrict {X : Type 0} (less : X → X → Bool) : Type 0 where
  pub never : (x : X) → less x x ≡ false
  pub through : (x y z : X) → less x y ≡ true → less y z ≡ true → less x z ≡ true
  pub total : (x y : X) → less x y ≡ false → less y x ≡ false → x ≡ y

pub order_of : {X : Type 0} (less : X → X → Bool) → IsStrict less → IsOrder less
order_of less strict = record { never = strict.never; through = strict.through }

-- and so of those that a list has
abbrev pub AreTotal : {X : Type 0} → (X → X → Bool) → List X → Type 0
AreTotal {X} less xs = (x y : X) → Has x xs → Has y xs → less x y ≡ false → less y x ≡ false → x ≡ y

pub total_of : {X : Type 0} (less : X → X → Bool) → IsStrict less → (xs : List X) → AreTotal less xs
total_of less strict xs = λ x y h g. strict.total x y

abbrev pub Rises : {X : Type 0} → (X → X → Bool) → List X → Type 0
Rises less [] = Unit {0}
Rises {X} less (x ∷ xs) = ((z : X) → Has z xs → less x z ≡ true) × Rises less xs

not_both : {X : Type 0} (less : X → X → Bool) → IsOrder less → (x y : X) → less x y ≡ true → less y x ≡ true → ⊥
not_both less order x y a b = both_ways (less x x) (order.never x) (order.through x y x a b)

-- what stands in a list after a placing
pub has_placed : {X : Type 0} (less : X → X → Bool) (x z : X) (ys : List X) → Has z (placed less x ys) → (z ≡ x) ⊎ Has z ys
has_placed less x z [] h = h
has_placed less x z (y ∷ ys) h = elim (cases_Bool (less x y)) [
  | inl e ↦ rw e at h
  | inr e ↦ elim (cases_Bool (less y x)) [
    | inl f ↦ let g : (z ≡ y) ⊎ Has z (placed less x ys) = rw (e, f) at h in
        elim g [ inl a ↦ inr (inl a) | inr b ↦ elim (has_placed less x z ys b) [ inl a ↦ inl a | inr b ↦ inr (inr b) ] ]
    | inr f ↦ inr (rw (e, f) at h)
  ]
]

pub placed_has : {X : Type 0} (less : X → X → Bool) → (x z : X) (ys : List X) → ((y : X) → Has y ys → less x y ≡ false → less y x ≡ false → x ≡ y)
    → (z ≡ x) ⊎ Has z ys → Has z (placed less x ys)
placed_has less x z [] one h = h
placed_has less x z (y ∷ ys) one h = elim (cases_Bool (less x y)) [
  | inl e ↦ rw e h
  | inr e ↦ elim (cases_Bool (less y x)) [
    | inl f ↦ rw (e, f) (elim h [ inl a ↦ inr (placed_has less x z ys (λ w g. one w (inr g)) (inl a)) | inr b ↦ elim b [ inl a ↦ inl a | inr b ↦ inr (placed_has less x z ys (λ w g. one w (inr g)) (inr b)) ] ])
    | inr f ↦ rw (e, f) (elim h [ inl a ↦ inl (a ∙ one y (inl refl) e f) | inr b ↦ b ])
  ]
]

pub placed_rises : {X : Type 0} (less : X → X → Bool) → IsOrder less → (x : X) (ys : List X) → Rises less ys → Rises less (placed less x ys)
placed_rises less order x [] h = ((λ z b. absurd b), tt)
placed_rises {X} less order x (y ∷ ys) h = elim (cases_Bool (less x y)) [
  | inl e ↦ rw e ((λ z b. elim b [ inl a ↦ subst (λ (w : X). less x w ≡ true) (sym a) e | inr b ↦ order.through x y z e (h.0 z b) ]), h)
  | inr e ↦ elim (cases_Bool (less y x)) [
    | inl f ↦ rw (e, f) ((λ z b. elim (has_placed less x z ys b) [ inl a ↦ subst (λ (w : X). less y w ≡ true) (sym a) f | inr b ↦ h.0 z b ]), placed_rises less order x ys h.1)
    | inr f ↦ rw (e, f) h
  ]
]

pub in_order_rises : {X : Type 0} (less : X → X → Bool) → IsOrder less → (xs : List X) → Rises less (in_order less xs)
in_order_rises less order [] = tt
in_order_rises less order (x ∷ xs) = placed_rises less order x (in_order less xs) (in_order_rises less order xs)

pub has_in_order : {X : Type 0} (less : X → X → Bool) (z : X) (xs : List X) → Has z (in_order less xs) → Has z xs
has_in_order less z [] h = h
has_in_order less z (x ∷ xs) h = elim (has_placed less x z (in_order less xs) h) [ inl a ↦ inl a | inr b ↦ inr (has_in_order less z xs b) ]

pub in_order_has : {X : Type 0} (less : X → X → Bool) (z : X) (xs : List X) → AreTotal less xs → Has z xs → Has z (in_order less xs)
in_order_has less z [] total h = h
in_order_has less z (x ∷ xs) total h = placed_has less x z (in_order less xs) (λ y g. total x y (inl refl) (inr (has_in_order less y xs g)))
    (elim h [ inl a ↦ inl a | inr b ↦ inr (in_order_has less z xs (λ v w p q. total v w (inr p) (inr q)) b) ])

-- two rising lists of the same are one
pub rising_same : {X : Type 0} (less : X → X → Bool) → IsOrder less → (xs ys : List X) → Rises less xs → Rises less ys
    → ((z : X) → Has z xs → Has z ys) → ((z : X) → Has z ys → Has z xs) → xs ≡ ys
rising_same less order [] [] p q f g = refl
rising_same less order [] (y ∷ ys) p q f g = absurd (g y (inl refl))
rising_same less order (x ∷ xs) [] p q f g = absurd (f x (inl refl))
rising_same {X} less order (x ∷ xs) (y ∷ ys) p q f g =
    let e : x ≡ y = elim (f x (inl refl)) [
      | inl a ↦ a
      | inr b ↦ elim (g y (inl refl)) [ inl a ↦ sym a | inr d ↦ absurd (not_both less order x y (p.0 y d) (q.0 x b)) ]
    ] in
    let tail : xs ≡ ys = rising_same less order xs ys p.1 q.1
    (λ z h. elim (f z (inr h)) [ inl a ↦ absurd (both_ways (less x x) (order.never x) (subst (λ (w : X). less x w ≡ true) (a ∙ sym e) (p.0 z h))) | inr b ↦ b ])
    (λ z h. elim (g z (inr h)) [ inl a ↦ absurd (both_ways (less y y) (order.never y) (subst (λ (w : X). less y w ≡ true) (a ∙ e) (q.0 z h))) | inr b ↦ b ]) in
    ap (λ (w : X). w ∷ xs) e ∙ ap (λ (ws : List X). y ∷ ws) tail

pub in_order_same : {X : Type 0} (less : X → X → Bool) → IsOrder less → (xs ys : List X) → AreTotal less xs → ((z : X) → Has z xs → Has z ys) → ((z : X) → Has z ys → Has z xs)
    → in_order less xs ≡ in_order less ys
in_order_same less order xs ys total f g = rising_same less order (in_order less xs) (in_order less ys) (in_order_rises less order xs) (in_order_rises less order ys)
    (λ z h. in_order_has less z ys (λ v w p q. total v w (g v p) (g w q)) (f z (has_in_order less z xs h)))
    (λ z h. in_order_has less z xs total (g z (has_in_order less z ys h)))
