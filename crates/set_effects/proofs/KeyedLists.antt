-- Lists in the order of their keys: what is found in them, and what fixes them.
use Rattle.std.proofs.Common.{◌≡◌, Bool, true, false, ◌&&◌, cond, List, [], ◌∷◌, ◌++◌, ◌⊎◌, map, refl, ap, sym, ◌∙◌, subst, inl, inr, Option, Some, None}
use Rattle.std.proofs.lemmas.Bool.{cases_Bool, both_ways, and_parts}
use Rattle.std.specs.Prelude.{find, option_map}
use Rattle.std.specs.List.{list_all}
use Rattle.definitions.specs.Lists.{placed, in_order, or_else, first_found}
use Rattle.stock.specs.Keyed.{rises_by}
use Rattle.stock.proofs.Orders.{IsStrict}
use Rattle.stock.proofs.Keys.{IsTest, all_further, find_above}
use Rattle.stock.proofs.Finds.{or_else_none}

pub both : (p q : Bool) → p ≡ true → q ≡ true → (p && q) ≡ true
both p q e f = rw e f

-- what is found last
abbrev pub last_found : {X Y : Type 0} → (X → Option Y) → List X → Option Y
last_found f [] = None
last_found f (x ∷ xs) = or_else (last_found f xs) (f x)

-- it is found at most once
abbrev pub Once : {X Y : Type 0} → (X → Option Y) → List X → Type 0
Once f [] = Unit {0}
Once f (x ∷ xs) = ((f x ≡ None) ⊎ (first_found f xs ≡ None)) × Once f xs

pub once_last : {X Y : Type 0} (f : X → Option Y) (xs : List X) → Once f xs → last_found f xs ≡ first_found f xs
once_last f [] o = refl
once_last {X} {Y} f (x ∷ xs) o =
    let later = once_last f xs o.1 in
    elim o.0 [
      | inl e ↦ ap (or_else (last_found f xs)) e ∙ or_else_none (last_found f xs) ∙ later ∙ ap (λ (y : Option Y). or_else y (first_found f xs)) (sym e)
      | inr n ↦ ap (λ (y : Option Y). or_else y (f x)) (later ∙ n) ∙ sym (or_else_none (f x)) ∙ ap (or_else (f x)) (sym n)
    ]

left_none : {Y : Type 0} (a b : Option Y) → or_else a b ≡ None → a ≡ None
left_none (Some x) b h = h
left_none None b h = refl

right_none : {Y : Type 0} (a b : Option Y) → or_else a b ≡ None → b ≡ None
right_none (Some x) b h = absurd (cc (h))
right_none None b h = h

found_pushed : {X Y : Type 0} (f : X → Option Y) (xs : List X) (x : X) → first_found f xs ≡ None → f x ≡ None → first_found f (xs ++ x ∷ []) ≡ None
found_pushed f [] x n e = ap (λ o. or_else o None) e
found_pushed f (y ∷ ys) x n e =
    ap (λ o. or_else o (first_found f (ys ++ x ∷ []))) (left_none (f y) (first_found f ys) n) ∙ found_pushed f ys x (right_none (f y) (first_found f ys) n) e

pub once_more : {X Y : Type 0} (f : X → Option Y) (xs : List X) (x : X) → Once f xs → (f x ≡ None) ⊎ (first_found f xs ≡ None) → Once f (xs ++ x ∷ [])
once_more f [] x o h = (inr refl, tt)
once_more f (y ∷ ys) x o h = elim h [
  | inl e ↦ (elim o.0 [ inl a ↦ inl a | inr n ↦ inr (found_pushed f ys x n e) ], once_more f ys x o.1 (inl e))
  | inr n ↦ (inl (left_none (f y) (first_found f ys) n), once_more f ys x o.1 (inr (right_none (f y) (first_found f ys) n)))
]

-- what is found among mapped elements
pub find_map : {X Y : Type 0} (g : X → Y) (p : X → Bool) (q : Y → Bool) → ((x : X) → q (g x) ≡ p x) → (xs : List X) → find q (map g xs) ≡ option_map g (find p xs)
find_map g p q same [] = refl
find_map {X} {Y} g p q same (x ∷ xs) = elim (cases_Bool (p x)) [
  | inl e ↦ ap (λ (v : Bool). cond v (Some (g x)) (find q (map g xs))) (same x ∙ e) ∙ ap (λ (v : Bool). option_map g (cond v (Some x) (find p xs))) (sym e)
  | inr e ↦ ap (λ (v : Bool). cond v (Some (g x)) (find q (map g xs))) (same x ∙ e) ∙ find_map g p q same xs ∙ ap (λ (v : Bool). option_map g (cond v (Some x) (find p xs))) (sym e)
]

-- whether what is found passes what all pass
pub all_found : {X : Type 0} (p is : X → Bool) (xs : List X) (x : X) → list_all p xs ≡ true → find is xs ≡ Some x → p x ≡ true
all_found p is [] x h f = absurd (cc (f))
all_found {X} p is (y ∷ ys) x h f = let a = and_parts (p y) (list_all p ys) h in by (is y) a.0 (all_found p is ys x a.1) f
  where
    by : (v : Bool) → p y ≡ true → (find is ys ≡ Some x → p x ≡ true) → cond v (Some y) (find is ys) ≡ Some x → p x ≡ true
    by true e later g = let same : y ≡ x = cc (g) in ap p (sym same) ∙ e
    by false e later g = later g

all_mapped : {X Y : Type 0} (g : X → Y) (p : X → Bool) (q : Y → Bool) → ((x : X) → q (g x) ≡ p x) → (xs : List X) → list_all q (map g xs) ≡ list_all p xs
all_mapped g p q same [] = refl
all_mapped g p q same (x ∷ xs) = λ i. same x i && all_mapped g p q same xs i

pub rises_map : {X Y K : Type 0} (less : K → K → Bool) (g : X → Y) (key : X → K) (name : Y → K) → ((x : X) → name (g x) ≡ key x) → (xs : List X)
    → rises_by less name (map g xs) ≡ rises_by less key xs
rises_map less g key name same [] = refl
rises_map {X} {Y} less g key name same (x ∷ xs) =
    let front : list_all (λ (y : Y). less (name (g x)) (name y)) (map g xs) ≡ list_all (λ (z : X). less (key x) (key z)) xs =
    all_mapped g (λ (z : X). less (key x) (key z)) (λ (y : Y). less (name (g x)) (name y)) (λ (z : X) i. less (same x i) (same z i)) xs in
    λ i. front i && rises_map less g key name same xs i

module _ {X K : Type 0} (less : K → K → Bool) (strict : IsStrict less) (key : X → K) where
  -- Put in order, each key once: the last of a key stays.

  all_placed : (p : X → Bool) (x : X) (ys : List X) → p x ≡ true → list_all p ys ≡ true → list_all p (placed (λ (a b : X). less (key a) (key b)) x ys) ≡ true
  all_placed p x [] e h = both (p x) true e refl
  all_placed p x (y ∷ ys) e h = let a = and_parts (p y) (list_all p ys) h in elim (cases_Bool (less (key x) (key y))) [
    | inl f ↦ rw f (both (p x) (list_all p (y ∷ ys)) e h)
    | inr f ↦ elim (cases_Bool (less (key y) (key x))) [
      | inl g ↦ rw (f, g) (both (p y) (list_all p (placed (λ (a b : X). less (key a) (key b)) x ys)) a.0 (all_placed p x ys e a.1))
      | inr g ↦ rw (f, g) h
    ]
  ]

  placed_rises : (x : X) (ys : List X) → rises_by less key ys ≡ true → rises_by less key (placed (λ (a b : X). less (key a) (key b)) x ys) ≡ true
  placed_rises x [] h = refl
  placed_rises x (y ∷ ys) h = let a = and_parts (list_all (λ z. less (key y) (key z)) ys) (rises_by less key ys) h in elim (cases_Bool (less (key x) (key y))) [
    | inl f ↦ rw f (both (list_all (λ z. less (key x) (key z)) (y ∷ ys)) (rises_by less key (y ∷ ys))
        (both (less (key x) (key y)) (list_all (λ z. less (key x) (key z)) ys) f (all_further less strict key (key x) (key y) ys f a.0)) h)
    | inr f ↦ elim (cases_Bool (less (key y) (key x))) [
      | inl g ↦ rw (f, g) (both (list_all (λ z. less (key y) (key z)) (placed (λ (a b : X). less (key a) (key b)) x ys)) (rises_by less key (placed (λ (a b : X). less (key a) (key b)) x ys))
          (all_placed (λ z. less (key y) (key z)) x ys g a.0) (placed_rises x ys a.1))
      | inr g ↦ rw (f, g) h
    ]
  ]

  pub order_rises : (xs : List X) → rises_by less key (in_order (λ (a b : X). less (key a) (key b)) xs) ≡ true
  order_rises [] = refl
  order_rises (x ∷ xs) = placed_rises x (in_order (λ (a b : X). less (key a) (key b)) xs) (order_rises xs)

  -- none is found among those that come after a key
  pub found_above : (k j : K) (is : X → Bool) → IsTest key k is → (ys : List X) → k ≡ j → list_all (λ y. less j (key y)) ys ≡ true → find is ys ≡ None
  found_above k j is test ys e h = find_above less strict key k is test ys (subst (λ (i : K). list_all (λ y. less i (key y)) ys ≡ true) (sym e) h)

  find_placed : (k : K) (is : X → Bool) → IsTest key k is → (x : X) (ys : List X) → rises_by less key ys ≡ true
      → find is (placed (λ (a b : X). less (key a) (key b)) x ys) ≡ or_else (find is ys) (cond (is x) (Some x) None)
  find_placed k is test x [] h = refl
  find_placed k is test x (y ∷ ys) h = let a = and_parts (list_all (λ z. less (key y) (key z)) ys) (rises_by less key ys) h in elim (cases_Bool (less (key x) (key y))) [
    | inl f ↦
        let all : list_all (λ z. less (key x) (key z)) (y ∷ ys) ≡ true = both (less (key x) (key y)) (list_all (λ z. less (key x) (key z)) ys) f (all_further less strict key (key x) (key y) ys f a.0) in
        elim (cases_Bool (is x)) [
          | inl e ↦ rw f (rw e (ap (λ (o : Option X). or_else o (Some x)) (sym (found_above k (key x) is test (y ∷ ys) (sym (test.says x e)) all))))
          | inr e ↦ rw f (rw e (sym (or_else_none (find is (y ∷ ys)))))
        ]
    | inr f ↦ elim (cases_Bool (less (key y) (key x))) [
      | inl g ↦ rw (f, g) (later (find_placed k is test x ys a.1))
      | inr g ↦ rw (f, g) (tie (strict.total (key x) (key y) f g))
    ]
  ]
    where
      later : find is (placed (λ (a b : X). less (key a) (key b)) x ys) ≡ or_else (find is ys) (cond (is x) (Some x) None)
          → cond (is y) (Some y) (find is (placed (λ (a b : X). less (key a) (key b)) x ys)) ≡ or_else (cond (is y) (Some y) (find is ys)) (cond (is x) (Some x) None)
      later e = by (is y)
        where
          by : (v : Bool) → cond v (Some y) (find is (placed (λ (a b : X). less (key a) (key b)) x ys)) ≡ or_else (cond v (Some y) (find is ys)) (cond (is x) (Some x) None)
          by true = refl
          by false = e

      tie : key x ≡ key y → cond (is y) (Some y) (find is ys) ≡ or_else (cond (is y) (Some y) (find is ys)) (cond (is x) (Some x) None)
      tie e = by (is y) (is x) refl refl
        where
          by : (v w : Bool) → is y ≡ v → is x ≡ w → cond v (Some y) (find is ys) ≡ or_else (cond v (Some y) (find is ys)) (cond w (Some x) None)
          by true w a b = refl
          by false false a b = sym (or_else_none (find is ys))
          by false true a b = let c : is y ≡ true = test.said y (sym e ∙ test.says x b) in absurd (cc (a, c))

  pub find_ordered : (k : K) (is : X → Bool) → IsTest key k is → (xs : List X)
      → find is (in_order (λ (a b : X). less (key a) (key b)) xs) ≡ last_found (λ (x : X). cond (is x) (Some x) None) xs
  find_ordered k is test [] = refl
  find_ordered k is test (x ∷ xs) =
      find_placed k is test x (in_order (λ (a b : X). less (key a) (key b)) xs) (order_rises xs) ∙ ap (λ (o : Option X). or_else o (cond (is x) (Some x) None)) (find_ordered k is test xs)

  -- A list in order is fixed by what is found in it.

  never : (j k : K) → j ≡ k → less j k ≡ true → ⊥
  never j k e h = both_ways (less j j) (strict.never j) (subst (λ (z : K). less j z ≡ true) (sym e) h)

  pub same_found : (is : K → X → Bool) → ((k : K) → IsTest key k (is k)) → (xs ys : List X) → rises_by less key xs ≡ true → rises_by less key ys ≡ true
      → ((k : K) → find (is k) xs ≡ find (is k) ys) → xs ≡ ys
  same_found is test [] [] p q f = refl
  same_found is test [] (y ∷ ys) p q f = let g : None ≡ Some y = f (key y) ∙ ap (λ (v : Bool). cond v (Some y) (find (is (key y)) ys)) ((test (key y)).said y refl) in absurd (cc (g))
  same_found is test (x ∷ xs) [] p q f = let g : None ≡ Some x = sym (f (key x)) ∙ ap (λ (v : Bool). cond v (Some x) (find (is (key x)) xs)) ((test (key x)).said x refl) in absurd (cc (g))
  same_found is test (x ∷ xs) (y ∷ ys) p q f =
      let a = and_parts (list_all (λ z. less (key x) (key z)) xs) (rises_by less key xs) p in
      let b = and_parts (list_all (λ z. less (key y) (key z)) ys) (rises_by less key ys) q in
      let here : Some x ≡ find (is (key x)) (y ∷ ys) = sym (ap (λ (v : Bool). cond v (Some x) (find (is (key x)) xs)) ((test (key x)).said x refl)) ∙ f (key x) in
      let there : find (is (key y)) (x ∷ xs) ≡ Some y = f (key y) ∙ ap (λ (v : Bool). cond v (Some y) (find (is (key y)) ys)) ((test (key y)).said y refl) in
      elim (cases_Bool (is (key x) y)) [
        | inl e ↦
            let same : x ≡ y = some_is x y (here ∙ ap (λ (v : Bool). cond v (Some y) (find (is (key x)) ys)) e) in
            let tails : xs ≡ ys = same_found is test xs ys a.1 b.1 (λ k. tail k (is k x) refl same a.0 b.0) in
            ap (λ (z : X). z ∷ xs) same ∙ ap (λ (zs : List X). y ∷ zs) tails
        | inr e ↦
            let below = all_found (λ z. less (key y) (key z)) (is (key x)) ys x b.0 (sym (here ∙ ap (λ (v : Bool). cond v (Some y) (find (is (key x)) ys)) e)) in
            let apart : is (key y) x ≡ false = elim (cases_Bool (is (key y) x)) [ inl g ↦ let c : is (key x) y ≡ true = (test (key x)).said y (sym ((test (key y)).says x g)) in absurd (cc (c, e)) | inr g ↦ g ] in
            let above = all_found (λ z. less (key x) (key z)) (is (key y)) xs y a.0 (sym (ap (λ (v : Bool). cond v (Some x) (find (is (key y)) xs)) apart) ∙ there) in
            absurd (never (key x) (key x) refl (strict.through (key x) (key y) (key x) above below))
      ]
    where
      some_is : (u v : X) → Some u ≡ Some v → u ≡ v
      some_is u v e = cc (e)

      tail : (k : K) (v : Bool) → is k x ≡ v → x ≡ y → list_all (λ z. less (key x) (key z)) xs ≡ true → list_all (λ z. less (key y) (key z)) ys ≡ true → find (is k) xs ≡ find (is k) ys
      tail k true e same l m =
          let kx : k ≡ key x = sym ((test k).says x e) in
          found_above k (key x) (is k) (test k) xs kx l ∙ sym (found_above k (key y) (is k) (test k) ys (kx ∙ ap key same) m)
      tail k false e same l m =
          ap (λ (v : Bool). cond v (Some x) (find (is k) xs)) (sym e) ∙ f k ∙ ap (λ (v : Bool). cond v (Some y) (find (is k) ys)) (ap (is k) (sym same) ∙ e)
