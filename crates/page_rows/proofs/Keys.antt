-- Lists in the order of their keys.
use Rattle.std.proofs.Common.{◌≡◌, ℕ, zero, suc, ◌+◌, ◌<◌, ◌≤◌, Bool, true, false, ◌&&◌, cond, List, [], ◌∷◌, ◌++◌, length, get_or, set, take, refl, ap, sym, ◌∙◌, subst, inl, inr, arith, Option, Some, None}
use Rattle.std.proofs.lemmas.Bool.{cases_Bool, cases_lt, both_ways, and_parts}
use Rattle.std.proofs.lemmas.List.{get_or_default}
use Rattle.std.proofs.lemmas.List.Sums.{sum_by-cons}
use Rattle.std.specs.Prelude.{filter, fold, find, sum_by}
use Rattle.std.specs.List.{list_all, insert}
use Rattle.std.specs.List.Sorted.{IsPartitionedBy, IsPartitionPoint}
use Rattle.page_rows.specs.Keyed.{put_by, rises_by, IsRank}
use Rattle.page_rows.specs.Pages.{IsAt}
use Rattle.page_rows.proofs.Orders.{IsStrict}

and_true : (p q : Bool) → p ≡ true → q ≡ true → (p && q) ≡ true
and_true p q e f = rw e f

pub all_filter : {X : Type 0} (p q : X → Bool) (xs : List X) → list_all p xs ≡ true → list_all p (filter q xs) ≡ true
all_filter p q [] h = refl
all_filter p q (x ∷ xs) h = let a = and_parts (p x) (list_all p xs) h in elim (cases_Bool (q x)) [
  | inl e ↦ rw e (and_true (p x) (list_all p (filter q xs)) a.0 (all_filter p q xs a.1))
  | inr e ↦ rw e (all_filter p q xs a.1)
]

pub all_at : {X : Type 0} (p : X → Bool) (xs : List X) (i : ℕ) (d : X) → list_all p xs ≡ true → i < length xs → p (get_or xs i d) ≡ true
all_at p [] i d h within = absurd (omega arith)
all_at p (x ∷ xs) zero d h within = (and_parts (p x) (list_all p xs) h).0
all_at p (x ∷ xs) (suc i) d h within = all_at p xs i d (and_parts (p x) (list_all p xs) h).1 (omega arith)

all_set : {X : Type 0} (p : X → Bool) (xs : List X) (i : ℕ) (y : X) → list_all p xs ≡ true → p y ≡ true → list_all p (set xs i y) ≡ true
all_set p [] i y h e = refl
all_set p (x ∷ xs) zero y h e = and_true (p y) (list_all p xs) e (and_parts (p x) (list_all p xs) h).1
all_set p (x ∷ xs) (suc i) y h e = let a = and_parts (p x) (list_all p xs) h in and_true (p x) (list_all p (set xs i y)) a.0 (all_set p xs i y a.1 e)

-- what was found, or nothing
abbrev pub was : {X : Type 0} → (X → ℕ) → Option X → ℕ
was f (Some x) = f x
was f None = 0

-- a test for a key
pub record IsTest {X K : Type 0} (key : X → K) (k : K) (is : X → Bool) : Type 0 where
  pub says : (x : X) → is x ≡ true → key x ≡ k
  pub said : (x : X) → key x ≡ k → is x ≡ true

module _ {X K : Type 0} (less : K → K → Bool) (strict : IsStrict less) (key : X → K) where
  never : (j k : K) → j ≡ k → less j k ≡ true → ⊥
  never j k e h = both_ways (less j j) (strict.never j) (subst (λ (z : K). less j z ≡ true) (sym e) h)

  pub all_further : (j k : K) (xs : List X) → less j k ≡ true → list_all (λ y. less k (key y)) xs ≡ true → list_all (λ y. less j (key y)) xs ≡ true
  all_further j k [] e h = refl
  all_further j k (x ∷ xs) e h =
      let a = and_parts (less k (key x)) (list_all (λ y. less k (key y)) xs) h in
      and_true (less j (key x)) (list_all (λ y. less j (key y)) xs) (strict.through j k (key x) e a.0) (all_further j k xs e a.1)

  pub put_front : (x : X) (ys : List X) → list_all (λ y. less (key x) (key y)) ys ≡ true → put_by less key x ys ≡ x ∷ ys
  put_front x [] h = refl
  put_front x (y ∷ ys) h = rw (and_parts (less (key x) (key y)) (list_all (λ z. less (key x) (key z)) ys) h).0 refl

  pub all_put : (p : X → Bool) (x : X) (ys : List X) → p x ≡ true → list_all p ys ≡ true → list_all p (put_by less key x ys) ≡ true
  all_put p x [] e h = and_true (p x) true e refl
  all_put p x (y ∷ ys) e h = let a = and_parts (p y) (list_all p ys) h in elim (cases_Bool (less (key x) (key y))) [
    | inl f ↦ rw f (and_true (p x) (list_all p (y ∷ ys)) e h)
    | inr f ↦ elim (cases_Bool (less (key y) (key x))) [
      | inl g ↦ rw (f, g) (and_true (p y) (list_all p (put_by less key x ys)) a.0 (all_put p x ys e a.1))
      | inr g ↦ rw (f, g) (and_true (p x) (list_all p ys) e a.1)
    ]
  ]

  -- one more is in order
  pub put_rises : (x : X) (ys : List X) → rises_by less key ys ≡ true → rises_by less key (put_by less key x ys) ≡ true
  put_rises x [] h = refl
  put_rises x (y ∷ ys) h = let a = and_parts (list_all (λ z. less (key y) (key z)) ys) (rises_by less key ys) h in elim (cases_Bool (less (key x) (key y))) [
    | inl f ↦ rw f (and_true (list_all (λ z. less (key x) (key z)) (y ∷ ys)) (rises_by less key (y ∷ ys))
        (and_true (less (key x) (key y)) (list_all (λ z. less (key x) (key z)) ys) f (all_further (key x) (key y) ys f a.0)) h)
    | inr f ↦ elim (cases_Bool (less (key y) (key x))) [
      | inl g ↦ rw (f, g) (and_true (list_all (λ z. less (key y) (key z)) (put_by less key x ys)) (rises_by less key (put_by less key x ys))
          (all_put (λ z. less (key y) (key z)) x ys g a.0) (put_rises x ys a.1))
      | inr g ↦ rw (f, g) (and_true (list_all (λ z. less (key x) (key z)) ys) (rises_by less key ys)
          (subst (λ (k : K). list_all (λ z. less k (key z)) ys ≡ true) (sym (strict.total (key x) (key y) f g)) a.0) a.1)
    ]
  ]

  -- where each key comes before the next, they rise
  pub adjacent_rises : (xs : List X) → ((k : ℕ) (d : X) → k + 1 < length xs → less (key (get_or xs k d)) (key (get_or xs (k + 1) d)) ≡ true) → rises_by less key xs ≡ true
  adjacent_rises [] h = refl
  adjacent_rises (x ∷ []) h = refl
  adjacent_rises (x ∷ y ∷ ys) h =
      let first : less (key x) (key y) ≡ true = h 0 x (omega arith) in
      let rest : rises_by less key (y ∷ ys) ≡ true = adjacent_rises (y ∷ ys) (λ k d within.
      let next : suc (k + 1) ≡ suc k + 1 = omega arith in
      ap (λ (n : ℕ). less (key (get_or (y ∷ ys) k d)) (key (get_or (x ∷ y ∷ ys) n d))) next ∙ h (suc k) d (omega (arith, within))) in
      let later = (and_parts (list_all (λ z. less (key y) (key z)) ys) (rises_by less key ys) rest).0 in
      and_true (list_all (λ z. less (key x) (key z)) (y ∷ ys)) (rises_by less key (y ∷ ys))
      (and_true (less (key x) (key y)) (list_all (λ z. less (key x) (key z)) ys) first (all_further (key x) (key y) ys first later)) rest

  pub filter_rises : (p : X → Bool) (ys : List X) → rises_by less key ys ≡ true → rises_by less key (filter p ys) ≡ true
  filter_rises p [] h = refl
  filter_rises p (y ∷ ys) h = let a = and_parts (list_all (λ z. less (key y) (key z)) ys) (rises_by less key ys) h in elim (cases_Bool (p y)) [
    | inl e ↦ rw e (and_true (list_all (λ z. less (key y) (key z)) (filter p ys)) (rises_by less key (filter p ys)) (all_filter (λ z. less (key y) (key z)) p ys a.0) (filter_rises p ys a.1))
    | inr e ↦ rw e (filter_rises p ys a.1)
  ]

  -- what is put and passes a test is put among those that pass it
  pub put_filter : (p : X → Bool) (x : X) (ys : List X) → p x ≡ true → rises_by less key ys ≡ true → filter p (put_by less key x ys) ≡ put_by less key x (filter p ys)
  put_filter p x [] e h = rw e refl
  put_filter p x (y ∷ ys) e h = let a = and_parts (list_all (λ z. less (key y) (key z)) ys) (rises_by less key ys) h in elim (cases_Bool (less (key x) (key y))) [
    | inl f ↦
        let all : list_all (λ z. less (key x) (key z)) (y ∷ ys) ≡ true = and_true (less (key x) (key y)) (list_all (λ z. less (key x) (key z)) ys) f (all_further (key x) (key y) ys f a.0) in
        let left : filter p (put_by less key x (y ∷ ys)) ≡ x ∷ filter p (y ∷ ys) = ap (filter p) (put_front x (y ∷ ys) all) ∙ ap (λ (v : Bool). cond v (x ∷ filter p (y ∷ ys)) (filter p (y ∷ ys))) e in
        left ∙ sym (put_front x (filter p (y ∷ ys)) (all_filter (λ z. less (key x) (key z)) p (y ∷ ys) all))
    | inr f ↦ elim (cases_Bool (less (key y) (key x))) [
      | inl g ↦
          let put : (zs : List X) → put_by less key x (y ∷ zs) ≡ y ∷ put_by less key x zs = λ zs. rw (f, g) refl in
          let later = put_filter p x ys e a.1 in
          elim (cases_Bool (p y)) [
            | inl d ↦ ap (filter p) (put ys) ∙ ap (λ (v : Bool). cond v (y ∷ filter p (put_by less key x ys)) (filter p (put_by less key x ys))) d
                ∙ ap (λ (zs : List X). y ∷ zs) later ∙ sym (put (filter p ys)) ∙ ap (λ (v : Bool). put_by less key x (cond v (y ∷ filter p ys) (filter p ys))) (sym d)
            | inr d ↦ ap (filter p) (put ys) ∙ ap (λ (v : Bool). cond v (y ∷ filter p (put_by less key x ys)) (filter p (put_by less key x ys))) d
                ∙ later ∙ ap (λ (v : Bool). put_by less key x (cond v (y ∷ filter p ys) (filter p ys))) (sym d)
          ]
      | inr g ↦
          let put : (zs : List X) → put_by less key x (y ∷ zs) ≡ x ∷ zs = λ zs. rw (f, g) refl in
          let back : list_all (λ z. less (key x) (key z)) ys ≡ true = subst (λ (k : K). list_all (λ z. less k (key z)) ys ≡ true) (sym (strict.total (key x) (key y) f g)) a.0 in
          ap (filter p) (put ys) ∙ ap (λ (v : Bool). cond v (x ∷ filter p ys) (filter p ys)) e
          ∙ elim (cases_Bool (p y)) [
            | inl d ↦ sym (put (filter p ys)) ∙ ap (λ (v : Bool). put_by less key x (cond v (y ∷ filter p ys) (filter p ys))) (sym d)
            | inr d ↦ sym (put_front x (filter p ys) (all_filter (λ z. less (key x) (key z)) p ys back)) ∙ ap (λ (v : Bool). put_by less key x (cond v (y ∷ filter p ys) (filter p ys))) (sym d)
          ]
    ]
  ]

  -- put at the end
  put_last : (x : X) (ys zs : List X) → rises_by less key (ys ++ x ∷ zs) ≡ true → put_by less key x ys ≡ ys ++ x ∷ []
  put_last x [] zs h = refl
  put_last x (y ∷ ys) zs h =
      let a = and_parts (list_all (λ z. less (key y) (key z)) (ys ++ x ∷ zs)) (rises_by less key (ys ++ x ∷ zs)) h in
      let before : less (key y) (key x) ≡ true = last_of ys a.0 in
      elim (cases_Bool (less (key x) (key y))) [
        | inl f ↦ absurd (never (key y) (key y) refl (strict.through (key y) (key x) (key y) before f))
        | inr f ↦ rw (f, before) (ap (λ (ws : List X). y ∷ ws) (put_last x ys zs a.1))
      ]
    where
      last_of : (ws : List X) → list_all (λ z. less (key y) (key z)) (ws ++ x ∷ zs) ≡ true → less (key y) (key x) ≡ true
      last_of [] h = (and_parts (less (key y) (key x)) (list_all (λ z. less (key y) (key z)) zs) h).0
      last_of (w ∷ ws) h = last_of ws (and_parts (less (key y) (key w)) (list_all (λ z. less (key y) (key z)) (ws ++ x ∷ zs)) h).1

  pub puts_later : (ys zs : List X) → rises_by less key (ys ++ zs) ≡ true → fold (λ (ws : List X) (x : X). put_by less key x ws) ys zs ≡ ys ++ zs
  puts_later ys [] h = sym (nothing ys)
    where
      nothing : (ws : List X) → ws ++ [] ≡ ws
      nothing [] = refl
      nothing (w ∷ ws) = ap (λ (vs : List X). w ∷ vs) (nothing ws)
  puts_later ys (z ∷ zs) h =
      let e : (ys ++ z ∷ []) ++ zs ≡ ys ++ z ∷ zs = one_more ys in
      ap (λ (ws : List X). fold (λ (us : List X) (x : X). put_by less key x us) ws zs) (put_last z ys zs h)
      ∙ puts_later (ys ++ z ∷ []) zs (ap (rises_by less key) e ∙ h) ∙ e
    where
      one_more : (ws : List X) → (ws ++ z ∷ []) ++ zs ≡ ws ++ z ∷ zs
      one_more [] = refl
      one_more (w ∷ ws) = ap (λ (vs : List X). w ∷ vs) (one_more ws)

  pub puts_rise : (ys zs : List X) → rises_by less key ys ≡ true → rises_by less key (fold (λ (ws : List X) (x : X). put_by less key x ws) ys zs) ≡ true
  puts_rise ys [] h = h
  puts_rise ys (z ∷ zs) h = puts_rise (put_by less key z ys) zs (put_rises z ys h)

  -- what is found among what rises

  pub find_above : (k : K) (is : X → Bool) → IsTest key k is → (ys : List X) → list_all (λ y. less k (key y)) ys ≡ true → find is ys ≡ None
  find_above k is test [] h = refl
  find_above k is test (y ∷ ys) h = let a = and_parts (less k (key y)) (list_all (λ z. less k (key z)) ys) h in elim (cases_Bool (is y)) [
    | inl e ↦ absurd (never k (key y) (sym (test.says y e)) a.0)
    | inr e ↦ rw e (find_above k is test ys a.1)
  ]

  sum_above : (f : X → ℕ) (k : K) (is : X → Bool) → IsTest key k is → (ys : List X) → list_all (λ y. less k (key y)) ys ≡ true → sum_by (λ y. cond (is y) (f y) 0) ys ≡ 0
  sum_above f k is test [] h = refl
  sum_above f k is test (y ∷ ys) h = let a = and_parts (less k (key y)) (list_all (λ z. less k (key z)) ys) h in elim (cases_Bool (is y)) [
    | inl e ↦ absurd (never k (key y) (sym (test.says y e)) a.0)
    | inr e ↦ omega (arith, sum_by-cons (λ z. cond (is z) (f z) 0) y ys, ap (λ (v : Bool). cond v (f y) 0) e, sum_above f k is test ys a.1)
  ]

  -- a sum over those of a key is that of the one that is found
  pub sum_found : (f : X → ℕ) (k : K) (is : X → Bool) → IsTest key k is → (ys : List X) → rises_by less key ys ≡ true → sum_by (λ y. cond (is y) (f y) 0) ys ≡ was f (find is ys)
  sum_found f k is test [] h = refl
  sum_found f k is test (y ∷ ys) h = let a = and_parts (list_all (λ z. less (key y) (key z)) ys) (rises_by less key ys) h in elim (cases_Bool (is y)) [
    | inl e ↦
        let none = sum_above f k is test ys (subst (λ (j : K). list_all (λ z. less j (key z)) ys ≡ true) (test.says y e) a.0) in
        omega (arith, sum_by-cons (λ z. cond (is z) (f z) 0) y ys, ap (λ (v : Bool). cond v (f y) 0) e, none, ap (λ (v : Bool). was f (cond v (Some y) (find is ys))) e)
    | inr e ↦ omega (arith, sum_by-cons (λ z. cond (is z) (f z) 0) y ys, ap (λ (v : Bool). cond v (f y) 0) e, sum_found f k is test ys a.1, ap (λ (v : Bool). was f (cond v (Some y) (find is ys))) e)
  ]

  few : (o : Option X) → was (λ (x : X). 1) o ≤ 1
  few (Some x) = omega arith
  few None = omega arith

  pub count_once : (k : K) (is : X → Bool) → IsTest key k is → (ys : List X) → rises_by less key ys ≡ true → sum_by (λ y. cond (is y) 1 0) ys ≤ 1
  count_once k is test ys h = omega (arith, sum_found (λ (x : X). 1) k is test ys h, few (find is ys))

  pub find_put : (k : K) (is : X → Bool) → IsTest key k is → (x : X) (ys : List X) → find is (put_by less key x ys) ≡ cond (is x) (Some x) (find is ys)
  find_put k is test x [] = refl
  find_put k is test x (y ∷ ys) = elim (cases_Bool (less (key x) (key y))) [
    | inl f ↦ rw f refl
    | inr f ↦ elim (cases_Bool (less (key y) (key x))) [
      | inl g ↦ rw (f, g) (ap (λ (o : Option X). cond (is y) (Some y) o) (find_put k is test x ys) ∙ turn f g (is x) (is y) refl refl)
      | inr g ↦ rw (f, g) (tie (strict.total (key x) (key y) f g) (is x) (is y) refl refl)
    ]
  ]
    where
      turn : less (key x) (key y) ≡ false → less (key y) (key x) ≡ true → (p q : Bool) → is x ≡ p → is y ≡ q → cond q (Some y) (cond p (Some x) (find is ys)) ≡ cond p (Some x) (cond q (Some y) (find is ys))
      turn f g true true a b = absurd (never (key y) (key x) (test.says y b ∙ sym (test.says x a)) g)
      turn f g true false a b = refl
      turn f g false true a b = refl
      turn f g false false a b = refl

      tie : key x ≡ key y → (p q : Bool) → is x ≡ p → is y ≡ q → cond p (Some x) (find is ys) ≡ cond p (Some x) (cond q (Some y) (find is ys))
      tie e true q a b = refl
      tie e false true a b = let c : is x ≡ true = test.said x (e ∙ test.says y b) in let d : true ≡ false = sym c ∙ a in absurd (cc)
      tie e false false a b = refl

  -- a sum with one more, or with another in the place of one
  pub sum_put : (f : X → ℕ) (x : X) (is : X → Bool) → IsTest key (key x) is → (ys : List X) → rises_by less key ys ≡ true
      → sum_by f (put_by less key x ys) + was f (find is ys) ≡ sum_by f ys + f x
  sum_put f x is test [] h = omega (arith, sum_by-cons f x [])
  sum_put f x is test (y ∷ ys) h = let a = and_parts (list_all (λ z. less (key y) (key z)) ys) (rises_by less key ys) h in elim (cases_Bool (less (key x) (key y))) [
    | inl g ↦
        let all : list_all (λ z. less (key x) (key z)) (y ∷ ys) ≡ true = and_true (less (key x) (key y)) (list_all (λ z. less (key x) (key z)) ys) g (all_further (key x) (key y) ys g a.0) in
        omega (arith, ap (sum_by f) (put_front x (y ∷ ys) all), sum_by-cons f x (y ∷ ys), ap (was f) (find_above (key x) is test (y ∷ ys) all))
    | inr g ↦ elim (cases_Bool (less (key y) (key x))) [
      | inl d ↦
          let put : put_by less key x (y ∷ ys) ≡ y ∷ put_by less key x ys = rw (g, d) refl in
          let not : is y ≡ false = elim (cases_Bool (is y)) [ inl e ↦ absurd (never (key y) (key x) (test.says y e) d) | inr e ↦ e ] in
          omega (
            arith,
            ap (sum_by f) put,
            sum_by-cons f y (put_by less key x ys),
            sum_by-cons f y ys,
            sum_put f x is test ys a.1,
            ap (λ (v : Bool). was f (cond v (Some y) (find is ys))) not,
          )
      | inr d ↦
          let put : put_by less key x (y ∷ ys) ≡ x ∷ ys = rw (g, d) refl in
          let same : is y ≡ true = test.said y (sym (strict.total (key x) (key y) g d)) in
          omega (arith, ap (sum_by f) put, sum_by-cons f x ys, sum_by-cons f y ys, ap (λ (v : Bool). was f (cond v (Some y) (find is ys))) same)
    ]
  ]

  -- Search by halves.

  pub rises_at : (xs : List X) (i j : ℕ) (d : X) → rises_by less key xs ≡ true → i < j → j < length xs → less (key (get_or xs i d)) (key (get_or xs j d)) ≡ true
  rises_at [] i j d h lt within = absurd (omega arith)
  rises_at (x ∷ xs) i zero d h lt within = absurd (omega arith)
  rises_at (x ∷ xs) zero (suc j) d h lt within = all_at (λ y. less (key x) (key y)) xs j d (and_parts (list_all (λ z. less (key x) (key z)) xs) (rises_by less key xs) h).0 (omega arith)
  rises_at (x ∷ xs) (suc i) (suc j) d h lt within = rises_at xs i j d (and_parts (list_all (λ z. less (key x) (key z)) xs) (rises_by less key xs) h).1 (omega arith) (omega arith)

  pub parted : (xs : List X) (k : K) → rises_by less key xs ≡ true → IsPartitionedBy (λ y. less (key y) k) xs
  parted xs k h i j d le within here = elim (cases_lt i j) [
    | inl lt ↦ strict.through (key (get_or xs i d)) (key (get_or xs j d)) k (rises_at xs i j d h lt within) here
    | inr ge ↦ let e : i ≡ j = omega arith in ap (λ (n : ℕ). less (key (get_or xs n d)) k) e ∙ here
  ]

  pub ranked : (xs : List X) (k : K) (i : ℕ) → i ≤ length xs → IsPartitionPoint (λ y. less (key y) k ≡ true) (λ y. less (key y) k ≡ false) xs i → IsRank less key xs k i
  ranked xs k i bound point = record { bound = bound; below = λ j d lt. point.0 j d (omega arith) lt; above = λ j d le within. point.1 j d le within }

  rank_tail : (x : X) (xs : List X) (k : K) (i : ℕ) → IsRank less key (x ∷ xs) k (suc i) → IsRank less key xs k i
  rank_tail x xs k i rank = record {
    bound = omega (arith, rank.bound);
    below = λ j d lt. rank.below (suc j) d (omega arith);
    above = λ j d le within. rank.above (suc j) d (omega arith) (omega arith);
  }

  pub at_set : (xs : List X) (i : ℕ) (x : X) → rises_by less key xs ≡ true → i < length xs → key (get_or xs i x) ≡ key x → set xs i x ≡ put_by less key x xs
  at_set [] i x h within e = absurd (omega arith)
  at_set (y ∷ ys) zero x h within e = rw (ap (less (key x)) e ∙ strict.never (key x), ap (λ (k : K). less k (key x)) e ∙ strict.never (key x)) refl
  at_set (y ∷ ys) (suc i) x h within e =
      let a = and_parts (list_all (λ z. less (key y) (key z)) ys) (rises_by less key ys) h in
      let before : less (key y) (key x) ≡ true = subst (λ (k : K). less (key y) k ≡ true) e (all_at (λ z. less (key y) (key z)) ys i x a.0 (omega arith)) in
      elim (cases_Bool (less (key x) (key y))) [
        | inl f ↦ absurd (never (key y) (key y) refl (strict.through (key y) (key x) (key y) before f))
        | inr f ↦ rw (f, before) (ap (λ (ws : List X). y ∷ ws) (at_set ys i x a.1 (omega arith) e))
      ]

  -- where none is found, none is under the key
  pub none_apart : (k : K) (is : X → Bool) → IsTest key k is → (xs : List X) (i : ℕ) (d : X) → find is xs ≡ None → i < length xs → key (get_or xs i d) ≡ k → ⊥
  none_apart k is test [] i d none within e = absurd (omega arith)
  none_apart k is test (y ∷ ys) zero d none within e = let g : Some y ≡ None = ap (λ (v : Bool). cond v (Some y) (find is ys)) (sym (test.said y e)) ∙ none in absurd (cc)
  none_apart k is test (y ∷ ys) (suc i) d none within e = elim (cases_Bool (is y)) [
    | inl f ↦ let g : Some y ≡ None = ap (λ (v : Bool). cond v (Some y) (find is ys)) (sym f) ∙ none in absurd (cc)
    | inr f ↦ none_apart k is test ys i d (ap (λ (v : Bool). cond v (Some y) (find is ys)) (sym f) ∙ none) (omega arith) e
  ]

  pub rank_insert : (xs : List X) (i : ℕ) (x : X) → IsRank less key xs (key x) i → ((d : X) → i < length xs → key (get_or xs i d) ≡ key x → ⊥) → insert xs i x ≡ put_by less key x xs
  rank_insert [] zero x rank apart = refl
  rank_insert [] (suc i) x rank apart = absurd (omega (arith, rank.bound))
  rank_insert (y ∷ ys) zero x rank apart = elim (cases_Bool (less (key x) (key y))) [
    | inl f ↦ rw f refl
    | inr f ↦ absurd (apart y (omega arith) (sym (strict.total (key x) (key y) f (rank.above 0 y (omega arith) (omega arith)))))
  ]
  rank_insert (y ∷ ys) (suc i) x rank apart =
      let before : less (key y) (key x) ≡ true = rank.below 0 y (omega arith) in
      elim (cases_Bool (less (key x) (key y))) [
        | inl f ↦ absurd (never (key y) (key y) refl (strict.through (key y) (key x) (key y) before f))
        | inr f ↦ rw (f, before) (ap (λ (ws : List X). y ∷ ws) (rank_insert ys i x (rank_tail y ys (key x) i rank) (λ d within e. apart d (omega arith) e)))
      ]

  -- those below the rank aren't under the key
  pub rank_below : (xs : List X) (k : K) (is : X → Bool) (i : ℕ) → IsTest key k is → IsRank less key xs k i → find is (take i xs) ≡ None
  rank_below xs k is zero test rank = refl
  rank_below [] k is (suc i) test rank = refl
  rank_below (y ∷ ys) k is (suc i) test rank = elim (cases_Bool (is y)) [
    | inl e ↦ absurd (never (key y) k (test.says y e) (rank.below 0 y (omega arith)))
    | inr e ↦ rw e (rank_below ys k is i test (rank_tail y ys k i rank))
  ]

  pub rank_at : (xs : List X) (k : K) (is : X → Bool) (i : ℕ) (x : X) → IsTest key k is → IsRank less key xs k i → i < length xs → x ≡ get_or xs i x → is x ≡ true → IsAt is xs i
  rank_at xs k is i x test rank within same here = record {
    within = within;
    first = rank_below xs k is i test rank;
    here = λ d. ap is (get_or_default xs i d x within ∙ sym same) ∙ here;
  }

  -- there is none where there is none at the rank
  pub rank_none : (xs : List X) (k : K) (is : X → Bool) (i : ℕ) → IsTest key k is → rises_by less key xs ≡ true → IsRank less key xs k i
      → ((d : X) → i < length xs → is (get_or xs i d) ≡ false) → find is xs ≡ None
  rank_none [] k is i test h rank apart = refl
  rank_none (y ∷ ys) k is zero test h rank apart =
      let not : is y ≡ false = apart y (omega arith) in
      let a = and_parts (list_all (λ z. less (key y) (key z)) ys) (rises_by less key ys) h in
      elim (cases_Bool (less k (key y))) [
        | inl e ↦ find_above k is test (y ∷ ys) (and_true (less k (key y)) (list_all (λ z. less k (key z)) ys) e (all_further k (key y) ys e a.0))
        | inr e ↦ let d : is y ≡ true = test.said y (sym (strict.total k (key y) e (rank.above 0 y (omega arith) (omega arith)))) in let g : true ≡ false = sym d ∙ not in absurd (cc)
      ]
  rank_none (y ∷ ys) k is (suc i) test h rank apart = elim (cases_Bool (is y)) [
    | inl e ↦ absurd (never (key y) k (test.says y e) (rank.below 0 y (omega arith)))
    | inr e ↦ rw e (rank_none ys k is i test (and_parts (list_all (λ z. less (key y) (key z)) ys) (rises_by less key ys) h).1 (rank_tail y ys k i rank) (λ d within. apart d (omega arith)))
  ]

  -- one in the place of another with its key
  pub set_rises : (xs : List X) (i : ℕ) (y : X) → rises_by less key xs ≡ true → i < length xs → key (get_or xs i y) ≡ key y → rises_by less key (set xs i y) ≡ true
  set_rises [] i y h within e = absurd (omega arith)
  set_rises (x ∷ xs) zero y h within e = subst (λ (k : K). (list_all (λ z. less k (key z)) xs && rises_by less key xs) ≡ true) e h
  set_rises (x ∷ xs) (suc i) y h within e =
      let a = and_parts (list_all (λ z. less (key x) (key z)) xs) (rises_by less key xs) h in
      let inside : i < length xs = omega arith in
      let above : less (key x) (key y) ≡ true = subst (λ (k : K). less (key x) k ≡ true) e (all_at (λ z. less (key x) (key z)) xs i y a.0 inside) in
      and_true (list_all (λ z. less (key x) (key z)) (set xs i y)) (rises_by less key (set xs i y)) (all_set (λ z. less (key x) (key z)) xs i y a.0 above) (set_rises xs i y a.1 inside e)
