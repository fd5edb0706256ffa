-- What is found in a list by its key.
use Rattle.std.proofs.Common.{◌≡◌, ℕ, ◌+◌, map, List, [], ◌∷◌, filter, flat_map, Bool, true, false, cond, None, Some, Option, refl, sym, ap, subst, ◌∙◌, inl, inr}
use Rattle.std.specs.Prelude.{find}
use Rattle.std.specs.List.{list_all, enumerate_from}
use Rattle.std.proofs.lemmas.Bool.{and_parts, both_ways}
use Rattle.sqlite_rules.specs.Lists.{Has}
use Rattle.sqlite_rules.proofs.ListLemmas.{test_has, has_found, has_filtered, has_kept, has_left, has_right}
use Rattle.rules.specs.Keyed.{rises_by}
use Rattle.rules.proofs.Keys.{all_filter}
use Rattle.rules.proofs.Orders.{IsStrict}
use Rattle.rules.proofs.KeyedLists.{both}

module _ {X : Type 0} where
  -- where none is found, none passes
  pub none_passes : (p : X → Bool) (xs : List X) (x : X) → find p xs ≡ None → Has xs x → p x ≡ true → ⊥
  none_passes p [] x h there passes = there
  none_passes p (y ∷ xs) x h there passes = by (p y) refl h there (λ is later. none_passes p xs x is later passes)
    where
      by : (b : Bool) → p y ≡ b → cond b (Some y) (find p xs) ≡ None → Has (y ∷ xs) x → (find p xs ≡ None → Has xs x → ⊥) → ⊥
      by true e is here again = cc (is)
      by false e is (inl same) again = let f : ◌≡◌ {A = Bool} true false = sym passes ∙ ap p same ∙ e in cc
      by false e is (inr later) again = again is later

  -- the one that passes is the one that is found
  pub one_found : (p : X → Bool) (xs : List X) (x : X) → Has xs x → p x ≡ true → ((y : X) → Has xs y → p y ≡ true → y ≡ x) → find p xs ≡ Some x
  one_found p xs x there passes one = by (find p xs) refl
    where
      by : (o : Option X) → find p xs ≡ o → find p xs ≡ Some x
      by None e = absurd (none_passes p xs x e there passes)
      by (Some y) e = let it = has_found p xs y e in e ∙ ap Some (one y it.0 it.1)

  pub not_found : (p : X → Bool) (xs : List X) → ((x : X) → Has xs x → p x ≡ true → ⊥) → find p xs ≡ None
  not_found p xs none = by (find p xs) refl
    where
      by : (o : Option X) → find p xs ≡ o → find p xs ≡ None
      by None e = e
      by (Some y) e = absurd (let it = has_found p xs y e in none y it.0 it.1)

-- What rows tell of a list, of which they show the elements that pass, and of those there is at
-- most one.
module _ {X R : Type 0} (p : X → Bool) (xs : List X) (shows : X → R) (rows : List R) (each : (row : R) → Has rows row → (x : X) × Has (filter p xs) x × (row ≡ shows x)) (there : (x : X) → Has (filter p xs) x → Has rows (shows x))
    (one : (x y : X) → Has xs x → Has xs y → p x ≡ true → p y ≡ true → x ≡ y) where
  pub no_row : rows ≡ [] → find p xs ≡ None
  no_row is = not_found p xs (λ x listed passes. subst (λ (rs : List R). Has rs (shows x)) is (there x (has_kept p xs x listed passes)))

  pub first_row : (row : R) (more : List R) → rows ≡ row ∷ more → (x : X) × (find p xs ≡ Some x) × (row ≡ shows x)
  first_row row more is =
      let it = each row (subst (λ (rs : List R). Has rs row) (sym is) (inl refl)) in
      let kept = has_filtered p xs it.0 it.1 in
      (it.0, one_found p xs it.0 kept.0 kept.1 (λ y listed passes. one y it.0 listed kept.0 passes kept.1), it.2)

pub flat_has : {X Y : Type 0} (f : X → List Y) (xs : List X) (x : X) (y : Y) → Has xs x → Has (f x) y → Has (flat_map f xs) y
flat_has f [] x y h g = absurd h
flat_has {X} {Y} f (z ∷ xs) x y (inl same) g = has_left (f z) (flat_map f xs) y (subst (λ (w : X). Has (f w) y) same g)
flat_has f (z ∷ xs) x y (inr later) g = has_right (f z) (flat_map f xs) y (flat_has f xs x y later g)

module _ {X K : Type 0} (less : K → K → Bool) (key : X → K) where
  -- what rises still rises where some are left out
  pub rises_kept : (p : X → Bool) (xs : List X) → rises_by less key xs ≡ true → rises_by less key (filter p xs) ≡ true
  rises_kept p [] h = refl
  rises_kept p (x ∷ xs) h =
      let a = and_parts (list_all (λ y. less (key x) (key y)) xs) (rises_by less key xs) h in
      by (p x) (rises_kept p xs a.1) (all_filter (λ y. less (key x) (key y)) p xs a.0)
    where
      by : (b : Bool) → rises_by less key (filter p xs) ≡ true → list_all (λ y. less (key x) (key y)) (filter p xs) ≡ true → rises_by less key (cond b (x ∷ filter p xs) (filter p xs)) ≡ true
      by true later all = both (list_all (λ y. less (key x) (key y)) (filter p xs)) (rises_by less key (filter p xs)) all later
      by false later all = later

  -- two with one key are one
  pub one_key : IsStrict less → (xs : List X) (a b : X) → rises_by less key xs ≡ true → Has xs a → Has xs b → key a ≡ key b → a ≡ b
  one_key strict [] a b rise h g same = absurd h
  one_key strict (x ∷ xs) a b rise h g same =
      let p = and_parts (list_all (λ y. less (key x) (key y)) xs) (rises_by less key xs) rise in
      by p.0 h g (λ e f. one_key strict xs a b p.1 e f same)
    where
      never : list_all (λ y. less (key x) (key y)) xs ≡ true → (r : X) → Has xs r → key r ≡ key x → ⊥
      never over r there is = both_ways (less (key x) (key x)) (strict.never (key x)) (subst (λ (k : K). less (key x) k ≡ true) is (test_has (λ y. less (key x) (key y)) xs r over there))

      by : list_all (λ y. less (key x) (key y)) xs ≡ true → Has (x ∷ xs) a → Has (x ∷ xs) b → (Has xs a → Has xs b → a ≡ b) → a ≡ b
      by over (inl e) (inl f) again = e ∙ sym f
      by over (inl e) (inr f) again = absurd (never over b f (sym same ∙ ap key e))
      by over (inr e) (inl f) again = absurd (never over a e (same ∙ ap key f))
      by over (inr e) (inr f) again = again e f

-- numbered elements without their numbers
pub second_of : {X Y : Type 0} (f : X → Y) (n : ℕ) (xs : List X) → map (λ (p : ℕ × X). f p.1) (enumerate_from n xs) ≡ map f xs
second_of f n [] = refl
second_of {X} {Y} f n (x ∷ xs) = ap (λ (ys : List Y). f x ∷ ys) (second_of f (n + 1) xs)
