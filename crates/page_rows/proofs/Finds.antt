-- The first element for which a test holds, in lists that change.
use Rattle.std.proofs.Common.{◌≡◌, ℕ, zero, suc, ◌≤◌, Bool, true, false, cond, List, [], ◌∷◌, ◌++◌, get_or, take, refl, ap, sym, ◌∙◌, arith, inl, inr, Option, Some, None}
use Rattle.std.proofs.lemmas.Bool.{cases_Bool}
use Rattle.std.proofs.lemmas.List.{get_or_default}
use Rattle.std.proofs.lemmas.List.Sums.{sum_by-cons}
use Rattle.std.specs.Prelude.{find, option_map, sum_by}
use Rattle.std.specs.Option.{option_or}
use Rattle.definitions.specs.Lists.{or_else, first_found}
use Rattle.page_rows.specs.Pages.{IsAt}

pub or_else_none : {X : Type 0} (x : Option X) → or_else x None ≡ x
or_else_none (Some x) = refl
or_else_none None = refl

pub or_else_assoc : {X : Type 0} (x y z : Option X) → or_else (or_else x y) z ≡ or_else x (or_else y z)
or_else_assoc (Some x) y z = refl
or_else_assoc None y z = refl

pub first_found-append : {X Y : Type 0} (f : X → Option Y) (xs ys : List X) → first_found f (xs ++ ys) ≡ or_else (first_found f xs) (first_found f ys)
first_found-append f [] ys = refl
first_found-append f (x ∷ xs) ys = ap (or_else (f x)) (first_found-append f xs ys) ∙ sym (or_else_assoc (f x) (first_found f xs) (first_found f ys))

pub first_found_push : {X Y : Type 0} (f : X → Option Y) (xs : List X) (x : X) → first_found f (xs ++ x ∷ []) ≡ or_else (first_found f xs) (f x)
first_found_push f xs x = first_found-append f xs (x ∷ []) ∙ ap (or_else (first_found f xs)) (or_else_none (f x))

skipped : {X : Type 0} (p : X → Bool) (x : X) (o : Option X) → cond (p x) (Some x) o ≡ None → (p x ≡ false) × (o ≡ None)
skipped p x o h = by (p x) h
  where
    by : (v : Bool) → cond v (Some x) o ≡ None → (v ≡ false) × (o ≡ None)
    by true h = absurd (cc)
    by false h = (refl, h)

-- what is found at a place
pub find_at : {X : Type 0} (p : X → Bool) (xs : List X) (i : ℕ) (x : X) → IsAt p xs i → x ≡ get_or xs i x → find p xs ≡ Some x
find_at p [] i x at is = absurd (omega (arith, at.within))
find_at p (y ∷ ys) zero x at is = ap (λ (v : Bool). cond v (Some y) (find p ys)) (at.here y) ∙ ap Some (sym is)
find_at p (y ∷ ys) (suc i) x at is =
    let before = skipped p y (find p (take i ys)) at.first in
    ap (λ (v : Bool). cond v (Some y) (find p ys)) before.0
    ∙ find_at p ys i x (record { within = omega (arith, at.within); first = before.1; here = λ d. at.here d }) is

-- an element that is there
pub element_at : {X : Type 0} (p : X → Bool) (xs : List X) (i : ℕ) → IsAt p xs i → (x : X) × (x ≡ get_or xs i x)
element_at p [] i at = absurd (omega (arith, at.within))
element_at p (x ∷ xs) i at = (get_or (x ∷ xs) i x, get_or_default (x ∷ xs) i x (get_or (x ∷ xs) i x) at.within)

-- what is seen was found
pub map_some : {X Y : Type 0} (f : X → Y) (o : Option X) (y : Y) → option_map f o ≡ Some y → (x : X) × (o ≡ Some x) × (f x ≡ y)
map_some f None y h = absurd (cc)
map_some {X} {Y} f (Some x) y h = (x, refl, some_same (f x) y h)
  where
    some_same : (a b : Y) → Some a ≡ Some b → a ≡ b
    some_same a b e = cc

pub map_none : {X Y : Type 0} (f : X → Y) (o : Option X) → option_map f o ≡ None → o ≡ None
map_none f None h = refl
map_none f (Some x) h = absurd (cc)

-- what was found passes the test
pub found_says : {X : Type 0} (p : X → Bool) (xs : List X) (x : X) → find p xs ≡ Some x → p x ≡ true
found_says p [] x h = absurd (cc)
found_says {X} p (y ∷ ys) x h = elim (cases_Bool (p y)) [
  | inl e ↦ let g : Some y ≡ Some x = ap (λ (v : Bool). cond v (Some y) (find p ys)) (sym e) ∙ h in let same : y ≡ x = cc in ap p (sym same) ∙ e
  | inr e ↦ found_says p ys x (ap (λ (v : Bool). cond v (Some y) (find p ys)) (sym e) ∙ h)
]

-- and its part of a sum is within the sum
pub found_le : {X : Type 0} (f : X → ℕ) (p : X → Bool) (xs : List X) (x : X) → find p xs ≡ Some x → f x ≤ sum_by f xs
found_le f p [] x h = absurd (cc)
found_le {X} f p (y ∷ ys) x h = elim (cases_Bool (p y)) [
  | inl e ↦ let g : Some y ≡ Some x = ap (λ (v : Bool). cond v (Some y) (find p ys)) (sym e) ∙ h in let same : y ≡ x = cc in omega (arith, sum_by-cons f y ys, ap f same)
  | inr e ↦ omega (arith, sum_by-cons f y ys, found_le f p ys x (ap (λ (v : Bool). cond v (Some y) (find p ys)) (sym e) ∙ h))
]

-- put where nothing was, or after all
pub put_new : {X : Type 0} (b : Bool) (o : Option X) (x : X) → (b ≡ true → o ≡ None) → cond b (Some x) o ≡ option_or o (cond b (Some x) None)
put_new {X} true o x h = ap (λ (y : Option X). option_or y (Some x)) (sym (h refl))
put_new false None x h = refl
put_new false (Some y) x h = refl
