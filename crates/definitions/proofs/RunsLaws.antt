-- What stands before, at and after the first that passes; and runs, each of which begins with one that passes.
use Rattle.std.proofs.Common.{◌≡◌, suc, ◌+◌, Bool, true, false, not, cond, List, [], ◌∷◌, ◌++◌, take, drop, refl, sym, ◌∙◌, ap, subst, arith, is_some, Option, Some}
use Rattle.std.specs.Prelude.{◌||◌, find, flat_map, option_to_list, IsTrue}
use Rattle.std.specs.List.{list_any, list_all, AllByRecursion, position_or_len, before_first, after_first}
use Rattle.std.specs.Cmp.Derive.{both_true}
use Rattle.definitions.specs.Lists.{Parted, parted, part_with}

-- What stands before, at and after the first that passes.

pub before_yes : {X : Type 0} (p : X → Bool) (x : X) (xs : List X) → p x ≡ true → before_first p (x ∷ xs) ≡ []
before_yes p x xs t = ap (λ (b : Bool). take (cond (not b) (1 + position_or_len p xs) 0) (x ∷ xs)) t

pub before_no : {X : Type 0} (p : X → Bool) (x : X) (xs : List X) → p x ≡ false → before_first p (x ∷ xs) ≡ x ∷ before_first p xs
before_no p x xs t =
    let e : 1 + position_or_len p xs ≡ suc (position_or_len p xs) = omega arith in
    ap (λ (b : Bool). take (cond (not b) (1 + position_or_len p xs) 0) (x ∷ xs)) t ∙ ap (λ n. take n (x ∷ xs)) e

pub find_yes : {X : Type 0} (p : X → Bool) (x : X) (xs : List X) → p x ≡ true → find p (x ∷ xs) ≡ Some x
find_yes p x xs t = ap (λ (b : Bool). cond b (Some x) (find p xs)) t

pub find_no : {X : Type 0} (p : X → Bool) (x : X) (xs : List X) → p x ≡ false → find p (x ∷ xs) ≡ find p xs
find_no p x xs t = ap (λ (b : Bool). cond b (Some x) (find p xs)) t

pub after_yes : {X : Type 0} (p : X → Bool) (x : X) (xs : List X) → p x ≡ true → after_first p (x ∷ xs) ≡ xs
after_yes p x xs t = ap (λ (b : Bool). drop (cond (not b) (1 + position_or_len p xs) 0 + 1) (x ∷ xs)) t

pub after_no : {X : Type 0} (p : X → Bool) (x : X) (xs : List X) → p x ≡ false → after_first p (x ∷ xs) ≡ after_first p xs
after_no p x xs t =
    let e : 1 + position_or_len p xs + 1 ≡ suc (position_or_len p xs + 1) = omega arith in
    ap (λ (b : Bool). drop (cond (not b) (1 + position_or_len p xs) 0 + 1) (x ∷ xs)) t ∙ ap (λ n. drop n (x ∷ xs)) e

-- up to the first that passes
abbrev pub up_to : {X : Type 0} → (X → Bool) → List X → List X
up_to p xs = before_first p xs ++ option_to_list (find p xs)

pub up_to_yes : {X : Type 0} (p : X → Bool) (x : X) (xs : List X) → p x ≡ true → up_to p (x ∷ xs) ≡ x ∷ []
up_to_yes p x xs t = ap (λ (ys : List _). ys ++ option_to_list (find p (x ∷ xs))) (before_yes p x xs t) ∙ ap (λ (o : Option _). option_to_list o) (find_yes p x xs t)

pub up_to_no : {X : Type 0} (p : X → Bool) (x : X) (xs : List X) → p x ≡ false → up_to p (x ∷ xs) ≡ x ∷ up_to p xs
up_to_no p x xs t = ap (λ (ys : List _). ys ++ option_to_list (find p (x ∷ xs))) (before_no p x xs t) ∙ ap (λ (o : Option _). x ∷ (before_first p xs ++ option_to_list o)) (find_no p x xs t)

-- where nothing stands after it, that is all
pub whole : {X : Type 0} (p : X → Bool) (xs : List X) → after_first p xs ≡ [] → up_to p xs ≡ xs
whole p [] h = refl
whole {X} p (x ∷ xs) h = by_test (p x) refl (whole p xs)
  where
    by_test : (b : Bool) → p x ≡ b → (after_first p xs ≡ [] → up_to p xs ≡ xs) → up_to p (x ∷ xs) ≡ x ∷ xs
    by_test true t ih = up_to_yes p x xs t ∙ ap (λ (ys : List X). x ∷ ys) (sym (sym (after_yes p x xs t) ∙ h))
    by_test false t ih = up_to_no p x xs t ∙ ap (λ (ys : List X). x ∷ ys) (ih (sym (after_no p x xs t) ∙ h))

pub taken : {X : Type 0} (p : X → Bool) (xs : List X) → take (position_or_len p xs + 1) xs ≡ up_to p xs
taken p [] = refl
taken {X} p (x ∷ xs) = by_test (p x) refl (taken p xs)
  where
    by_test : (b : Bool) → p x ≡ b → take (position_or_len p xs + 1) xs ≡ up_to p xs → take (position_or_len p (x ∷ xs) + 1) (x ∷ xs) ≡ up_to p (x ∷ xs)
    by_test true t ih = ap (λ (b : Bool). take (cond (not b) (1 + position_or_len p xs) 0 + 1) (x ∷ xs)) t ∙ sym (up_to_yes p x xs t)
    by_test false t ih =
        let e : 1 + position_or_len p xs + 1 ≡ suc (position_or_len p xs + 1) = omega arith in
        ap (λ (b : Bool). take (cond (not b) (1 + position_or_len p xs) 0 + 1) (x ∷ xs)) t ∙ ap (λ n. take n (x ∷ xs)) e
        ∙ ap (λ (ys : List X). x ∷ ys) ih ∙ sym (up_to_no p x xs t)

pub any_found : {X : Type 0} (p : X → Bool) (xs : List X) → list_any p xs ≡ is_some (find p xs)
any_found p [] = refl
any_found p (x ∷ xs) = by_test (p x) (any_found p xs)
  where
    by_test : (b : Bool) → list_any p xs ≡ is_some (find p xs) → (b || list_any p xs) ≡ is_some (cond b (Some x) (find p xs))
    by_test true ih = refl
    by_test false ih = ih

pub found_passes : {X : Type 0} (p : X → Bool) (xs : List X) → IsTrue (list_all p (option_to_list (find p xs)))
found_passes p [] = refl
found_passes p (x ∷ xs) = by_test (p x) refl (found_passes p xs)
  where
    by_test : (b : Bool) → p x ≡ b → IsTrue (list_all p (option_to_list (find p xs))) → IsTrue (list_all p (option_to_list (cond b (Some x) (find p xs))))
    by_test true t ih = both_true t refl
    by_test false t ih = ih

-- what holds of all, and that they don't pass, holds of those before the first that does
pub before_all : {X : Type 0} (P : X → Type 0) (p : X → Bool) (xs : List X) → AllByRecursion P xs → AllByRecursion (λ x. P x × (p x ≡ false)) (before_first p xs)
before_all P p [] h = tt
before_all {X} P p (x ∷ xs) h = by_test (p x) refl (before_all P p xs h.1)
  where
    Q : X → Type 0
    Q y = P y × (p y ≡ false)

    by_test : (b : Bool) → p x ≡ b → AllByRecursion (λ y. P y × (p y ≡ false)) (before_first p xs) → AllByRecursion (λ y. P y × (p y ≡ false)) (before_first p (x ∷ xs))
    by_test true t ih = subst (AllByRecursion (λ y. P y × (p y ≡ false))) (sym (before_yes p x xs t)) tt
    by_test false t ih = subst (AllByRecursion (λ y. P y × (p y ≡ false))) (sym (before_no p x xs t)) ((h.0, t), ih)

-- Runs.

abbrev pub run_of : {X : Type 0} → (X × List X) → List X
run_of r = r.0 ∷ r.1

pub parted_whole : {X : Type 0} (p : X → Bool) (xs : List X) → (parted p xs).front ++ flat_map run_of (parted p xs).runs ≡ xs
parted_whole p [] = refl
parted_whole {X} p (x ∷ xs) = by_test (p x) (parted_whole p xs)
  where
    by_test : (b : Bool) → (parted p xs).front ++ flat_map run_of (parted p xs).runs ≡ xs
        → (part_with b x (parted p xs)).front ++ flat_map run_of (part_with b x (parted p xs)).runs ≡ x ∷ xs
    by_test true ih = ap (λ (ys : List X). x ∷ ys) ih
    by_test false ih = ap (λ (ys : List X). x ∷ ys) ih

-- a run begins with one that passes, and no other in it does
abbrev pub IsRun : {X : Type 0} → (X → Type 0) → (X → Bool) → (X × List X) → Type 0
IsRun P p r = (p r.0 ≡ true) × AllByRecursion (λ x. P x × (p x ≡ false)) r.1

abbrev pub ArePartedBy : {X : Type 0} → (X → Type 0) → (X → Bool) → Parted X → Type 0
ArePartedBy P p q = AllByRecursion (λ x. P x × (p x ≡ false)) q.front × AllByRecursion (IsRun P p) q.runs

pub parted_all : {X : Type 0} (P : X → Type 0) (p : X → Bool) (xs : List X) → AllByRecursion P xs → ArePartedBy P p (parted p xs)
parted_all P p [] h = (tt, tt)
parted_all P p (x ∷ xs) h = by_test (p x) refl (parted_all P p xs h.1)
  where
    by_test : (b : Bool) → p x ≡ b → ArePartedBy P p (parted p xs) → ArePartedBy P p (part_with b x (parted p xs))
    by_test true t ih = (tt, ((t, ih.0), ih.1))
    by_test false t ih = (((h.0, t), ih.0), ih.1)
