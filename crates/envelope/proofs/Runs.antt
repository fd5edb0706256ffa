-- The parts of a list, one run after the other.
use Rattle.std.proofs.Common.{◌≡◌, ℕ, suc, ◌+◌, ◌-◌, ◌<◌, ◌≤◌, Bool, true, false, not, cond, List, [], ◌∷◌, length, take, drop, refl, sym, ◌∙◌, ap, Some, None, arith, add-one, length-drop, get_or, drop-cons}
use Rattle.std.specs.Prelude.{nat_lt, position}
use Rattle.std.specs.List.{position_or_len}
use Rattle.std.proofs.lemmas.Option.{cond_some}
use Rattle.std.proofs.lemmas.List.{take_all, nil_from_length, drop-drop}
use Rattle.std.proofs.lemmas.List.Sums.{prefix_len-le-length}
use borrow.Author.Tests.{ltb-false, ltb-true}
use Rattle.definitions.specs.Lists.{parted}

pub within : {X : Type 0} (p : X → Bool) (xs : List X) → position_or_len p xs ≤ length xs
within p xs = prefix_len-le-length (λ x. not (p x)) xs

pub place_some : {X : Type 0} (p : X → Bool) (xs : List X) (i : ℕ) → position p xs ≡ Some i → (i ≡ position_or_len p xs) × (i < length xs)
place_some p xs i e =
    let c = cond_some (nat_lt (position_or_len p xs) (length xs)) (position_or_len p xs) i e in
    (sym c.1, omega (arith, ltb-true (position_or_len p xs) (length xs) c.0, c.1))

pub place_none : {X : Type 0} (p : X → Bool) (xs : List X) → position p xs ≡ None → length xs ≡ position_or_len p xs
place_none p xs e = by_test (nat_lt (position_or_len p xs) (length xs)) refl e
  where
    by_test : (b : Bool) → nat_lt (position_or_len p xs) (length xs) ≡ b → cond b (Some (position_or_len p xs)) None ≡ None → length xs ≡ position_or_len p xs
    by_test true t f = absurd (cc)
    by_test false t f = omega (arith, ltb-false (position_or_len p xs) (length xs) t, within p xs)

one_more : (n : ℕ) → 1 + n ≡ suc n
one_more n = omega arith

take_one : {X : Type 0} (p : X → Bool) (x : X) (xs : List X) → p x ≡ false → take (position_or_len p (x ∷ xs)) (x ∷ xs) ≡ x ∷ take (position_or_len p xs) xs
take_one p x xs t = rw (t, one_more (position_or_len p xs)) refl

skip_one : {X : Type 0} (p : X → Bool) (x : X) (xs : List X) → p x ≡ false → drop (position_or_len p (x ∷ xs)) (x ∷ xs) ≡ drop (position_or_len p xs) xs
skip_one p x xs t = rw (t, one_more (position_or_len p xs)) refl

-- the front, and the runs after it
pub front_is : {X : Type 0} (p : X → Bool) (xs : List X) → (parted p xs).front ≡ take (position_or_len p xs) xs
front_is p [] = refl
front_is {X = X} p (x ∷ xs) = by_test (p x) refl (front_is p xs)
  where
    by_test : (b : Bool) → p x ≡ b → (parted p xs).front ≡ take (position_or_len p xs) xs → (parted p (x ∷ xs)).front ≡ take (position_or_len p (x ∷ xs)) (x ∷ xs)
    by_test true t ih = rw t refl
    by_test false t ih = let e : (parted p (x ∷ xs)).front ≡ x ∷ (parted p xs).front = rw t refl in e ∙ (ap (λ (ys : List X). x ∷ ys) ih ∙ sym (take_one p x xs t))

runs_skip : {X : Type 0} (p : X → Bool) (xs : List X) → (parted p xs).runs ≡ (parted p (drop (position_or_len p xs) xs)).runs
runs_skip p [] = refl
runs_skip {X = X} p (x ∷ xs) = by_test (p x) refl (runs_skip p xs)
  where
    by_test : (b : Bool) → p x ≡ b → (parted p xs).runs ≡ (parted p (drop (position_or_len p xs) xs)).runs → (parted p (x ∷ xs)).runs ≡ (parted p (drop (position_or_len p (x ∷ xs)) (x ∷ xs))).runs
    by_test true t ih = let here : x ∷ xs ≡ drop (position_or_len p (x ∷ xs)) (x ∷ xs) = rw t refl in ap (λ ys. (parted p ys).runs) here
    by_test false t ih = let e : (parted p (x ∷ xs)).runs ≡ (parted p xs).runs = rw t refl in e ∙ (ih ∙ ap (λ ys. (parted p ys).runs) (sym (skip_one p x xs t)))

first_passes : {X : Type 0} (p : X → Bool) (xs : List X) (first : X) (others : List X) → drop (position_or_len p xs) xs ≡ first ∷ others → p first ≡ true
first_passes p [] first others e = absurd (cc)
first_passes p (x ∷ xs) first others e = by_test (p x) refl e (first_passes p xs first others)
  where
    by_test : (b : Bool) → p x ≡ b → drop (position_or_len p (x ∷ xs)) (x ∷ xs) ≡ first ∷ others → (drop (position_or_len p xs) xs ≡ first ∷ others → p first ≡ true) → p first ≡ true
    by_test true t e ih = let here : x ∷ xs ≡ drop (position_or_len p (x ∷ xs)) (x ∷ xs) = rw t refl in let f : x ∷ xs ≡ first ∷ others = here ∙ e in let g : x ≡ first = cc in rw (← g) t
    by_test false t e ih = ih (sym (skip_one p x xs t) ∙ e)

begun : {X : Type 0} (p : X → Bool) (first : X) (others : List X) → p first ≡ true → (parted p (first ∷ others)).runs ≡ (first, (parted p others).front) ∷ (parted p others).runs
begun p first others h = rw h refl

-- the first that passes at or after a place
run_at : {X : Type 0} (p : X → Bool) (xs : List X) (from i : ℕ) (d : X) → i ≡ from + position_or_len p (drop from xs) → i < length xs
    → drop (position_or_len p (drop from xs)) (drop from xs) ≡ get_or xs i d ∷ drop (i + 1) xs
run_at p xs from i d ei hi =
    drop-drop (position_or_len p (drop from xs)) from xs
    ∙ (ap (λ n. drop n xs) (sym ei) ∙ (drop-cons xs i d hi ∙ ap (λ n. get_or xs i d ∷ drop n xs) (sym (add-one i))))

pub run_begins : {X : Type 0} (p : X → Bool) (xs : List X) (from i : ℕ) (d : X) → i ≡ from + position_or_len p (drop from xs) → i < length xs → p (get_or xs i d) ≡ true
run_begins p xs from i d ei hi = first_passes p (drop from xs) (get_or xs i d) (drop (i + 1) xs) (run_at p xs from i d ei hi)

-- the run that begins at i of the list after `from`, and ends before j
pub run_some : {X : Type 0} (p : X → Bool) (xs : List X) (from i j : ℕ) (d : X) → i ≡ from + position_or_len p (drop from xs)
    → i < length xs → j ≡ i + 1 + position_or_len p (drop (i + 1) xs)
    → (parted p (drop from xs)).runs ≡ (get_or xs i d, take (j - (i + 1)) (drop (i + 1) xs)) ∷ (parted p (drop j xs)).runs
run_some {X = X} p xs from i j d ei hi ej =
    let after : drop (position_or_len p (drop (i + 1) xs)) (drop (i + 1) xs) ≡ drop j xs =
    drop-drop (position_or_len p (drop (i + 1) xs)) (i + 1) xs ∙ ap (λ n. drop n xs) (sym ej) in
    let inner : (parted p (drop (i + 1) xs)).front ≡ take (j - (i + 1)) (drop (i + 1) xs) =
    front_is p (drop (i + 1) xs) ∙ ap (λ n. take n (drop (i + 1) xs)) (omega arith) in
    let others : (parted p (drop (i + 1) xs)).runs ≡ (parted p (drop j xs)).runs =
    runs_skip p (drop (i + 1) xs) ∙ ap (λ ys. (parted p ys).runs) after in
    runs_skip p (drop from xs) ∙ (ap (λ ys. (parted p ys).runs) (run_at p xs from i d ei hi)
    ∙ (begun p (get_or xs i d) (drop (i + 1) xs) (run_begins p xs from i d ei hi)
    ∙ (ap (λ (ys : List X). (get_or xs i d, ys) ∷ (parted p (drop (i + 1) xs)).runs) inner
    ∙ ap (λ (rs : List (X × List X)). (get_or xs i d, take (j - (i + 1)) (drop (i + 1) xs)) ∷ rs) others)))

pub run_none : {X : Type 0} (p : X → Bool) (xs : List X) (from i : ℕ) → i ≡ from + position_or_len p (drop from xs) → length xs ≤ i → (parted p (drop from xs)).runs ≡ []
run_none p xs from i ei h =
    let none : drop (position_or_len p (drop from xs)) (drop from xs) ≡ [] = nil_from_length (drop (position_or_len p (drop from xs)) (drop from xs))
    (omega (arith, length-drop (position_or_len p (drop from xs)) (drop from xs), length-drop from xs)) in
    runs_skip p (drop from xs) ∙ ap (λ ys. (parted p ys).runs) none

-- through the first that passes
pub through_none : {X : Type 0} (p : X → Bool) (xs : List X) → position p xs ≡ None → xs ≡ take (position_or_len p xs + 1) xs
through_none p xs e = sym (take_all (position_or_len p xs + 1) xs (omega (arith, place_none p xs e)))

pub through_some : {X : Type 0} (p : X → Bool) (xs : List X) (i : ℕ) → position p xs ≡ Some i → take (i + 1) xs ≡ take (position_or_len p xs + 1) xs
through_some p xs i e = ap (λ n. take (n + 1) xs) ((place_some p xs i e).0)
