-- What is named of lists: what is found by a number that is named stands among those that are
-- named.
use Rattle.std.proofs.Common.{◌≡◌, ℕ, Bool, true, false, cond, ◌||◌, List, [], ◌∷◌, map, refl, ap, ◌∙◌, Option, Some, bytes_eq}
use Rattle.std.specs.Prelude.{filter, flat_map, find}
use Rattle.std.specs.List.{list_all}
use Rattle.std.specs.Cmp.Derive.{both_true}
use Rattle.std.proofs.lemmas.List.Concat.{flat_map-cons}
use Rattle.definitions.specs.Bytes.{is_one_of}
use Rattle.definitions.proofs.TextLaws.{same_text, text_is, both_parts}
use Rattle.definitions.proofs.NeedLaws.{in_left, in_right, or_left, or_right}

same_found : {X : Type 0} (a b : X) → ◌≡◌ {A = Option X} (Some a) (Some b) → a ≡ b
same_found a b e = cc e

-- each of these is among those
pub all_among : {X : Type 0} (name : X → List ℕ) (ys : List (List ℕ)) (xs : List X)
    → ((t : List ℕ) → is_one_of (map name xs) t ≡ true → is_one_of ys t ≡ true) → list_all (λ x. is_one_of ys (name x)) xs ≡ true
all_among name ys [] h = refl
all_among name ys (x ∷ xs) h = both_true (h (name x) (or_left (bytes_eq (name x) (name x)) (is_one_of (map name xs) (name x)) (same_text (name x))))
    (all_among name ys xs (λ t k. h t (or_right (bytes_eq t (name x)) (is_one_of (map name xs) t) k)))

-- and so what is among these
pub one_of_all : {X : Type 0} (name : X → List ℕ) (p : List ℕ → Bool) (xs : List X) → list_all (λ x. p (name x)) xs ≡ true → (t : List ℕ)
    → is_one_of (map name xs) t ≡ true → p t ≡ true
one_of_all name p [] h t k = absurd (cc)
one_of_all name p (x ∷ xs) h t k =
    let parts = both_parts (p (name x)) (list_all (λ y. p (name y)) xs) h in
    by_first (bytes_eq t (name x)) refl k parts.0 (λ m. one_of_all name p xs parts.1 t m)
  where
    by_first : (b : Bool) → bytes_eq t (name x) ≡ b → (b || is_one_of (map name xs) t) ≡ true → p (name x) ≡ true → (is_one_of (map name xs) t ≡ true → p t ≡ true) → p t ≡ true
    by_first true e m here more = ap p (text_is t (name x) e) ∙ here
    by_first false e m here more = more m

module _ {X : Type 0} (number : X → List ℕ) (items : X → List (List ℕ)) (names : List (List ℕ)) where
  abbrev pub those : List X → List X
  those xs = filter (λ x. is_one_of names (number x)) xs

  abbrev pub items_of_those : List X → List (List ℕ)
  items_of_those xs = flat_map items (those xs)

  -- the items of the one that is found under a named number are among the items of those that are
  -- named
  pub found_among : (s : List ℕ) → is_one_of names s ≡ true → (xs : List X) (k : X) → find (λ x. bytes_eq (number x) s) xs ≡ Some k
      → (t : List ℕ) → is_one_of (items k) t ≡ true → is_one_of (items_of_those xs) t ≡ true
  found_among s named [] k h t i = absurd (cc)
  found_among s named (x ∷ xs) k h t i = by_test (bytes_eq (number x) s) refl h (λ m. found_among s named xs k m t i)
    where
      rest : List (List ℕ)
      rest = items_of_those xs

      by_test : (b : Bool) → bytes_eq (number x) s ≡ b → cond b (Some x) (find (λ y. bytes_eq (number y) s) xs) ≡ Some k
          → (find (λ y. bytes_eq (number y) s) xs ≡ Some k → is_one_of rest t ≡ true) → is_one_of (items_of_those (x ∷ xs)) t ≡ true
      by_test true e m more =
          let is : x ≡ k = same_found x k m in
          let here : is_one_of names (number x) ≡ true = ap (is_one_of names) (text_is (number x) s e) ∙ named in
          ap (λ b. is_one_of (flat_map items (cond b (x ∷ those xs) (those xs))) t) here
          ∙ ap (λ ys. is_one_of ys t) (flat_map-cons items x (those xs))
          ∙ in_left (items x) rest t (ap (λ y. is_one_of (items y) t) is ∙ i)
      by_test false e m more = skip (is_one_of names (number x)) refl (more m)
        where
          skip : (b : Bool) → is_one_of names (number x) ≡ b → is_one_of rest t ≡ true → is_one_of (flat_map items (cond b (x ∷ those xs) (those xs))) t ≡ true
          skip true f n = ap (λ ys. is_one_of ys t) (flat_map-cons items x (those xs)) ∙ in_right (items x) rest t n
          skip false f n = n

-- lines that stand in others
pub mapped : {X Y Z : Type 0} (f : Y → Z) (g : X → Y) (xs : List X) → map f (map g xs) ≡ map (λ x. f (g x)) xs
mapped f g [] = refl
mapped f g (x ∷ xs) = ap (λ ys. f (g x) ∷ ys) (mapped f g xs)

-- the items of those that are named are among what has all of them
module _ {X L : Type 0} (number : X → List ℕ) (lines : X → List L) (item : L → List ℕ) (names ys : List (List ℕ)) where
  abbrev items_at : X → List (List ℕ)
  items_at x = map item (lines x)

  pub those_closed : (xs : List X) → ((t : List ℕ) → is_one_of (flat_map items_at (filter (λ x. is_one_of names (number x)) xs)) t ≡ true → is_one_of ys t ≡ true)
      → list_all (λ x. list_all (λ l. is_one_of ys (item l)) (lines x)) (filter (λ x. is_one_of names (number x)) xs) ≡ true
  those_closed [] h = refl
  those_closed (x ∷ xs) h = by_test (is_one_of names (number x)) h (λ k. those_closed xs k)
    where
      kept : List X
      kept = filter (λ x. is_one_of names (number x)) xs

      by_test : (b : Bool) → ((t : List ℕ) → is_one_of (flat_map items_at (cond b (x ∷ kept) kept)) t ≡ true → is_one_of ys t ≡ true)
          → (((t : List ℕ) → is_one_of (flat_map items_at kept) t ≡ true → is_one_of ys t ≡ true) → list_all (λ x. list_all (λ l. is_one_of ys (item l)) (lines x)) kept ≡ true)
          → list_all (λ x. list_all (λ l. is_one_of ys (item l)) (lines x)) (cond b (x ∷ kept) kept) ≡ true
      by_test false k more = more k
      by_test true k more =
          let cons = λ (t : List ℕ). ap (λ zs. is_one_of zs t) (flat_map-cons items_at x kept) in
          both_true (all_among item ys (lines x) (λ t i. k t (cons t ∙ in_left (items_at x) (flat_map items_at kept) t i)))
          (more (λ t i. k t (cons t ∙ in_right (items_at x) (flat_map items_at kept) t i)))

-- what lies in lines that are all named is named
module _ {X L M : Type 0} (f : X → Bool) (lines : X → List L) (item : L → List ℕ) (others : X → List M) (name : M → List ℕ) (q : List ℕ → Bool) where
  pub others_closed : (xs : List X) → list_all (λ x. list_all (λ m. is_one_of (map item (lines x)) (name m)) (others x)) xs ≡ true
      → list_all (λ x. list_all (λ l. q (item l)) (lines x)) (filter f xs) ≡ true → list_all (λ x. list_all (λ m. q (name m)) (others x)) (filter f xs) ≡ true
  others_closed [] h k = refl
  others_closed (x ∷ xs) h k =
      let parts = both_parts (list_all (λ m. is_one_of (map item (lines x)) (name m)) (others x)) (list_all (λ x. list_all (λ m. is_one_of (map item (lines x)) (name m)) (others x)) xs) h in
      by_test (f x) k parts.0 (λ m. others_closed xs parts.1 m)
    where
      kept : List X
      kept = filter f xs

      inner : (ms : List M) → list_all (λ m. is_one_of (map item (lines x)) (name m)) ms ≡ true → list_all (λ l. q (item l)) (lines x) ≡ true → list_all (λ m. q (name m)) ms ≡ true
      inner [] i j = refl
      inner (m ∷ ms) i j =
          let ps = both_parts (is_one_of (map item (lines x)) (name m)) (list_all (λ m. is_one_of (map item (lines x)) (name m)) ms) i in
          both_true (one_of_all item q (lines x) j (name m) ps.0) (inner ms ps.1 j)

      by_test : (b : Bool) → list_all (λ x. list_all (λ l. q (item l)) (lines x)) (cond b (x ∷ kept) kept) ≡ true
          → list_all (λ m. is_one_of (map item (lines x)) (name m)) (others x) ≡ true
          → (list_all (λ x. list_all (λ l. q (item l)) (lines x)) kept ≡ true → list_all (λ x. list_all (λ m. q (name m)) (others x)) kept ≡ true)
          → list_all (λ x. list_all (λ m. q (name m)) (others x)) (cond b (x ∷ kept) kept) ≡ true
      by_test false i here more = more i
      by_test true i here more =
          let ps = both_parts (list_all (λ l. q (item l)) (lines x)) (list_all (λ x. list_all (λ l. q (item l)) (lines x)) kept) i in
          both_true (inner (others x) here ps.0) (more ps.1)
