-- The rows of an answer at their places, where they are what a model's rows show.
use Rattle.std.proofs.Common.{◌≡◌, ◌<◌, ◌≤◌, ℕ, zero, suc, ◌+◌, Bool, true, false, cond, List, [], ◌∷◌, ◌++◌, length, map, filter, take, drop, get_or, refl, sym, ap, subst, ◌∙◌, inl, inr, arith, append-nil, length-append}
use Rattle.std.specs.Prelude.{nat_lt, ◌==◌}
use Rattle.std.specs.List.{AllByRecursion}
use Rattle.std.proofs.lemmas.Bool.{eqb-true, lt-ltb, le-ltb}
use Rattle.std.proofs.lemmas.List.{drop_all, length-map}
use Rattle.std.proofs.lemmas.List.Elements.{filter-append}
use Rattle.sqlite_rules.specs.Lists.{Has}

module _ {M X : Type 0} (f : M → X) where
  -- what is shown at a place, the first rows with it, and those from there on
  pub record IsAtPlace (x : X) (ms : List M) (i : ℕ) : Type 0 where
    pub row : M
    pub there : Has ms row
    pub shows : x ≡ f row
    pub more : take (i + 1) ms ≡ take i ms ++ row ∷ []
    pub left : drop i ms ≡ row ∷ drop (i + 1) ms

  at_mapped : (ms : List M) (i : ℕ) (d : X) → i < length (map f ms) → (m : M) × Has ms m × (get_or (map f ms) i d ≡ f m) × (take (suc i) ms ≡ take i ms ++ m ∷ []) × (drop i ms ≡ m ∷ drop (suc i) ms)
  at_mapped [] i d within = absurd (omega (arith, within))
  at_mapped (m ∷ ms) zero d within = (m, inl refl, refl, refl, refl)
  at_mapped (m ∷ ms) (suc i) d within = let later = at_mapped ms i d (omega (arith, within)) in (later.0, inr later.1, later.2, ap (λ (ns : List M). m ∷ ns) later.3, later.4)

  pub at_place : (rows : List X) (ms : List M) (i : ℕ) (x : X) → rows ≡ map f ms → i < length rows → x ≡ get_or rows i x → IsAtPlace x ms i
  at_place rows ms i x is within here =
      let at = at_mapped ms i x (subst (λ (rs : List X). i < length rs) is within) in
      let one : i + 1 ≡ suc i = omega arith in
      record {
        row = at.0;
        there = at.1;
        shows = here ∙ ap (λ (rs : List X). get_or rs i x) is ∙ at.2;
        more = ap (λ (n : ℕ). take n ms) one ∙ at.3;
        left = at.4 ∙ ap (λ (n : ℕ). at.0 ∷ drop n ms) (sym one);
      }

-- all of a model's rows are before the end of what they show
pub whole_taken : {M X : Type 0} (f : M → X) (rows : List X) (ms : List M) (i : ℕ) → rows ≡ map f ms → length rows ≤ i → take i ms ≡ ms
whole_taken f rows ms i is past = taken ms i (omega (arith, past, ap length is, length-map ms f))
  where
    taken : {A : Type 0} (xs : List A) (n : ℕ) → length xs ≤ n → take n xs ≡ xs
    taken [] zero h = refl
    taken [] (suc n) h = refl
    taken (x ∷ xs) zero h = absurd (omega (arith, h))
    taken (x ∷ xs) (suc n) h = ap (λ ys. x ∷ ys) (taken xs n (omega (arith, h)))

-- and none is left after them
pub none_left : {M X : Type 0} (f : M → X) (rows : List X) (ms : List M) (i : ℕ) → rows ≡ map f ms → length rows ≤ i → drop i ms ≡ []
none_left f rows ms i is past = drop_all i ms (omega (arith, past, ap length is, length-map ms f))

-- the first ones and the one at a place
pub taken_more : {A : Type 0} (xs : List A) (i : ℕ) (x : A) → i < length xs → x ≡ get_or xs i x → take (i + 1) xs ≡ take i xs ++ x ∷ []
taken_more xs i x within here = ap (λ (n : ℕ). take n xs) (let one : i + 1 ≡ suc i = omega arith in one) ∙ go xs i x within here
  where
    go : {A : Type 0} (xs : List A) (i : ℕ) (x : A) → i < length xs → x ≡ get_or xs i x → take (suc i) xs ≡ take i xs ++ x ∷ []
    go [] i x within here = absurd (omega (arith, within))
    go (y ∷ xs) zero x within here = ap (λ z. z ∷ []) (sym here)
    go (y ∷ xs) (suc i) x within here = ap (λ ys. y ∷ ys) (go xs i x (omega (arith, within)) here)

pub all_more : {A : Type 0} (P : A → Type 0) (xs : List A) (x : A) → AllByRecursion P xs → P x → AllByRecursion P (xs ++ x ∷ [])
all_more P [] x all p = (p, tt)
all_more P (y ∷ xs) x all p = (all.0, all_more P xs x all.1 p)

-- one more makes it longer by one
pub one_longer : {A : Type 0} (xs ys : List A) (x : A) (n : ℕ) → ys ≡ xs ++ x ∷ [] → length xs ≡ n → length ys ≡ n + 1
one_longer xs ys x n more long = omega (arith, ap length more, length-append xs (x ∷ []), long)

-- one more that passes a test is kept, and one that doesn't isn't
pub kept_more : {M : Type 0} (p : M → Bool) (ms : List M) (m : M) → p m ≡ true → filter p (ms ++ m ∷ []) ≡ filter p ms ++ m ∷ []
kept_more {M} p ms m h = filter-append p ms (m ∷ []) ∙ ap (λ (b : Bool). filter p ms ++ cond b (m ∷ []) []) h

pub passed_more : {M : Type 0} (p : M → Bool) (ms : List M) (m : M) → p m ≡ false → filter p (ms ++ m ∷ []) ≡ filter p ms
passed_more {M} p ms m h = filter-append p ms (m ∷ []) ∙ ap (λ (b : Bool). filter p ms ++ cond b (m ∷ []) []) h ∙ append-nil (filter p ms)

pub not_none : (n : ℕ) → (n == 0) ≡ false → nat_lt 0 n ≡ true
not_none zero h = absurd (let e : ◌≡◌ {A = Bool} true false = h in cc)
not_none (suc n) h = lt-ltb 0 (suc n) (omega arith)

pub none_at_all : (n : ℕ) → (n == 0) ≡ true → nat_lt 0 n ≡ false
none_at_all n h = le-ltb 0 n (omega (arith, eqb-true n 0 h))

pub not_empty : {A : Type 0} (xs : List A) (b : Bool) → b ≡ (length xs == 0) → b ≡ false → xs ≡ [] → ⊥
not_empty {A} xs b tests fails none = absurd (let h : ◌≡◌ {A = Bool} true false = sym (tests ∙ ap (λ (ys : List A). length ys == 0) none) ∙ fails in cc)
