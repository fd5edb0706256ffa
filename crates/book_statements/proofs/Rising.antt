-- Rows in the order of their keys: what is mapped, numbered, or made of blocks that begin with
-- their texts.
use Rattle.std.proofs.Common.{◌≡◌, ℕ, ◌+◌, ◌<◌, Bool, true, not, ◌&&◌, ◌||◌, List, [], ◌∷◌, ◌++◌, map, flat_map, refl, sym, ap, subst, ◌∙◌, inl, inr, arith}
use Rattle.std.specs.Prelude.{nat_lt}
use Rattle.std.specs.List.{list_all, enumerate_from}
use Rattle.std.proofs.lemmas.Bool.{and_parts, lt-ltb}
use Rattle.std.proofs.lemmas.List.Folds.{list_all-append}
use Rattle.sqlite_rules.specs.Lists.{Has}
use Rattle.sqlite_rules.proofs.ListLemmas.{has_either}
use Rattle.sqlite_rules.proofs.ProbeLemmas.{has_mapped}
use Rattle.definitions.specs.Bytes.{comes_before}
use Rattle.definitions.specs.Tables.{Cell, Null, Number, Text, Blob, TableRow}
use Rattle.definitions.specs.Schema.{Schema, key_before, key_in, is_by_key}
use Rattle.rules.specs.Keyed.{rises_by}
use Rattle.rules.proofs.Texts.{texts_never}
use Rattle.rules.proofs.KeyedLists.{both}
use Rattle.rules.proofs.Blocks.{prefixed, is_above, blocks, blocks_above}

-- each key before all after it: before the next
pub by_key : (s : Schema) (rows : List TableRow) → rises_by key_before (key_in s) rows ≡ true → is_by_key s rows ≡ true
by_key s [] h = refl
by_key s (r ∷ []) h = refl
by_key s (q ∷ r ∷ rs) h =
    let a = and_parts (list_all (λ (z : TableRow). key_before (key_in s q) (key_in s z)) (r ∷ rs)) (rises_by key_before (key_in s) (r ∷ rs)) h in
    let b = and_parts (key_before (key_in s q) (key_in s r)) (list_all (λ (z : TableRow). key_before (key_in s q) (key_in s z)) rs) a.0 in
    both (key_before (key_in s q) (key_in s r)) (is_by_key s (r ∷ rs)) b.0 (by_key s (r ∷ rs) a.1)

-- Mapped elements, where the two orders agree.

module _ {X K : Type 0} (less : K → K → Bool) (key : X → K) (rest : TableRow → List Cell) (g : X → TableRow) (same : (x y : X) → key_before (rest (g x)) (rest (g y)) ≡ less (key x) (key y)) where
  all_mapped : (x : X) (ys : List X) → list_all (λ (r : TableRow). key_before (rest (g x)) (rest r)) (map g ys) ≡ list_all (λ (y : X). less (key x) (key y)) ys
  all_mapped x [] = refl
  all_mapped x (y ∷ ys) = λ i. same x y i && all_mapped x ys i

  pub mapped_rise : (xs : List X) → rises_by key_before rest (map g xs) ≡ rises_by less key xs
  mapped_rise [] = refl
  mapped_rise (x ∷ xs) = λ i. all_mapped x xs i && mapped_rise xs i

-- Numbered elements.

higher : {X : Type 0} (n m : ℕ) (xs : List X) → n < m → list_all (λ (p : ℕ × X). nat_lt n p.0) (enumerate_from m xs) ≡ true
higher n m [] h = refl
higher {X} n m (x ∷ xs) h = both (nat_lt n m) (list_all (λ (p : ℕ × X). nat_lt n p.0) (enumerate_from (m + 1) xs)) (lt-ltb n m h) (higher n (m + 1) xs (omega (arith, h)))

pub numbers_rise : {X : Type 0} (n : ℕ) (xs : List X) → rises_by nat_lt (λ (p : ℕ × X). p.0) (enumerate_from n xs) ≡ true
numbers_rise n [] = refl
numbers_rise {X} n (x ∷ xs) = both (list_all (λ (p : ℕ × X). nat_lt n p.0) (enumerate_from (n + 1) xs)) (rises_by nat_lt (λ (p : ℕ × X). p.0) (enumerate_from (n + 1) xs))
    (higher n (n + 1) xs (omega arith)) (numbers_rise (n + 1) xs)

-- Blocks.

module _ (key rest : TableRow → List Cell) (first : (t : List ℕ) (row : TableRow) → key (Text t ∷ row) ≡ Text t ∷ rest row) where
  lower : (s t : List ℕ) (q r : TableRow) → comes_before s t ≡ true → key_before (key (Text s ∷ q)) (key (Text t ∷ r)) ≡ true
  lower s t q r h = (λ i. key_before (first s q i) (first t r i)) ∙ (λ i. h i || (not (comes_before t s) && key_before (rest q) (rest r)))

  level : (t : List ℕ) (q r : TableRow) → key_before (key (Text t ∷ q)) (key (Text t ∷ r)) ≡ key_before (rest q) (rest r)
  level t q r = (λ i. key_before (first t q i) (first t r i)) ∙ (λ i. texts_never t i || (not (texts_never t i) && key_before (rest q) (rest r)))

  before_above : (t : List ℕ) (q : TableRow) (C : List TableRow) → list_all (is_above t) C ≡ true → list_all (λ (r : TableRow). key_before (key (Text t ∷ q)) (key r)) C ≡ true
  before_above t q [] h = refl
  before_above t q ((Text s ∷ r) ∷ C) h =
      let a = and_parts (comes_before t s) (list_all (is_above t) C) h in
      both (key_before (key (Text t ∷ q)) (key (Text s ∷ r))) (list_all (λ (z : TableRow). key_before (key (Text t ∷ q)) (key z)) C) (lower t s q r a.0) (before_above t q C a.1)
  before_above t q ([] ∷ C) h = absurd (cc (h))
  before_above t q ((Null ∷ r) ∷ C) h = absurd (cc (h))
  before_above t q ((Number n ∷ r) ∷ C) h = absurd (cc (h))
  before_above t q ((Blob b ∷ r) ∷ C) h = absurd (cc (h))

  before_own : (t : List ℕ) (q : TableRow) (B : List TableRow) → list_all (λ (r : TableRow). key_before (key (Text t ∷ q)) (key r)) (prefixed t B) ≡ list_all (λ (r : TableRow). key_before (rest q) (rest r)) B
  before_own t q [] = refl
  before_own t q (b ∷ B) = λ i. level t q b i && before_own t q B i

  -- rows of a text before rows of texts after it
  block_rises : (t : List ℕ) (B C : List TableRow) → rises_by key_before rest B ≡ true → list_all (is_above t) C ≡ true → rises_by key_before key C ≡ true
      → rises_by key_before key (prefixed t B ++ C) ≡ true
  block_rises t [] C own above back = back
  block_rises t (b ∷ B) C own above back =
      let a = and_parts (list_all (λ (r : TableRow). key_before (rest b) (rest r)) B) (rises_by key_before rest B) own in
      let p : TableRow → Bool = λ (r : TableRow). key_before (key (Text t ∷ b)) (key r) in
      both (list_all p (prefixed t B ++ C)) (rises_by key_before key (prefixed t B ++ C))
      (list_all-append p (prefixed t B) C ∙ both (list_all p (prefixed t B)) (list_all p C) (before_own t b B ∙ a.0) (before_above t b C above))
      (block_rises t B C a.1 above back)

  pub blocks_rise : {X : Type 0} (name : X → List ℕ) (rows : X → List TableRow) (xs : List X) → rises_by comes_before name xs ≡ true → ((x : X) → Has xs x → rises_by key_before rest (rows x) ≡ true)
      → rises_by key_before key (blocks name rows xs) ≡ true
  blocks_rise name rows [] h each = refl
  blocks_rise {X} name rows (x ∷ xs) h each =
      let a = and_parts (list_all (λ (y : X). comes_before (name x) (name y)) xs) (rises_by comes_before name xs) h in
      block_rises (name x) (rows x) (blocks name rows xs) (each x (inl refl)) (blocks_above name rows (name x) xs a.0) (blocks_rise name rows xs a.1 (λ y there. each y (inr there)))

  -- the same of elements whose rows are cells with their names in front
  pub cells_rise : {X : Type 0} (name : X → List ℕ) (rows cells : X → List TableRow) → ((x : X) → cells x ≡ prefixed (name x) (rows x)) → (xs : List X) → rises_by comes_before name xs ≡ true
      → ((x : X) → Has xs x → rises_by key_before rest (rows x) ≡ true) → rises_by key_before key (flat_map cells xs) ≡ true
  cells_rise {X} name rows cells as_block xs h each =
      ap (λ (f : X → List TableRow). rises_by key_before key (flat_map f xs)) (λ i x. as_block x i) ∙ blocks_rise name rows xs h each

-- What a table of blocks has.

pub has_flat : {X Y : Type 0} (f : X → List Y) (xs : List X) (y : Y) → Has (flat_map f xs) y → (x : X) × Has xs x × Has (f x) y
has_flat f [] y h = absurd h
has_flat f (x ∷ xs) y h = elim (has_either (f x) (flat_map f xs) y h) [
  | inl here ↦ (x, inl refl, here)
  | inr there ↦ let later = has_flat f xs y there in (later.0, inr later.1, later.2)
]

-- what holds of each row with its text in front holds of all rows of blocks
pub each_block : {X : Type 0} (P : TableRow → Type 0) (name : X → List ℕ) (rows : X → List TableRow) (xs : List X) → ((x : X) (r : TableRow) → Has (rows x) r → P (Text (name x) ∷ r))
    → (row : TableRow) → Has (blocks name rows xs) row → P row
each_block P name rows xs each row h =
    let at = has_flat (λ x. prefixed (name x) (rows x)) xs row h in
    let is = has_mapped (λ (r : TableRow). Text (name at.0) ∷ r) (rows at.0) row at.2 in
    subst P (sym is.2) (each at.0 is.0 is.1)

pub each_mapped : {X : Type 0} (P : TableRow → Type 0) (g : X → TableRow) (xs : List X) → ((x : X) → P (g x)) → (row : TableRow) → Has (map g xs) row → P row
each_mapped P g xs each row h = let is = has_mapped g xs row h in subst P (sym is.2) (each is.0)
