-- What changes put into, take from or set in a depositor's rows, whose elements are blocks by their
-- own numbers.
use Rattle.std.proofs.Common.{◌≡◌, ℕ, ◌+◌, ◌<◌, Bool, true, false, List, [], ◌∷◌, ◌++◌, ◌⊎◌, map, refl, sym, ap, ◌∙◌, inl, inr, arith, Some, None, drop}
use Rattle.std.specs.Prelude.{fold, filter, find, flat_map, option_to_list, nat_lt, if◌then◌else◌}
use Rattle.std.specs.List.{list_all, enumerate_from}
use Rattle.std.proofs.lemmas.Bool.{and_parts, lt-ltb}
use Rattle.std.proofs.lemmas.List.Elements.{filter-append}
use Rattle.std.proofs.lemmas.Grind.{flat_map-append}
use Rattle.definitions.specs.Bytes.{comes_before}
use Rattle.definitions.specs.Tables.{Cell, Null, Number, Text, Blob, TableRow}
use Rattle.definitions.specs.Schema.{Schema, key_before, key_in, cells_in, put_row}
use Rattle.stock.specs.Keyed.{put_by, rises_by}
use Rattle.stock.proofs.Orders.{IsStrict}
use Rattle.stock.proofs.Keys.{IsTest, puts_later}
use Rattle.stock.proofs.KeyLemmas.{texts_strict, numbers_strict}
use Rattle.set_effects.proofs.KeyedLists.{both}
use Rattle.set_effects.proofs.Blocks.{prefixed, is_below, is_above, put_row_by, puts_map, puts_within, split, blocks, blocks_below, blocks_above}
use Rattle.set_effects.proofs.Tables.{last_cell}

-- the cells of a row's key after its first columns
abbrev pub rest_in : ℕ → Schema → TableRow → List Cell
rest_in n s row = cells_in s.key (drop n s.columns) row

-- putting in turn

pub folds_same : (s : Schema) (t : List ℕ) (rs T : List TableRow) → fold (λ (U : List TableRow) (r : TableRow). put_row s (Text t ∷ r) U) T rs
    ≡ fold (λ (U : List TableRow) (r : TableRow). put_by key_before (key_in s) (Text t ∷ r) U) T rs
folds_same s t [] T = refl
folds_same s t (r ∷ rs) T =
    ap (λ (U : List TableRow). fold (λ (V : List TableRow) (q : TableRow). put_row s (Text t ∷ q) V) U rs) (put_row_by s (Text t ∷ r) T)
    ∙ folds_same s t rs (put_by key_before (key_in s) (Text t ∷ r) T)

fold_prefixed : (key : TableRow → List Cell) (t : List ℕ) (rs T : List TableRow) → fold (λ (U : List TableRow) (r : TableRow). put_by key_before key r U) T (prefixed t rs)
    ≡ fold (λ (U : List TableRow) (r : TableRow). put_by key_before key (Text t ∷ r) U) T rs
fold_prefixed key t [] T = refl
fold_prefixed key t (r ∷ rs) T = fold_prefixed key t rs (put_by key_before key (Text t ∷ r) T)

-- Elements in order, each with a block of rows.

module _ {X : Type 0} (key rest : TableRow → List Cell) (first : (t : List ℕ) (row : TableRow) → key (Text t ∷ row) ≡ Text t ∷ rest row)
    (name : X → List ℕ) (rows : X → List TableRow) where
  apart_blocks : (front back : List X) → blocks name rows (front ++ back) ≡ blocks name rows front ++ blocks name rows back
  apart_blocks front back = flat_map-append (λ (x : X). prefixed (name x) (rows x)) front back

  -- a new element brings its rows
  pub block_opened : (is : X → Bool) (x : X) (xs : List X) → IsTest name (name x) is → rises_by comes_before name xs ≡ true → find is xs ≡ None
      → fold (λ (T : List TableRow) (r : TableRow). put_by key_before rest r T) [] (rows x) ≡ rows x
      → fold (λ (T : List TableRow) (r : TableRow). put_by key_before key (Text (name x) ∷ r) T) (blocks name rows xs) (rows x) ≡ blocks name rows (put_by comes_before name x xs)
  block_opened is x xs test rises none own =
      let s = split comes_before texts_strict name is x test xs rises in
      let t = name x in
      let A = blocks name rows s.front in
      let C = blocks name rows s.back in
      let empty : s.old ≡ [] = sym s.found ∙ ap option_to_list none in
      let there : blocks name rows xs ≡ A ++ (prefixed t [] ++ C) =
      ap (blocks name rows) (s.all ∙ ap (λ (ys : List X). s.front ++ (ys ++ s.back)) empty) ∙ apart_blocks s.front s.back in
      ap (λ (T : List TableRow). fold (λ (U : List TableRow) (r : TableRow). put_by key_before key (Text t ∷ r) U) T (rows x)) there
      ∙ puts_within key rest first t A [] C (rows x) (blocks_below name rows t s.front s.below) (blocks_above name rows t s.back s.above)
      ∙ ap (λ (B : List TableRow). A ++ (prefixed t B ++ C)) own
      ∙ sym (ap (blocks name rows) s.put ∙ apart_blocks s.front (x ∷ s.back))

-- an element in the place of one with its name and its rows
pub block_kept : {X : Type 0} (name : X → List ℕ) (rows : X → List TableRow) (is : X → Bool) (x y : X) (xs : List X) → IsTest name (name x) is → rises_by comes_before name xs ≡ true
    → find is xs ≡ Some y → name y ≡ name x → rows y ≡ rows x → blocks name rows (put_by comes_before name x xs) ≡ blocks name rows xs
block_kept {X} name rows is x y xs test rises some same own =
    let s = split comes_before texts_strict name is x test xs rises in
    let full : s.old ≡ y ∷ [] = sym s.found ∙ ap option_to_list some in
    ap (blocks name rows) s.put ∙ flat_map-append (λ (z : X). prefixed (name z) (rows z)) s.front (x ∷ s.back)
    ∙ (λ i. blocks name rows s.front ++ (prefixed (sym same i) (sym own i) ++ blocks name rows s.back))
    ∙ sym (ap (blocks name rows) (s.all ∙ ap (λ (ys : List X). s.front ++ (ys ++ s.back)) full) ∙ flat_map-append (λ (z : X). prefixed (name z) (rows z)) s.front (y ∷ s.back))

-- What a test takes away.

filter_prefixed : (p : TableRow → Bool) (t : List ℕ) (rs : List TableRow) → ((r : TableRow) → p (Text t ∷ r) ≡ true) → filter p (prefixed t rs) ≡ prefixed t rs
filter_prefixed p t [] h = refl
filter_prefixed p t (r ∷ rs) h = λ i. if h r i then (Text t ∷ r) ∷ filter_prefixed p t rs h i else filter p (prefixed t rs)

filter_gone : (p : TableRow → Bool) (t : List ℕ) (rs : List TableRow) → ((r : TableRow) → p (Text t ∷ r) ≡ false) → filter p (prefixed t rs) ≡ []
filter_gone p t [] h = refl
filter_gone p t (r ∷ rs) h = ap (λ (b : Bool). if b then (Text t ∷ r) ∷ filter p (prefixed t rs) else filter p (prefixed t rs)) (h r) ∙ filter_gone p t rs h

filter_blocks : {X : Type 0} (p : TableRow → Bool) (name : X → List ℕ) (rows : X → List TableRow) (q : X → Bool) (xs : List X) → ((x : X) (r : TableRow) → q x ≡ true → p (Text (name x) ∷ r) ≡ true)
    → list_all q xs ≡ true → filter p (blocks name rows xs) ≡ blocks name rows xs
filter_blocks p name rows q [] keeps h = refl
filter_blocks p name rows q (x ∷ xs) keeps h =
    let a = and_parts (q x) (list_all q xs) h in
    filter-append p (prefixed (name x) (rows x)) (blocks name rows xs)
    ∙ (λ i. filter_prefixed p (name x) (rows x) (λ r. keeps x r a.0) i ++ filter_blocks p name rows q xs keeps a.1 i)

-- an element in the place of one with its name, whose rows are taken away
pub block_freed : {X : Type 0} (p : TableRow → Bool) (name : X → List ℕ) (rows : X → List TableRow) (is : X → Bool) (x y : X) (xs : List X) → IsTest name (name x) is → rises_by comes_before name xs ≡ true
    → find is xs ≡ Some y → name y ≡ name x → rows x ≡ []
    → ((s : List ℕ) (r : TableRow) → (comes_before s (name x) ≡ true) ⊎ (comes_before (name x) s ≡ true) → p (Text s ∷ r) ≡ true) → ((r : TableRow) → p (Text (name x) ∷ r) ≡ false)
    → filter p (blocks name rows xs) ≡ blocks name rows (put_by comes_before name x xs)
block_freed {X} p name rows is x y xs test rises some same none keeps frees =
    let s = split comes_before texts_strict name is x test xs rises in
    let full : s.old ≡ y ∷ [] = sym s.found ∙ ap option_to_list some in
    let A = blocks name rows s.front in
    let C = blocks name rows s.back in
    let there : blocks name rows xs ≡ A ++ (prefixed (name y) (rows y) ++ C) =
    ap (blocks name rows) (s.all ∙ ap (λ (ys : List X). s.front ++ (ys ++ s.back)) full) ∙ flat_map-append (λ (z : X). prefixed (name z) (rows z)) s.front (y ∷ s.back) in
    let left : filter p A ≡ A = filter_blocks p name rows (λ (z : X). comes_before (name z) (name x)) s.front (λ z r h. keeps (name z) r (inl h)) s.below in
    let right : filter p C ≡ C = filter_blocks p name rows (λ (z : X). comes_before (name x) (name z)) s.back (λ z r h. keeps (name z) r (inr h)) s.above in
    let gone : filter p (prefixed (name y) (rows y)) ≡ [] = ap (λ (t : List ℕ). filter p (prefixed t (rows y))) same ∙ filter_gone p (name x) (rows y) frees in
    ap (filter p) there ∙ filter-append p A (prefixed (name y) (rows y) ++ C)
    ∙ (λ i. left i ++ filter-append p (prefixed (name y) (rows y)) C i)
    ∙ (λ i. A ++ (gone i ++ right i))
    ∙ sym (ap (blocks name rows) s.put ∙ flat_map-append (λ (z : X). prefixed (name z) (rows z)) s.front (x ∷ s.back) ∙ (λ i. A ++ (prefixed (name x) (none i) ++ C)))

-- Within a table.

pub filter_below : (p : TableRow → Bool) (t : List ℕ) (A : List TableRow) → ((s : List ℕ) (r : TableRow) → comes_before s t ≡ true → p (Text s ∷ r) ≡ true) → list_all (is_below t) A ≡ true → filter p A ≡ A
filter_below p t [] keeps h = refl
filter_below p t ((Text s ∷ q) ∷ A) keeps h =
    let a = and_parts (comes_before s t) (list_all (is_below t) A) h in
    λ i. if keeps s q a.0 i then (Text s ∷ q) ∷ filter_below p t A keeps a.1 i else filter p A
filter_below p t ([] ∷ A) keeps h = absurd (cc (h))
filter_below p t ((Null ∷ q) ∷ A) keeps h = absurd (cc (h))
filter_below p t ((Number n ∷ q) ∷ A) keeps h = absurd (cc (h))
filter_below p t ((Blob b ∷ q) ∷ A) keeps h = absurd (cc (h))

pub filter_above : (p : TableRow → Bool) (t : List ℕ) (A : List TableRow) → ((s : List ℕ) (r : TableRow) → comes_before t s ≡ true → p (Text s ∷ r) ≡ true) → list_all (is_above t) A ≡ true → filter p A ≡ A
filter_above p t [] keeps h = refl
filter_above p t ((Text s ∷ q) ∷ A) keeps h =
    let a = and_parts (comes_before t s) (list_all (is_above t) A) h in
    λ i. if keeps s q a.0 i then (Text s ∷ q) ∷ filter_above p t A keeps a.1 i else filter p A
filter_above p t ([] ∷ A) keeps h = absurd (cc (h))
filter_above p t ((Null ∷ q) ∷ A) keeps h = absurd (cc (h))
filter_above p t ((Number n ∷ q) ∷ A) keeps h = absurd (cc (h))
filter_above p t ((Blob b ∷ q) ∷ A) keeps h = absurd (cc (h))

filter_own : (p : TableRow → Bool) (t : List ℕ) (B : List TableRow) → filter p (prefixed t B) ≡ prefixed t (filter (λ (r : TableRow). p (Text t ∷ r)) B)
filter_own p t [] = refl
filter_own p t (b ∷ B) = ap (λ (T : List TableRow). if p (Text t ∷ b) then (Text t ∷ b) ∷ T else T) (filter_own p t B) ∙ by (p (Text t ∷ b))
  where
    by : (v : Bool) → (if v then (Text t ∷ b) ∷ prefixed t (filter (λ (r : TableRow). p (Text t ∷ r)) B) else prefixed t (filter (λ (r : TableRow). p (Text t ∷ r)) B))
        ≡ prefixed t (if v then b ∷ filter (λ (r : TableRow). p (Text t ∷ r)) B else filter (λ (r : TableRow). p (Text t ∷ r)) B)
    by true = refl
    by false = refl

pub filter_within : (p : TableRow → Bool) (t : List ℕ) (A B C : List TableRow) → ((s : List ℕ) (r : TableRow) → (comes_before s t ≡ true) ⊎ (comes_before t s ≡ true) → p (Text s ∷ r) ≡ true)
    → list_all (is_below t) A ≡ true → list_all (is_above t) C ≡ true
    → filter p (A ++ (prefixed t B ++ C)) ≡ A ++ (prefixed t (filter (λ (r : TableRow). p (Text t ∷ r)) B) ++ C)
filter_within p t A B C keeps below above =
    filter-append p A (prefixed t B ++ C)
    ∙ (λ i. filter_below p t A (λ s r h. keeps s r (inl h)) below i ++ filter-append p (prefixed t B) C i)
    ∙ (λ i. A ++ (filter_own p t B i ++ filter_above p t C (λ s r h. keeps s r (inr h)) above i))

-- Rows of lines.

pub map_prefixed : {X : Type 0} (t : List ℕ) (g : X → TableRow) (xs : List X) → map (λ (x : X). Text t ∷ g x) xs ≡ prefixed t (map g xs)
map_prefixed t g [] = refl
map_prefixed t g (x ∷ xs) = ap (λ (T : List TableRow). (Text t ∷ g x) ∷ T) (map_prefixed t g xs)

-- numbered elements put in turn
numbers_rise : {X : Type 0} (n m : ℕ) (xs : List X) → n < m → list_all (λ (p : ℕ × X). nat_lt n p.0) (enumerate_from m xs) ≡ true
numbers_rise n m [] h = refl
numbers_rise {X} n m (x ∷ xs) h = both (nat_lt n m) (list_all (λ (p : ℕ × X). nat_lt n p.0) (enumerate_from (m + 1) xs)) (lt-ltb n m h) (numbers_rise n (m + 1) xs (omega (arith, h)))

enumerated_rise : {X : Type 0} (n : ℕ) (xs : List X) → rises_by nat_lt (λ (p : ℕ × X). p.0) (enumerate_from n xs) ≡ true
enumerated_rise n [] = refl
enumerated_rise {X} n (x ∷ xs) = both (list_all (λ (p : ℕ × X). nat_lt n p.0) (enumerate_from (n + 1) xs)) (rises_by nat_lt (λ (p : ℕ × X). p.0) (enumerate_from (n + 1) xs))
    (numbers_rise n (n + 1) xs (omega arith)) (enumerated_rise (n + 1) xs)

-- what stands in order is what putting it in turn makes
pub puts_all : {X K : Type 0} (less : K → K → Bool) (strict : IsStrict less) (key : X → K) (rest : TableRow → List Cell) (g : X → TableRow)
    → ((x y : X) → key_before (rest (g x)) (rest (g y)) ≡ less (key x) (key y)) → (xs : List X) → rises_by less key xs ≡ true
    → fold (λ (T : List TableRow) (r : TableRow). put_by key_before rest r T) [] (map g xs) ≡ map g xs
puts_all less strict key rest g same xs rises = puts_map less key rest g same [] xs ∙ ap (map g) (puts_later less strict key [] xs rises)

pub puts_numbered : {X : Type 0} (rest : TableRow → List Cell) (g : ℕ × X → TableRow) → ((p : ℕ × X) → rest (g p) ≡ Number p.0 ∷ []) → (n : ℕ) (xs : List X)
    → fold (λ (T : List TableRow) (r : TableRow). put_by key_before rest r T) [] (map g (enumerate_from n xs)) ≡ map g (enumerate_from n xs)
puts_numbered {X} rest g number n xs = puts_all nat_lt numbers_strict (λ (p : ℕ × X). p.0) rest g
    (λ p q. (λ i. key_before (number p i) (number q i)) ∙ last_cell (nat_lt p.0 q.0) (nat_lt q.0 p.0)) (enumerate_from n xs) (enumerated_rise n xs)

-- Elements whose rows are cells with their names in front.

module _ {X : Type 0} (key rest : TableRow → List Cell) (first : (t : List ℕ) (row : TableRow) → key (Text t ∷ row) ≡ Text t ∷ rest row)
    (name : X → List ℕ) (rows cells : X → List TableRow) (as_block : (x : X) → cells x ≡ prefixed (name x) (rows x)) where
  pub cells_blocks : (xs : List X) → flat_map cells xs ≡ blocks name rows xs
  cells_blocks xs = ap (λ (f : X → List TableRow). flat_map f xs) (λ i x. as_block x i)

  pub cells_opened : (is : X → Bool) (x : X) (xs : List X) → IsTest name (name x) is → rises_by comes_before name xs ≡ true → find is xs ≡ None
      → fold (λ (T : List TableRow) (r : TableRow). put_by key_before rest r T) [] (rows x) ≡ rows x
      → fold (λ (T : List TableRow) (r : TableRow). put_by key_before key r T) (flat_map cells xs) (cells x) ≡ flat_map cells (put_by comes_before name x xs)
  cells_opened is x xs test rises none own =
      (λ i. fold (λ (T : List TableRow) (r : TableRow). put_by key_before key r T) (cells_blocks xs i) (as_block x i))
      ∙ fold_prefixed key (name x) (rows x) (blocks name rows xs)
      ∙ block_opened key rest first name rows is x xs test rises none own
      ∙ sym (cells_blocks (put_by comes_before name x xs))

  pub cells_kept : (is : X → Bool) (x y : X) (xs : List X) → IsTest name (name x) is → rises_by comes_before name xs ≡ true → find is xs ≡ Some y → name y ≡ name x → rows y ≡ rows x
      → flat_map cells xs ≡ flat_map cells (put_by comes_before name x xs)
  cells_kept is x y xs test rises some same own =
      cells_blocks xs ∙ sym (block_kept name rows is x y xs test rises some same own) ∙ sym (cells_blocks (put_by comes_before name x xs))
