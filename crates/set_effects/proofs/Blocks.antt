-- Tables of rows that begin with a text: blocks in the order of their texts, and what is put into
-- one of them.
use Rattle.std.proofs.Common.{◌≡◌, ℕ, Bool, true, false, not, ◌&&◌, ◌||◌, cond, List, [], ◌∷◌, ◌++◌, map, refl, sym, ap, ◌∙◌, subst, inl, inr, Some}
use Rattle.std.specs.Prelude.{fold, find, flat_map, option_to_list, if◌then◌else◌}
use Rattle.std.specs.List.{list_all}
use Rattle.std.proofs.lemmas.Bool.{cases_Bool, both_ways, and_parts}
use Rattle.std.proofs.lemmas.List.Folds.{list_all-append}
use Rattle.definitions.specs.Bytes.{comes_before}
use Rattle.definitions.specs.Tables.{Cell, Null, Number, Text, Blob, TableRow}
use Rattle.definitions.specs.Schema.{Schema, key_before, key_in, put_row}
use Rattle.stock.specs.Keyed.{put_by, rises_by}
use Rattle.stock.proofs.Orders.{IsStrict}
use Rattle.stock.proofs.Keys.{IsTest, all_further, find_above}
use Rattle.stock.proofs.Texts.{texts_never, texts_through}
use Rattle.set_effects.proofs.KeyedLists.{both}

-- the rows of a text
abbrev pub prefixed : List ℕ → List TableRow → List TableRow
prefixed t rows = map (λ (r : TableRow). Text t ∷ r) rows

-- a row whose text comes before t, and one whose text comes after it
abbrev pub is_below : List ℕ → TableRow → Bool
is_below t (Text s ∷ r) = comes_before s t
is_below t row = false

abbrev pub is_above : List ℕ → TableRow → Bool
is_above t (Text s ∷ r) = comes_before t s
is_above t row = false

pub not_back : (s t : List ℕ) → comes_before s t ≡ true → comes_before t s ≡ false
not_back s t h = elim (cases_Bool (comes_before t s)) [
  | inl e ↦ absurd (both_ways (comes_before s s) (texts_never s) (texts_through s t s h e))
  | inr e ↦ e
]

-- putting by a schema's key is putting by a key
pub put_row_by : (s : Schema) (row : TableRow) (rows : List TableRow) → put_row s row rows ≡ put_by key_before (key_in s) row rows
put_row_by s row [] = refl
put_row_by s row (r ∷ rs) =
    λ i. if key_before (key_in s row) (key_in s r) then row ∷ r ∷ rs else (if key_before (key_in s r) (key_in s row) then r ∷ put_row_by s row rs i else row ∷ rs)

-- what is put among mapped elements, where the two orders agree
pub put_map : {X K : Type 0} (less : K → K → Bool) (key : X → K) (rest : TableRow → List Cell) (g : X → TableRow) → ((x y : X) → key_before (rest (g x)) (rest (g y)) ≡ less (key x) (key y))
    → (x : X) (ys : List X) → put_by key_before rest (g x) (map g ys) ≡ map g (put_by less key x ys)
put_map less key rest g same x [] = refl
put_map {X} less key rest g same x (y ∷ ys) =
    (λ i. if same x y i then g x ∷ g y ∷ map g ys else (if same y x i then g y ∷ put_map less key rest g same x ys i else g x ∷ map g ys))
    ∙ by (less (key x) (key y)) (less (key y) (key x))
  where
    by : (v w : Bool) → (if v then g x ∷ g y ∷ map g ys else (if w then g y ∷ map g (put_by less key x ys) else g x ∷ map g ys))
        ≡ map g (if v then x ∷ y ∷ ys else (if w then y ∷ put_by less key x ys else x ∷ ys))
    by true w = refl
    by false true = refl
    by false false = refl

pub puts_map : {X K : Type 0} (less : K → K → Bool) (key : X → K) (rest : TableRow → List Cell) (g : X → TableRow) → ((x y : X) → key_before (rest (g x)) (rest (g y)) ≡ less (key x) (key y))
    → (ys xs : List X) → fold (λ (T : List TableRow) (r : TableRow). put_by key_before rest r T) (map g ys) (map g xs) ≡ map g (fold (λ (zs : List X) (x : X). put_by less key x zs) ys xs)
puts_map less key rest g same ys [] = refl
puts_map less key rest g same ys (x ∷ xs) =
    ap (λ (T : List TableRow). fold (λ (U : List TableRow) (r : TableRow). put_by key_before rest r U) T (map g xs)) (put_map less key rest g same x ys)
    ∙ puts_map less key rest g same (put_by less key x ys) xs

-- Blocks.

module _ (key rest : TableRow → List Cell) (first : (t : List ℕ) (row : TableRow) → key (Text t ∷ row) ≡ Text t ∷ rest row) where
  lower : (s t : List ℕ) (q r : TableRow) → comes_before s t ≡ true → key_before (key (Text s ∷ q)) (key (Text t ∷ r)) ≡ true
  lower s t q r h = (λ i. key_before (first s q i) (first t r i)) ∙ (λ i. h i || (not (comes_before t s) && key_before (rest q) (rest r)))

  not_higher : (s t : List ℕ) (q r : TableRow) → comes_before s t ≡ true → key_before (key (Text t ∷ r)) (key (Text s ∷ q)) ≡ false
  not_higher s t q r h = (λ i. key_before (first t r i) (first s q i)) ∙ (λ i. not_back s t h i || (not (h i) && key_before (rest r) (rest q)))

  level : (t : List ℕ) (q r : TableRow) → key_before (key (Text t ∷ q)) (key (Text t ∷ r)) ≡ key_before (rest q) (rest r)
  level t q r = (λ i. key_before (first t q i) (first t r i)) ∙ (λ i. texts_never t i || (not (texts_never t i) && key_before (rest q) (rest r)))

  put_later : (t : List ℕ) (r : TableRow) (A T : List TableRow) → list_all (is_below t) A ≡ true
      → put_by key_before key (Text t ∷ r) (A ++ T) ≡ A ++ put_by key_before key (Text t ∷ r) T
  put_later t r [] T h = refl
  put_later t r ((Text s ∷ q) ∷ A) T h =
      let a = and_parts (comes_before s t) (list_all (is_below t) A) h in
      (λ i. if not_higher s t q r a.0 i then (Text t ∷ r) ∷ (Text s ∷ q) ∷ (A ++ T)
      else (if lower s t q r a.0 i then (Text s ∷ q) ∷ put_later t r A T a.1 i else (Text t ∷ r) ∷ (A ++ T)))
  put_later t r ([] ∷ A) T h = absurd (cc (h))
  put_later t r ((Null ∷ q) ∷ A) T h = absurd (cc (h))
  put_later t r ((Number n ∷ q) ∷ A) T h = absurd (cc (h))
  put_later t r ((Blob b ∷ q) ∷ A) T h = absurd (cc (h))

  put_here : (t : List ℕ) (r : TableRow) (B C : List TableRow) → list_all (is_above t) C ≡ true
      → put_by key_before key (Text t ∷ r) (prefixed t B ++ C) ≡ prefixed t (put_by key_before rest r B) ++ C
  put_here t r [] [] h = refl
  put_here t r [] ((Text s ∷ q) ∷ C) h =
      let a = and_parts (comes_before t s) (list_all (is_above t) C) h in
      λ i. if lower t s r q a.0 i then (Text t ∷ r) ∷ (Text s ∷ q) ∷ C
      else (if key_before (key (Text s ∷ q)) (key (Text t ∷ r)) then (Text s ∷ q) ∷ put_by key_before key (Text t ∷ r) C else (Text t ∷ r) ∷ C)
  put_here t r [] ([] ∷ C) h = absurd (cc (h))
  put_here t r [] ((Null ∷ q) ∷ C) h = absurd (cc (h))
  put_here t r [] ((Number n ∷ q) ∷ C) h = absurd (cc (h))
  put_here t r [] ((Blob b ∷ q) ∷ C) h = absurd (cc (h))
  put_here t r (b ∷ B) C h =
      (λ i. if level t r b i then (Text t ∷ r) ∷ (Text t ∷ b) ∷ (prefixed t B ++ C)
      else (if level t b r i then (Text t ∷ b) ∷ put_here t r B C h i else (Text t ∷ r) ∷ (prefixed t B ++ C)))
      ∙ by (key_before (rest r) (rest b)) (key_before (rest b) (rest r))
    where
      by : (v w : Bool) → (if v then (Text t ∷ r) ∷ (Text t ∷ b) ∷ (prefixed t B ++ C) else (if w then (Text t ∷ b) ∷ (prefixed t (put_by key_before rest r B) ++ C) else (Text t ∷ r) ∷ (prefixed t B ++ C)))
          ≡ prefixed t (if v then r ∷ b ∷ B else (if w then b ∷ put_by key_before rest r B else r ∷ B)) ++ C
      by true w = refl
      by false true = refl
      by false false = refl

  -- what is put into the block of its text
  pub put_within : (t : List ℕ) (r : TableRow) (A B C : List TableRow) → list_all (is_below t) A ≡ true → list_all (is_above t) C ≡ true
      → put_by key_before key (Text t ∷ r) (A ++ (prefixed t B ++ C)) ≡ A ++ (prefixed t (put_by key_before rest r B) ++ C)
  put_within t r A B C below above = put_later t r A (prefixed t B ++ C) below ∙ ap (λ (T : List TableRow). A ++ T) (put_here t r B C above)

  pub puts_within : (t : List ℕ) (A B C : List TableRow) (rs : List TableRow) → list_all (is_below t) A ≡ true → list_all (is_above t) C ≡ true
      → fold (λ (T : List TableRow) (r : TableRow). put_by key_before key (Text t ∷ r) T) (A ++ (prefixed t B ++ C)) rs
      ≡ A ++ (prefixed t (fold (λ (T : List TableRow) (r : TableRow). put_by key_before rest r T) B rs) ++ C)
  puts_within t A B C [] below above = refl
  puts_within t A B C (r ∷ rs) below above =
      ap (λ (T : List TableRow). fold (λ (U : List TableRow) (q : TableRow). put_by key_before key (Text t ∷ q) U) T rs) (put_within t r A B C below above)
      ∙ puts_within t A (put_by key_before rest r B) C rs below above

-- A list in order, at a key.

-- where an element is put: between those before and those after it, in place of the one of its key
pub record IsSplit {X K : Type 0} (less : K → K → Bool) (key : X → K) (is : X → Bool) (x : X) (ys : List X) : Type 0 where
  pub front : List X
  pub old : List X
  pub back : List X
  pub all : ys ≡ front ++ (old ++ back)
  pub put : put_by less key x ys ≡ front ++ (x ∷ back)
  pub below : list_all (λ y. less (key y) (key x)) front ≡ true
  pub above : list_all (λ y. less (key x) (key y)) back ≡ true
  pub found : option_to_list (find is ys) ≡ old

module _ {X K : Type 0} (less : K → K → Bool) (strict : IsStrict less) (key : X → K) where
  pub split : (is : X → Bool) (x : X) → IsTest key (key x) is → (ys : List X) → rises_by less key ys ≡ true → IsSplit less key is x ys
  split is x test [] h = record { front = []; old = []; back = []; all = refl; put = refl; below = refl; above = refl; found = refl }
  split is x test (y ∷ ys) h = let a = and_parts (list_all (λ z. less (key y) (key z)) ys) (rises_by less key ys) h in elim (cases_Bool (less (key x) (key y))) [
    | inl f ↦
        let all : list_all (λ z. less (key x) (key z)) (y ∷ ys) ≡ true = both (less (key x) (key y)) (list_all (λ z. less (key x) (key z)) ys) f (all_further less strict key (key x) (key y) ys f a.0) in
        record {
          front = [];
          old = [];
          back = y ∷ ys;
          all = refl;
          put = rw f refl;
          below = refl;
          above = all;
          found = ap option_to_list (find_above less strict key (key x) is test (y ∷ ys) all);
        }
    | inr f ↦ elim (cases_Bool (less (key y) (key x))) [
      | inl g ↦
          let later = split is x test ys a.1 in
          let apart : is y ≡ false = elim (cases_Bool (is y)) [
            | inl e ↦ absurd (both_ways (less (key y) (key y)) (strict.never (key y)) (ap (less (key y)) (test.says y e) ∙ g))
            | inr e ↦ e
          ] in
          record {
            front = y ∷ later.front;
            old = later.old;
            back = later.back;
            all = ap (λ (zs : List X). y ∷ zs) later.all;
            put = rw (f, g) (ap (λ (zs : List X). y ∷ zs) later.put);
            below = both (less (key y) (key x)) (list_all (λ z. less (key z) (key x)) later.front) g later.below;
            above = later.above;
            found = ap (λ (b : Bool). option_to_list (cond b (Some y) (find is ys))) apart ∙ later.found;
          }
      | inr g ↦
          let same : key x ≡ key y = strict.total (key x) (key y) f g in
          record {
            front = [];
            old = y ∷ [];
            back = ys;
            all = refl;
            put = rw (f, g) refl;
            below = refl;
            above = subst (λ (k : K). list_all (λ z. less k (key z)) ys ≡ true) (sym same) a.0;
            found = ap (λ (b : Bool). option_to_list (cond b (Some y) (find is ys))) (test.said y (sym same));
          }
    ]
  ]

-- Blocks of elements that are named by texts.

abbrev pub blocks : {X : Type 0} → (X → List ℕ) → (X → List TableRow) → List X → List TableRow
blocks name rows xs = flat_map (λ x. prefixed (name x) (rows x)) xs

prefixed_below : (t s : List ℕ) (rs : List TableRow) → comes_before s t ≡ true → list_all (is_below t) (prefixed s rs) ≡ true
prefixed_below t s [] h = refl
prefixed_below t s (r ∷ rs) h = both (comes_before s t) (list_all (is_below t) (prefixed s rs)) h (prefixed_below t s rs h)

prefixed_above : (t s : List ℕ) (rs : List TableRow) → comes_before t s ≡ true → list_all (is_above t) (prefixed s rs) ≡ true
prefixed_above t s [] h = refl
prefixed_above t s (r ∷ rs) h = both (comes_before t s) (list_all (is_above t) (prefixed s rs)) h (prefixed_above t s rs h)

pub blocks_below : {X : Type 0} (name : X → List ℕ) (rows : X → List TableRow) (t : List ℕ) (xs : List X) → list_all (λ x. comes_before (name x) t) xs ≡ true → list_all (is_below t) (blocks name rows xs) ≡ true
blocks_below name rows t [] h = refl
blocks_below name rows t (x ∷ xs) h =
    let a = and_parts (comes_before (name x) t) (list_all (λ y. comes_before (name y) t) xs) h in
    list_all-append (is_below t) (prefixed (name x) (rows x)) (blocks name rows xs)
    ∙ both (list_all (is_below t) (prefixed (name x) (rows x))) (list_all (is_below t) (blocks name rows xs)) (prefixed_below t (name x) (rows x) a.0) (blocks_below name rows t xs a.1)

pub blocks_above : {X : Type 0} (name : X → List ℕ) (rows : X → List TableRow) (t : List ℕ) (xs : List X) → list_all (λ x. comes_before t (name x)) xs ≡ true → list_all (is_above t) (blocks name rows xs) ≡ true
blocks_above name rows t [] h = refl
blocks_above name rows t (x ∷ xs) h =
    let a = and_parts (comes_before t (name x)) (list_all (λ y. comes_before t (name y)) xs) h in
    list_all-append (is_above t) (prefixed (name x) (rows x)) (blocks name rows xs)
    ∙ both (list_all (is_above t) (prefixed (name x) (rows x))) (list_all (is_above t) (blocks name rows xs)) (prefixed_above t (name x) (rows x) a.0) (blocks_above name rows t xs a.1)
