-- A line whose pair stood before is found by the rows of the lines before it.
use Rattle.std.proofs.Common.{◌≡◌, ℕ, ◌+◌, ◌<◌, ◌≤◌, max, Bool, true, false, ◌&&◌, ◌||◌, cond, List, [], ◌∷◌, ◌++◌, map, length, get_or, take, drop, Some, refl, ap, sym, ◌∙◌, arith, inl, inr}
use Rattle.std.proofs.lemmas.Bool.{cases_Bool, both_ways}
use Rattle.std.proofs.lemmas.List.{take_more, map_push, drop_more}
use Rattle.std.proofs.lemmas.Slice.Eq.{bytes_eq-Decides}
use Rattle.std.specs.Prelude.{bytes_eq}
use Rattle.std.specs.List.{list_any}
use Rattle.definitions.specs.Means.{Line, AdviceLine, OrderLine}
use Rattle.definitions.specs.Bytes.{is_one_of}
use Rattle.definitions.specs.Page.{PageLine}
use Rattle.page_rows.specs.Soundness.{item_alone}
use Rattle.definitions.specs.Events.{is_pair, repeated, same_advice_pair, same_order_item}
use Rattle.definitions.specs.Rows.{LotRow}
use Rattle.page_rows.specs.Keyed.{IsSorted}
use Rattle.page_rows.specs.OfPairs.{of_pair, one, named_by, AreRowsOf}
use Rattle.page_rows.specs.Moved.{IsPlace, IsPlaced}
use Rattle.page_rows.proofs.Sums.{named_append}
use Rattle.page_rows.proofs.OfPairLemmas.{of_pair_there}

-- no row of a pair: none of the lines is of it
pub none_among : (item lot : List ℕ) (lines : List Line) (rows : List LotRow) → AreRowsOf lines rows
    → of_pair one item lot rows ≡ 0 → list_any (is_pair item lot) lines ≡ false
none_among item lot lines rows are none = by (list_any (is_pair item lot) lines) (sym (are item lot) ∙ none)
  where
    by : (v : Bool) → cond {A = ℕ} v 1 0 ≡ 0 → v ≡ false
    by true e = absurd (omega (arith, e))
    by false e = refl

-- a row of it: one of them is
pub one_among : (item lot : List ℕ) (lines : List Line) (rows : List LotRow) (i : ℕ) → AreRowsOf lines rows
    → IsPlace item lot rows i → (d : LotRow) → list_any (is_pair item lot) lines ≡ true
one_among item lot lines rows i are place d =
    let there = of_pair_there item lot rows i d place.within (place.here d) in
    by (list_any (is_pair item lot) lines) (omega (arith, there, are item lot))
  where
    by : (v : Bool) → 1 ≤ cond {A = ℕ} v 1 0 → v ≡ true
    by true e = refl
    by false e = absurd (omega (arith, e))

-- What is alike by its line.

-- two are alike where the line of the one is of the pair of the other's
abbrev pub AreAlike : {X : Type 0} → (X → X → Bool) → (X → Line) → Type 0
AreAlike {X} same f = (x : X) (xs : List X) → list_any (is_pair (f x).item (f x).lot) (map f xs) ≡ list_any (same x) xs

pub advised_alike : AreAlike same_advice_pair (λ (l : AdviceLine). l.line)
advised_alike x [] = refl
advised_alike x (l ∷ ls) = ap (λ (v : Bool). same_advice_pair x l || v) (advised_alike x ls)

-- an item, without a lot
abbrev pub item_line : OrderLine → Line
item_line l = record { item = l.item; lot = []; quantity = 0 }

same_way : (a b : List ℕ) → bytes_eq a b ≡ bytes_eq b a
same_way a b = elim (cases_Bool (bytes_eq a b)) [
  | inl e ↦ e ∙ sym ((bytes_eq-Decides b a).1 (sym ((bytes_eq-Decides a b).0 e)))
  | inr e ↦ elim (cases_Bool (bytes_eq b a)) [
    | inl f ↦ absurd (both_ways (bytes_eq a b) e ((bytes_eq-Decides a b).1 (sym ((bytes_eq-Decides b a).0 f))))
    | inr f ↦ e ∙ sym f
  ]
]

with_none : (v : Bool) → (v && true) ≡ v
with_none true = refl
with_none false = refl

pub items_alike : AreAlike same_order_item item_line
items_alike x [] = refl
items_alike x (l ∷ ls) = (λ j. one j || items_alike x ls j)
  where
    one : is_pair x.item [] (item_line l) ≡ same_order_item x l
    one = with_none (bytes_eq l.item x.item) ∙ same_way l.item x.item

-- an item is that of one of the lines of a known order
pub item_among : (item : List ℕ) (ms : List PageLine) → list_any (is_pair item []) (map item_alone ms) ≡ is_one_of (map (λ m. m.item) ms) item
item_among item [] = refl
item_among item (m ∷ ms) = (λ j. one j || item_among item ms j)
  where
    one : is_pair item [] (item_alone m) ≡ bytes_eq item m.item
    one = with_none (bytes_eq m.item item) ∙ same_way m.item item

-- one line more has its row
pub rows_more : {X : Type 0} (f : X → Line) (xs : List X) (i : ℕ) (x : X) (old new : List LotRow) (k : ℕ)
    → i < length xs → x ≡ get_or xs i x → AreRowsOf (map f (take i xs)) old → IsPlaced old new (f x) k → AreRowsOf (map f (take (i + 1) xs)) new
rows_more {X} f xs i x old new k within is are placed = λ a b.
    placed.named a b
    ∙ ap (λ (n : ℕ). max n (named_by (f x ∷ []) a b)) (are a b)
    ∙ sym (named_append (map f (take i xs)) (f x ∷ []) a b)
    ∙ ap (λ (ls : List Line). named_by ls a b) (sym (map_push f (take i xs) x))
    ∙ ap (λ (ys : List X). named_by (map f ys) a b) (sym (take_more xs i x within ∙ ap (λ (y : X). take i xs ++ y ∷ []) (sym is)))

-- the lines of those before a place have these rows, and none of them is like one before it
pub record HaveStood {X : Type 0} (same : X → X → Bool) (f : X → Line) (xs : List X) (i : ℕ) (rows : List LotRow) : Type 0 where
  pub sorted : IsSorted rows
  pub are : AreRowsOf (map f (take i xs)) rows
  pub first : repeated same [] xs ≡ repeated same (take i xs) (drop i xs)

-- the next isn't like one before it
pub stood_more : {X : Type 0} (same : X → X → Bool) (f : X → Line) (xs : List X) (i : ℕ) (x : X) (old new : List LotRow) (k : ℕ)
    → AreAlike same f → i < length xs → x ≡ get_or xs i x → HaveStood same f xs i old
    → list_any (is_pair (f x).item (f x).lot) (map f (take i xs)) ≡ false
    → IsPlaced old new (f x) k → HaveStood same f xs (i + 1) new
stood_more {X} same f xs i x old new k alike within is stood none placed = record {
  sorted = placed.sorted;
  are = rows_more f xs i x old new k within is stood.are placed;
  first = stood.first
      ∙ ap (repeated same (take i xs)) rest
      ∙ ap (λ (v : Bool). cond v (Some x) (repeated same (take i xs ++ x ∷ []) (drop (i + 1) xs))) (sym (alike x (take i xs)) ∙ none)
      ∙ ap (λ (ys : List X). repeated same ys (drop (i + 1) xs)) (sym more);
}
  where
    more : take (i + 1) xs ≡ take i xs ++ x ∷ []
    more = take_more xs i x within ∙ ap (λ (y : X). take i xs ++ y ∷ []) (sym is)

    rest : drop i xs ≡ x ∷ drop (i + 1) xs
    rest = drop_more xs i x within ∙ ap (λ (y : X). y ∷ drop (i + 1) xs) (sym is)

-- the next is
pub stood_again : {X : Type 0} (same : X → X → Bool) (f : X → Line) (xs : List X) (i : ℕ) (x : X) (rows : List LotRow)
    → AreAlike same f → i < length xs → x ≡ get_or xs i x → HaveStood same f xs i rows
    → list_any (is_pair (f x).item (f x).lot) (map f (take i xs)) ≡ true → repeated same [] xs ≡ Some x
stood_again {X} same f xs i x rows alike within is stood there =
    stood.first ∙ ap (repeated same (take i xs)) rest
    ∙ ap (λ (v : Bool). cond v (Some x) (repeated same (take i xs ++ x ∷ []) (drop (i + 1) xs))) (sym (alike x (take i xs)) ∙ there)
  where
    rest : drop i xs ≡ x ∷ drop (i + 1) xs
    rest = drop_more xs i x within ∙ ap (λ (y : X). y ∷ drop (i + 1) xs) (sym is)
