-- Lists in the order of their keys, each key once.
use Rattle.std.specs.Prelude.{◌≡◌, ℕ, Bool, true, ◌&&◌, ◌||◌, List, [], ◌∷◌, if◌then◌else◌, bytes_eq, nat_lt, length, slice_index_or, ◌≤◌, ◌<◌, false}
use Rattle.std.specs.List.{list_all}
use Rattle.std.specs.Cmp.Lexicographic.{slice_cmp}
use Rattle.std.specs.Ordering.{nat_cmp}
use Rattle.std.specs.declared.cmp.Ordering.{Ordering}
use Rattle.definitions.specs.Bytes.{comes_before}
use Rattle.definitions.specs.Rows.{LotRow}
use Rattle.definitions.specs.Page.{PageAdvice, PageOrder, PageDocument}

-- put by its key: in place of what has the key, else in its place among the others
abbrev pub put_by : {X K : Type 0} → (K → K → Bool) → (X → K) → X → List X → List X
put_by less key x [] = x ∷ []
put_by less key x (y ∷ ys) =
    if less (key x) (key y) then x ∷ y ∷ ys
    else (if less (key y) (key x) then y ∷ put_by less key x ys else x ∷ ys)

-- whether each key comes before all after it
abbrev pub rises_by : {X K : Type 0} → (K → K → Bool) → (X → K) → List X → Bool
rises_by less key [] = true
rises_by less key (x ∷ xs) = list_all (λ y. less (key x) (key y)) xs && rises_by less key xs

-- i elements have a key before k, and they stand first
pub record IsRank
    {X K : Type 0} (less : K → K → Bool) (key : X → K) (xs : List X) (k : K) (i : ℕ) : Type 0 where
  pub bound : i ≤ length xs
  pub below : (j : ℕ) (d : X) → j < i → less (key (slice_index_or xs j d)) k ≡ true
  pub above : (j : ℕ) (d : X) → i ≤ j → j < length xs → less (key (slice_index_or xs j d)) k ≡ false

-- The keys of a page's lists: rows by item and then lot bytes, advices and orders by the bytes of
-- their numbers, documents by theirs.

-- how a text stands to another by their bytes
abbrev pub text_order : List ℕ → List ℕ → Ordering
text_order a b = slice_cmp nat_cmp a b

abbrev pub Pair : Type 0
Pair = List ℕ × List ℕ

abbrev pub key_before : Pair → Pair → Bool
key_before a b = comes_before a.0 b.0 || (bytes_eq a.0 b.0 && comes_before a.1 b.1)

abbrev pub row_key : LotRow → Pair
row_key r = (r.item, r.lot)

abbrev pub put_row : LotRow → List LotRow → List LotRow
put_row r rows = put_by key_before row_key r rows

abbrev pub IsSorted : List LotRow → Type 0
IsSorted rows = rises_by key_before row_key rows ≡ true

abbrev pub shipment_of : PageAdvice → List ℕ
shipment_of k = k.shipment

abbrev pub put_advice : PageAdvice → List PageAdvice → List PageAdvice
put_advice k ks = put_by comes_before shipment_of k ks

abbrev pub number_of : PageOrder → List ℕ
number_of k = k.number

abbrev pub put_order : PageOrder → List PageOrder → List PageOrder
put_order k ks = put_by comes_before number_of k ks

abbrev pub entry_of : PageDocument → ℕ
entry_of d = d.n

abbrev pub put_document : PageDocument → List PageDocument → List PageDocument
put_document d ds = put_by nat_lt entry_of d ds
