-- Rows with given amounts exist.
use Rattle.std.proofs.Common.{◌≡◌, ℕ, ◌≤◌, max, Bool, true, false, ◌||◌, cond, List, [], ◌∷◌, ◌++◌, map, refl, sym, ◌∙◌, arith, inl, inr, Option, None}
use Rattle.std.proofs.lemmas.Bool.{cases_Bool}
use Rattle.std.proofs.lemmas.List.Folds.{list_any-append}
use Rattle.std.specs.List.{list_any}
use Rattle.definitions.specs.Events.{is_pair}
use Rattle.definitions.specs.Means.{Line}
use Rattle.definitions.specs.Movements.{Column, Expected, OnHand, Reservation, Shipped}
use Rattle.definitions.specs.Rows.{LotRow}
use Rattle.page_rows.specs.Keyed.{IsSorted, put_row}
use Rattle.page_rows.specs.OfPairs.{of_pair, date_of_pair, one, since, amount, is_row, named_by}
use Rattle.page_rows.proofs.Dates.{date_put}
use Rattle.page_rows.proofs.KeyLemmas.{put_sorted, of_pair_put, sorted_distinct}
use Rattle.page_rows.proofs.OfPairLemmas.{pair_is, of_pair_cons, part_yes, part_no}

-- the row of a pair with a date, a number and amounts
abbrev row_for : (List ℕ → List ℕ → Option (List ℕ)) → (List ℕ → List ℕ → ℕ) → (Column → List ℕ → List ℕ → ℕ) → List ℕ → List ℕ → LotRow
row_for t s g a b = record {
  item = a;
  lot = b;
  expiry = t a b;
  since = s a b;
  expected = g Expected a b;
  on_hand = g OnHand a b;
  reserved = g Reservation a b;
  shipped = g Shipped a b;
}

-- such a row for each pair that lines name
abbrev built : (List ℕ → List ℕ → Option (List ℕ)) → (List ℕ → List ℕ → ℕ) → (Column → List ℕ → List ℕ → ℕ) → List Line → List LotRow
built t s g [] = []
built t s g (l ∷ ls) = put_row (row_for t s g l.item l.lot) (built t s g ls)

built_sorted : (t : List ℕ → List ℕ → Option (List ℕ)) (s : List ℕ → List ℕ → ℕ) (g : Column → List ℕ → List ℕ → ℕ) (ls : List Line) → IsSorted (built t s g ls)
built_sorted t s g [] = refl
built_sorted t s g (l ∷ ls) = put_sorted (row_for t s g l.item l.lot) (built t s g ls) (built_sorted t s g ls)

built_tells : (f : LotRow → ℕ) (t : List ℕ → List ℕ → Option (List ℕ)) (s : List ℕ → List ℕ → ℕ) (g : Column → List ℕ → List ℕ → ℕ) (a b : List ℕ) (ls : List Line)
    → of_pair f a b (built t s g ls) ≡ cond (list_any (is_pair a b) ls) (f (row_for t s g a b)) 0
built_tells f t s g a b [] = refl
built_tells f t s g a b (l ∷ ls) =
    of_pair_put f a b (row_for t s g l.item l.lot) (built t s g ls) (built_sorted t s g ls) ∙ elim (cases_Bool (is_pair a b l)) [
      | inl e ↦ let same = pair_is a b l e in rw e (λ i. f (row_for t s g (same.0 i) (same.1 i)))
      | inr e ↦ rw e (built_tells f t s g a b ls)
    ]

built_date : (t : List ℕ → List ℕ → Option (List ℕ)) (s : List ℕ → List ℕ → ℕ) (g : Column → List ℕ → List ℕ → ℕ) (a b : List ℕ) (ls : List Line)
    → date_of_pair a b (built t s g ls) ≡ cond (list_any (is_pair a b) ls) (t a b) None
built_date t s g a b [] = refl
built_date t s g a b (l ∷ ls) =
    date_put a b (row_for t s g l.item l.lot) (built t s g ls) ∙ elim (cases_Bool (is_pair a b l)) [
      | inl e ↦ let same = pair_is a b l e in rw e (λ i. t (same.0 i) (same.1 i))
      | inr e ↦ rw e (built_date t s g a b ls)
    ]

-- the pair of a row
abbrev line_of : LotRow → Line
line_of r = record { item = r.item; lot = r.lot; quantity = 0 }

row_named : (a b : List ℕ) (rows : List LotRow) → list_any (is_pair a b) (map line_of rows) ≡ false
    → of_pair one a b rows ≡ 0
row_named a b [] h = refl
row_named a b (r ∷ rows) h = elim (cases_Bool (is_row a b r)) [
  | inl e ↦ let no : true ≡ false = rw e at h in absurd (cc)
  | inr e ↦ omega (arith, of_pair_cons one a b r rows, part_no one a b r e, row_named a b rows (rw e at h))
]

row_unnamed : (a b : List ℕ) (rows : List LotRow) → list_any (is_pair a b) (map line_of rows) ≡ true
    → 1 ≤ of_pair one a b rows
row_unnamed a b [] h = absurd (cc)
row_unnamed a b (r ∷ rows) h = elim (cases_Bool (is_row a b r)) [
  | inl e ↦ omega (arith, of_pair_cons one a b r rows, part_yes one a b r e)
  | inr e ↦ omega (arith, of_pair_cons one a b r rows, row_unnamed a b rows (rw e at h))
]

-- rows with these dates, numbers and amounts, of the pairs that rows have and of those that lines
-- name
pub record IsMade (t : List ℕ → List ℕ → Option (List ℕ)) (s : List ℕ → List ℕ → ℕ) (g : Column → List ℕ → List ℕ → ℕ) (lines : List Line) (old new : List LotRow) : Type 0 where
  pub sorted : IsSorted new
  pub amounts : (c : Column) (a b : List ℕ) → of_pair (amount c) a b new ≡ g c a b
  pub sinces : (a b : List ℕ) → of_pair since a b new ≡ s a b
  pub expiries : (a b : List ℕ) → date_of_pair a b new ≡ t a b
  pub named : (a b : List ℕ) → of_pair one a b new ≡ max (of_pair one a b old) (named_by lines a b)

-- they exist, where nothing is given to the other pairs
pub rows_made : (t : List ℕ → List ℕ → Option (List ℕ)) (s : List ℕ → List ℕ → ℕ) (g : Column → List ℕ → List ℕ → ℕ) (lines : List Line) (old : List LotRow)
    → IsSorted old
    → ((a b : List ℕ) → of_pair one a b old ≡ 0 → list_any (is_pair a b) lines ≡ false → (s a b ≡ 0) × ((c : Column) → g c a b ≡ 0) × (t a b ≡ None))
    → (new : List LotRow) × IsMade t s g lines old new
rows_made t s g lines old sorted nothing = (
  new,
  record {
    sorted = built_sorted t s g all;
    amounts = λ c a b. built_tells (amount c) t s g a b all ∙ amount_of c a b (list_any (is_pair a b) all) refl;
    expiries = λ a b. built_date t s g a b all ∙ date_of a b (list_any (is_pair a b) all) refl;
    sinces = λ a b. built_tells since t s g a b all ∙ since_of a b (list_any (is_pair a b) all) refl;
    named = λ a b. built_tells one t s g a b all
        ∙ one_of a b (list_any (is_pair a b) (map line_of old)) (list_any (is_pair a b) lines) refl refl;
  },
)
  where
    all : List Line
    all = map line_of old ++ lines

    new : List LotRow
    new = built t s g all

    neither : (v w : Bool) → (v || w) ≡ false → (v ≡ false) × (w ≡ false)
    neither true w h = absurd (cc)
    neither false w h = (refl, h)

    parts : (a b : List ℕ) → list_any (is_pair a b) all ≡ false
        → (of_pair one a b old ≡ 0) × (list_any (is_pair a b) lines ≡ false)
    parts a b h =
        let by_both = sym (list_any-append (is_pair a b) (map line_of old) lines) ∙ h in
        let p = neither (list_any (is_pair a b) (map line_of old)) (list_any (is_pair a b) lines) by_both in
        (row_named a b old p.0, p.1)

    amount_here : (c : Column) (a b : List ℕ) → amount c (row_for t s g a b) ≡ g c a b
    amount_here Expected a b = refl
    amount_here OnHand a b = refl
    amount_here Reservation a b = refl
    amount_here Shipped a b = refl

    amount_of : (c : Column) (a b : List ℕ) (v : Bool) → list_any (is_pair a b) all ≡ v
        → cond v (amount c (row_for t s g a b)) 0 ≡ g c a b
    amount_of c a b true e = amount_here c a b
    amount_of c a b false e = let p = parts a b e in sym ((nothing a b p.0 p.1).1 c)

    since_of : (a b : List ℕ) (v : Bool) → list_any (is_pair a b) all ≡ v → cond v (since (row_for t s g a b)) 0 ≡ s a b
    since_of a b true e = refl
    since_of a b false e = let p = parts a b e in sym ((nothing a b p.0 p.1).0)

    date_of : (a b : List ℕ) (v : Bool) → list_any (is_pair a b) all ≡ v → cond v (t a b) None ≡ t a b
    date_of a b true e = refl
    date_of a b false e = let p = parts a b e in sym ((nothing a b p.0 p.1).2)

    one_of : (a b : List ℕ) (v w : Bool) → list_any (is_pair a b) (map line_of old) ≡ v
        → list_any (is_pair a b) lines ≡ w
        → cond (list_any (is_pair a b) all) (one (row_for t s g a b)) 0 ≡ max (of_pair one a b old) (named_by lines a b)
    one_of a b v w e f = rw (list_any-append (is_pair a b) (map line_of old) lines, e, f) (count v w e)
      where
        count : (v w : Bool) → list_any (is_pair a b) (map line_of old) ≡ v
            → cond (v || w) 1 0 ≡ max (of_pair one a b old) (cond w 1 0)
        count true true e = omega (arith, row_unnamed a b old e, sorted_distinct old sorted a b)
        count true false e = omega (arith, row_unnamed a b old e, sorted_distinct old sorted a b)
        count false true e = omega (arith, row_named a b old e)
        count false false e = omega (arith, row_named a b old e)
