-- What lines give, as they are taken one by one.
use Rattle.std.proofs.Common.{◌≡◌, ℕ, ◌+◌, ◌<◌, ◌≤◌, max, Bool, true, false, ◌||◌, cond, List, [], ◌∷◌, ◌++◌, length, get_or, take, refl, ap, sym, ◌∙◌, arith, inl, inr}
use Rattle.std.proofs.lemmas.Bool.{cases_Bool}
use Rattle.std.proofs.lemmas.List.{take_more}
use Rattle.std.proofs.lemmas.List.Sums.{sum_by-cons, sum_by-append, sum_by_more_le}
use Rattle.std.proofs.lemmas.List.Folds.{list_any-append}
use Rattle.std.specs.Prelude.{sum_by, filter}
use Rattle.std.specs.List.{list_any}
use Rattle.definitions.specs.Rows.{LotRow}
use Rattle.definitions.specs.Means.{Line}
use Rattle.definitions.specs.Events.{is_pair, quantity_of}
use Rattle.definitions.specs.Movements.{Column, Expected, OnHand, Reservation, Shipped, column_eq}
use Rattle.page_rows.specs.OfPairs.{of_pair, amount, given, named_by}
use Rattle.page_rows.specs.Moved.{IsAdded, IsTaken}
use Rattle.page_rows.proofs.OfPairLemmas.{same_bytes}

-- one line's part of what is given to a pair
abbrev pub share : List ℕ → List ℕ → Line → ℕ
share a b l = cond (is_pair a b l) l.quantity 0

pub quantity_as : (lines : List Line) (a b : List ℕ) → quantity_of lines a b ≡ sum_by (share a b) lines
quantity_as [] a b = refl
quantity_as (l ∷ ls) a b = elim (cases_Bool (is_pair a b l)) [
  | inl e ↦ omega (
    arith,
    sum_by-cons (share a b) l ls,
    quantity_as ls a b,
    (ap (λ (v : Bool). cond v l.quantity 0) e),
    (ap (λ (v : Bool). sum_by (λ (m : Line). m.quantity) (cond v (l ∷ filter (is_pair a b) ls) (filter (is_pair a b) ls))) e),
    sum_by-cons (λ (m : Line). m.quantity) l (filter (is_pair a b) ls),
  )
  | inr e ↦ omega (
    arith,
    sum_by-cons (share a b) l ls,
    quantity_as ls a b,
    (ap (λ (v : Bool). cond v l.quantity 0) e),
    (ap (λ (v : Bool). sum_by (λ (m : Line). m.quantity) (cond v (l ∷ filter (is_pair a b) ls) (filter (is_pair a b) ls))) e),
  )
]

pub quantity_append : (xs ys : List Line) (a b : List ℕ) → quantity_of (xs ++ ys) a b ≡ quantity_of xs a b + quantity_of ys a b
quantity_append xs ys a b = omega (arith, quantity_as (xs ++ ys) a b, quantity_as xs a b, quantity_as ys a b, sum_by-append (share a b) xs ys)

pub given_append : (k : Column) (xs ys : List Line) (c : Column) (a b : List ℕ) → given k (xs ++ ys) c a b ≡ given k xs c a b + given k ys c a b
given_append k xs ys c a b = elim (cases_Bool (column_eq k c))
    [ inl e ↦ rw e (quantity_append xs ys a b) | inr e ↦ rw e refl ]

pub column_same : (k : Column) → column_eq k k ≡ true
column_same Expected = refl
column_same OnHand = refl
column_same Reservation = refl
column_same Shipped = refl

pub given_here : (k : Column) (lines : List Line) (a b : List ℕ) → given k lines k a b ≡ quantity_of lines a b
given_here k lines a b = rw (column_same k) refl

pub named_append : (xs ys : List Line) (a b : List ℕ) → named_by (xs ++ ys) a b ≡ max (named_by xs a b) (named_by ys a b)
named_append xs ys a b = rw (list_any-append (is_pair a b) xs ys) (by (list_any (is_pair a b) xs) (list_any (is_pair a b) ys))
  where
    by : (p q : Bool) → cond (p || q) 1 0 ≡ max (cond p 1 0) (cond q 1 0)
    by true true = refl
    by true false = refl
    by false true = refl
    by false false = refl

pub own_pair : (l : Line) → is_pair l.item l.lot l ≡ true
own_pair l = rw (same_bytes l.item, same_bytes l.lot) refl

-- what the lines before one give its pair, with its own quantity, is within what all give
pub quantity_next : (lines : List Line) (i : ℕ) (l : Line) → i < length lines → l ≡ get_or lines i l
    → quantity_of (take i lines) l.item l.lot + l.quantity ≤ quantity_of lines l.item l.lot
quantity_next lines i l within is =
    omega (
      arith,
      quantity_as (take i lines) l.item l.lot,
      quantity_as lines l.item l.lot,
      sum_by_more_le (share l.item l.lot) lines i l within,
      ap (share l.item l.lot) is,
      (ap (λ (v : Bool). cond v l.quantity 0) (own_pair l)),
    )

pub named_few : (lines : List Line) (a b : List ℕ) → named_by lines a b ≤ 1
named_few lines a b = elim (cases_Bool (list_any (is_pair a b) lines)) [ inl e ↦ rw e (omega arith) | inr e ↦ rw e (omega arith) ]

-- one line more
pub added_more : (k : Column) (lines : List Line) (i : ℕ) (l : Line) (old mid new : List LotRow) → i < length lines → l ≡ get_or lines i l
    → IsAdded k (take i lines) old mid → IsAdded k (l ∷ []) mid new → IsAdded k (take (i + 1) lines) old new
added_more k lines i l old mid new within is first next =
    let e : take (i + 1) lines ≡ take i lines ++ l ∷ [] = take_more lines i l within ∙ ap (λ (x : Line). take i lines ++ x ∷ []) (sym is) in
    rw e (record {
      sorted = next.sorted;
      amounts = λ c a b. omega (arith, first.amounts c a b, next.amounts c a b, given_append k (take i lines) (l ∷ []) c a b);
      sinces = λ a b. next.sinces a b ∙ first.sinces a b;
      expiries = λ a b. next.expiries a b ∙ first.expiries a b;
      named = λ a b. omega (arith, first.named a b, next.named a b, named_append (take i lines) (l ∷ []) a b);
    })

pub taken_more : (k : Column) (lines : List Line) (i : ℕ) (l : Line) (old mid new : List LotRow) → i < length lines → l ≡ get_or lines i l
    → IsTaken k (take i lines) old mid → IsTaken k (l ∷ []) mid new → IsTaken k (take (i + 1) lines) old new
taken_more k lines i l old mid new within is first next =
    let e : take (i + 1) lines ≡ take i lines ++ l ∷ [] = take_more lines i l within ∙ ap (λ (x : Line). take i lines ++ x ∷ []) (sym is) in
    rw e (record {
      sorted = next.sorted;
      amounts = λ c a b. omega (arith, first.amounts c a b, next.amounts c a b, given_append k (take i lines) (l ∷ []) c a b);
      sinces = λ a b. next.sinces a b ∙ first.sinces a b;
      expiries = λ a b. next.expiries a b ∙ first.expiries a b;
      named = λ a b. next.named a b ∙ first.named a b;
    })

-- the next line fits, and is there
pub next_fits : (k : Column) (lines : List Line) (i : ℕ) (l : Line) (old mid : List LotRow) (m : ℕ) → i < length lines → l ≡ get_or lines i l
    → IsAdded k (take i lines) old mid → ((a b : List ℕ) → of_pair (amount k) a b old + quantity_of lines a b < m)
    → of_pair (amount k) l.item l.lot mid + l.quantity < m
next_fits k lines i l old mid m within is first fits =
    omega (arith, first.amounts k l.item l.lot, given_here k (take i lines) l.item l.lot, fits l.item l.lot, quantity_next lines i l within is)

pub next_there : (k : Column) (lines : List Line) (i : ℕ) (l : Line) (old mid : List LotRow) → i < length lines → l ≡ get_or lines i l
    → IsTaken k (take i lines) old mid → ((a b : List ℕ) → quantity_of lines a b ≤ of_pair (amount k) a b old)
    → l.quantity ≤ of_pair (amount k) l.item l.lot mid
next_there k lines i l old mid within is first there =
    omega (arith, first.amounts k l.item l.lot, given_here k (take i lines) l.item l.lot, there l.item l.lot, quantity_next lines i l within is)

-- the same of any pair that the line names
pub pair_next : (lines : List Line) (i : ℕ) (l : Line) (a b : List ℕ) → i < length lines → l ≡ get_or lines i l → is_pair a b l ≡ true
    → quantity_of (take i lines) a b + l.quantity ≤ quantity_of lines a b
pair_next lines i l a b within is e =
    omega (arith, quantity_as (take i lines) a b, quantity_as lines a b, sum_by_more_le (share a b) lines i l within, ap (share a b) is, (ap (λ (v : Bool). cond v l.quantity 0) e))
