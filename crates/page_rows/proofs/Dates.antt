-- The dates of pairs, as rows are put.
use Rattle.std.proofs.Common.{◌≡◌, ℕ, zero, suc, ◌<◌, Bool, true, false, ◌&&◌, cond, List, [], ◌∷◌, length, get_or, set, refl, ap, sym, ◌∙◌, inl, inr, arith, Option, Some, None}
use Rattle.std.proofs.lemmas.Bool.{cases_Bool}
use Rattle.std.proofs.lemmas.List.{get_or_default}
use Rattle.std.proofs.lemmas.Slice.Eq.{bytes_eq-Decides}
use Rattle.std.specs.Prelude.{bytes_eq, find, option_and_then}
use Rattle.std.specs.List.{insert}
use Rattle.definitions.specs.Means.{Line}
use Rattle.definitions.specs.Rows.{LotRow}
use Rattle.page_rows.specs.Keyed.{Pair, key_before, row_key, put_row, IsSorted}
use Rattle.page_rows.specs.Moved.{IsPlace}
use Rattle.page_rows.specs.OfPairs.{is_row, of_pair, date_of_pair, one, blank, same_date}
use Rattle.page_rows.proofs.Keys.{was, find_put, at_set}
use Rattle.page_rows.proofs.KeyLemmas.{pairs_strict, row_test, of_pair_found}

-- One date.

pub same_date_self : (o : Option (List ℕ)) → same_date o o ≡ true
same_date_self None = refl
same_date_self (Some x) = (bytes_eq-Decides x x).1 refl

pub same_date_is : (o q : Option (List ℕ)) → same_date o q ≡ true → o ≡ q
same_date_is None None h = refl
same_date_is None (Some y) h = absurd (cc)
same_date_is (Some x) None h = absurd (cc)
same_date_is (Some x) (Some y) h = ap Some ((bytes_eq-Decides x y).0 h)

-- rows that no number tells apart have one date
pub dates_same : (r s : LotRow) → ((f : LotRow → ℕ) → f r ≡ f s) → r.expiry ≡ s.expiry
dates_same r s same = elim (cases_Bool (same_date r.expiry s.expiry)) [
  | inl e ↦ same_date_is r.expiry s.expiry e
  | inr e ↦ absurd (omega (
    arith,
    same (λ x. cond {A = ℕ} (same_date r.expiry x.expiry) 1 0),
    ap (λ (v : Bool). cond {A = ℕ} v 1 0) (same_date_self r.expiry),
    ap (λ (v : Bool). cond {A = ℕ} v 1 0) e,
  ))
]

abbrev date_in : Option LotRow → Option (List ℕ)
date_in o = option_and_then (λ r. r.expiry) o

-- of which rows all the same is told, the same date is told
pub same_dates_of : (a b : List ℕ) (xs ys : List LotRow) → IsSorted xs → IsSorted ys → ((f : LotRow → ℕ) → of_pair f a b xs ≡ of_pair f a b ys)
    → date_of_pair a b xs ≡ date_of_pair a b ys
same_dates_of a b xs ys sorted rises same =
    by (find (is_row a b) xs) (find (is_row a b) ys) (λ f. sym (of_pair_found f a b xs sorted) ∙ same f ∙ of_pair_found f a b ys rises)
  where
    by : (o q : Option LotRow) → ((f : LotRow → ℕ) → was f o ≡ was f q) → date_in o ≡ date_in q
    by (Some r) (Some s) h = dates_same r s h
    by (Some r) None h = absurd (omega (arith, h one))
    by None (Some s) h = absurd (omega (arith, h one))
    by None None h = refl

-- a pair without a row has none
pub date_absent : (a b : List ℕ) (rows : List LotRow) → IsSorted rows → of_pair one a b rows ≡ 0 → date_of_pair a b rows ≡ None
date_absent a b rows sorted none = by (find (is_row a b) rows) (sym (of_pair_found one a b rows sorted) ∙ none)
  where
    by : (o : Option LotRow) → was one o ≡ 0 → date_in o ≡ None
    by (Some r) h = absurd (omega (arith, h))
    by None h = refl

-- Rows that are put.

pub date_put : (a b : List ℕ) (r : LotRow) (rows : List LotRow) → date_of_pair a b (put_row r rows) ≡ cond (is_row a b r) r.expiry (date_of_pair a b rows)
date_put a b r rows = ap date_in (find_put key_before pairs_strict row_key (a, b) (is_row a b) (row_test a b) r rows) ∙ by (is_row a b r)
  where
    by : (v : Bool) → date_in (cond v (Some r) (find (is_row a b) rows)) ≡ cond v r.expiry (date_of_pair a b rows)
    by true = refl
    by false = refl

-- y stands in the place of r, with its key
pub date_set : (a b : List ℕ) (rows : List LotRow) (i : ℕ) (r y : LotRow) → IsSorted rows → i < length rows → r ≡ get_or rows i r
    → row_key y ≡ row_key r → date_of_pair a b (set rows i y) ≡ cond (is_row a b y) y.expiry (date_of_pair a b rows)
date_set a b rows i r y sorted within is same =
    ap (date_of_pair a b) (at_set key_before pairs_strict row_key rows i y sorted within (ap row_key (get_or_default rows i y r within ∙ sym is) ∙ sym same))
    ∙ date_put a b y rows

set_same : (rows : List LotRow) (i : ℕ) (r : LotRow) → i < length rows → r ≡ get_or rows i r → set rows i r ≡ rows
set_same [] i r within is = absurd (omega arith)
set_same (x ∷ xs) zero r within is = ap (λ (y : LotRow). y ∷ xs) is
set_same (x ∷ xs) (suc i) r within is = ap (λ (ys : List LotRow). x ∷ ys) (set_same xs i r (omega arith) is)

-- the date of a row is that of its pair
pub date_here : (a b : List ℕ) (rows : List LotRow) (i : ℕ) (r : LotRow) → IsSorted rows → i < length rows → r ≡ get_or rows i r
    → is_row a b r ≡ true → date_of_pair a b rows ≡ r.expiry
date_here a b rows i r sorted within is here =
    ap (date_of_pair a b) (sym (set_same rows i r within is)) ∙ date_set a b rows i r r sorted within is refl
    ∙ ap (λ (v : Bool). cond v r.expiry (date_of_pair a b rows)) here

pub date_place : (a b : List ℕ) (rows : List LotRow) (i : ℕ) (r : LotRow) → IsSorted rows → IsPlace a b rows i → r ≡ get_or rows i r
    → date_of_pair a b rows ≡ r.expiry
date_place a b rows i r sorted place is = date_here a b rows i r sorted place.within is (ap (is_row a b) is ∙ place.here r)

key_named : (a b : List ℕ) (r y : LotRow) → row_key y ≡ row_key r → is_row a b y ≡ is_row a b r
key_named a b r y same = ap (λ (k : Pair). bytes_eq k.0 a && bytes_eq k.1 b) same

-- a row in the place of one with its key and its date
pub date_kept : (rows : List LotRow) (i : ℕ) (r y : LotRow) → IsSorted rows → i < length rows → r ≡ get_or rows i r
    → row_key y ≡ row_key r → y.expiry ≡ r.expiry → (a b : List ℕ) → date_of_pair a b (set rows i y) ≡ date_of_pair a b rows
date_kept rows i r y sorted within is same date a b = date_set a b rows i r y sorted within is same ∙ by (is_row a b y) refl
  where
    by : (v : Bool) → is_row a b y ≡ v → cond v y.expiry (date_of_pair a b rows) ≡ date_of_pair a b rows
    by true e = date ∙ sym (date_here a b rows i r sorted within is (sym (key_named a b r y same) ∙ e))
    by false e = refl

-- a row more, with nothing in it
pub date_blank : (line : Line) (rows : List LotRow) (i : ℕ) → IsSorted rows → insert rows i (blank line) ≡ put_row (blank line) rows
    → of_pair one line.item line.lot rows ≡ 0 → (a b : List ℕ) → date_of_pair a b (insert rows i (blank line)) ≡ date_of_pair a b rows
date_blank line rows i sorted put none a b = ap (date_of_pair a b) put ∙ date_put a b (blank line) rows ∙ by (is_row a b (blank line)) refl
  where
    by : (v : Bool) → is_row a b (blank line) ≡ v → cond v None (date_of_pair a b rows) ≡ date_of_pair a b rows
    by true e =
        let key : (line.item, line.lot) ≡ (a, b) = (row_test a b).says (blank line) e in
        sym (date_absent a b rows sorted (ap (λ (k : Pair). of_pair one k.0 k.1 rows) (sym key) ∙ none))
    by false e = refl
