-- The numbers of rows.
use Rattle.std.proofs.Common.{◌≡◌, ℕ, ◌+◌, ◌<◌, ◌≤◌, Bool, true, false, ◌||◌, cond, eqb, List, [], ◌∷◌, ◌++◌, length, get_or, set, take, refl, ap, sym, ◌∙◌, arith, inl, inr, Some, None}
use Rattle.std.proofs.lemmas.Bool.{cases_Bool, eqb-true, ne_eqb}
use Rattle.std.proofs.lemmas.List.{take_more}
use Rattle.std.proofs.lemmas.List.Folds.{list_any-append, list_any_at}
use Rattle.std.specs.List.{list_any}
use Rattle.definitions.specs.Lists.{or_else}
use Rattle.definitions.specs.Rows.{LotRow}
use Rattle.definitions.specs.Means.{Line}
use Rattle.definitions.specs.Events.{is_pair}
use Rattle.definitions.specs.Movements.{Column, Expected, OnHand, Reservation, Shipped}
use Rattle.page_rows.specs.OfPairs.{is_row, of_pair, one, since, amount, named_by, marked, positive, first_number}
use Rattle.page_rows.specs.Keyed.{IsSorted}
use Rattle.page_rows.specs.Moved.{IsPlace, IsMarked}
use Rattle.page_rows.proofs.Dates.{date_kept}
use Rattle.page_rows.proofs.KeyLemmas.{sorted_distinct, sorted_kept}
use Rattle.page_rows.proofs.OfPairLemmas.{part, part_yes, part_no, of_pair_set, of_pair_kept, of_pair_here, row_at, row_as_line}
use Rattle.page_rows.proofs.Sums.{own_pair}

pub first_no : (n x : ℕ) → first_number n false x ≡ x
first_no n x = elim (cases_Bool (eqb x 0)) [ inl e ↦ rw e (sym (eqb-true x 0 e)) | inr e ↦ rw e refl ]

pub first_twice : (n x : ℕ) (p q : Bool) → 0 < n → first_number n q (first_number n p x) ≡ first_number n (p || q) x
first_twice n x p q h = elim (cases_Bool (eqb x 0)) [
  | inl e ↦ by p q e (ne_eqb n 0 (λ z. absurd (omega arith)))
  | inr e ↦ rw e (rw e refl)
]
  where
    by : (p q : Bool) → eqb x 0 ≡ true → eqb n 0 ≡ false → first_number n q (first_number n p x) ≡ first_number n (p || q) x
    by true q e f = rw e (rw f refl)
    by false q e f = rw e refl

amount_marked : (c : Column) (n : ℕ) (r : LotRow) → amount c (marked n r) ≡ amount c r
amount_marked Expected n r = refl
amount_marked OnHand n r = refl
amount_marked Reservation n r = refl
amount_marked Shipped n r = refl

or_false : (v : Bool) → (v || false) ≡ v
or_false true = refl
or_false false = refl

-- a row that a count names
pub marked_at : (n : ℕ) (line : Line) (rows : List LotRow) (i : ℕ) (r : LotRow) → IsSorted rows → IsPlace line.item line.lot rows i → r ≡ get_or rows i r
    → IsMarked n (line ∷ []) rows (set rows i (marked n r))
marked_at n line rows i r sorted place is =
    let distinct = sorted_distinct rows sorted in
    let at = row_at line rows i r place is in
    let y = marked n r in record {
      sorted = sorted_kept rows i r y sorted at.within is refl;
      amounts = λ c a b. of_pair_kept (amount c) line rows i r y at (λ a b. refl) (amount_marked c n r) a b;
      sinces = λ a b. elim (cases_Bool (is_pair a b line)) [
        | inl e ↦ let here : is_row a b r ≡ true = row_as_line a b line r at.here ∙ e in
            let old : of_pair since a b rows ≡ since r = of_pair_here since a b rows i r place.within (ap (is_row a b) (sym is) ∙ here) (distinct a b) ∙ ap since (sym is) in
            let t : of_pair since a b (set rows i y) ≡ since y = omega (arith, of_pair_set since a b rows i y r place.within, ap (part since a b) is, part_yes since a b r here, part_yes since a b y here, old) in
            t ∙ ap (first_number n true) (sym old) ∙ ap (λ (v : Bool). first_number n v (of_pair since a b rows)) (sym (or_false (is_pair a b line) ∙ e))
        | inr e ↦ let here : is_row a b r ≡ false = row_as_line a b line r at.here ∙ e in
            let t : of_pair since a b (set rows i y) ≡ of_pair since a b rows = omega (arith, of_pair_set since a b rows i y r place.within, ap (part since a b) is, part_no since a b r here, part_no since a b y here) in
            t ∙ sym (first_no n (of_pair since a b rows)) ∙ ap (λ (v : Bool). first_number n v (of_pair since a b rows)) (sym (or_false (is_pair a b line) ∙ e))
      ];
      expiries = date_kept rows i r y sorted at.within is refl refl;
      named = λ a b. of_pair_kept one line rows i r y at (λ a b. refl) refl a b;
    }

pub marked_more : (n : ℕ) (lines : List Line) (i : ℕ) (l : Line) (old mid new : List LotRow) → 0 < n → i < length lines → l ≡ get_or lines i l
    → IsMarked n (take i lines) old mid → IsMarked n (l ∷ []) mid new → IsMarked n (take (i + 1) lines) old new
marked_more n lines i l old mid new positive within is first next =
    let e : take (i + 1) lines ≡ take i lines ++ l ∷ [] = take_more lines i l within ∙ ap (λ (x : Line). take i lines ++ x ∷ []) (sym is) in
    rw e (record {
      sorted = next.sorted;
      amounts = λ c a b. next.amounts c a b ∙ first.amounts c a b;
      sinces = λ a b. next.sinces a b ∙ ap (first_number n (list_any (is_pair a b) (l ∷ []))) (first.sinces a b)
          ∙ first_twice n (of_pair since a b old) (list_any (is_pair a b) (take i lines)) (list_any (is_pair a b) (l ∷ [])) positive
          ∙ ap (λ (v : Bool). first_number n v (of_pair since a b old)) (sym (list_any-append (is_pair a b) (take i lines) (l ∷ [])));
      expiries = λ a b. next.expiries a b ∙ first.expiries a b;
      named = λ a b. next.named a b ∙ first.named a b;
    })

-- a line's pair is named by the lines
pub named_own : (lines : List Line) (i : ℕ) (l : Line) → i < length lines → l ≡ get_or lines i l → named_by lines l.item l.lot ≡ 1
named_own lines i l within is = ap (λ (v : Bool). cond v 1 0) (list_any_at (is_pair l.item l.lot) lines i l within (ap (is_pair l.item l.lot) (sym is) ∙ own_pair l))

pub next_named : (n : ℕ) (lines : List Line) (i : ℕ) (l : Line) (old mid : List LotRow) → i < length lines → l ≡ get_or lines i l
    → IsMarked n (take i lines) old mid → ((a b : List ℕ) → named_by lines a b ≤ of_pair one a b old) → 1 ≤ of_pair one l.item l.lot mid
next_named n lines i l old mid within is first there = omega (arith, first.named l.item l.lot, there l.item l.lot, named_own lines i l within is)

-- the first count that names a pair, after one more
pub first_positive : (n x : ℕ) (v : Bool) → 0 < n → or_else (positive x) (cond v (Some n) None) ≡ positive (first_number n v x)
first_positive n x v h = elim (cases_Bool (eqb x 0)) [
  | inl e ↦ rw e (by v (ne_eqb n 0 (λ z. absurd (omega arith))))
  | inr e ↦ rw e (rw e refl)
]
  where
    by : (v : Bool) → eqb n 0 ≡ false → cond v (Some n) None ≡ positive (cond v n 0)
    by true f = rw f refl
    by false f = refl
