-- Rows that are there, as lines raise or set them.
use Rattle.std.proofs.Common.{◌≡◌, ℕ, ◌+◌, ◌<◌, ◌≤◌, true, false, cond, List, [], ◌∷◌, ◌++◌, length, get_or, set, take, refl, ap, sym, ◌∙◌, arith, inl, inr}
use Rattle.std.proofs.lemmas.Bool.{cases_Bool}
use Rattle.std.proofs.lemmas.List.{take_more}
use Rattle.std.proofs.lemmas.List.Sums.{fold-append}
use Rattle.definitions.specs.Rows.{LotRow}
use Rattle.definitions.specs.Means.{Line}
use Rattle.definitions.specs.Events.{is_pair, quantity_of}
use Rattle.definitions.specs.Movements.{Column, Expected, OnHand, Reservation, Shipped, column_eq}
use Rattle.page_rows.specs.OfPairs.{is_row, of_pair, one, since, amount, named_by, raised, with_on_hand, IsDistinct}
use Rattle.page_rows.specs.Keyed.{IsSorted}
use Rattle.page_rows.proofs.Dates.{date_kept}
use Rattle.page_rows.proofs.KeyLemmas.{sorted_distinct, sorted_kept}
use Rattle.page_rows.specs.Moved.{IsPlace, IsTaken, IsRaised, IsShipped, SetsOnHand, set_by}
use Rattle.page_rows.proofs.OfPairLemmas.{part, part_yes, part_no, of_pair_set, of_pair_kept, of_pair_here, IsRowAt, row_at, row_as_line, of_pair_named, placed_there, added_at, given_one, of_pair_absent}
use Rattle.page_rows.proofs.Sums.{given_append, given_here, quantity_next}
use Rattle.stock.proofs.Marks.{named_own}

pub raised_at : (k : Column) (line : Line) (rows : List LotRow) (i : ℕ) (r : LotRow) → IsSorted rows → IsPlace line.item line.lot rows i → r ≡ get_or rows i r
    → IsRaised k (line ∷ []) rows (set rows i (raised k line.quantity r))
raised_at k line rows i r sorted place is =
    let added = added_at k line rows rows i r (placed_there line rows i sorted place) is in record {
      sorted = added.sorted;
      amounts = added.amounts;
      sinces = added.sinces;
      expiries = added.expiries;
      named = λ a b. omega (arith, added.named a b, of_pair_named line rows i place a b);
    }

-- nothing comes to a pair without a row
pub raised_none : (k : Column) (line : Line) (rows : List LotRow) → IsSorted rows → line.quantity ≡ 0 → IsRaised k (line ∷ []) rows rows
raised_none k line rows sorted nothing = record {
  sorted = sorted;
  amounts = λ c a b. elim (cases_Bool (is_pair a b line)) [
    | inl e ↦ elim (cases_Bool (column_eq k c))
        [ inl f ↦ rw (given_one k line c a b, e, f) (omega (arith, nothing)) | inr f ↦ rw (given_one k line c a b, e, f) (omega arith) ]
    | inr e ↦ rw (given_one k line c a b, e) (omega arith)
  ];
  sinces = λ a b. refl;
  expiries = λ a b. refl;
  named = λ a b. refl;
}

pub raised_more : (k : Column) (lines : List Line) (i : ℕ) (l : Line) (old mid new : List LotRow) → i < length lines → l ≡ get_or lines i l
    → IsRaised k (take i lines) old mid → IsRaised k (l ∷ []) mid new → IsRaised k (take (i + 1) lines) old new
raised_more k lines i l old mid new within is first next =
    let e : take (i + 1) lines ≡ take i lines ++ l ∷ [] = take_more lines i l within ∙ ap (λ (x : Line). take i lines ++ x ∷ []) (sym is) in
    rw e (record {
      sorted = next.sorted;
      amounts = λ c a b. omega (arith, first.amounts c a b, next.amounts c a b, given_append k (take i lines) (l ∷ []) c a b);
      sinces = λ a b. next.sinces a b ∙ first.sinces a b;
      expiries = λ a b. next.expiries a b ∙ first.expiries a b;
      named = λ a b. next.named a b ∙ first.named a b;
    })

pub next_raised_fits : (k : Column) (lines : List Line) (i : ℕ) (l : Line) (old mid : List LotRow) (m : ℕ) → i < length lines → l ≡ get_or lines i l
    → IsRaised k (take i lines) old mid → ((a b : List ℕ) → of_pair (amount k) a b old + quantity_of lines a b < m)
    → of_pair (amount k) l.item l.lot mid + l.quantity < m
next_raised_fits k lines i l old mid m within is first fits =
    omega (arith, first.amounts k l.item l.lot, given_here k (take i lines) l.item l.lot, fits l.item l.lot, quantity_next lines i l within is)

pub next_raised_there : (k : Column) (lines : List Line) (i : ℕ) (l : Line) (old mid : List LotRow) → i < length lines → l ≡ get_or lines i l
    → IsRaised k (take i lines) old mid → ((a b : List ℕ) → of_pair one a b old ≡ 0 → quantity_of lines a b ≡ 0)
    → of_pair one l.item l.lot mid ≡ 0 → l.quantity ≡ 0
next_raised_there k lines i l old mid within is first there none =
    omega (arith, there l.item l.lot (sym (first.named l.item l.lot) ∙ none), quantity_next lines i l within is)

pub shipped_made : (reserved sheet : List Line) (r0 r1 r2 r3 : List LotRow) → IsTaken OnHand sheet r0 r1 → IsRaised Shipped sheet r1 r2 → IsTaken Reservation reserved r2 r3
    → IsShipped reserved sheet r0 r3
shipped_made reserved sheet r0 r1 r2 r3 first second third = record {
  sorted = third.sorted;
  amounts = λ c a b. omega (arith, first.amounts c a b, second.amounts c a b, third.amounts c a b);
  sinces = λ a b. third.sinces a b ∙ second.sinces a b ∙ first.sinces a b;
  expiries = λ a b. third.expiries a b ∙ second.expiries a b ∙ first.expiries a b;
  named = λ a b. third.named a b ∙ second.named a b ∙ first.named a b;
}

-- A line sets what is on hand.

amount_set : (c : Column) (n : ℕ) (r : LotRow) → column_eq OnHand c ≡ false → amount c (with_on_hand n r) ≡ amount c r
amount_set Expected n r h = refl
amount_set OnHand n r h = absurd (cc)
amount_set Reservation n r h = refl
amount_set Shipped n r h = refl

set_of_pair : (line : Line) (rows : List LotRow) (i : ℕ) (r : LotRow) → IsDistinct rows → IsRowAt line rows i r → (a b : List ℕ)
    → of_pair (amount OnHand) a b (set rows i (with_on_hand line.quantity r)) ≡ set_by (line ∷ []) a b (of_pair (amount OnHand) a b rows)
set_of_pair line rows i r distinct at a b =
    let y = with_on_hand line.quantity r in
    let changed = of_pair_set (amount OnHand) a b rows i y r at.within in
    elim (cases_Bool (is_pair a b line)) [
      | inl e ↦
          let here : is_row a b r ≡ true = row_as_line a b line r at.here ∙ e in
          let old : of_pair (amount OnHand) a b rows ≡ amount OnHand r = of_pair_here (amount OnHand) a b rows i r at.within (ap (is_row a b) (sym at.is) ∙ here) (distinct a b) ∙ ap (amount OnHand) (sym at.is) in
          let all : of_pair (amount OnHand) a b (set rows i y) ≡ line.quantity =
          omega (arith, changed, ap (part (amount OnHand) a b) at.is, part_yes (amount OnHand) a b r here, part_yes (amount OnHand) a b y here, old) in
          rw e all
      | inr e ↦
          let here : is_row a b r ≡ false = row_as_line a b line r at.here ∙ e in
          let all : of_pair (amount OnHand) a b (set rows i y) ≡ of_pair (amount OnHand) a b rows =
          omega (arith, changed, ap (part (amount OnHand) a b) at.is, part_no (amount OnHand) a b r here, part_no (amount OnHand) a b y here) in
          rw e all
    ]

pub set_at : (line : Line) (rows : List LotRow) (i : ℕ) (r : LotRow) → IsSorted rows → IsPlace line.item line.lot rows i → r ≡ get_or rows i r
    → SetsOnHand (line ∷ []) rows (set rows i (with_on_hand line.quantity r))
set_at line rows i r sorted place is =
    let distinct = sorted_distinct rows sorted in
    let at = row_at line rows i r place is in
    let y = with_on_hand line.quantity r in record {
      sorted = sorted_kept rows i r y sorted at.within is refl;
      on_hand = set_of_pair line rows i r distinct at;
      others = λ c a b e. of_pair_kept (amount c) line rows i r y at (λ a b. refl) (amount_set c line.quantity r e) a b;
      sinces = λ a b. of_pair_kept since line rows i r y at (λ a b. refl) refl a b;
      expiries = date_kept rows i r y sorted at.within is refl refl;
      named = λ a b. of_pair_kept one line rows i r y at (λ a b. refl) refl a b;
    }

pub set_more : (lines : List Line) (i : ℕ) (l : Line) (old mid new : List LotRow) → i < length lines → l ≡ get_or lines i l
    → SetsOnHand (take i lines) old mid → SetsOnHand (l ∷ []) mid new → SetsOnHand (take (i + 1) lines) old new
set_more lines i l old mid new within is first next =
    let e : take (i + 1) lines ≡ take i lines ++ l ∷ [] = take_more lines i l within ∙ ap (λ (x : Line). take i lines ++ x ∷ []) (sym is) in
    rw e (record {
      sorted = next.sorted;
      on_hand = λ a b. next.on_hand a b ∙ ap (set_by (l ∷ []) a b) (first.on_hand a b)
          ∙ sym (fold-append (λ (m : ℕ) (k : Line). cond (is_pair a b k) k.quantity m) (of_pair (amount OnHand) a b old) (take i lines) (l ∷ []));
      others = λ c a b e. next.others c a b e ∙ first.others c a b e;
      sinces = λ a b. next.sinces a b ∙ first.sinces a b;
      expiries = λ a b. next.expiries a b ∙ first.expiries a b;
      named = λ a b. next.named a b ∙ first.named a b;
    })

pub next_set : (lines : List Line) (i : ℕ) (l : Line) (old mid : List LotRow) → i < length lines → l ≡ get_or lines i l
    → SetsOnHand (take i lines) old mid → ((a b : List ℕ) → named_by lines a b ≤ of_pair one a b old) → 1 ≤ of_pair one l.item l.lot mid
next_set lines i l old mid within is first there = omega (arith, first.named l.item l.lot, there l.item l.lot, named_own lines i l within is)

pub sheet_there : (sheet : List Line) (old new : List LotRow) → IsTaken OnHand sheet old new → ((a b : List ℕ) → quantity_of sheet a b ≤ of_pair (amount OnHand) a b old)
    → (a b : List ℕ) → of_pair one a b new ≡ 0 → quantity_of sheet a b ≡ 0
sheet_there sheet old new taken enough a b none = omega (arith, enough a b, of_pair_absent (amount OnHand) a b old (sym (taken.named a b) ∙ none))
