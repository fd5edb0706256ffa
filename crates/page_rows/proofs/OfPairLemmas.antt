-- What rows tell, as they change.
use Rattle.std.proofs.Common.{◌≡◌, ℕ, zero, suc, ◌+◌, ◌<◌, ◌≤◌, Bool, true, false, ◌&&◌, cond, List, [], ◌∷◌, length, get_or, set, refl, ap, sym, ◌∙◌, arith, inl, inr}
use Rattle.std.proofs.lemmas.List.Sums.{sum_by-cons, sum_by-set, get_or-le-sum_by}
use Rattle.std.proofs.lemmas.Slice.Eq.{bytes_eq-Decides}
use Rattle.std.proofs.lemmas.Bool.{cases_Bool}
use Rattle.std.specs.Prelude.{bytes_eq, sum_by}
use Rattle.definitions.specs.Rows.{LotRow}
use Rattle.definitions.specs.Means.{Line}
use Rattle.definitions.specs.Events.{is_pair}
use Rattle.definitions.specs.Movements.{Column, Expected, OnHand, Reservation, Shipped, column_eq}
use Rattle.page_rows.specs.OfPairs.{is_row, of_pair, one, since, amount, given, raised, lowered, blank, named_by}
use Rattle.page_rows.specs.Moved.{IsPlace, IsPlaced, IsAdded, IsTaken}
use Rattle.std.specs.List.{insert}
use Rattle.std.proofs.lemmas.List.Edits.{length-insert, get_or-insert_at}
use Rattle.std.proofs.lemmas.List.Sums.{sum_by-insert}
use Rattle.page_rows.specs.Keyed.{key_before, row_key, put_row, rises_by, IsSorted, IsRank}
use Rattle.page_rows.proofs.Keys.{rank_insert}
use Rattle.page_rows.proofs.Dates.{date_kept, date_blank}
use Rattle.page_rows.proofs.KeyLemmas.{pairs_strict, row_test, put_sorted, sorted_kept, sorted_distinct, key_raised, key_lowered}

-- one row's part of what is told of a pair
abbrev pub part : (LotRow → ℕ) → List ℕ → List ℕ → LotRow → ℕ
part f item lot r = cond (is_row item lot r) (f r) 0

pub of_pair_cons : (f : LotRow → ℕ) (a b : List ℕ) (r : LotRow) (rows : List LotRow) → of_pair f a b (r ∷ rows) ≡ part f a b r + of_pair f a b rows
of_pair_cons f a b r rows = sum_by-cons (part f a b) r rows

of_pair_insert : (f : LotRow → ℕ) (a b : List ℕ) (rows : List LotRow) (i : ℕ) (r : LotRow) → of_pair f a b (insert rows i r) ≡ of_pair f a b rows + part f a b r
of_pair_insert f a b rows i r = sum_by-insert (part f a b) rows i r

pub of_pair_set : (f : LotRow → ℕ) (a b : List ℕ) (rows : List LotRow) (i : ℕ) (y d : LotRow) → i < length rows
    → of_pair f a b (set rows i y) + part f a b (get_or rows i d) ≡ of_pair f a b rows + part f a b y
of_pair_set f a b rows i y d h = sum_by-set (part f a b) rows i y d h

pub part_yes : (f : LotRow → ℕ) (a b : List ℕ) (r : LotRow) → is_row a b r ≡ true → part f a b r ≡ f r
part_yes f a b r e = ap (λ (v : Bool). cond v (f r) 0) e

pub part_no : (f : LotRow → ℕ) (a b : List ℕ) (r : LotRow) → is_row a b r ≡ false → part f a b r ≡ 0
part_no f a b r e = ap (λ (v : Bool). cond v (f r) 0) e

pub both_true : (p q : Bool) → (p && q) ≡ true → (p ≡ true) × (q ≡ true)
both_true true q h = (refl, h)
both_true false q h = absurd (cc)

-- a row of a pair is of no other pair
pub row_is : (a b : List ℕ) (r : LotRow) → is_row a b r ≡ true → (r.item ≡ a) × (r.lot ≡ b)
row_is a b r h = let p = both_true (bytes_eq r.item a) (bytes_eq r.lot b) h in
    ((bytes_eq-Decides r.item a).0 p.0, (bytes_eq-Decides r.lot b).0 p.1)

pub pair_is : (a b : List ℕ) (l : Line) → is_pair a b l ≡ true → (l.item ≡ a) × (l.lot ≡ b)
pair_is a b l h = let p = both_true (bytes_eq l.item a) (bytes_eq l.lot b) h in
    ((bytes_eq-Decides l.item a).0 p.0, (bytes_eq-Decides l.lot b).0 p.1)

-- nothing is told of a pair without a row
pub of_pair_absent : (f : LotRow → ℕ) (a b : List ℕ) (rows : List LotRow) → of_pair one a b rows ≡ 0 → of_pair f a b rows ≡ 0
of_pair_absent f a b [] h = refl
of_pair_absent f a b (r ∷ rows) h = elim (cases_Bool (is_row a b r)) [
  | inl e ↦ absurd (omega (arith, of_pair_cons one a b r rows, part_yes one a b r e))
  | inr e ↦ omega (arith, of_pair_cons f a b r rows, part_no f a b r e, of_pair_absent f a b rows (omega (arith, of_pair_cons one a b r rows, part_no one a b r e)))
]

-- where a row stands, a pair is told of
pub of_pair_there : (a b : List ℕ) (rows : List LotRow) (i : ℕ) (d : LotRow) → i < length rows → is_row a b (get_or rows i d) ≡ true → 1 ≤ of_pair one a b rows
of_pair_there a b rows i d within here = omega (arith, get_or-le-sum_by (part one a b) rows i d within, part_yes one a b (get_or rows i d) here)

-- a pair with one row is told what that row has
pub of_pair_here : (f : LotRow → ℕ) (a b : List ℕ) (rows : List LotRow) (i : ℕ) (d : LotRow) → i < length rows
    → is_row a b (get_or rows i d) ≡ true → of_pair one a b rows ≤ 1 → of_pair f a b rows ≡ f (get_or rows i d)
of_pair_here f a b [] i d within here few = absurd (omega arith)
of_pair_here f a b (r ∷ rows) zero d within here few =
    let none : of_pair one a b rows ≡ 0 = omega (arith, of_pair_cons one a b r rows, part_yes one a b r here) in
    omega (arith, of_pair_cons f a b r rows, part_yes f a b r here, of_pair_absent f a b rows none)
of_pair_here f a b (r ∷ rows) (suc i) d within here few =
    let inside : i < length rows = omega arith in
    let there : 1 ≤ of_pair one a b rows = of_pair_there a b rows i d inside here in
    elim (cases_Bool (is_row a b r)) [
      | inl e ↦ absurd (omega (arith, of_pair_cons one a b r rows, part_yes one a b r e))
      | inr e ↦ omega (arith, of_pair_cons f a b r rows, part_no f a b r e, of_pair_here f a b rows i d inside here (omega (arith, of_pair_cons one a b r rows, part_no one a b r e)))
    ]

-- A row with more or less.

pub is_row_raised : (a b : List ℕ) (k : Column) (n : ℕ) (r : LotRow) → is_row a b (raised k n r) ≡ is_row a b r
is_row_raised a b Expected n r = refl
is_row_raised a b OnHand n r = refl
is_row_raised a b Reservation n r = refl
is_row_raised a b Shipped n r = refl

pub is_row_lowered : (a b : List ℕ) (k : Column) (n : ℕ) (r : LotRow) → is_row a b (lowered k n r) ≡ is_row a b r
is_row_lowered a b Expected n r = refl
is_row_lowered a b OnHand n r = refl
is_row_lowered a b Reservation n r = refl
is_row_lowered a b Shipped n r = refl

pub since_raised : (k : Column) (n : ℕ) (r : LotRow) → since (raised k n r) ≡ since r
since_raised Expected n r = refl
since_raised OnHand n r = refl
since_raised Reservation n r = refl
since_raised Shipped n r = refl

pub since_lowered : (k : Column) (n : ℕ) (r : LotRow) → since (lowered k n r) ≡ since r
since_lowered Expected n r = refl
since_lowered OnHand n r = refl
since_lowered Reservation n r = refl
since_lowered Shipped n r = refl

pub date_raised : (k : Column) (n : ℕ) (r : LotRow) → (raised k n r).expiry ≡ r.expiry
date_raised Expected n r = refl
date_raised OnHand n r = refl
date_raised Reservation n r = refl
date_raised Shipped n r = refl

pub date_lowered : (k : Column) (n : ℕ) (r : LotRow) → (lowered k n r).expiry ≡ r.expiry
date_lowered Expected n r = refl
date_lowered OnHand n r = refl
date_lowered Reservation n r = refl
date_lowered Shipped n r = refl

pub amount_raised : (c k : Column) (n : ℕ) (r : LotRow) → amount c (raised k n r) ≡ amount c r + cond (column_eq k c) n 0
amount_raised Expected Expected n r = omega arith
amount_raised Expected OnHand n r = omega arith
amount_raised Expected Reservation n r = omega arith
amount_raised Expected Shipped n r = omega arith
amount_raised OnHand Expected n r = omega arith
amount_raised OnHand OnHand n r = omega arith
amount_raised OnHand Reservation n r = omega arith
amount_raised OnHand Shipped n r = omega arith
amount_raised Reservation Expected n r = omega arith
amount_raised Reservation OnHand n r = omega arith
amount_raised Reservation Reservation n r = omega arith
amount_raised Reservation Shipped n r = omega arith
amount_raised Shipped Expected n r = omega arith
amount_raised Shipped OnHand n r = omega arith
amount_raised Shipped Reservation n r = omega arith
amount_raised Shipped Shipped n r = omega arith

pub amount_lowered : (c k : Column) (n : ℕ) (r : LotRow) → n ≤ amount k r → amount c (lowered k n r) + cond (column_eq k c) n 0 ≡ amount c r
amount_lowered Expected Expected n r h = omega arith
amount_lowered Expected OnHand n r h = omega arith
amount_lowered Expected Reservation n r h = omega arith
amount_lowered Expected Shipped n r h = omega arith
amount_lowered OnHand Expected n r h = omega arith
amount_lowered OnHand OnHand n r h = omega arith
amount_lowered OnHand Reservation n r h = omega arith
amount_lowered OnHand Shipped n r h = omega arith
amount_lowered Reservation Expected n r h = omega arith
amount_lowered Reservation OnHand n r h = omega arith
amount_lowered Reservation Reservation n r h = omega arith
amount_lowered Reservation Shipped n r h = omega arith
amount_lowered Shipped Expected n r h = omega arith
amount_lowered Shipped OnHand n r h = omega arith
amount_lowered Shipped Reservation n r h = omega arith
amount_lowered Shipped Shipped n r h = omega arith

-- what one line gives
pub given_one : (k : Column) (line : Line) (c : Column) (a b : List ℕ) → given k (line ∷ []) c a b ≡ cond (is_pair a b line) (cond (column_eq k c) line.quantity 0) 0
given_one k line c a b = elim (cases_Bool (is_pair a b line)) [
  | inl e ↦ elim (column_eq k c) as (λ v. cond v (sum_by (λ l. l.quantity) (cond (is_pair a b line) (line ∷ []) [])) 0 ≡ cond (is_pair a b line) (cond v line.quantity 0) 0)
      [ true ↦ rw e (omega arith) | false ↦ rw e refl ]
  | inr e ↦ elim (column_eq k c) as (λ v. cond v (sum_by (λ l. l.quantity) (cond (is_pair a b line) (line ∷ []) [])) 0 ≡ cond (is_pair a b line) (cond v line.quantity 0) 0)
      [ true ↦ rw e (omega arith) | false ↦ rw e refl ]
]

-- a row of the line's pair is named as the line is
pub row_as_line : (a b : List ℕ) (line : Line) (r : LotRow) → is_row line.item line.lot r ≡ true → is_row a b r ≡ is_pair a b line
row_as_line a b line r h = let e = row_is line.item line.lot r h in ap (λ (x : List ℕ). bytes_eq x a && bytes_eq r.lot b) e.0 ∙ ap (λ (x : List ℕ). bytes_eq line.item a && bytes_eq x b) e.1

pub part_same : (f : LotRow → ℕ) (a b : List ℕ) (r y : LotRow) → is_row a b y ≡ is_row a b r → f y ≡ f r → part f a b y ≡ part f a b r
part_same f a b r y e h = ap (λ (v : Bool). cond v (f y) 0) e ∙ ap (λ (v : ℕ). cond (is_row a b r) v 0) h

-- r is the row of a line's pair, at i
pub record IsRowAt (line : Line) (rows : List LotRow) (i : ℕ) (r : LotRow) : Type 0 where
  pub within : i < length rows
  pub is : r ≡ get_or rows i r
  pub here : is_row line.item line.lot r ≡ true

pub row_at : (line : Line) (rows : List LotRow) (i : ℕ) (r : LotRow) → IsPlace line.item line.lot rows i → r ≡ get_or rows i r → IsRowAt line rows i r
row_at line rows i r place is = record { within = place.within; is = is; here = ap (is_row line.item line.lot) is ∙ place.here r }

part_raised : (k c : Column) (line : Line) (a b : List ℕ) (r : LotRow) → is_row line.item line.lot r ≡ true
    → part (amount c) a b (raised k line.quantity r) ≡ part (amount c) a b r + given k (line ∷ []) c a b
part_raised k c line a b r here = elim (cases_Bool (is_row a b r)) [
  | inl e ↦ rw (given_one k line c a b, ← row_as_line a b line r here, is_row_raised a b k line.quantity r, e) (amount_raised c k line.quantity r)
  | inr e ↦ rw (given_one k line c a b, ← row_as_line a b line r here, is_row_raised a b k line.quantity r, e) refl
]

pub raised_amounts : (k : Column) (line : Line) (rows : List LotRow) (i : ℕ) (r : LotRow) → IsRowAt line rows i r → (c : Column) (a b : List ℕ)
    → of_pair (amount c) a b (set rows i (raised k line.quantity r)) ≡ of_pair (amount c) a b rows + given k (line ∷ []) c a b
raised_amounts k line rows i r at c a b =
    omega (arith, of_pair_set (amount c) a b rows i (raised k line.quantity r) r at.within, ap (part (amount c) a b) at.is, part_raised k c line a b r at.here)

part_lowered : (k c : Column) (line : Line) (a b : List ℕ) (r : LotRow) → is_row line.item line.lot r ≡ true → line.quantity ≤ amount k r
    → part (amount c) a b (lowered k line.quantity r) + given k (line ∷ []) c a b ≡ part (amount c) a b r
part_lowered k c line a b r here enough = elim (cases_Bool (is_row a b r)) [
  | inl e ↦ rw (given_one k line c a b, ← row_as_line a b line r here, is_row_lowered a b k line.quantity r, e) (amount_lowered c k line.quantity r enough)
  | inr e ↦ rw (given_one k line c a b, ← row_as_line a b line r here, is_row_lowered a b k line.quantity r, e) refl
]

pub lowered_amounts : (k : Column) (line : Line) (rows : List LotRow) (i : ℕ) (r : LotRow) → IsRowAt line rows i r → line.quantity ≤ amount k r → (c : Column) (a b : List ℕ)
    → of_pair (amount c) a b (set rows i (lowered k line.quantity r)) + given k (line ∷ []) c a b ≡ of_pair (amount c) a b rows
lowered_amounts k line rows i r at enough c a b =
    omega (arith, of_pair_set (amount c) a b rows i (lowered k line.quantity r) r at.within, ap (part (amount c) a b) at.is, part_lowered k c line a b r at.here enough)

-- what the change of a row leaves alone
pub of_pair_kept : (f : LotRow → ℕ) (line : Line) (rows : List LotRow) (i : ℕ) (r y : LotRow) → IsRowAt line rows i r
    → ((a b : List ℕ) → is_row a b y ≡ is_row a b r) → f y ≡ f r → (a b : List ℕ) → of_pair f a b (set rows i y) ≡ of_pair f a b rows
of_pair_kept f line rows i r y at same h a b =
    omega (arith, of_pair_set f a b rows i y r at.within, ap (part f a b) at.is, part_same f a b r y (same a b) h)

-- the pair of a row is told of
pub of_pair_named : (line : Line) (rows : List LotRow) (i : ℕ) → IsPlace line.item line.lot rows i → (a b : List ℕ) → named_by (line ∷ []) a b ≤ of_pair one a b rows
of_pair_named line rows i place a b = elim (cases_Bool (is_pair a b line)) [
  | inl e ↦ let d = blank line in
      let here : is_row a b (get_or rows i d) ≡ true = row_as_line a b line (get_or rows i d) (place.here d) ∙ e in
      rw e (of_pair_there a b rows i d place.within here)
  | inr e ↦ rw e (omega arith)
]

-- a row that is there
pub placed_there : (line : Line) (rows : List LotRow) (i : ℕ) → IsSorted rows → IsPlace line.item line.lot rows i → IsPlaced rows rows line i
placed_there line rows i sorted place = record {
  sorted = sorted;
  place = place;
  amounts = λ c a b. refl;
  sinces = λ a b. refl;
  expiries = λ a b. refl;
  named = λ a b. omega (arith, of_pair_named line rows i place a b);
}

part_blank : (f : LotRow → ℕ) (line : Line) (a b : List ℕ) → f (blank line) ≡ 0 → part f a b (blank line) ≡ 0
part_blank f line a b h = elim (cases_Bool (is_row a b (blank line))) [ inl e ↦ part_yes f a b (blank line) e ∙ h | inr e ↦ part_no f a b (blank line) e ]

amount_blank : (c : Column) (line : Line) → amount c (blank line) ≡ 0
amount_blank Expected line = refl
amount_blank OnHand line = refl
amount_blank Reservation line = refl
amount_blank Shipped line = refl

pub same_bytes : (a : List ℕ) → bytes_eq a a ≡ true
same_bytes a = (bytes_eq-Decides a a).1 refl

own_row : (line : Line) → is_row line.item line.lot (blank line) ≡ true
own_row line = rw (same_bytes line.item, same_bytes line.lot) refl

-- a row that is made
pub placed_new : (line : Line) (rows : List LotRow) (i : ℕ) → IsSorted rows → IsRank key_before row_key rows (line.item, line.lot) i → of_pair one line.item line.lot rows ≡ 0
    → IsPlaced rows (insert rows i (blank line)) line i
placed_new line rows i sorted rank none = record {
  sorted = ap (rises_by key_before row_key) put ∙ put_sorted (blank line) rows sorted;
  place = record {
    within = omega (arith, length-insert rows i (blank line) rank.bound);
    here = λ d. ap (is_row line.item line.lot) (get_or-insert_at rows i (blank line) d rank.bound) ∙ own_row line;
  };
  amounts = λ c a b. omega (arith, of_pair_insert (amount c) a b rows i (blank line), part_blank (amount c) line a b (amount_blank c line));
  sinces = λ a b. omega (arith, of_pair_insert since a b rows i (blank line), part_blank since line a b refl);
  expiries = date_blank line rows i sorted put none;
  named = λ a b. elim (cases_Bool (is_pair a b line)) [
    | inl y ↦ let same = pair_is a b line y in
        let absent : of_pair one a b rows ≡ 0 = ap (λ (x : List ℕ). of_pair one x b rows) (sym same.0) ∙ ap (λ (x : List ℕ). of_pair one line.item x rows) (sym same.1) ∙ none in
        rw y (omega (arith, of_pair_insert one a b rows i (blank line), part_yes one a b (blank line) y))
    | inr n ↦ rw n (omega (arith, of_pair_insert one a b rows i (blank line), part_no one a b (blank line) n))
  ];
}
  where
    apart : (d : LotRow) → i < length rows → row_key (get_or rows i d) ≡ row_key (blank line) → ⊥
    apart d within same = absurd (omega (arith, none, of_pair_there line.item line.lot rows i d within ((row_test line.item line.lot).said (get_or rows i d) same)))

    put : insert rows i (blank line) ≡ put_row (blank line) rows
    put = rank_insert key_before pairs_strict row_key rows i (blank line) rank apart

-- a line that comes to a row which was placed
pub added_at : (k : Column) (line : Line) (old mid : List LotRow) (i : ℕ) (r : LotRow) → IsPlaced old mid line i → r ≡ get_or mid i r
    → IsAdded k (line ∷ []) old (set mid i (raised k line.quantity r))
added_at k line old mid i r placed is =
    let at = row_at line mid i r placed.place is in
    let y = raised k line.quantity r in record {
      sorted = sorted_kept mid i r y placed.sorted at.within is (key_raised k line.quantity r);
      amounts = λ c a b. omega (arith, raised_amounts k line mid i r at c a b, placed.amounts c a b);
      sinces = λ a b. of_pair_kept since line mid i r y at (λ a b. is_row_raised a b k line.quantity r) (since_raised k line.quantity r) a b ∙ placed.sinces a b;
      expiries = λ a b. date_kept mid i r y placed.sorted at.within is (key_raised k line.quantity r) (date_raised k line.quantity r) a b ∙ placed.expiries a b;
      named = λ a b. of_pair_kept one line mid i r y at (λ a b. is_row_raised a b k line.quantity r) refl a b ∙ placed.named a b;
    }

-- a line that goes from its row
pub taken_at : (k : Column) (line : Line) (rows : List LotRow) (i : ℕ) (r : LotRow) → IsSorted rows → IsPlace line.item line.lot rows i → r ≡ get_or rows i r → line.quantity ≤ amount k r
    → IsTaken k (line ∷ []) rows (set rows i (lowered k line.quantity r))
taken_at k line rows i r sorted place is enough =
    let at = row_at line rows i r place is in
    let y = lowered k line.quantity r in record {
      sorted = sorted_kept rows i r y sorted at.within is (key_lowered k line.quantity r);
      amounts = λ c a b. lowered_amounts k line rows i r at enough c a b;
      sinces = λ a b. of_pair_kept since line rows i r y at (λ a b. is_row_lowered a b k line.quantity r) (since_lowered k line.quantity r) a b;
      expiries = date_kept rows i r y sorted at.within is (key_lowered k line.quantity r) (date_lowered k line.quantity r);
      named = λ a b. of_pair_kept one line rows i r y at (λ a b. is_row_lowered a b k line.quantity r) refl a b;
    }

-- an amount of a row is what is told of its pair
pub amount_here : (f : LotRow → ℕ) (item lot : List ℕ) (rows : List LotRow) (i : ℕ) (r : LotRow) → IsSorted rows → IsPlace item lot rows i → r ≡ get_or rows i r
    → f r ≡ of_pair f item lot rows
amount_here f item lot rows i r sorted place is =
    ap f is ∙ sym (of_pair_here f item lot rows i r place.within (place.here r) (sorted_distinct rows sorted item lot))

-- nothing goes from a pair without a row
pub taken_none : (k : Column) (line : Line) (rows : List LotRow) → IsSorted rows → of_pair one line.item line.lot rows ≡ 0 → line.quantity ≤ of_pair (amount k) line.item line.lot rows
    → IsTaken k (line ∷ []) rows rows
taken_none k line rows sorted none enough =
    let nothing : line.quantity ≡ 0 = omega (arith, of_pair_absent (amount k) line.item line.lot rows none) in record {
      sorted = sorted;
      amounts = λ c a b. elim (cases_Bool (is_pair a b line)) [
        | inl e ↦ elim (cases_Bool (column_eq k c))
            [ inl f ↦ rw (given_one k line c a b, e, f) (omega arith) | inr f ↦ rw (given_one k line c a b, e, f) (omega arith) ]
        | inr e ↦ rw (given_one k line c a b, e) (omega arith)
      ];
      sinces = λ a b. refl;
      expiries = λ a b. refl;
      named = λ a b. refl;
    }
