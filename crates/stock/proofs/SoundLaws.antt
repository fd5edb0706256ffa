-- What is checked of lists is what is true of every page.
use Rattle.std.proofs.Common.{◌≡◌, ℕ, zero, suc, ◌+◌, ◌<◌, ◌≤◌, Bool, true, cond, ◌&&◌, ◌⊎◌, List, [], ◌∷◌, length, map, take, ◌||◌, refl, sym, ap, ◌∙◌, arith, get_or, le-leb, inl, inr}
use Rattle.std.proofs.lemmas.Bool.{and_parts, cases_Bool, leb-true}
use Rattle.std.proofs.lemmas.List.{take_more}
use Rattle.std.proofs.lemmas.List.Sums.{sum_by-append, sum_by-cons}
use Rattle.std.specs.Prelude.{nat_le, sum_by}
use Rattle.std.specs.List.{list_all, list_any}
use Rattle.std.specs.Cmp.Derive.{both_true}
use Rattle.definitions.specs.Events.{is_pair, quantity_of}
use Rattle.definitions.specs.Limits.{most_entries}
use Rattle.definitions.specs.Means.{Line}
use Rattle.definitions.specs.Movements.{Column, Expected, OnHand, Reservation, Shipped}
use Rattle.definitions.specs.Page.{PageAdvice, PageOrder}
use Rattle.definitions.specs.Rows.{LotRow}
use Rattle.page_rows.specs.Pages.{AreSorted, IsSound, PageFacts, awaited, held, is_in_lines}
use Rattle.page_rows.specs.Soundness.{all_expected, all_reserved, is_expected, is_kept, is_reserved, is_within, most_of}
use Rattle.page_rows.specs.OfPairs.{IsDistinct, amount, is_row, one, of_pair}
use Rattle.definitions.proofs.TextLaws.{same_text}
use Rattle.page_rows.proofs.KeyLemmas.{advices_once, documents_once, orders_once, sorted_distinct}
use Rattle.page_rows.proofs.LotLemmas.{of_pair_has}
use Rattle.page_rows.proofs.Orders.{Has}
use Rattle.page_rows.proofs.Pairs.{quantity_no, quantity_yes}
use Rattle.page_rows.proofs.OfPairLemmas.{pair_is, part_no, part_yes, of_pair_absent, of_pair_cons}

-- what stands before a place, and what stands there
pub taken_sum : {X : Type 0} (f : X → ℕ) (xs : List X) (i : ℕ) (d : X) → i < length xs → sum_by f (take i xs) + f (get_or xs i d) ≤ sum_by f xs
taken_sum f [] i d within = absurd (omega (arith, within))
taken_sum f (x ∷ xs) zero d within = omega (arith, sum_by-cons f x xs)
taken_sum f (x ∷ xs) (suc i) d within = omega (arith, sum_by-cons f x xs, sum_by-cons f x (take i xs), taken_sum f xs i d (omega (arith, within)))

pub taken_next : {X : Type 0} (f : X → ℕ) (xs : List X) (i : ℕ) (d : X) → i < length xs → sum_by f (take (i + 1) xs) ≡ sum_by f (take i xs) + f (get_or xs i d)
taken_next f xs i d within = ap (sum_by f) (take_more xs i d within) ∙ sum_by-append f (take i xs) (get_or xs i d ∷ []) ∙ omega arith

-- what lines before one of a pair give, and that one
pub given_least : (a b : List ℕ) (ls : List Line) (i : ℕ) (l : Line) → i < length ls → l ≡ get_or ls i l → is_pair a b l ≡ true → quantity_of (take i ls) a b + l.quantity ≤ quantity_of ls a b
given_least a b [] i l within is e = absurd (omega (arith, within))
given_least a b (k ∷ ks) zero l within is e =
    let pair : is_pair a b k ≡ true = ap (is_pair a b) (sym is) ∙ e in
    omega (arith, quantity_yes a b k ks pair, ap (λ (x : Line). x.quantity) is)
given_least a b (k ∷ ks) (suc i) l within is e =
    let later = given_least a b ks i l (omega (arith, within)) is e in
    elim (cases_Bool (is_pair a b k)) [
      | inl f ↦ omega (arith, quantity_yes a b k ks f, quantity_yes a b k (take i ks) f, later)
      | inr f ↦ omega (arith, quantity_no a b k ks f, quantity_no a b k (take i ks) f, later)
    ]

pub any_map : {X Y : Type 0} (p : Y → Bool) (f : X → Y) (xs : List X) → list_any p (map f xs) ≡ list_any (λ x. p (f x)) xs
any_map p f [] = refl
any_map p f (x ∷ xs) = ap (λ (b : Bool). p (f x) || b) (any_map p f xs)

-- ---- amounts of rows

-- one amount of each row is at most another
pub of_pair_at_most : (f g : LotRow → ℕ) (p : LotRow → Bool) → ((r : LotRow) → p r ≡ true → f r ≤ g r) → (a b : List ℕ) (rows : List LotRow) → list_all p rows ≡ true → of_pair f a b rows ≤ of_pair g a b rows
of_pair_at_most f g p le a b [] h = omega arith
of_pair_at_most f g p le a b (r ∷ rows) h =
    let q = and_parts (p r) (list_all p rows) h in
    let more = of_pair_at_most f g p le a b rows q.1 in
    elim (cases_Bool (is_row a b r)) [
      | inl e ↦ omega (arith, of_pair_cons f a b r rows, of_pair_cons g a b r rows, part_yes f a b r e, part_yes g a b r e, le r q.0, more)
      | inr e ↦ omega (arith, of_pair_cons f a b r rows, of_pair_cons g a b r rows, part_no f a b r e, part_no g a b r e, more)
    ]

-- each at most so much, and so the one of a pair
pub of_pair_bound : (f : LotRow → ℕ) (m : ℕ) (p : LotRow → Bool) → ((r : LotRow) → p r ≡ true → f r ≤ m) → (a b : List ℕ) (rows : List LotRow) → of_pair one a b rows ≤ 1 → list_all p rows ≡ true → of_pair f a b rows ≤ m
of_pair_bound f m p le a b [] few h = omega arith
of_pair_bound f m p le a b (r ∷ rows) few h =
    let q = and_parts (p r) (list_all p rows) h in
    elim (cases_Bool (is_row a b r)) [
      | inl e ↦
          let none : of_pair one a b rows ≡ 0 = omega (arith, of_pair_cons one a b r rows, part_yes one a b r e, few) in
          omega (arith, of_pair_cons f a b r rows, part_yes f a b r e, le r q.0, of_pair_absent f a b rows none)
      | inr e ↦
          let rest : of_pair one a b rows ≤ 1 = omega (arith, of_pair_cons one a b r rows, part_no one a b r e, few) in
          omega (arith, of_pair_cons f a b r rows, part_no f a b r e, of_pair_bound f m p le a b rows rest q.1)
    ]

-- and the other way: what holds of each pair holds of its row
all_rows : (p : LotRow → Bool) (rows : List LotRow) → ((r : LotRow) → Has r rows → p r ≡ true) → list_all p rows ≡ true
all_rows p [] h = refl
all_rows p (r ∷ rows) h = both_true (h r (inl refl)) (all_rows p rows (λ x has. h x (inr has)))

own_row : (r : LotRow) → is_row r.item r.lot r ≡ true
own_row r = both_true (same_text r.item) (same_text r.lot)

-- what is told of a row's pair is what the row says
of_pair_own : (f : LotRow → ℕ) (rows : List LotRow) (r : LotRow) → IsDistinct rows → Has r rows → of_pair f r.item r.lot rows ≡ f r
of_pair_own f rows r distinct has = of_pair_has f r.item r.lot rows r has (own_row r) (distinct r.item r.lot)

within_parts : (m : ℕ) (r : LotRow) → is_within m r ≡ true → (r.reserved ≤ r.on_hand) × (r.expected ≤ m) × (r.on_hand ≤ m) × (r.shipped ≤ m)
within_parts m r h =
    let a = and_parts (nat_le r.reserved r.on_hand && nat_le r.expected m && nat_le r.on_hand m) (nat_le r.shipped m) h in
    let b = and_parts (nat_le r.reserved r.on_hand && nat_le r.expected m) (nat_le r.on_hand m) a.0 in
    let c = and_parts (nat_le r.reserved r.on_hand) (nat_le r.expected m) b.0 in
    (leb-true r.reserved r.on_hand c.0, leb-true r.expected m c.1, leb-true r.on_hand m b.1, leb-true r.shipped m a.1)

column_within : (m : ℕ) (c : Column) (r : LotRow) → is_within m r ≡ true → amount c r ≤ m
column_within m Expected r h = (within_parts m r h).1
column_within m OnHand r h = (within_parts m r h).2
column_within m Reservation r h = let w = within_parts m r h in omega (arith, w.0, w.2)
column_within m Shipped r h = (within_parts m r h).3

-- ---- what is open

module _ {X : Type 0} (is_open : X → Bool) (lines : X → List Line) where
  abbrev pub opens : List X → List ℕ → List ℕ → ℕ
  opens ks a b = sum_by (λ k. cond (is_open k) (quantity_of (lines k) a b) 0) ks

  abbrev pub all_open : (Line → Bool) → List X → Bool
  all_open p ks = list_all (λ k. cond (is_open k) (list_all p (lines k)) true) ks

  -- a pair that lines name passes as a line does, and one that none names has nothing
  lines_pass : (p : Line → Bool) (q : List ℕ → List ℕ → Bool) → ((l : Line) → p l ≡ q l.item l.lot) → (a b : List ℕ) (ls : List Line) → list_all p ls ≡ true
      → (q a b ≡ true) ⊎ (quantity_of ls a b ≡ 0)
  lines_pass p q same a b [] h = inr refl
  lines_pass p q same a b (l ∷ ls) h =
      let parts = and_parts (p l) (list_all p ls) h in
      elim (cases_Bool (is_pair a b l)) [
        | inl e ↦ let keys = pair_is a b l e in inl ((λ i. q (sym keys.0 i) (sym keys.1 i)) ∙ sym (same l) ∙ parts.0)
        | inr e ↦ elim (lines_pass p q same a b ls parts.1) [ inl found ↦ inl found | inr none ↦ inr (quantity_no a b l ls e ∙ none) ]
      ]

  pub open_pass : (p : Line → Bool) (q : List ℕ → List ℕ → Bool) → ((l : Line) → p l ≡ q l.item l.lot) → (a b : List ℕ) (ks : List X) → all_open p ks ≡ true
      → (q a b ≡ true) ⊎ (opens ks a b ≡ 0)
  open_pass p q same a b [] h = inr refl
  open_pass p q same a b (k ∷ ks) h =
      let parts = and_parts (cond (is_open k) (list_all p (lines k)) true) (all_open p ks) h in
      let cons = sum_by-cons (λ k. cond (is_open k) (quantity_of (lines k) a b) 0) k ks in
      elim (open_pass p q same a b ks parts.1) [
        | inl found ↦ inl found
        | inr none ↦ elim (cases_Bool (is_open k)) [
          | inr e ↦ inr (omega (arith, cons, ap (λ (v : Bool). cond v (quantity_of (lines k) a b) 0) e, none))
          | inl e ↦ elim (lines_pass p q same a b (lines k) (sym (ap (λ (v : Bool). cond v (list_all p (lines k)) true) e) ∙ parts.0)) [
            | inl found ↦ inl found
            | inr nothing ↦ inr (omega (arith, cons, ap (λ (v : Bool). cond v (quantity_of (lines k) a b) 0) e, nothing, none))
          ]
        ]
      ]

  -- where it holds of every pair it holds of every line
  every_line : (p : Line → Bool) → ((l : Line) → p l ≡ true) → (ls : List Line) → list_all p ls ≡ true
  every_line p h [] = refl
  every_line p h (l ∷ ls) = both_true (h l) (every_line p h ls)

  pub every_open : (p : Line → Bool) → ((l : Line) → p l ≡ true) → (ks : List X) → all_open p ks ≡ true
  every_open p h [] = refl
  every_open p h (k ∷ ks) = elim (cases_Bool (is_open k)) [
    | inl e ↦ both_true (ap (λ (v : Bool). cond v (list_all p (lines k)) true) e ∙ every_line p h (lines k)) (every_open p h ks)
    | inr e ↦ both_true (ap (λ (v : Bool). cond v (list_all p (lines k)) true) e) (every_open p h ks)
  ]

-- what no line exceeds no pair exceeds
pub at_most : (n m : ℕ) → (nat_le n m ≡ true) ⊎ (n ≡ 0) → n ≤ m
at_most n m (inl h) = leb-true n m h
at_most n m (inr h) = omega (arith, h)

-- ---- pages

record Kept (p : PageFacts) : Type 0 where
  few : nat_le p.entries most_entries ≡ true
  rows : list_all (is_within (most_of p.entries)) p.rows ≡ true
  expected : all_expected p.rows p.advices p.advices ≡ true
  reserved : all_reserved p.rows p.orders p.orders ≡ true
  in_lines : list_all is_in_lines p.orders ≡ true

kept_parts : (p : PageFacts) → is_kept p ≡ true → Kept p
kept_parts p h =
    let few = nat_le p.entries most_entries in
    let rows = list_all (is_within (most_of p.entries)) p.rows in
    let expected = all_expected p.rows p.advices p.advices in
    let reserved = all_reserved p.rows p.orders p.orders in
    let a = and_parts (few && rows && expected && reserved) (list_all is_in_lines p.orders) h in
    let b = and_parts (few && rows && expected) reserved a.0 in
    let c = and_parts (few && rows) expected b.0 in
    let d = and_parts few rows c.0 in
    record { few = d.0; rows = d.1; expected = c.1; reserved = b.1; in_lines = a.1 }

-- lists that pass are those of a page
pub kept_sound : (p : PageFacts) → p.recent ≡ 0 → AreSorted p → is_kept p ≡ true → IsSound p
kept_sound p rest sorted h = record {
  sorted = sorted;
  distinct = distinct;
  expected = λ a b. at_most _ _ (open_pass (λ (k : PageAdvice). k.is_open) (λ k. k.lines) (is_expected p.rows p.advices)
      (λ a b. nat_le (awaited p.advices a b) (of_pair (amount Expected) a b p.rows)) (λ l. refl) a b p.advices k.expected);
  reserved = λ a b. at_most _ _ (open_pass (λ (k : PageOrder). k.is_open) (λ k. k.reserved) (is_reserved p.rows p.orders)
      (λ a b. nat_le (held p.orders a b) (of_pair (amount Reservation) a b p.rows)) (λ l. refl) a b p.orders k.reserved);
  in_lines = k.in_lines;
  covered = λ a b. of_pair_at_most (amount Reservation) (amount OnHand) (is_within m) (λ r e. (within_parts m r e).0) a b p.rows k.rows;
  bounded = λ c a b. omega (arith, of_pair_bound (amount c) m (is_within m) (λ r e. column_within m c r e) a b p.rows (distinct a b) k.rows, rest);
  numbered = leb-true p.entries most_entries k.few;
  few = omega (arith, rest);
  advices_once = advices_once p.advices sorted.advices;
  orders_once = orders_once p.orders sorted.orders;
  documents_once = documents_once p.documents sorted.documents;
}
  where
    m : ℕ
    m = most_of p.entries

    k : Kept p
    k = kept_parts p h

    distinct : IsDistinct p.rows
    distinct = sorted_distinct p.rows sorted.rows

-- and those of a page pass
pub sound_kept : (p : PageFacts) → p.recent ≡ 0 → IsSound p → is_kept p ≡ true
sound_kept p rest sound = both_true (both_true (both_true (both_true (le-leb p.entries most_entries sound.numbered)
    (all_rows (is_within m) p.rows within))
    (every_open (λ (k : PageAdvice). k.is_open) (λ k. k.lines) (is_expected p.rows p.advices) (λ l. le-leb _ _ (sound.expected l.item l.lot)) p.advices))
    (every_open (λ (k : PageOrder). k.is_open) (λ k. k.reserved) (is_reserved p.rows p.orders) (λ l. le-leb _ _ (sound.reserved l.item l.lot)) p.orders))
    sound.in_lines
  where
    m : ℕ
    m = most_of p.entries

    at : (c : Column) (r : LotRow) → Has r p.rows → amount c r ≤ m
    at c r has = omega (arith, of_pair_own (amount c) p.rows r sound.distinct has, sound.bounded c r.item r.lot, rest)

    within : (r : LotRow) → Has r p.rows → is_within m r ≡ true
    within r has = both_true (both_true (both_true
        (le-leb r.reserved r.on_hand (omega (arith, of_pair_own (amount Reservation) p.rows r sound.distinct has, of_pair_own (amount OnHand) p.rows r sound.distinct has, sound.covered r.item r.lot)))
        (le-leb r.expected m (at Expected r has))) (le-leb r.on_hand m (at OnHand r has))) (le-leb r.shipped m (at Shipped r has))
