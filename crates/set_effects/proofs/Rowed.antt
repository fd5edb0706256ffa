-- The rows of a page that stand in order are those that the definitions give for its events.
use Rattle.std.proofs.Common.{◌≡◌, ℕ, ◌+◌, ◌≤◌, Bool, true, false, ◌&&◌, ◌||◌, cond, List, [], ◌∷◌, map, refl, sym, ap, ◌∙◌, subst, inl, inr, arith, Option}
use Rattle.std.specs.Prelude.{bytes_eq, flat_map, unwrap_or, if◌then◌else◌, ◌==◌}
use Rattle.std.specs.List.{list_any, list_all}
use Rattle.std.proofs.lemmas.Bool.{cases_Bool, and_parts}
use borrow.Author.Tests.{eqb-true}
use Rattle.std.proofs.lemmas.List.Sums.{sum_by-cons}
use Rattle.std.proofs.lemmas.Slice.Eq.{bytes_eq-Decides}
use Rattle.definitions.specs.Lists.{placed, in_order}
use Rattle.definitions.specs.Means.{Line}
use Rattle.definitions.specs.Events.{Event, is_pair, pair_before, first_count}
use Rattle.definitions.specs.Movements.{Column, Expected, OnHand, Reservation, Shipped, balance}
use Rattle.definitions.specs.Rows.{LotRow, named, lot_row, running_rows}
use Rattle.definitions.proofs.TextLaws.{same_text}
use Rattle.stock.specs.OfPairs.{of_pair, one, since, amount, is_row, named_by, positive}
use Rattle.stock.specs.Pages.{PageFacts, IsSound}
use Rattle.stock.specs.Shows.{Shows}
use Rattle.stock.specs.Keyed.{Pair, key_before, rises_by, row_key, IsSorted}
use Rattle.stock.proofs.KeyLemmas.{pairs_strict, sorted_distinct}
use Rattle.stock.proofs.Orders.{Has, Rises, order_of, total_of, in_order_rises, has_in_order, in_order_has, rising_same}
use Rattle.stock.proofs.PageLaws.{balance_shows}
use Rattle.set_effects.proofs.Dates.{row_dated}

-- Pairs of an item and a lot, in order.

abbrev line_key : Line → Pair
line_key l = (l.item, l.lot)

abbrev line_at : Pair → Line
line_at a = record { item = a.0; lot = a.1; quantity = 0 }

-- lines in order, by their pairs
placed_keys : (x : Line) (ys : List Line) → map line_key (placed pair_before x ys) ≡ placed key_before (line_key x) (map line_key ys)
placed_keys x [] = refl
placed_keys x (y ∷ ys) = by_tests (pair_before x y) (pair_before y x) refl refl (placed_keys x ys)
  where
    by_tests : (a b : Bool) → pair_before x y ≡ a → pair_before y x ≡ b → map line_key (placed pair_before x ys) ≡ placed key_before (line_key x) (map line_key ys)
        → map line_key (if pair_before x y then x ∷ y ∷ ys else (if pair_before y x then y ∷ placed pair_before x ys else y ∷ ys))
        ≡ (if pair_before x y then line_key x ∷ line_key y ∷ map line_key ys else (if pair_before y x then line_key y ∷ placed key_before (line_key x) (map line_key ys) else line_key y ∷ map line_key ys))
    by_tests true b e f later = rw e refl
    by_tests false true e f later = rw (e, f) (ap (λ (ks : List Pair). line_key y ∷ ks) later)
    by_tests false false e f later = rw (e, f) refl

ordered_keys : (ls : List Line) → map line_key (in_order pair_before ls) ≡ in_order key_before (map line_key ls)
ordered_keys [] = refl
ordered_keys (l ∷ ls) = placed_keys l (in_order pair_before ls) ∙ ap (placed key_before (line_key l)) (ordered_keys ls)

-- the row of a pair
abbrev row_at : List Event → Pair → LotRow
row_at es a = lot_row es (line_at a)

rows_at : (es : List Event) (ls : List Line) → map (lot_row es) ls ≡ map (row_at es) (map line_key ls)
rows_at es [] = refl
rows_at es (l ∷ ls) = ap (λ (rs : List LotRow). lot_row es l ∷ rs) (rows_at es ls)

-- Which pairs stand there.

has_line : (a : Pair) (ls : List Line) → list_any (is_pair a.0 a.1) ls ≡ true → Has a (map line_key ls)
has_line a [] h = absurd (cc (h))
has_line a (l ∷ ls) h = elim (cases_Bool (is_pair a.0 a.1 l)) [
  | inl e ↦
      let p = and_parts (bytes_eq l.item a.0) (bytes_eq l.lot a.1) e in
      let item = (bytes_eq-Decides l.item a.0).0 p.0 in
      let lot = (bytes_eq-Decides l.lot a.1).0 p.1 in
      inl (λ i. (sym item i, sym lot i))
  | inr e ↦ inr (has_line a ls (ap (λ (t : Bool). t || list_any (is_pair a.0 a.1) ls) (sym e) ∙ h))
]

line_has : (a : Pair) (ls : List Line) → Has a (map line_key ls) → list_any (is_pair a.0 a.1) ls ≡ true
line_has a [] h = absurd h
line_has a (l ∷ ls) h = elim h [
  | inl e ↦
      let item : bytes_eq l.item a.0 ≡ true = (bytes_eq-Decides l.item a.0).1 (sym (ap (λ (b : Pair). b.0) e)) in
      let lot : bytes_eq l.lot a.1 ≡ true = (bytes_eq-Decides l.lot a.1).1 (sym (ap (λ (b : Pair). b.1) e)) in
      λ i. (item i && lot i) || list_any (is_pair a.0 a.1) ls
  | inr f ↦ elim (cases_Bool (is_pair a.0 a.1 l)) [
    | inl e ↦ ap (λ (t : Bool). t || list_any (is_pair a.0 a.1) ls) e
    | inr e ↦ ap (λ (t : Bool). t || list_any (is_pair a.0 a.1) ls) e ∙ line_has a ls f
  ]
]

abbrev share : (LotRow → ℕ) → Pair → LotRow → ℕ
share f a r = if is_row a.0 a.1 r then f r else 0

of_pair_yes : (f : LotRow → ℕ) (a : Pair) (r : LotRow) (rs : List LotRow) → is_row a.0 a.1 r ≡ true → of_pair f a.0 a.1 (r ∷ rs) ≡ f r + of_pair f a.0 a.1 rs
of_pair_yes f a r rs e = sum_by-cons (share f a) r rs ∙ ap (λ (t : Bool). cond t (f r) 0 + of_pair f a.0 a.1 rs) e

of_pair_no : (f : LotRow → ℕ) (a : Pair) (r : LotRow) (rs : List LotRow) → is_row a.0 a.1 r ≡ false → of_pair f a.0 a.1 (r ∷ rs) ≡ of_pair f a.0 a.1 rs
of_pair_no f a r rs e =
    let h : of_pair f a.0 a.1 (r ∷ rs) ≡ 0 + of_pair f a.0 a.1 rs = sum_by-cons (share f a) r rs ∙ ap (λ (t : Bool). cond t (f r) 0 + of_pair f a.0 a.1 rs) e in
    omega (arith, h)

has_row : (a : Pair) (rs : List LotRow) → 1 ≤ of_pair one a.0 a.1 rs → Has a (map row_key rs)
has_row a [] h = absurd (omega (arith, h))
has_row a (r ∷ rs) h = elim (cases_Bool (is_row a.0 a.1 r)) [
  | inl e ↦
      let p = and_parts (bytes_eq r.item a.0) (bytes_eq r.lot a.1) e in
      let item = (bytes_eq-Decides r.item a.0).0 p.0 in
      let lot = (bytes_eq-Decides r.lot a.1).0 p.1 in
      inl (λ i. (sym item i, sym lot i))
  | inr e ↦ inr (has_row a rs (omega (arith, h, of_pair_no one a r rs e)))
]

own_row : (r : LotRow) → is_row r.item r.lot r ≡ true
own_row r = λ i. same_text r.item i && same_text r.lot i

row_has : (a : Pair) (rs : List LotRow) → Has a (map row_key rs) → 1 ≤ of_pair one a.0 a.1 rs
row_has a [] h = absurd h
row_has a (r ∷ rs) h = elim h [
  | inl e ↦ subst (λ (b : Pair). 1 ≤ of_pair one b.0 b.1 (r ∷ rs)) (sym e) (omega (arith, of_pair_yes one (row_key r) r rs (own_row r)))
  | inr f ↦ elim (cases_Bool (is_row a.0 a.1 r)) [
    | inl e ↦ omega (arith, of_pair_yes one a r rs e)
    | inr e ↦ omega (arith, row_has a rs f, of_pair_no one a r rs e)
  ]
]

-- what a row tells of its pair, where no other does

of_pair_none : (f : LotRow → ℕ) (a : Pair) (rs : List LotRow) → of_pair one a.0 a.1 rs ≡ 0 → of_pair f a.0 a.1 rs ≡ 0
of_pair_none f a [] h = refl
of_pair_none f a (r ∷ rs) h = elim (cases_Bool (is_row a.0 a.1 r)) [
  | inl e ↦ absurd (omega (arith, h, of_pair_yes one a r rs e))
  | inr e ↦ of_pair_no f a r rs e ∙ of_pair_none f a rs (omega (arith, h, of_pair_no one a r rs e))
]

has_key : (r : LotRow) (rs : List LotRow) → Has r rs → Has (row_key r) (map row_key rs)
has_key r [] h = absurd h
has_key r (q ∷ qs) h = elim h [ inl e ↦ inl (ap row_key e) | inr f ↦ inr (has_key r qs f) ]

of_pair_own : (f : LotRow → ℕ) (r : LotRow) (rs : List LotRow) → Has r rs → of_pair one r.item r.lot rs ≤ 1 → of_pair f r.item r.lot rs ≡ f r
of_pair_own f r [] h few = absurd h
of_pair_own f r (q ∷ qs) h few = elim h [
  | inl e ↦
      let mine : is_row r.item r.lot q ≡ true = subst (λ (x : LotRow). is_row r.item r.lot x ≡ true) e (own_row r) in
      let rest : of_pair one r.item r.lot qs ≡ 0 = omega (arith, few, of_pair_yes one (row_key r) q qs mine) in
      of_pair_yes f (row_key r) q qs mine ∙ (λ i. f (sym e i) + of_pair_none f (row_key r) qs rest i) ∙ omega arith
  | inr g ↦ elim (cases_Bool (is_row r.item r.lot q)) [
    | inl e ↦ absurd (omega (arith, few, of_pair_yes one (row_key r) q qs e, row_has (row_key r) qs (has_key r qs g)))
    | inr e ↦ of_pair_no f (row_key r) q qs e ∙ of_pair_own f r qs g (omega (arith, few, of_pair_no one (row_key r) q qs e))
  ]
]

-- Rows of a page.

since_is : (o : Option ℕ) (n : ℕ) → o ≡ positive n → unwrap_or o 0 ≡ n
since_is o n e = ap (λ (x : Option ℕ). unwrap_or x 0) e ∙ by_test (n == 0) refl
  where
    by_test : (b : Bool) → (n == 0) ≡ b → unwrap_or (positive n) 0 ≡ n
    by_test true f = rw f (sym (eqb-true n 0 f))
    by_test false f = rw f refl

row_is : (p : PageFacts) (es : List Event) (r : LotRow) → IsSorted p.rows → Shows p es → Has r p.rows → r ≡ row_at es (row_key r)
row_is p es r sorted shows has =
    let once = sorted_distinct p.rows sorted r.item r.lot in
    let date = row_dated p es r sorted shows has in
    let column : (c : Column) → balance es c r.item r.lot ≡ amount c r = λ c. sym (balance_shows p es shows c r.item r.lot) ∙ of_pair_own (amount c) r p.rows has once in
    let first : unwrap_or (first_count es r.item r.lot) 0 ≡ r.since = since_is (first_count es r.item r.lot) (of_pair since r.item r.lot p.rows) (shows.sinces r.item r.lot) ∙ of_pair_own since r p.rows has once in
    let expected = column Expected in
    let on_hand = column OnHand in
    let reserved = column Reservation in
    let shipped = column Shipped in
    λ i. record { item = r.item; lot = r.lot; expiry = date i; since = sym first i; expected = sym expected i; on_hand = sym on_hand i; reserved = sym reserved i; shipped = sym shipped i }

rows_are_at : (p : PageFacts) (es : List Event) (rs : List LotRow) → ((r : LotRow) → Has r rs → r ≡ row_at es (row_key r)) → rs ≡ map (row_at es) (map row_key rs)
rows_are_at p es [] each = refl
rows_are_at p es (r ∷ rs) each =
    let here = each r (inl refl) in
    let rest = rows_are_at p es rs (λ q h. each q (inr h)) in
    λ i. here i ∷ rest i

list_all_has : (q : LotRow → Bool) (rs : List LotRow) (a : Pair) → list_all q rs ≡ true → Has a (map row_key rs) → (r : LotRow) × (q r ≡ true) × (a ≡ row_key r)
list_all_has q [] a all h = absurd h
list_all_has q (r ∷ rs) a all h =
    let p = and_parts (q r) (list_all q rs) all in
    elim h [ inl e ↦ (r, p.0, e) | inr f ↦ list_all_has q rs a p.1 f ]

keys_rise : (rs : List LotRow) → rises_by key_before row_key rs ≡ true → Rises key_before (map row_key rs)
keys_rise [] h = tt
keys_rise (r ∷ rs) h =
    let p = and_parts (list_all (λ q. key_before (row_key r) (row_key q)) rs) (rises_by key_before row_key rs) h in (
      (λ a has. let f = list_all_has (λ q. key_before (row_key r) (row_key q)) rs a p.0 has in subst (λ (b : Pair). key_before (row_key r) b ≡ true) (sym f.2) f.1),
      keys_rise rs p.1,
    )

named_some : (ls : List Line) (a : Pair) → 1 ≤ named_by ls a.0 a.1 → list_any (is_pair a.0 a.1) ls ≡ true
named_some ls a h = elim (cases_Bool (list_any (is_pair a.0 a.1) ls)) [
  | inl e ↦ e
  | inr e ↦ absurd (omega (arith, h, ap (λ (t : Bool). cond {A = ℕ} t 1 0) e))
]

some_named : (ls : List Line) (a : Pair) → list_any (is_pair a.0 a.1) ls ≡ true → 1 ≤ named_by ls a.0 a.1
some_named ls a e = omega (arith, ap (λ (t : Bool). cond {A = ℕ} t 1 0) e)

-- rows in order are the definition's
pub rows_in_order : (p : PageFacts) (es : List Event) → IsSorted p.rows → Shows p es → p.rows ≡ running_rows es
rows_in_order p es sorted shows =
    let ls = flat_map named es in
    let keys : map row_key p.rows ≡ in_order key_before (map line_key ls) =
    rising_same key_before (order_of key_before pairs_strict) (map row_key p.rows) (in_order key_before (map line_key ls)) (keys_rise p.rows sorted) (in_order_rises key_before (order_of key_before pairs_strict) (map line_key ls))
    (λ a h. in_order_has key_before a (map line_key ls) (total_of key_before pairs_strict (map line_key ls)) (has_line a ls (named_some ls a (omega (arith, row_has a p.rows h, shows.pairs a.0 a.1)))))
    (λ a h. has_row a p.rows (omega (arith, some_named ls a (line_has a ls (has_in_order key_before a (map line_key ls) h)), shows.pairs a.0 a.1))) in
    rows_are_at p es p.rows (λ r h. row_is p es r sorted shows h)
    ∙ ap (map (row_at es)) (keys ∙ sym (ordered_keys ls))
    ∙ sym (rows_at es (in_order pair_before ls))

pub rows_are : (p : PageFacts) (es : List Event) → IsSound p → Shows p es → p.rows ≡ running_rows es
rows_are p es sound shows = rows_in_order p es sound.sorted.rows shows
