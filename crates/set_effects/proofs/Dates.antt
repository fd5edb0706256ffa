-- The dates of pairs: the first of each stays for good, and a row that is put takes its date into
-- the rows of `lot_expiry`.
use Rattle.std.proofs.Common.{◌≡◌, ℕ, Bool, true, false, cond, List, [], ◌∷◌, ◌++◌, map, refl, sym, ap, ◌∙◌, subst, inl, inr, Option, Some, None}
use Rattle.std.specs.Prelude.{find, filter, flat_map, option_to_list, option_and_then}
use Rattle.std.specs.List.{list_all}
use Rattle.std.proofs.lemmas.Bool.{cases_Bool, both_ways, and_parts}
use Rattle.std.proofs.lemmas.List.{map-append}
use Rattle.std.proofs.lemmas.Grind.{flat_map-append}
use Rattle.definitions.specs.Lists.{or_else}
use Rattle.definitions.specs.Events.{Event, date_naming, expiry}
use Rattle.definitions.specs.Rows.{LotRow}
use Rattle.definitions.specs.Tables.{Text, TableRow, expiry_cells}
use Rattle.stock.specs.Keyed.{Pair, key_before, put_by, rises_by, row_key, put_row, IsSorted}
use Rattle.stock.specs.OfPairs.{is_row, date_of_pair, changed_rows}
use Rattle.stock.specs.Pages.{PageFacts}
use Rattle.stock.specs.Shows.{Shows}
use Rattle.stock.proofs.Orders.{Has, IsStrict}
use Rattle.stock.proofs.Finds.{first_found_push, found_says}
use Rattle.stock.proofs.Keys.{find_put, put_front}
use Rattle.stock.proofs.KeyLemmas.{pairs_strict, row_test}
use Rattle.set_effects.specs.Proper.{KeepsDate}
use Rattle.set_effects.proofs.KeyedLists.{both}
use Rattle.set_effects.proofs.Blocks.{split}

-- What pairs have.

abbrev pub Dates : Type 0
Dates = List ℕ → List ℕ → Option (List ℕ)

-- the dates that rows tell are among these
abbrev pub AreKept : Dates → List LotRow → Type 0
AreKept known rows = (item lot : List ℕ) → KeepsDate (date_of_pair item lot rows) (known item lot)

-- each row has the date of its pair
abbrev pub AreDated : Dates → List LotRow → Type 0
AreDated known [] = Unit {0}
AreDated known (r ∷ rows) = (r.expiry ≡ known r.item r.lot) × AreDated known rows

pub same_kept : (o : Option (List ℕ)) → KeepsDate o o
same_kept None = tt
same_kept (Some date) = refl

first_kept : (o x : Option (List ℕ)) → KeepsDate o (or_else o x)
first_kept None x = tt
first_kept (Some date) x = refl

-- an event leaves the dates that pairs have
pub dates_kept : (p : PageFacts) (es : List Event) (e : Event) → Shows p es → AreKept (expiry (es ++ e ∷ [])) p.rows
dates_kept p es e shows item lot =
    subst (λ (o : Option (List ℕ)). KeepsDate o (expiry (es ++ e ∷ []) item lot)) (shows.expiries item lot)
    (subst (KeepsDate (expiry es item lot)) (sym (first_found_push (date_naming item lot) es e)) (first_kept (expiry es item lot) (date_naming item lot e)))

abbrev date_found : Option LotRow → Option (List ℕ)
date_found o = option_and_then (λ (q : LotRow). q.expiry) o

pub date_put : (a b : List ℕ) (r : LotRow) (rows : List LotRow) → date_of_pair a b (put_row r rows) ≡ cond (is_row a b r) r.expiry (date_of_pair a b rows)
date_put a b r rows = ap date_found (find_put key_before pairs_strict row_key (a, b) (is_row a b) (row_test a b) r rows) ∙ by (is_row a b r)
  where
    by : (v : Bool) → date_found (cond v (Some r) (find (is_row a b) rows)) ≡ cond v r.expiry (date_of_pair a b rows)
    by true = refl
    by false = refl

-- a row with the date of its pair is put
pub kept_put : (known : Dates) (r : LotRow) (rows : List LotRow) → r.expiry ≡ known r.item r.lot → AreKept known rows → AreKept known (put_row r rows)
kept_put known r rows is kept a b = subst (λ (o : Option (List ℕ)). KeepsDate o (known a b)) (sym (date_put a b r rows)) (by (is_row a b r) refl)
  where
    by : (v : Bool) → is_row a b r ≡ v → KeepsDate (cond v r.expiry (date_of_pair a b rows)) (known a b)
    by true e =
        let date : r.expiry ≡ known a b = is ∙ ap (λ (k : Pair). known k.0 k.1) ((row_test a b).says r e) in
        subst (λ (o : Option (List ℕ)). KeepsDate o (known a b)) (sym date) (same_kept (known a b))
    by false e = kept a b

-- Rows in order tell the date of each.

own_row : (r : LotRow) → is_row r.item r.lot r ≡ true
own_row r = (row_test r.item r.lot).said r refl

apart : (y x : LotRow) → key_before (row_key y) (row_key x) ≡ true → is_row x.item x.lot y ≡ false
apart y x before = elim (cases_Bool (is_row x.item x.lot y)) [
  | inl e ↦ absurd (both_ways (key_before (row_key x) (row_key x)) (pairs_strict.never (row_key x)) (ap (λ (k : Pair). key_before k (row_key x)) (sym ((row_test x.item x.lot).says y e)) ∙ before))
  | inr e ↦ e
]

dates_later : (y : LotRow) (ys xs : List LotRow) → list_all (λ x. key_before (row_key y) (row_key x)) xs ≡ true → AreDated (λ a b. date_of_pair a b ys) xs
    → AreDated (λ a b. date_of_pair a b (y ∷ ys)) xs
dates_later y ys [] above dated = tt
dates_later y ys (x ∷ xs) above dated =
    let p = and_parts (key_before (row_key y) (row_key x)) (list_all (λ z. key_before (row_key y) (row_key z)) xs) above in (
      dated.0 ∙ sym (ap (λ (v : Bool). date_found (cond v (Some y) (find (is_row x.item x.lot) ys))) (apart y x p.0)),
      dates_later y ys xs p.1 dated.1,
    )

rows_dated : (rows : List LotRow) → IsSorted rows → AreDated (λ a b. date_of_pair a b rows) rows
rows_dated [] sorted = tt
rows_dated (y ∷ ys) sorted =
    let p = and_parts (list_all (λ x. key_before (row_key y) (row_key x)) ys) (rises_by key_before row_key ys) sorted in (
      sym (ap (λ (v : Bool). date_found (cond v (Some y) (find (is_row y.item y.lot) ys))) (own_row y)),
      dates_later y ys ys p.0 (rows_dated ys p.1),
    )

dated_as : (f g : Dates) → ((a b : List ℕ) → f a b ≡ g a b) → (rows : List LotRow) → AreDated f rows → AreDated g rows
dated_as f g same [] dated = tt
dated_as f g same (r ∷ rows) dated = (dated.0 ∙ same r.item r.lot, dated_as f g same rows dated.1)

dated_some : (known : Dates) (p : LotRow → Bool) (rows : List LotRow) → AreDated known rows → AreDated known (filter p rows)
dated_some known p [] dated = tt
dated_some known p (r ∷ rows) dated = by (p r) (dated_some known p rows dated.1)
  where
    by : (v : Bool) → AreDated known (filter p rows) → AreDated known (cond v (r ∷ filter p rows) (filter p rows))
    by true rest = (dated.0, rest)
    by false rest = rest

-- the rows of a page have the dates that its events give
all_dated : (p : PageFacts) (es : List Event) → IsSorted p.rows → Shows p es → AreDated (expiry es) p.rows
all_dated p es sorted shows = dated_as (λ a b. date_of_pair a b p.rows) (expiry es) (λ a b. sym (shows.expiries a b)) p.rows (rows_dated p.rows sorted)

dated_has : (known : Dates) (rows : List LotRow) (r : LotRow) → AreDated known rows → Has r rows → r.expiry ≡ known r.item r.lot
dated_has known [] r dated has = absurd has
dated_has known (x ∷ xs) r dated has = elim has [
  | inl e ↦ subst (λ (z : LotRow). z.expiry ≡ known z.item z.lot) (sym e) dated.0
  | inr f ↦ dated_has known xs r dated.1 f
]

pub row_dated : (p : PageFacts) (es : List Event) (r : LotRow) → IsSorted p.rows → Shows p es → Has r p.rows → r.expiry ≡ expiry es r.item r.lot
row_dated p es r sorted shows has = dated_has (expiry es) p.rows r (all_dated p es sorted shows) has

-- and so have those that change
pub changed_dated : (old : List LotRow) (new : PageFacts) (fs : List Event) → IsSorted new.rows → Shows new fs → AreDated (expiry fs) (changed_rows old new.rows)
changed_dated old new fs sorted shows = dated_some (expiry fs) _ new.rows (all_dated new fs sorted shows)

-- The rows of `lot_expiry`.

abbrev pub Dated : Type 0
Dated = Pair × List ℕ

abbrev pub pair_dated : Dated → Pair
pair_dated x = x.0

abbrev pub date_cells : Dated → TableRow
date_cells x = Text x.0.0 ∷ Text x.0.1 ∷ Text x.1 ∷ []

abbrev dates_at : Pair → Option (List ℕ) → List Dated
dates_at k o = map (λ (date : List ℕ). (k, date)) (option_to_list o)

abbrev dates_in : LotRow → List Dated
dates_in r = dates_at (row_key r) r.expiry

-- the pairs that have a date, with it
abbrev pub dates_of : List LotRow → List Dated
dates_of rows = flat_map dates_in rows

cells_in : (r : LotRow) → expiry_cells r ≡ map date_cells (dates_in r)
cells_in r = by r.expiry
  where
    by : (o : Option (List ℕ)) → map (λ (date : List ℕ). Text r.item ∷ Text r.lot ∷ Text date ∷ []) (option_to_list o) ≡ map date_cells (dates_at (row_key r) o)
    by None = refl
    by (Some date) = refl

pub cells_of : (rows : List LotRow) → flat_map expiry_cells rows ≡ map date_cells (dates_of rows)
cells_of [] = refl
cells_of (r ∷ rows) = (λ i. cells_in r i ++ cells_of rows i) ∙ sym (map-append date_cells (dates_in r) (dates_of rows))

dates_all : (p : Pair → Bool) (rows : List LotRow) → list_all (λ y. p (row_key y)) rows ≡ true → list_all (λ (x : Dated). p x.0) (dates_of rows) ≡ true
dates_all p [] h = refl
dates_all p (y ∷ ys) h = let a = and_parts (p (row_key y)) (list_all (λ z. p (row_key z)) ys) h in by y.expiry a.0 (dates_all p ys a.1)
  where
    by : (o : Option (List ℕ)) → p (row_key y) ≡ true → list_all (λ (x : Dated). p x.0) (dates_of ys) ≡ true
        → list_all (λ (x : Dated). p x.0) (dates_at (row_key y) o ++ dates_of ys) ≡ true
    by None here rest = rest
    by (Some date) here rest = both (p (row_key y)) (list_all (λ (x : Dated). p x.0) (dates_of ys)) here rest

-- what is put after all that come before it
module _ {X K : Type 0} (less : K → K → Bool) (strict : IsStrict less) (key : X → K) where
  put_past : (x : X) (A T : List X) → list_all (λ y. less (key y) (key x)) A ≡ true → put_by less key x (A ++ T) ≡ A ++ put_by less key x T
  put_past x [] T below = refl
  put_past x (y ∷ A) T below =
      let p = and_parts (less (key y) (key x)) (list_all (λ z. less (key z) (key x)) A) below in
      let back : less (key x) (key y) ≡ false = elim (cases_Bool (less (key x) (key y))) [
        | inl e ↦ absurd (both_ways (less (key x) (key x)) (strict.never (key x)) (strict.through (key x) (key y) (key x) e p.0))
        | inr e ↦ e
      ] in
      rw (back, p.0) (ap (λ (zs : List X). y ∷ zs) (put_past x A T p.1))

-- in the place of the row that was found, if there was one
module _ (r : LotRow) (date : List ℕ) (back : List LotRow) (above : list_all (λ y. key_before (row_key r) (row_key y)) back ≡ true) where
  abbrev dated : Dated
  dated = (row_key r, date)

  first_put : put_by key_before pair_dated dated (dates_of back) ≡ dated ∷ dates_of back
  first_put = put_front key_before pairs_strict pair_dated dated (dates_of back) (dates_all (λ k. key_before (row_key r) k) back above)

  put_dated : (y : LotRow) (o : Option (List ℕ)) → row_key y ≡ row_key r
      → put_by key_before pair_dated dated ((dates_at (row_key y) o ++ []) ++ dates_of back) ≡ dated ∷ dates_of back
  put_dated y None same = first_put
  put_dated y (Some known) same =
      let low : key_before (row_key r) (row_key y) ≡ false = ap (key_before (row_key r)) same ∙ pairs_strict.never (row_key r) in
      let high : key_before (row_key y) (row_key r) ≡ false = ap (λ (k : Pair). key_before k (row_key r)) same ∙ pairs_strict.never (row_key r) in
      rw (low, high) refl

  put_found : (o : Option LotRow) → ((y : LotRow) → o ≡ Some y → row_key y ≡ row_key r)
      → put_by key_before pair_dated dated (dates_of (option_to_list o) ++ dates_of back) ≡ dated ∷ dates_of back
  put_found None same = first_put
  put_found (Some y) same = put_dated y y.expiry (same y refl)

-- a row with a date puts it
pub dated_put : (r : LotRow) (date : List ℕ) (rows : List LotRow) → r.expiry ≡ Some date → IsSorted rows
    → put_by key_before pair_dated (row_key r, date) (dates_of rows) ≡ dates_of (put_row r rows)
dated_put r date rows is sorted =
    let found = find (is_row r.item r.lot) rows in
    let s = split key_before pairs_strict row_key (is_row r.item r.lot) r (row_test r.item r.lot) rows sorted in
    let x : Dated = (row_key r, date) in
    let A = dates_of s.front in
    let C = dates_of s.back in
    let here : dates_of rows ≡ A ++ (dates_of (option_to_list found) ++ C) =
    ap dates_of s.all ∙ flat_map-append dates_in s.front (s.old ++ s.back) ∙ ap (λ (T : List Dated). A ++ T) (flat_map-append dates_in s.old s.back)
    ∙ ap (λ (old : List LotRow). A ++ (dates_of old ++ C)) (sym s.found) in
    let there : dates_of (put_row r rows) ≡ A ++ (x ∷ C) =
    ap dates_of s.put ∙ flat_map-append dates_in s.front (r ∷ s.back) ∙ ap (λ (o : Option (List ℕ)). A ++ (dates_at (row_key r) o ++ C)) is in
    ap (put_by key_before pair_dated x) here
    ∙ put_past key_before pairs_strict pair_dated x A (dates_of (option_to_list found) ++ C) (dates_all (λ k. key_before k (row_key r)) s.front s.below)
    ∙ ap (λ (T : List Dated). A ++ T) (put_found r date s.back s.above found (λ y some. (row_test r.item r.lot).says y (found_says (is_row r.item r.lot) rows y some)))
    ∙ sym there

-- and one without a date has none to lose
none_lost : (o : Option LotRow) → KeepsDate (date_found o) None → dates_of (option_to_list o) ≡ []
none_lost None kept = refl
none_lost (Some y) kept = by y.expiry kept
  where
    by : (known : Option (List ℕ)) → KeepsDate known None → dates_at (row_key y) known ++ [] ≡ []
    by None none = refl
    by (Some date) none = absurd (cc (none))

pub undated_put : (r : LotRow) (rows : List LotRow) → r.expiry ≡ None → KeepsDate (date_of_pair r.item r.lot rows) r.expiry → IsSorted rows
    → dates_of rows ≡ dates_of (put_row r rows)
undated_put r rows is kept sorted =
    let found = find (is_row r.item r.lot) rows in
    let s = split key_before pairs_strict row_key (is_row r.item r.lot) r (row_test r.item r.lot) rows sorted in
    let A = dates_of s.front in
    let C = dates_of s.back in
    ap dates_of s.all ∙ flat_map-append dates_in s.front (s.old ++ s.back) ∙ ap (λ (T : List Dated). A ++ T) (flat_map-append dates_in s.old s.back)
    ∙ ap (λ (old : List LotRow). A ++ (dates_of old ++ C)) (sym s.found)
    ∙ ap (λ (T : List Dated). A ++ (T ++ C)) (none_lost found (subst (KeepsDate (date_found found)) is kept))
    ∙ sym (ap dates_of s.put ∙ flat_map-append dates_in s.front (r ∷ s.back) ∙ ap (λ (o : Option (List ℕ)). A ++ (dates_at (row_key r) o ++ C)) is)
