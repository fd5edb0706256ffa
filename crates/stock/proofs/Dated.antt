-- The dates of an advice's lines come to rows.
use Rattle.std.proofs.Common.{◌≡◌, ℕ, ◌+◌, ◌<◌, ◌≤◌, Bool, true, false, ◌||◌, cond, List, [], ◌∷◌, ◌++◌, length, map, get_or, set, take, refl, ap, sym, ◌∙◌, arith, Option, None}
use Rattle.std.proofs.lemmas.List.{take_more, get_or-map, length-map}
use Rattle.std.specs.List.{list_any}
use Rattle.definitions.specs.Lists.{or_else}
use Rattle.definitions.specs.Rows.{LotRow}
use Rattle.definitions.specs.Means.{Line, AdviceLine}
use Rattle.definitions.specs.Events.{is_pair, date_given}
use Rattle.definitions.specs.Movements.{Column, Expected, OnHand, Reservation, Shipped}
use Rattle.page_rows.specs.Keyed.{IsSorted}
use Rattle.page_rows.specs.Moved.{IsPlace, IsAdded, IsDated, IsAdvised}
use Rattle.page_rows.specs.OfPairs.{is_row, of_pair, date_of_pair, one, since, amount, named_by, date_of, dated}
use Rattle.page_rows.proofs.Dates.{date_set, date_here}
use Rattle.page_rows.proofs.Finds.{or_else_none, or_else_assoc, first_found-append}
use Rattle.page_rows.proofs.KeyLemmas.{sorted_kept}
use Rattle.stock.proofs.Marks.{named_own}
use Rattle.page_rows.proofs.OfPairLemmas.{of_pair_kept, row_at, row_as_line}

amount_dated : (c : Column) (date : Option (List ℕ)) (r : LotRow) → amount c (dated date r) ≡ amount c r
amount_dated Expected date r = refl
amount_dated OnHand date r = refl
amount_dated Reservation date r = refl
amount_dated Shipped date r = refl

-- a row that a line gives its date
pub dated_at : (line : AdviceLine) (rows : List LotRow) (i : ℕ) (r : LotRow) → IsSorted rows → IsPlace line.line.item line.line.lot rows i → r ≡ get_or rows i r
    → IsDated (line ∷ []) rows (set rows i (dated line.expiry r))
dated_at line rows i r sorted place is =
    let at = row_at line.line rows i r place is in
    let y = dated line.expiry r in record {
      sorted = sorted_kept rows i r y sorted at.within is refl;
      amounts = λ c a b. of_pair_kept (amount c) line.line rows i r y at (λ a b. refl) (amount_dated c line.expiry r) a b;
      sinces = λ a b. of_pair_kept since line.line rows i r y at (λ a b. refl) refl a b;
      expiries = λ a b. date_set a b rows i r y sorted at.within is refl ∙ by a b at.here (is_pair a b line.line) refl;
      named = λ a b. of_pair_kept one line.line rows i r y at (λ a b. refl) refl a b;
    }
  where
    by : (a b : List ℕ) → is_row line.line.item line.line.lot r ≡ true → (v : Bool) → is_pair a b line.line ≡ v
        → cond (is_row a b r) (or_else r.expiry line.expiry) (date_of_pair a b rows) ≡ or_else (date_of_pair a b rows) (date_of (line ∷ []) a b)
    by a b own true e =
        let here : is_row a b r ≡ true = row_as_line a b line.line r own ∙ e in
        let old : date_of_pair a b rows ≡ r.expiry = date_here a b rows i r sorted place.within is here in
        ap (λ (v : Bool). cond v (or_else r.expiry line.expiry) (date_of_pair a b rows)) here
        ∙ ap (λ (o : Option (List ℕ)). or_else o line.expiry) (sym old)
        ∙ ap (or_else (date_of_pair a b rows)) (sym (or_else_none line.expiry) ∙ ap (λ (v : Bool). or_else (cond v line.expiry None) None) (sym e))
    by a b own false e =
        let away : is_row a b r ≡ false = row_as_line a b line.line r own ∙ e in
        ap (λ (v : Bool). cond v (or_else r.expiry line.expiry) (date_of_pair a b rows)) away
        ∙ sym (or_else_none (date_of_pair a b rows))
        ∙ ap (λ (v : Bool). or_else (date_of_pair a b rows) (or_else (cond v line.expiry None) None)) (sym e)

pub dated_more : (lines : List AdviceLine) (i : ℕ) (l : AdviceLine) (old mid new : List LotRow) → i < length lines → l ≡ get_or lines i l
    → IsDated (take i lines) old mid → IsDated (l ∷ []) mid new → IsDated (take (i + 1) lines) old new
dated_more lines i l old mid new within is first next =
    let e : take (i + 1) lines ≡ take i lines ++ l ∷ [] = take_more lines i l within ∙ ap (λ (x : AdviceLine). take i lines ++ x ∷ []) (sym is) in
    rw e (record {
      sorted = next.sorted;
      amounts = λ c a b. next.amounts c a b ∙ first.amounts c a b;
      sinces = λ a b. next.sinces a b ∙ first.sinces a b;
      expiries = λ a b. next.expiries a b ∙ ap (λ (o : Option (List ℕ)). or_else o (date_of (l ∷ []) a b)) (first.expiries a b)
          ∙ or_else_assoc (date_of_pair a b old) (date_of (take i lines) a b) (date_of (l ∷ []) a b)
          ∙ ap (or_else (date_of_pair a b old)) (sym (first_found-append (date_given a b) (take i lines) (l ∷ [])));
      named = λ a b. next.named a b ∙ first.named a b;
    })

pub next_dated : (lines : List AdviceLine) (i : ℕ) (l : AdviceLine) (old mid : List LotRow) → i < length lines → l ≡ get_or lines i l
    → IsDated (take i lines) old mid → ((a b : List ℕ) → named_by (map (λ l. l.line) lines) a b ≤ of_pair one a b old)
    → 1 ≤ of_pair one l.line.item l.line.lot mid
next_dated lines i l old mid within is first there =
    let goods : AdviceLine → Line = λ k. k.line in
    let inside : i < length (map goods lines) = omega (arith, within, length-map lines goods) in
    let own = named_own (map goods lines) i l.line inside (ap goods is ∙ sym (get_or-map goods lines i l l.line within)) in
    omega (arith, first.named l.line.item l.line.lot, there l.line.item l.line.lot, own)

-- lines come to what is expected, and then their dates
pub advised_made : (lines : List AdviceLine) (r0 r1 r2 : List LotRow) → IsAdded Expected (map (λ l. l.line) lines) r0 r1 → IsDated lines r1 r2
    → IsAdvised lines r0 r2
advised_made lines r0 r1 r2 added dating = record {
  sorted = dating.sorted;
  amounts = λ c a b. dating.amounts c a b ∙ added.amounts c a b;
  sinces = λ a b. dating.sinces a b ∙ added.sinces a b;
  expiries = λ a b. dating.expiries a b ∙ ap (λ (o : Option (List ℕ)). or_else o (date_of lines a b)) (added.expiries a b);
  named = λ a b. dating.named a b ∙ added.named a b;
}

-- lines give no date to a pair that they don't name
pub no_date : (lines : List AdviceLine) (a b : List ℕ) → list_any (is_pair a b) (map (λ l. l.line) lines) ≡ false → date_of lines a b ≡ None
no_date [] a b h = refl
no_date (l ∷ ls) a b h =
    let u = neither (is_pair a b l.line) (list_any (is_pair a b) (map (λ l. l.line) ls)) h in
    ap (λ (v : Bool). or_else (cond v l.expiry None) (date_of ls a b)) u.0 ∙ no_date ls a b u.1
  where
    neither : (p q : Bool) → (p || q) ≡ false → (p ≡ false) × (q ≡ false)
    neither true q h = absurd (cc)
    neither false q h = (refl, h)
