-- The changes that last make of a page what all make of it, are proper where all are, and name each
-- pair once.
use Rattle.std.proofs.Common.{◌≡◌, ◌≢◌, ℕ, ◌+◌, ◌<◌, Bool, true, false, ◌||◌, cond, List, [], ◌∷◌, ◌++◌, length, get_or, set, refl, sym, ap, ◌∙◌, subst, inl, inr, arith, Option, Some, None, append_assoc, not, reverse, get_or-set_same, get_or-set_other}
use Rattle.std.specs.Prelude.{find, fold, count_by}
use Rattle.std.specs.List.{list_any}
use Rattle.std.proofs.lemmas.Bool.{cases_Bool}
use Rattle.std.proofs.lemmas.List.{get_or_default, length-set, reverse-append}
use Rattle.std.proofs.lemmas.List.Sums.{sum_by-cons}
use Rattle.definitions.specs.History.{History}
use Rattle.definitions.specs.Rows.{LotRow}
use Rattle.stock.specs.Keyed.{Pair, key_before, row_key, put_row, IsSorted}
use Rattle.stock.specs.Moved.{IsPlace}
use Rattle.stock.specs.OfPairs.{is_row, of_pair, date_of_pair, one}
use Rattle.stock.specs.Pages.{PageFacts}
use Rattle.stock.proofs.Keys.{find_put, was}
use Rattle.stock.proofs.KeyLemmas.{pairs_strict, row_test, put_sorted, of_pair_found, sorted_distinct}
use Rattle.stock.proofs.Lefts.{place_once}
use Rattle.stock.specs.Puts.{put_change}
use Rattle.stock.specs.declared.steps.Change.{Change}
use Rattle.stock.specs.declared.steps.Change.TheVariants.{Stock, Advice, Order, Sent, Document}
use Rattle.rules.specs.Lasting.{is_of, is_replaced, lasting, HasPairsOnce, HaveRows, AreMarked}
use Rattle.set_effects.specs.Proper.{KeepsDate, AreProper}
use Rattle.rules.specs.Decided.{IsPageOf, AreLeading}
use Rattle.set_effects.proofs.Dates.{AreKept, date_put, same_kept}
use Rattle.set_effects.proofs.KeyedLists.{same_found}

-- Pairs.

neither : (v w : Bool) → (v || w) ≡ false → (v ≡ false) × (w ≡ false)
neither true w h = absurd (cc (h))
neither false w h = (refl, h)

row_found : (a b : List ℕ) (r : LotRow) (rows : List LotRow) → find (is_row a b) (put_row r rows) ≡ cond (is_row a b r) (Some r) (find (is_row a b) rows)
row_found a b r rows = find_put key_before pairs_strict row_key (a, b) (is_row a b) (row_test a b) r rows

-- what changes put in of a row's pair they put in of the pair that it is of
own_pair : (a b : List ℕ) (r : LotRow) (cs : List Change) → is_row a b r ≡ true → list_any (is_of r.item r.lot) cs ≡ list_any (is_of a b) cs
own_pair a b r cs e = ap (λ (k : Pair). list_any (is_of k.0 k.1) cs) ((row_test a b).says r e)

-- Rows that are the same but for pairs that changes put in.

abbrev AreAlike : List Change → List LotRow → List LotRow → Type 0
AreAlike cs rows others = (a b : List ℕ) → list_any (is_of a b) cs ≡ false → find (is_row a b) others ≡ find (is_row a b) rows

-- the first row is put into both
alike_both : (r : LotRow) (cs : List Change) (rows others : List LotRow) → AreAlike (Stock r ∷ cs) rows others → AreAlike cs (put_row r rows) (put_row r others)
alike_both r cs rows others alike a b none = row_found a b r others ∙ by (is_row a b r) refl ∙ sym (row_found a b r rows)
  where
    by : (v : Bool) → is_row a b r ≡ v → cond v (Some r) (find (is_row a b) others) ≡ cond v (Some r) (find (is_row a b) rows)
    by true e = refl
    by false e = alike a b (rw e none)

-- a row of a pair that is put in later is put into one of them
alike_one : (r : LotRow) (cs : List Change) (rows others : List LotRow) → list_any (is_of r.item r.lot) cs ≡ true → AreAlike (Stock r ∷ cs) rows others → AreAlike cs (put_row r rows) others
alike_one r cs rows others later alike a b none = by (is_row a b r) refl ∙ sym (row_found a b r rows)
  where
    by : (v : Bool) → is_row a b r ≡ v → find (is_row a b) others ≡ cond v (Some r) (find (is_row a b) rows)
    by true e = let d : true ≡ false = sym later ∙ own_pair a b r cs e ∙ none in absurd (cc (d))
    by false e = alike a b (rw e none)

alike_same : (rows others : List LotRow) → IsSorted rows → IsSorted others → AreAlike [] rows others → others ≡ rows
alike_same rows others sorted rises alike =
    same_found key_before pairs_strict row_key (λ (k : Pair). is_row k.0 k.1) (λ k. row_test k.0 k.1) others rows rises sorted (λ k. alike k.0 k.1 refl)

-- What they lead to.

led : (cs : List Change) (p : PageFacts) (others : List LotRow) → IsSorted p.rows → IsSorted others → AreAlike cs p.rows others
    → fold put_change (record p { rows = others }) (lasting cs) ≡ fold put_change p cs
led [] p others sorted rises alike = ap (λ (rows : List LotRow). record p { rows = rows }) (alike_same p.rows others sorted rises alike)
led (Stock r ∷ cs) p others sorted rises alike = elim (cases_Bool (list_any (is_of r.item r.lot) cs)) [
  | inl e ↦ ap (λ (v : Bool). fold put_change (record p { rows = others }) (cond v (lasting cs) (Stock r ∷ lasting cs))) e
      ∙ led cs (put_change p (Stock r)) others (put_sorted r p.rows sorted) rises (alike_one r cs p.rows others e alike)
  | inr e ↦ ap (λ (v : Bool). fold put_change (record p { rows = others }) (cond v (lasting cs) (Stock r ∷ lasting cs))) e
      ∙ led cs (put_change p (Stock r)) (put_row r others) (put_sorted r p.rows sorted) (put_sorted r others rises) (alike_both r cs p.rows others alike)
]
led (Advice k ∷ cs) p others sorted rises alike = led cs (put_change p (Advice k)) others sorted rises alike
led (Order k ∷ cs) p others sorted rises alike = led cs (put_change p (Order k)) others sorted rises alike
led (Sent n f ∷ cs) p others sorted rises alike = led cs (put_change p (Sent n f)) others sorted rises alike
led (Document n accepts ∷ cs) p others sorted rises alike = led cs (put_change p (Document n accepts)) others sorted rises alike

-- Dates.

date_kept_on : (x y z : Option (List ℕ)) → KeepsDate x y → KeepsDate y z → KeepsDate x z
date_kept_on None y z first second = tt
date_kept_on (Some date) y z first second = subst (λ (o : Option (List ℕ)). KeepsDate o z) first second

abbrev dates_of_rows : List LotRow → List ℕ → List ℕ → Option (List ℕ)
dates_of_rows rows = λ a b. date_of_pair a b rows

-- others tell no dates but those of the rows
kept_one : (r : LotRow) (rows others : List LotRow) → KeepsDate (date_of_pair r.item r.lot rows) r.expiry → AreKept (dates_of_rows rows) others
    → AreKept (dates_of_rows (put_row r rows)) others
kept_one r rows others keeps kept a b = subst (KeepsDate (date_of_pair a b others)) (sym (date_put a b r rows)) (by (is_row a b r) refl)
  where
    by : (v : Bool) → is_row a b r ≡ v → KeepsDate (date_of_pair a b others) (cond v r.expiry (date_of_pair a b rows))
    by true e =
        let here : KeepsDate (date_of_pair a b rows) r.expiry = subst (λ (k : Pair). KeepsDate (date_of_pair k.0 k.1 rows) r.expiry) ((row_test a b).says r e) keeps in
        date_kept_on (date_of_pair a b others) (date_of_pair a b rows) r.expiry (kept a b) here
    by false e = kept a b

kept_both : (r : LotRow) (rows others : List LotRow) → AreKept (dates_of_rows rows) others → AreKept (dates_of_rows (put_row r rows)) (put_row r others)
kept_both r rows others kept a b =
    subst (λ (o : Option (List ℕ)). KeepsDate o (date_of_pair a b (put_row r rows))) (sym (date_put a b r others))
    (subst (KeepsDate (cond (is_row a b r) r.expiry (date_of_pair a b others))) (sym (date_put a b r rows)) (by (is_row a b r)))
  where
    by : (v : Bool) → KeepsDate (cond v r.expiry (date_of_pair a b others)) (cond v r.expiry (date_of_pair a b rows))
    by true = same_kept r.expiry
    by false = kept a b

proper : (cs : List Change) (p : PageFacts) (others : List LotRow) → AreKept (dates_of_rows p.rows) others → AreProper p cs → AreProper (record p { rows = others }) (lasting cs)
proper [] p others kept h = tt
proper (Stock r ∷ cs) p others kept h = elim (cases_Bool (list_any (is_of r.item r.lot) cs)) [
  | inl e ↦ subst (λ (v : Bool). AreProper (record p { rows = others }) (cond v (lasting cs) (Stock r ∷ lasting cs))) (sym e)
      (proper cs (put_change p (Stock r)) others (kept_one r p.rows others h.0 kept) h.1)
  | inr e ↦ subst (λ (v : Bool). AreProper (record p { rows = others }) (cond v (lasting cs) (Stock r ∷ lasting cs))) (sym e) (
    date_kept_on (date_of_pair r.item r.lot others) (date_of_pair r.item r.lot p.rows) r.expiry (kept r.item r.lot) h.0,
    proper cs (put_change p (Stock r)) (put_row r others) (kept_both r p.rows others kept) h.1,
  )
]
proper (Advice k ∷ cs) p others kept h = (h.0, proper cs (put_change p (Advice k)) others kept h.1)
proper (Order k ∷ cs) p others kept h = (h.0, proper cs (put_change p (Order k)) others kept h.1)
proper (Sent n f ∷ cs) p others kept h = (h.0, proper cs (put_change p (Sent n f)) others kept h.1)
proper (Document n accepts ∷ cs) p others kept h = (h.0, proper cs (put_change p (Document n accepts)) others kept h.1)

-- what lasts of changes that lead to a history's page leads to it
pub lasting_leads : (cs : List Change) (p : PageFacts) (h : History) → AreLeading p cs h → AreLeading p (lasting cs) h
lasting_leads cs p h leads =
    let same : fold put_change p (lasting cs) ≡ fold put_change p cs = led cs p p.rows leads.sorted.rows leads.sorted.rows (λ a b none. refl) in
    record {
      sorted = leads.sorted;
      page = subst (λ (q : PageFacts). IsPageOf (record q { entries = p.entries + 1; recent = 0 }) h) (sym same) leads.page;
      proper = proper cs p p.rows (λ a b. same_kept (date_of_pair a b p.rows)) leads.proper;
    }

-- Each pair once.

none_left : (a b : List ℕ) (cs : List Change) → list_any (is_of a b) cs ≡ false → count_by (is_of a b) (lasting cs) ≡ 0
none_left a b [] none = refl
none_left a b (Stock r ∷ cs) none =
    let n = neither (is_row a b r) (list_any (is_of a b) cs) none in
    let rest = none_left a b cs n.1 in
    elim (cases_Bool (list_any (is_of r.item r.lot) cs)) [
      | inl e ↦ rw e rest
      | inr e ↦ rw e (omega (arith, rest, sum_by-cons (λ (c : Change). cond (is_of a b c) 1 0) (Stock r) (lasting cs), ap (λ (v : Bool). cond {A = ℕ} v 1 0) n.0))
    ]
none_left a b (Advice k ∷ cs) none = none_left a b cs none
none_left a b (Order k ∷ cs) none = none_left a b cs none
none_left a b (Sent n f ∷ cs) none = none_left a b cs none
none_left a b (Document n accepts ∷ cs) none = none_left a b cs none

pub lasting_once : (cs : List Change) → HasPairsOnce (lasting cs)
lasting_once [] a b = omega arith
lasting_once (Stock r ∷ cs) a b =
    let rest = lasting_once cs a b in
    elim (cases_Bool (list_any (is_of r.item r.lot) cs)) [
      | inl e ↦ rw e rest
      | inr e ↦ rw e (elim (cases_Bool (is_row a b r)) [
        | inl f ↦ omega (
          arith,
          none_left a b cs (sym (own_pair a b r cs f) ∙ e),
          sum_by-cons (λ (c : Change). cond (is_of a b c) 1 0) (Stock r) (lasting cs),
          ap (λ (v : Bool). cond {A = ℕ} v 1 0) f,
        )
        | inr f ↦ omega (arith, rest, sum_by-cons (λ (c : Change). cond (is_of a b c) 1 0) (Stock r) (lasting cs), ap (λ (v : Bool). cond {A = ℕ} v 1 0) f)
      ])
    ]
lasting_once (Advice k ∷ cs) a b = lasting_once cs a b
lasting_once (Order k ∷ cs) a b = lasting_once cs a b
lasting_once (Sent n f ∷ cs) a b = lasting_once cs a b
lasting_once (Document n accepts ∷ cs) a b = lasting_once cs a b

-- Where each pair has its row.

-- a pair without a row on a page was put in by no change, and had none before
no_row : (a b : List ℕ) (cs : List Change) (p : PageFacts) → find (is_row a b) (fold put_change p cs).rows ≡ None
    → (list_any (is_of a b) cs ≡ false) × (find (is_row a b) p.rows ≡ None)
no_row a b [] p none = (refl, none)
no_row a b (Stock r ∷ cs) p none =
    let later = no_row a b cs (put_change p (Stock r)) none in
    by (is_row a b r) later.0 (sym (row_found a b r p.rows) ∙ later.1)
  where
    by : (v : Bool) → list_any (is_of a b) cs ≡ false → cond v (Some r) (find (is_row a b) p.rows) ≡ None
        → ((v || list_any (is_of a b) cs) ≡ false) × (find (is_row a b) p.rows ≡ None)
    by true rest h = absurd (cc (h))
    by false rest h = (rest, h)
no_row a b (Advice k ∷ cs) p none = no_row a b cs (put_change p (Advice k)) none
no_row a b (Order k ∷ cs) p none = no_row a b cs (put_change p (Order k)) none
no_row a b (Sent n f ∷ cs) p none = no_row a b cs (put_change p (Sent n f)) none
no_row a b (Document n accepts ∷ cs) p none = no_row a b cs (put_change p (Document n accepts)) none

pub rows_there : (cs : List Change) (p : PageFacts) → HaveRows (fold put_change p cs).rows cs
rows_there cs p a b none = (no_row a b cs p none).0

-- so the row of a change's pair is found
pub row_there : (r : LotRow) (rows : List LotRow) → IsSorted rows → HaveRows rows (Stock r ∷ []) → of_pair one r.item r.lot rows ≡ 0 → ⊥
row_there r rows sorted there none = by (find (is_row r.item r.lot) rows) refl
  where
    own : is_row r.item r.lot r ≡ true
    own = (row_test r.item r.lot).said r refl

    by : (o : Option LotRow) → find (is_row r.item r.lot) rows ≡ o → ⊥
    by None h = let d : is_row r.item r.lot r ≡ false = (neither (is_row r.item r.lot r) false (there r.item r.lot h)).0 in absurd (cc (own, d))
    by (Some x) h = let d : 1 ≡ 0 = ap (was one) (sym h) ∙ sym (of_pair_found one r.item r.lot rows sorted) ∙ none in absurd (omega (arith, d))

-- Marks.

-- a change of another kind marks none
pub marks_same : (rows : List LotRow) (c : Change) (later : List Change) (marks : List Bool) → ((a b : List ℕ) → is_of a b c ≡ false) → AreMarked rows later marks
    → AreMarked rows (c ∷ later) marks
marks_same rows c later marks other marked = record {
  beside = marked.beside;
  here = λ a b i place. marked.here a b i place ∙ ap (λ (v : Bool). v || list_any (is_of a b) later) (sym (other a b));
}

-- and a row marks its pair's
pub marks_more : (rows : List LotRow) (r : LotRow) (later : List Change) (marks : List Bool) (i : ℕ) → IsSorted rows → IsPlace r.item r.lot rows i → AreMarked rows later marks
    → AreMarked rows (Stock r ∷ later) (set marks i true)
marks_more rows r later marks i sorted place marked = record {
  beside = length-set marks i true ∙ marked.beside;
  here = λ a b j there. by a b j there (is_row a b r) refl;
}
  where
    inside : i < length marks
    inside = omega (arith, place.within, marked.beside)

    by : (a b : List ℕ) (j : ℕ) → IsPlace a b rows j → (v : Bool) → is_row a b r ≡ v → get_or (set marks i true) j false ≡ (v || list_any (is_of a b) later)
    by a b j there true e =
        let same : IsPlace r.item r.lot rows j = subst (λ (k : Pair). IsPlace k.0 k.1 rows j) (sym ((row_test a b).says r e)) there in
        let here : j ≡ i = place_once r.item r.lot rows j i same place (sorted_distinct rows sorted r.item r.lot) in
        ap (λ (k : ℕ). get_or (set marks i true) k false) here ∙ get_or-set_same marks i true false inside
    by a b j there false e =
        let other : j ≢ i = λ here.
        let x = get_or rows i r in
        let found : is_row a b x ≡ true = ap (λ (k : ℕ). is_row a b (get_or rows k r)) (sym here) ∙ there.here r in
        let key : row_key r ≡ (a, b) = sym ((row_test r.item r.lot).says x (place.here r)) ∙ (row_test a b).says x found in
        let d : is_row a b r ≡ true = (row_test a b).said r key in absurd (cc (d, e)) in
        get_or-set_other marks i j true false other ∙ marked.here a b j there

-- what stands beside a row is whether it is replaced
pub mark_says : (rows : List LotRow) (r : LotRow) (later : List Change) (marks : List Bool) (i : ℕ) (v : Bool) → IsPlace r.item r.lot rows i → AreMarked rows later marks
    → v ≡ get_or marks i v → not v ≡ not (is_replaced (Stock r) later)
mark_says rows r later marks i v place marked is =
    let inside : i < length marks = omega (arith, place.within, marked.beside) in
    ap (λ (w : Bool). not w) (is ∙ get_or_default marks i v false inside ∙ marked.here r.item r.lot i place)

-- a change that is no row's is of no pair, and isn't replaced
pub other_kind : (c : Change) → ((r : LotRow) → c ≡ Stock r → ⊥) → (a b : List ℕ) → is_of a b c ≡ false
other_kind (Stock r) other a b = absurd (other r refl)
other_kind (Advice k) other a b = refl
other_kind (Order k) other a b = refl
other_kind (Sent n f) other a b = refl
other_kind (Document n accepts) other a b = refl

pub other_lasts : (c : Change) → ((r : LotRow) → c ≡ Stock r → ⊥) → (later : List Change) → true ≡ not (is_replaced c later)
other_lasts (Stock r) other later = absurd (other r refl)
other_lasts (Advice k) other later = refl
other_lasts (Order k) other later = refl
other_lasts (Sent n f) other later = refl
other_lasts (Document n accepts) other later = refl

-- Going over changes from the last one on.

-- what is kept of those that were gone over, the last one first; those that are left stand before
-- them
pub record AreKeptFrom (rows : List LotRow) (all left kept : List Change) (marks : List Bool) : Type 0 where
  pub later : List Change
  pub all_are : all ≡ left ++ later
  pub kept_are : reverse kept ≡ lasting later
  pub marked : AreMarked rows later marks

pub one_more_kept : (rows : List LotRow) (all left rest kept next : List Change) (c : Change) (v : Bool) (marks new : List Bool) → AreKeptFrom rows all left kept marks
    → left ≡ rest ++ c ∷ []
    → ((later : List Change) → AreMarked rows later marks → v ≡ not (is_replaced c later))
    → ((later : List Change) → AreMarked rows later marks → AreMarked rows (c ∷ later) new)
    → next ≡ cond v (kept ++ c ∷ []) kept → AreKeptFrom rows all rest next new
one_more_kept rows all left rest kept next c v marks new from is lasts marked put = record {
  later = c ∷ from.later;
  all_are = from.all_are ∙ ap (λ (cs : List Change). cs ++ from.later) is ∙ append_assoc rest (c ∷ []) from.later;
  kept_are = ap (λ (cs : List Change). reverse cs) put ∙ ap (λ (w : Bool). reverse (cond w (kept ++ c ∷ []) kept)) (lasts from.later from.marked) ∙ by (is_replaced c from.later);
  marked = marked from.later from.marked;
}
  where
    by : (w : Bool) → reverse (cond (not w) (kept ++ c ∷ []) kept) ≡ cond w (lasting from.later) (c ∷ lasting from.later)
    by true = from.kept_are
    by false = reverse-append kept (c ∷ []) ∙ ap (λ (cs : List Change). c ∷ cs) from.kept_are
