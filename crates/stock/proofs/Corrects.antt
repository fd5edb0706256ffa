-- A page with goods counted again.
use Rattle.std.proofs.Common.{◌≡◌, ℕ, zero, suc, ◌+◌, ◌*◌, ◌<◌, ◌≤◌, Bool, true, false, ◌&&◌, ◌||◌, cond, eqb, ltb, List, [], ◌∷◌, ◌++◌, map, refl, ap, sym, ◌∙◌, arith, inl, inr, Option, Ok, Err}
use Rattle.std.proofs.lemmas.Bool.{cases_Bool, ltb-false, eqb-true, eqb-false}
use Rattle.std.proofs.lemmas.List.{append-nil}
use Rattle.std.proofs.lemmas.Grind.{flat_map-append}
use Rattle.std.specs.Prelude.{flat_map, count_by, codes, unwrap_or}
use Rattle.std.specs.List.{list_any, list_all}
use Rattle.definitions.specs.Limits.{most_recounted, most_sets}
use Rattle.definitions.specs.Means.{Line}
use Rattle.definitions.specs.Rows.{LotRow, named}
use Rattle.definitions.specs.declared.refusals.Refusal.TheVariants.{UnknownLot, BelowReserved, NoDifference}
use Rattle.definitions.specs.Clerk.{recounted, on_hand_now}
use Rattle.definitions.specs.Page.{PageAdvice, PageOrder}
use Rattle.definitions.specs.Events.{Event, Recounted, is_pair, quantity_of, count_naming, date_naming, since as since_events}
use Rattle.definitions.specs.Movements.{Column, Expected, OnHand, Reservation, Shipped, comes, goes, balance}
use Rattle.page_rows.specs.OfPairs.{of_pair, one, amount, since, given, named_by, positive}
use Rattle.page_rows.specs.Moved.{set_by}
use Rattle.definitions.specs.Bytes.{comes_before}
use Rattle.page_rows.specs.Keyed.{rises_by, shipment_of, number_of}
use Rattle.page_rows.specs.Pages.{PageFacts, advice_at, order_at, awaited, held, IsSound, AreSorted, is_in_lines}
use Rattle.page_rows.proofs.KeyLemmas.{sorted_distinct, sent_sorted, advices_once, orders_once, documents_once}
use Rattle.stock.specs.Shows.{Shows, is_numbered_within}
use Rattle.page_rows.specs.Steps.{is_unknown, is_below, is_on_hand, IsRecounted}
use Rattle.page_rows.proofs.OfPairLemmas.{pair_is, of_pair_absent}
use Rattle.stock.proofs.Moves.{came_push, went_push, came_append, went_append, came_comes, went_comes, came_goes, went_goes}
use Rattle.stock.proofs.PageLemmas.{all_numbered_same, own_number}
use Rattle.page_rows.proofs.Pairs.{IsSheet, count_yes, count_no, quantity_yes, quantity_no, quantity_none}
use Rattle.stock.proofs.Events.{found_kept, all_push, advice_kept, order_kept, shares_kept, counted_kept, picked_kept}
use Rattle.stock.proofs.Receives.{sent_shown}
use Rattle.stock.proofs.Ships.{any_same}

unlike : (p q : Bool) → (p || q) ≡ false → (p ≡ false) × (q ≡ false)
unlike true q h = absurd (cc)
unlike false q h = (refl, h)

-- What a sheet names once.

any_none : (a b : List ℕ) (ls : List Line) → count_by (is_pair a b) ls ≡ 0 → list_any (is_pair a b) ls ≡ false
any_none a b [] h = refl
any_none a b (l ∷ ls) h = elim (cases_Bool (is_pair a b l)) [
  | inl e ↦ absurd (omega (arith, count_yes (is_pair a b) l ls e))
  | inr e ↦ rw e (any_none a b ls (sym (count_no (is_pair a b) l ls e) ∙ h))
]

set_none : (a b : List ℕ) (ls : List Line) (n : ℕ) → count_by (is_pair a b) ls ≡ 0 → set_by ls a b n ≡ n
set_none a b [] n h = refl
set_none a b (l ∷ ls) n h = elim (cases_Bool (is_pair a b l)) [
  | inl e ↦ absurd (omega (arith, count_yes (is_pair a b) l ls e))
  | inr e ↦ rw e (set_none a b ls n (sym (count_no (is_pair a b) l ls e) ∙ h))
]

-- what lines set of a pair that they name once
set_once : (a b : List ℕ) (ls : List Line) (n : ℕ) → count_by (is_pair a b) ls ≤ 1 → set_by ls a b n ≡ cond (list_any (is_pair a b) ls) (quantity_of ls a b) n
set_once a b [] n few = refl
set_once a b (l ∷ ls) n few = elim (cases_Bool (is_pair a b l)) [
  | inl e ↦
      let none : count_by (is_pair a b) ls ≡ 0 = omega (arith, count_yes (is_pair a b) l ls e, few) in
      let all : quantity_of (l ∷ ls) a b ≡ l.quantity = omega (arith, quantity_yes a b l ls e, quantity_none a b ls none) in
      ap (λ (v : Bool). set_by ls a b (cond v l.quantity n)) e ∙ set_none a b ls l.quantity none ∙ sym all
      ∙ ap (λ (v : Bool). cond (v || list_any (is_pair a b) ls) (quantity_of (l ∷ ls) a b) n) (sym e)
  | inr e ↦
      ap (λ (v : Bool). set_by ls a b (cond v l.quantity n)) e ∙ set_once a b ls n (omega (arith, count_no (is_pair a b) l ls e, few))
      ∙ ap (λ (q : ℕ). cond (list_any (is_pair a b) ls) q n) (sym (quantity_no a b l ls e))
      ∙ ap (λ (v : Bool). cond (v || list_any (is_pair a b) ls) (quantity_of (l ∷ ls) a b) n) (sym e)
]

-- what lines of the same pairs with other quantities give
abbrev with_amounts : (List ℕ → List ℕ → ℕ) → Line → Line
with_amounts f l = record { item = l.item; lot = l.lot; quantity = f l.item l.lot }

before_once : (f : List ℕ → List ℕ → ℕ) (a b : List ℕ) (ls : List Line) → count_by (is_pair a b) ls ≤ 1
    → quantity_of (map (with_amounts f) ls) a b ≡ cond (list_any (is_pair a b) ls) (f a b) 0
before_once f a b [] few = refl
before_once f a b (l ∷ ls) few = elim (cases_Bool (is_pair a b l)) [
  | inl e ↦
      let none : count_by (is_pair a b) ls ≡ 0 = omega (arith, count_yes (is_pair a b) l ls e, few) in
      let same = pair_is a b l e in
      let rest : quantity_of (map (with_amounts f) ls) a b ≡ 0 = before_once f a b ls (omega (arith, none)) ∙ ap (λ (v : Bool). cond v (f a b) 0) (any_none a b ls none) in
      let there : f l.item l.lot ≡ f a b = (λ i. f (same.0 i) (same.1 i)) in
      let sum : f l.item l.lot + quantity_of (map (with_amounts f) ls) a b ≡ f a b = omega (arith, rest, there) in
      quantity_yes a b (with_amounts f l) (map (with_amounts f) ls) e ∙ sum ∙ ap (λ (v : Bool). cond (v || list_any (is_pair a b) ls) (f a b) 0) (sym e)
  | inr e ↦
      quantity_no a b (with_amounts f l) (map (with_amounts f) ls) e ∙ before_once f a b ls (omega (arith, count_no (is_pair a b) l ls e, few))
      ∙ ap (λ (v : Bool). cond (v || list_any (is_pair a b) ls) (f a b) 0) (sym e)
]

unnamed : (a b : List ℕ) (ls : List Line) → list_any (is_pair a b) ls ≡ false → quantity_of ls a b ≡ 0
unnamed a b [] h = refl
unnamed a b (l ∷ ls) h = let u = unlike (is_pair a b l) (list_any (is_pair a b) ls) h in quantity_no a b l ls u.0 ∙ unnamed a b ls u.1

-- What no line of the sheet is.

-- a pair of the sheet has a row
pub named_known : (rows : List LotRow) (ls : List Line) (a b : List ℕ) → list_any (is_unknown rows) ls ≡ false → named_by ls a b ≤ of_pair one a b rows
named_known rows [] a b h = omega arith
named_known rows (l ∷ ls) a b h =
    let u = unlike (is_unknown rows l) (list_any (is_unknown rows) ls) h in
    elim (cases_Bool (is_pair a b l)) [
      | inl e ↦ rw e (by (of_pair one a b rows) refl u.0 (pair_is a b l e))
      | inr e ↦ rw e (named_known rows ls a b u.1)
    ]
  where
    by : (m : ℕ) → of_pair one a b rows ≡ m → is_unknown rows l ≡ false → (l.item ≡ a) × (l.lot ≡ b) → 1 ≤ of_pair one a b rows
    by zero e f same =
        let none : of_pair since l.item l.lot rows ≡ 0 = (λ i. of_pair since (same.0 i) (same.1 i) rows) ∙ of_pair_absent since a b rows e in
        absurd (eqb-false (of_pair since l.item l.lot rows) 0 f none)
    by (suc m) e f same = omega (arith, e)

-- and what is reserved of it isn't above the sheet's amount
not_below : (rows : List LotRow) (ls : List Line) (a b : List ℕ) → list_any (is_below rows) ls ≡ false → list_any (is_pair a b) ls ≡ true → of_pair (amount Reservation) a b rows ≤ quantity_of ls a b
not_below rows [] a b h t = absurd (cc)
not_below rows (l ∷ ls) a b h t =
    let u = unlike (is_below rows l) (list_any (is_below rows) ls) h in
    elim (cases_Bool (is_pair a b l)) [
      | inl e ↦
          let same = pair_is a b l e in
          let there : of_pair (amount Reservation) l.item l.lot rows ≡ of_pair (amount Reservation) a b rows = (λ i. of_pair (amount Reservation) (same.0 i) (same.1 i) rows) in
          omega (arith, quantity_yes a b l ls e, ltb-false l.quantity (of_pair (amount Reservation) l.item l.lot rows) u.0, there)
      | inr e ↦ omega (arith, quantity_no a b l ls e, not_below rows ls a b u.1 (rw e at t))
    ]

pub recounted_sound : (n : ℕ) (sheet : List Line) (old new : PageFacts) → IsRecounted n sheet old new → IsSheet sheet → list_any (is_below old.rows) sheet ≡ false
    → old.recent < most_sets → IsSound old → IsSound new
recounted_sound n sheet old new step is_sheet covers room sound = record {
  sorted = sorted;
  distinct = sorted_distinct new.rows step.rows.sorted;
  expected = λ a b. omega (arith, step.rows.others Expected a b refl, sound.expected a b, ap (λ (ks : List PageAdvice). awaited ks a b) step.advices);
  reserved = λ a b. omega (arith, step.rows.others Reservation a b refl, sound.reserved a b, ap (λ (ks : List PageOrder). held ks a b) step.orders);
  in_lines = ap (list_all is_in_lines) step.orders ∙ sound.in_lines;
  covered = λ a b. elim (cases_Bool (list_any (is_pair a b) sheet)) [
    | inl e ↦ omega (arith, now a b, ap (λ (v : Bool). cond v (quantity_of sheet a b) (of_pair (amount OnHand) a b old.rows)) e, step.rows.others Reservation a b refl, not_below old.rows sheet a b covers e)
    | inr e ↦ omega (arith, now a b, ap (λ (v : Bool). cond v (quantity_of sheet a b) (of_pair (amount OnHand) a b old.rows)) e, step.rows.others Reservation a b refl, sound.covered a b)
  ];
  bounded = bounded;
  numbered = omega (arith, sound.numbered, step.next.entries);
  few = omega (arith, step.next.recent);
  advices_once = advices_once new.advices sorted.advices;
  orders_once = orders_once new.orders sorted.orders;
  documents_once = documents_once new.documents sorted.documents;
}
  where
    sorted : AreSorted new
    sorted = record {
      rows = step.rows.sorted;
      advices = ap (rises_by comes_before shipment_of) step.advices ∙ sound.sorted.advices;
      orders = ap (rises_by comes_before number_of) step.orders ∙ sound.sorted.orders;
      documents = sent_sorted n (codes "AW") old.documents new.documents step.documents sound.sorted.documents;
    }

    now : (a b : List ℕ) → of_pair (amount OnHand) a b new.rows ≡ cond (list_any (is_pair a b) sheet) (quantity_of sheet a b) (of_pair (amount OnHand) a b old.rows)
    now a b = step.rows.on_hand a b ∙ set_once a b sheet (of_pair (amount OnHand) a b old.rows) (is_sheet.once a b)

    bounded : (c : Column) (a b : List ℕ) → of_pair (amount c) a b new.rows ≤ (most_recounted + 1) * (most_sets * new.entries + new.recent)
    bounded Expected a b = omega (arith, step.rows.others Expected a b refl, sound.bounded Expected a b, step.next.entries, step.next.recent)
    bounded Reservation a b = omega (arith, step.rows.others Reservation a b refl, sound.bounded Reservation a b, step.next.entries, step.next.recent)
    bounded Shipped a b = omega (arith, step.rows.others Shipped a b refl, sound.bounded Shipped a b, step.next.entries, step.next.recent)
    bounded OnHand a b = elim (cases_Bool (list_any (is_pair a b) sheet)) [
      | inl e ↦ omega (arith, now a b, ap (λ (v : Bool). cond v (quantity_of sheet a b) (of_pair (amount OnHand) a b old.rows)) e, is_sheet.little a b, step.next.entries, step.next.recent)
      | inr e ↦ omega (arith, now a b, ap (λ (v : Bool). cond v (quantity_of sheet a b) (of_pair (amount OnHand) a b old.rows)) e, sound.bounded OnHand a b, step.next.entries, step.next.recent)
    ]

-- What the page tells is what the events tell.

since_shown : (p : PageFacts) (es : List Event) (a b : List ℕ) → Shows p es → since_events es a b ≡ of_pair since a b p.rows
since_shown p es a b shows = ap (λ (o : Option ℕ). unwrap_or o 0) (shows.sinces a b) ∙ by (of_pair since a b p.rows)
  where
    by : (t : ℕ) → unwrap_or (positive t) 0 ≡ t
    by t = elim (cases_Bool (eqb t 0)) [ inl e ↦ rw e (sym (eqb-true t 0 e)) | inr e ↦ rw e refl ]

balance_shown : (p : PageFacts) (es : List Event) (c : Column) (a b : List ℕ) → Shows p es → balance es c a b ≡ of_pair (amount c) a b p.rows
balance_shown p es c a b shows = omega (arith, shows.amounts c a b)

all_same : {X : Type 0} (p q : X → Bool) (xs : List X) → ((x : X) → p x ≡ q x) → list_all p xs ≡ list_all q xs
all_same p q [] h = refl
all_same p q (x ∷ xs) h = (λ i. h x i && all_same p q xs h i)

abbrev unknown_in : List Event → Line → Bool
unknown_in es l = eqb (since_events es l.item l.lot) 0

abbrev below_in : List Event → Line → Bool
below_in es l = ltb l.quantity (balance es Reservation l.item l.lot)

abbrev on_hand_in : List Event → Line → Bool
on_hand_in es l = eqb l.quantity (balance es OnHand l.item l.lot)

unknown_same : (p : PageFacts) (es : List Event) (sheet : List Line) → Shows p es → list_any (unknown_in es) sheet ≡ list_any (is_unknown p.rows) sheet
unknown_same p es sheet shows = any_same (unknown_in es) (is_unknown p.rows) sheet (λ l. ap (λ (n : ℕ). eqb n 0) (since_shown p es l.item l.lot shows))

below_same : (p : PageFacts) (es : List Event) (sheet : List Line) → Shows p es → list_any (below_in es) sheet ≡ list_any (is_below p.rows) sheet
below_same p es sheet shows = any_same (below_in es) (is_below p.rows) sheet (λ l. ap (ltb l.quantity) (balance_shown p es Reservation l.item l.lot shows))

on_hand_same : (p : PageFacts) (es : List Event) (sheet : List Line) → Shows p es → list_all (on_hand_in es) sheet ≡ list_all (is_on_hand p.rows) sheet
on_hand_same p es sheet shows = all_same (on_hand_in es) (is_on_hand p.rows) sheet (λ l. ap (eqb l.quantity) (balance_shown p es OnHand l.item l.lot shows))

pub recounted_unknown : (p : PageFacts) (es : List Event) (n : ℕ) (sheet : List Line) → Shows p es → list_any (is_unknown p.rows) sheet ≡ true
    → recounted es n sheet ≡ Err UnknownLot
recounted_unknown p es n sheet shows h = rw (unknown_same p es sheet shows ∙ h) refl

pub recounted_below : (p : PageFacts) (es : List Event) (n : ℕ) (sheet : List Line) → Shows p es → list_any (is_unknown p.rows) sheet ≡ false → list_any (is_below p.rows) sheet ≡ true
    → recounted es n sheet ≡ Err BelowReserved
recounted_below p es n sheet shows h g = rw (unknown_same p es sheet shows ∙ h, below_same p es sheet shows ∙ g) refl

pub recounted_same : (p : PageFacts) (es : List Event) (n : ℕ) (sheet : List Line) → Shows p es → list_any (is_unknown p.rows) sheet ≡ false → list_any (is_below p.rows) sheet ≡ false
    → list_all (is_on_hand p.rows) sheet ≡ true → recounted es n sheet ≡ Err NoDifference
recounted_same p es n sheet shows h g f = rw (unknown_same p es sheet shows ∙ h, below_same p es sheet shows ∙ g, on_hand_same p es sheet shows ∙ f) refl

pub recounted_ok : (p : PageFacts) (es : List Event) (n : ℕ) (sheet : List Line) → Shows p es → list_any (is_unknown p.rows) sheet ≡ false → list_any (is_below p.rows) sheet ≡ false
    → list_all (is_on_hand p.rows) sheet ≡ false → recounted es n sheet ≡ Ok (Recounted n (on_hand_now es sheet) sheet)
recounted_ok p es n sheet shows h g f = rw (unknown_same p es sheet shows ∙ h, below_same p es sheet shows ∙ g, on_hand_same p es sheet shows ∙ f) refl

pub recounted_shows : (n : ℕ) (sheet : List Line) (old new : PageFacts) (es : List Event)
    → n ≡ old.entries + 1 → IsRecounted n sheet old new → IsSheet sheet → Shows old es → Shows new (es ++ Recounted n (on_hand_now es sheet) sheet ∷ [])
recounted_shows n sheet old new es follows step is_sheet shows =
    let e = Recounted n (on_hand_now es sheet) sheet in
    let numbered : list_all (is_numbered_within n) es ≡ true = ap (λ (m : ℕ). list_all (is_numbered_within m) es) follows ∙ shows.numbers in
    record {
      amounts = λ c a b. omega (
        arith,
        shows.amounts c a b,
        came_push es e c a b,
        went_push es e c a b,
        came_append (map (goes OnHand) (on_hand_now es sheet)) (map (comes OnHand) sheet) c a b,
        went_append (map (goes OnHand) (on_hand_now es sheet)) (map (comes OnHand) sheet) c a b,
        came_goes OnHand (on_hand_now es sheet) c a b,
        went_goes OnHand (on_hand_now es sheet) c a b,
        came_comes OnHand sheet c a b,
        went_comes OnHand sheet c a b,
        moved c a b,
      );
      sinces = λ a b. found_kept (count_naming a b) es e refl ∙ shows.sinces a b ∙ ap positive (sym (step.rows.sinces a b));
      expiries = λ a b. found_kept (date_naming a b) es e refl ∙ shows.expiries a b ∙ sym (step.rows.expiries a b);
      pairs = λ a b. omega (
        arith,
        step.rows.named a b,
        shows.pairs a b,
        ap (λ (ls : List Line). named_by ls a b) (flat_map-append named es (e ∷ []) ∙ append-nil (flat_map named es)),
      );
      advices = λ s. ap (advice_at s) step.advices ∙ shows.advices s ∙ advice_kept es e s refl refl;
      orders = λ s. ap (order_at s) step.orders ∙ shows.orders s ∙ order_kept es e s refl refl;
      documents = λ m. sent_shown es e n (codes "AW") old.documents new.documents step.documents (λ j. refl) (λ j g. refl) numbered m (shows.documents m);
      counted = λ s. counted_kept es e s refl (shows.counted s);
      picked = λ s. picked_kept es e s refl (shows.picked s);
      shares = λ s. shares_kept es e s refl (shows.shares s);
      numbers = all_push (is_numbered_within (new.entries + 1)) es e (all_numbered_same old.entries new.entries es step.next.entries shows.numbers) (own new step.next.entries);
    }
  where
    before : List Line
    before = on_hand_now es sheet

    moved : (c : Column) (a b : List ℕ) → of_pair (amount c) a b new.rows + given OnHand before c a b ≡ of_pair (amount c) a b old.rows + given OnHand sheet c a b
    moved Expected a b = omega (arith, step.rows.others Expected a b refl)
    moved Reservation a b = omega (arith, step.rows.others Reservation a b refl)
    moved Shipped a b = omega (arith, step.rows.others Shipped a b refl)
    moved OnHand a b =
        let t = of_pair (amount OnHand) a b old.rows in
        let q = quantity_of sheet a b in
        let now : of_pair (amount OnHand) a b new.rows ≡ cond (list_any (is_pair a b) sheet) q t = step.rows.on_hand a b ∙ set_once a b sheet t (is_sheet.once a b) in
        let was : quantity_of before a b ≡ cond (list_any (is_pair a b) sheet) (balance es OnHand a b) 0 = before_once (balance es OnHand) a b sheet (is_sheet.once a b) in
        elim (cases_Bool (list_any (is_pair a b) sheet)) [
          | inl e ↦ omega (arith, now, was, ap (λ (v : Bool). cond v q t) e, ap (λ (v : Bool). cond v (balance es OnHand a b) 0) e, balance_shown old es OnHand a b shows)
          | inr e ↦ omega (arith, now, was, ap (λ (v : Bool). cond v q t) e, ap (λ (v : Bool). cond v (balance es OnHand a b) 0) e, unnamed a b sheet e)
        ]

    own : (p : PageFacts) → p.entries ≡ old.entries → is_numbered_within (p.entries + 1) (Recounted n before sheet) ≡ true
    own p same = own_number n (p.entries + 1) (omega (arith, follows, same), omega (arith, follows, same))
