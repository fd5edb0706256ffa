-- The page with one event more exists: with a count, a pick or a recount of a clerk's.
use Rattle.std.proofs.Common.{◌≡◌, ℕ, ◌+◌, ◌-◌, ◌<◌, ◌≤◌, Bool, true, false, cond, List, [], ◌∷◌, ◌++◌, refl, ap, ◌∙◌, subst, arith, inl, inr, Option, Some, None, Ok, Result}
use Rattle.std.proofs.lemmas.Bool.{cases_Bool, eqb-false}
use Rattle.std.proofs.lemmas.Slice.Eq.{bytes_eq-Decides}
use Rattle.std.specs.Prelude.{codes}
use Rattle.std.specs.List.{list_any, list_all}
use Rattle.definitions.specs.Limits.{most_sets}
use Rattle.definitions.specs.Events.{Event, Counted, Picked, Recounted, is_pair, quantity_of}
use Rattle.definitions.specs.Clerk.{counted, picked, recounted, on_hand_now}
use Rattle.definitions.specs.Means.{Line}
use Rattle.definitions.specs.Movements.{Column, Expected, OnHand, Reservation, Shipped, column_eq}
use Rattle.definitions.specs.Page.{PageAdvice, PageOrder}
use Rattle.definitions.specs.Rows.{LotRow}
use Rattle.page_rows.specs.Keyed.{put_advice, put_order}
use Rattle.page_rows.specs.Moved.{IsCounted, IsShipped, SetsOnHand, set_by}
use Rattle.page_rows.specs.Pages.{PageFacts, IsSound, is_shipment, is_number, advice_at, order_at}
use Rattle.stock.specs.Shows.{Shows}
use Rattle.page_rows.specs.Steps.{closed_advice, closed_order, with_sent, exceeds, is_unknown, is_below, is_on_hand, IsReceived, IsPicked, IsRecounted}
use Rattle.page_rows.specs.OfPairs.{of_pair, date_of_pair, one, since, amount, given, first_number}
use Rattle.page_rows.proofs.Dates.{date_absent}
use Rattle.stock.proofs.Existing.{rows_made}
use Rattle.page_rows.proofs.Pairs.{IsSheet}
use Rattle.page_rows.proofs.Finds.{found_says}
use Rattle.stock.proofs.Corrects.{recounted_unknown, recounted_below, recounted_same, recounted_ok, recounted_sound, recounted_shows}
use Rattle.stock.proofs.Ships.{held_there, within_reserved, order_known, picked_unknown, picked_closed, picked_excess, picked_ok, picked_sound, picked_shows}
use Rattle.stock.proofs.Receives.{given_at_most, expected_there, advice_known, counted_unknown, counted_closed, counted_ok, received_sound, received_shows}
use Rattle.page_rows.proofs.OfPairLemmas.{of_pair_absent, pair_is}
use Rattle.stock.proofs.OneMore.{IsOneMore, neither, unnamed}

-- A count.

same_ok : {X Y : Type 0} (r : Result X Y) (x y : X) → r ≡ Ok x → r ≡ Ok y → x ≡ y
same_ok r x y h k = cc (h, k)

rows_counted : (n : ℕ) (lines sheet : List Line) (p : PageFacts) → IsSound p
    → ((a b : List ℕ) → quantity_of lines a b ≤ of_pair (amount Expected) a b p.rows)
    → (new : List LotRow) × IsCounted n lines sheet p.rows new
rows_counted n lines sheet p sound enough =
    let m = rows_made date number left sheet p.rows sound.sorted.rows nothing in (
      m.0,
      record {
        sorted = m.1.sorted;
        amounts = λ c a b. omega (arith, m.1.amounts c a b, within c a b);
        sinces = m.1.sinces;
        expiries = m.1.expiries;
        named = m.1.named;
      },
    )
  where
    date : List ℕ → List ℕ → Option (List ℕ)
    date a b = date_of_pair a b p.rows

    number : List ℕ → List ℕ → ℕ
    number a b = first_number n (list_any (is_pair a b) sheet) (of_pair since a b p.rows)

    left : Column → List ℕ → List ℕ → ℕ
    left c a b = of_pair (amount c) a b p.rows + given OnHand sheet c a b - given Expected lines c a b

    within : (c : Column) (a b : List ℕ) → given Expected lines c a b ≤ of_pair (amount c) a b p.rows
    within Expected a b = enough a b
    within OnHand a b = omega arith
    within Reservation a b = omega arith
    within Shipped a b = omega arith

    nothing : (a b : List ℕ) → of_pair one a b p.rows ≡ 0 → list_any (is_pair a b) sheet ≡ false
        → (number a b ≡ 0) × ((c : Column) → left c a b ≡ 0) × (date a b ≡ None)
    nothing a b none unnamed_it = (
      rw (unnamed_it, of_pair_absent since a b p.rows none) refl,
      λ c. omega (arith, of_pair_absent (amount c) a b p.rows none, given_at_most OnHand sheet c a b, unnamed a b sheet unnamed_it),
      date_absent a b p.rows sound.sorted.rows none,
    )

pub counted_more : (p : PageFacts) (es : List Event) (n : ℕ) (s : List ℕ) (sheet : List Line) (e : Event) → IsSound p
    → Shows p es → p.recent < most_sets
    → n ≡ p.entries + 1 → IsSheet sheet → counted es n s sheet ≡ Ok e → (q : PageFacts) × IsOneMore p es e q
counted_more p es n s sheet e sound shows room follows is_sheet is = by (advice_at s p.advices) refl
  where
    made : (k : PageAdvice) → advice_at s p.advices ≡ Some k → k.is_open ≡ true → (q : PageFacts) × IsOneMore p es e q
    made k there is_open =
        let a = advice_known p es s k shows there in
        let same : Counted n a.0 sheet ≡ e =
        same_ok (counted es n s sheet) (Counted n a.0 sheet) e (counted_ok es n s a.0 k sheet a.1 a.2 is_open) is in
        let key : k.shipment ≡ s = (bytes_eq-Decides k.shipment s).0 (found_says (is_shipment s) p.advices k there) in
        let here : advice_at k.shipment p.advices ≡ Some k = ap (λ (t : List ℕ). advice_at t p.advices) key ∙ there in
        let rows = rows_counted n k.lines sheet p sound (expected_there p s k sound there is_open) in
        let q : PageFacts = record p {
          rows = rows.0;
          advices = put_advice (closed_advice k) p.advices;
          documents = with_sent n (codes "RE") p.documents;
          recent = p.recent + 1;
        } in
        let step : IsReceived n k sheet p q = record {
          rows = rows.1;
          advices = refl;
          orders = refl;
          documents = refl;
          next = record { entries = refl; recent = refl };
        } in (
          q,
          record {
            sound = received_sound n k sheet p q step here is_open is_sheet room sound;
            shows = subst (λ (x : Event). Shows q (es ++ x ∷ [])) same
                (received_shows n k a.0 sheet s p q es follows step there a.1 a.2 shows);
            entries = refl;
            recent = refl;
          },
        )

    by_open : (k : PageAdvice) (v : Bool) → advice_at s p.advices ≡ Some k → k.is_open ≡ v
        → (q : PageFacts) × IsOneMore p es e q
    by_open k true there is_open = made k there is_open
    by_open k false there shut = let refused = counted_closed p es n s k sheet shows there shut in absurd (cc (refused, is))

    by : (o : Option PageAdvice) → advice_at s p.advices ≡ o → (q : PageFacts) × IsOneMore p es e q
    by None there = let refused = counted_unknown p es n s sheet shows there in absurd (cc (refused, is))
    by (Some k) there = by_open k k.is_open there refl

-- A pick.

rows_shipped : (reserved sheet : List Line) (p : PageFacts) → IsSound p
    → ((a b : List ℕ) → quantity_of reserved a b ≤ of_pair (amount Reservation) a b p.rows)
    → ((a b : List ℕ) → quantity_of sheet a b ≤ quantity_of reserved a b)
    → (new : List LotRow) × IsShipped reserved sheet p.rows new
rows_shipped reserved sheet p sound enough covers =
    let m = rows_made date number left [] p.rows sound.sorted.rows nothing in (
      m.0,
      record {
        sorted = m.1.sorted;
        amounts = λ c a b. omega (arith, m.1.amounts c a b, within c a b);
        sinces = m.1.sinces;
        expiries = m.1.expiries;
        named = λ a b. omega (arith, m.1.named a b);
      },
    )
  where
    date : List ℕ → List ℕ → Option (List ℕ)
    date a b = date_of_pair a b p.rows

    number : List ℕ → List ℕ → ℕ
    number a b = of_pair since a b p.rows

    left : Column → List ℕ → List ℕ → ℕ
    left c a b = of_pair (amount c) a b p.rows + given Shipped sheet c a b - given OnHand sheet c a b - given Reservation reserved c a b

    within : (c : Column) (a b : List ℕ)
        → given OnHand sheet c a b + given Reservation reserved c a b ≤ of_pair (amount c) a b p.rows
    within Expected a b = omega arith
    within OnHand a b = omega (arith, covers a b, enough a b, sound.covered a b)
    within Reservation a b = omega (arith, enough a b)
    within Shipped a b = omega arith

    nothing : (a b : List ℕ) → of_pair one a b p.rows ≡ 0 → list_any (is_pair a b) [] ≡ false
        → (number a b ≡ 0) × ((c : Column) → left c a b ≡ 0) × (date a b ≡ None)
    nothing a b none unnamed_it = (
      of_pair_absent since a b p.rows none,
      λ c. omega (
        arith,
        of_pair_absent (amount c) a b p.rows none,
        given_at_most Shipped sheet c a b,
        covers a b,
        enough a b,
        of_pair_absent (amount Reservation) a b p.rows none,
      ),
      date_absent a b p.rows sound.sorted.rows none,
    )

pub picked_more : (p : PageFacts) (es : List Event) (n : ℕ) (s : List ℕ) (sheet : List Line) (e : Event) → IsSound p
    → Shows p es → p.recent < most_sets
    → n ≡ p.entries + 1 → IsSheet sheet → picked es n s sheet ≡ Ok e → (q : PageFacts) × IsOneMore p es e q
picked_more p es n s sheet e sound shows room follows is_sheet is = by (order_at s p.orders) refl
  where
    made : (k : PageOrder) → order_at s p.orders ≡ Some k → k.is_open ≡ true
        → list_any (exceeds k.reserved) sheet ≡ false → (q : PageFacts) × IsOneMore p es e q
    made k there is_open covers =
        let r = order_known p es s k shows there in
        let same : Picked n r.0.order r.0.shares sheet ≡ e =
        same_ok (picked es n s sheet) (Picked n r.0.order r.0.shares sheet) e
        (picked_ok p es n s r.0 k sheet shows r.1 r.2 is_open covers) is in
        let key : k.number ≡ s = (bytes_eq-Decides k.number s).0 (found_says (is_number s) p.orders k there) in
        let here : order_at k.number p.orders ≡ Some k = ap (λ (t : List ℕ). order_at t p.orders) key ∙ there in
        let little : (a b : List ℕ) → quantity_of sheet a b ≤ quantity_of k.reserved a b =
        λ a b. within_reserved k.reserved sheet a b covers (is_sheet.once a b) in
        let rows = rows_shipped k.reserved sheet p sound (held_there p s k sound there is_open) little in
        let q : PageFacts = record p {
          rows = rows.0;
          orders = put_order (closed_order k) p.orders;
          documents = with_sent n (codes "SW") p.documents;
          recent = p.recent + 1;
        } in
        let step : IsPicked n k sheet p q = record {
          rows = rows.1;
          advices = refl;
          orders = refl;
          documents = refl;
          next = record { entries = refl; recent = refl };
        } in (
          q,
          record {
            sound = picked_sound n k sheet p q step here is_open is_sheet covers room sound;
            shows = subst (λ (x : Event). Shows q (es ++ x ∷ [])) same
                (picked_shows n k r.0 sheet s p q es follows step there r.1 r.2 is_open shows);
            entries = refl;
            recent = refl;
          },
        )

    by_excess : (k : PageOrder) (v : Bool) → order_at s p.orders ≡ Some k → k.is_open ≡ true
        → list_any (exceeds k.reserved) sheet ≡ v → (q : PageFacts) × IsOneMore p es e q
    by_excess k false there is_open covers = made k there is_open covers
    by_excess k true there is_open over =
        let refused = picked_excess p es n s k sheet shows there is_open over in absurd (cc (refused, is))

    by_open : (k : PageOrder) (v : Bool) → order_at s p.orders ≡ Some k → k.is_open ≡ v
        → (q : PageFacts) × IsOneMore p es e q
    by_open k true there is_open = by_excess k (list_any (exceeds k.reserved) sheet) there is_open refl
    by_open k false there shut = let refused = picked_closed p es n s k sheet shows there shut in absurd (cc (refused, is))

    by : (o : Option PageOrder) → order_at s p.orders ≡ o → (q : PageFacts) × IsOneMore p es e q
    by None there = let refused = picked_unknown p es n s sheet shows there in absurd (cc (refused, is))
    by (Some k) there = by_open k k.is_open there refl

-- A recount.

-- a pair that a sheet of known pairs names has a row
unknown_unnamed : (rows : List LotRow) (ls : List Line) (a b : List ℕ) → list_any (is_unknown rows) ls ≡ false
    → of_pair one a b rows ≡ 0 → list_any (is_pair a b) ls ≡ false
unknown_unnamed rows [] a b h none = refl
unknown_unnamed rows (l ∷ ls) a b h none =
    let u = neither (is_unknown rows l) (list_any (is_unknown rows) ls) h in
    elim (cases_Bool (is_pair a b l)) [
      | inl e ↦
          let same = pair_is a b l e in
          let nought : of_pair since l.item l.lot rows ≡ 0 =
          (λ i. of_pair since (same.0 i) (same.1 i) rows) ∙ of_pair_absent since a b rows none in
          absurd (eqb-false (of_pair since l.item l.lot rows) 0 u.0 nought)
      | inr e ↦ rw e (unknown_unnamed rows ls a b u.1 none)
    ]

set_unnamed : (a b : List ℕ) (ls : List Line) (n : ℕ) → list_any (is_pair a b) ls ≡ false → set_by ls a b n ≡ n
set_unnamed a b [] n h = refl
set_unnamed a b (l ∷ ls) n h =
    let u = neither (is_pair a b l) (list_any (is_pair a b) ls) h in
    ap (λ (v : Bool). set_by ls a b (cond v l.quantity n)) u.0 ∙ set_unnamed a b ls n u.1

rows_set : (sheet : List Line) (p : PageFacts) → IsSound p → list_any (is_unknown p.rows) sheet ≡ false
    → (new : List LotRow) × SetsOnHand sheet p.rows new
rows_set sheet p sound known =
    let m = rows_made date number left [] p.rows sound.sorted.rows nothing in (
      m.0,
      record {
        sorted = m.1.sorted;
        on_hand = m.1.amounts OnHand;
        others = λ c a b apart. m.1.amounts c a b ∙ kept c a b apart;
        sinces = m.1.sinces;
        expiries = m.1.expiries;
        named = λ a b. omega (arith, m.1.named a b);
      },
    )
  where
    date : List ℕ → List ℕ → Option (List ℕ)
    date a b = date_of_pair a b p.rows

    number : List ℕ → List ℕ → ℕ
    number a b = of_pair since a b p.rows

    left : Column → List ℕ → List ℕ → ℕ
    left OnHand a b = set_by sheet a b (of_pair (amount OnHand) a b p.rows)
    left Expected a b = of_pair (amount Expected) a b p.rows
    left Reservation a b = of_pair (amount Reservation) a b p.rows
    left Shipped a b = of_pair (amount Shipped) a b p.rows

    kept : (c : Column) (a b : List ℕ) → column_eq OnHand c ≡ false → left c a b ≡ of_pair (amount c) a b p.rows
    kept OnHand a b apart = absurd (cc)
    kept Expected a b apart = refl
    kept Reservation a b apart = refl
    kept Shipped a b apart = refl

    nought : (a b : List ℕ) → of_pair one a b p.rows ≡ 0 → (c : Column) → left c a b ≡ 0
    nought a b none OnHand =
        set_unnamed a b sheet (of_pair (amount OnHand) a b p.rows) (unknown_unnamed p.rows sheet a b known none)
        ∙ of_pair_absent (amount OnHand) a b p.rows none
    nought a b none Expected = of_pair_absent (amount Expected) a b p.rows none
    nought a b none Reservation = of_pair_absent (amount Reservation) a b p.rows none
    nought a b none Shipped = of_pair_absent (amount Shipped) a b p.rows none

    nothing : (a b : List ℕ) → of_pair one a b p.rows ≡ 0 → list_any (is_pair a b) [] ≡ false
        → (number a b ≡ 0) × ((c : Column) → left c a b ≡ 0) × (date a b ≡ None)
    nothing a b none unnamed_it = (of_pair_absent since a b p.rows none, nought a b none, date_absent a b p.rows sound.sorted.rows none)

pub recounted_more : (p : PageFacts) (es : List Event) (n : ℕ) (sheet : List Line) (e : Event) → IsSound p → Shows p es
    → p.recent < most_sets
    → n ≡ p.entries + 1 → IsSheet sheet → recounted es n sheet ≡ Ok e → (q : PageFacts) × IsOneMore p es e q
recounted_more p es n sheet e sound shows room follows is_sheet is =
    by (list_any (is_unknown p.rows) sheet) (list_any (is_below p.rows) sheet) (list_all (is_on_hand p.rows) sheet) refl refl refl
  where
    by : (u b o : Bool) → list_any (is_unknown p.rows) sheet ≡ u → list_any (is_below p.rows) sheet ≡ b
        → list_all (is_on_hand p.rows) sheet ≡ o → (q : PageFacts) × IsOneMore p es e q
    by true b o known covers differs =
        let refused = recounted_unknown p es n sheet shows known in absurd (cc (refused, is))
    by false true o known covers differs =
        let refused = recounted_below p es n sheet shows known covers in absurd (cc (refused, is))
    by false false true known covers differs =
        let refused = recounted_same p es n sheet shows known covers differs in absurd (cc (refused, is))
    by false false false known covers differs =
        let same : Recounted n (on_hand_now es sheet) sheet ≡ e =
        same_ok (recounted es n sheet) (Recounted n (on_hand_now es sheet) sheet) e
        (recounted_ok p es n sheet shows known covers differs) is in
        let rows = rows_set sheet p sound known in
        let q : PageFacts = record p {
          rows = rows.0;
          documents = with_sent n (codes "AW") p.documents;
          recent = p.recent + 1;
        } in
        let step : IsRecounted n sheet p q = record {
          rows = rows.1;
          advices = refl;
          orders = refl;
          documents = refl;
          next = record { entries = refl; recent = refl };
        } in (
          q,
          record {
            sound = recounted_sound n sheet p q step is_sheet covers room sound;
            shows = subst (λ (x : Event). Shows q (es ++ x ∷ [])) same
                (recounted_shows n sheet p q es follows step is_sheet shows);
            entries = refl;
            recent = refl;
          },
        )
