-- The text that is made from a page is that of the event's document.
use Rattle.std.proofs.Common.{◌≡◌, ℕ, ◌+◌, ◌*◌, ◌≤◌, Bool, true, false, not, inl, inr, List, [], ◌∷◌, Option, Some, None, Ok, Err, refl, sym, ap, ◌∙◌, arith, map}
use Rattle.std.specs.Prelude.{Result, option_map, count_by, codes, nat_lt, if◌then◌else◌}
use Rattle.std.specs.List.{AllByRecursion, list_any}
use Rattle.std.proofs.lemmas.Bool.{cases_Bool, and_parts}
use Rattle.definitions.specs.Rules.{Today}
use Rattle.definitions.specs.Means.{Line, Advice, OrderLine}
use Rattle.definitions.specs.Events.{Event, Counted, Picked, Recounted, is_pair, quantity_of, advice_under, is_advice_open, Reserved, order_under, is_order_open}
use Rattle.definitions.specs.Movements.{OnHand, balance}
use Rattle.definitions.specs.Clerk.{is_sheet, counted, picked, recounted, on_hand_now}
use Rattle.definitions.specs.declared.sheet_kind.SheetKind.TheVariants.{Recount as RecountSheet}
use Rattle.definitions.specs.Page.{PageAdvice, PageOrder, page_advice, page_order, page_line}
use Rattle.definitions.specs.declared.refusals.Refusal.{Refusal}
use Rattle.definitions.specs.declared.refusals.Refusal.TheVariants.{AdviceClosed, OrderClosed, NotReserved, UnknownLot, BelowReserved, NoDifference}
use Rattle.definitions.specs.Texts.{document_of, document_text, total_of}
use Rattle.definitions.specs.Cut.{Segment}
use Rattle.sets_out.specs.Documents.{AdjustedLine, ShippedLine, adjusted_for, shipped_for, shipment_body, adjustment_body}
use Rattle.sets_out.proofs.BodyLaws.{body_944-for, body_945-for, body_947-for}
use Rattle.sets_out.specs.declared.envelopes.Envelope.{Envelope}
use Rattle.stock.specs.Pages.{PageFacts, advice_at, order_at}
use Rattle.stock.specs.Parts.{Named, IsPart, are_items}
use Rattle.stock.specs.Shows.{Shows}
use Rattle.stock.specs.OfPairs.{of_pair, amount}
use Rattle.stock.proofs.OfPairLemmas.{pair_is}
use Rattle.stock.proofs.Sums.{own_pair}
use Rattle.stock.proofs.Pairs.{count_yes, count_no, quantity_yes, quantity_no, IsSheet, sheet_facts}
use Rattle.rules.specs.Documents.{receipt_text, shipment_text, shipped_of, adjustment_text, adjusted_from}

-- what is Ok where a refusal stood before it
open_ok : {X : Type 0} (b : Bool) (x y : X) (r : Refusal) → (if b then Ok x else Err r) ≡ Ok y → x ≡ y
open_ok true x y r h = cc h
open_ok false x y r h = absurd (cc h)

later_ok : {X : Type 0} (b : Bool) (r : Refusal) (rest : Result X Refusal) (y : X) → (if b then Err r else rest) ≡ Ok y → rest ≡ Ok y
later_ok true r rest y h = absurd (cc h)
later_ok false r rest y h = h

same_ok : {X : Type 0} (r : Result X Refusal) (x y : X) → r ≡ Ok x → r ≡ Ok y → x ≡ y
same_ok r x y h k = cc (h, k)

-- Counts.

counted_as : (es : List Event) (n : ℕ) (shipment : List ℕ) (sheet : List Line) (a : Advice) (b : Bool) → advice_under shipment es ≡ Some a → is_advice_open shipment es ≡ b
    → counted es n shipment sheet ≡ (if b then Ok (Counted n a sheet) else Err AdviceClosed)
counted_as es n shipment sheet a b found is = rw (found, is) refl

-- the advice that a count closes is the page's
counted_event : (es : List Event) (n : ℕ) (shipment : List ℕ) (sheet : List Line) (e : Event) (k : PageAdvice) (o : Option Advice) → advice_under shipment es ≡ o
    → counted es n shipment sheet ≡ Ok e → Some k ≡ option_map (page_advice es) o → (a : Advice) × (e ≡ Counted n a sheet) × (k ≡ page_advice es a)
counted_event es n shipment sheet e k None found is there = absurd (cc there)
counted_event es n shipment sheet e k (Some a) found is there =
    let unfolds = counted_as es n shipment sheet a (is_advice_open shipment es) found refl in
    (a, sym (open_ok (is_advice_open shipment es) (Counted n a sheet) e AdviceClosed (sym unfolds ∙ is)), cc there)

pub receipt_is : (w : Envelope) (p : PageFacts) (es : List Event) (n : ℕ) (shipment : List ℕ) (sheet : List Line) (e : Event) (k : PageAdvice) (text : List ℕ)
    → Shows p es → counted es n shipment sheet ≡ Ok e → advice_at shipment p.advices ≡ Some k → text ≡ receipt_text w k sheet
    → text ≡ document_of w.warehouse w.depositor w.moment w.number e
receipt_is w p es n shipment sheet e k text shows is at made =
    let found = counted_event es n shipment sheet e k (advice_under shipment es) refl is (sym at ∙ shows.advices shipment) in
    made ∙ ap (λ (x : PageAdvice). receipt_text w x sheet) found.2
    ∙ ap (λ (body : List Segment). document_text w.warehouse w.depositor w.moment w.number (codes "RE") (codes "944") body) (sym (body_944-for w.moment w.number found.0 sheet))
    ∙ ap (document_of w.warehouse w.depositor w.moment w.number) (sym found.1)

-- Picks.

picked_as : (es : List Event) (n : ℕ) (number : List ℕ) (sheet : List Line) (r : Reserved) (b c : Bool) → order_under number es ≡ Some r → is_order_open number es ≡ b
    → list_any (λ l. nat_lt (quantity_of r.shares l.item l.lot) l.quantity) sheet ≡ c
    → picked es n number sheet ≡ (if not b then Err OrderClosed else (if c then Err NotReserved else Ok (Picked n r.order r.shares sheet)))
picked_as es n number sheet r b c found is exceeds = rw (found, is, exceeds) refl

picked_event : (es : List Event) (n : ℕ) (number : List ℕ) (sheet : List Line) (e : Event) (k : PageOrder) (o : Option Reserved) → order_under number es ≡ o
    → picked es n number sheet ≡ Ok e → Some k ≡ option_map (page_order es) o → (r : Reserved) × (e ≡ Picked n r.order r.shares sheet) × (k ≡ page_order es r)
picked_event es n number sheet e k None found is there = absurd (cc there)
picked_event es n number sheet e k (Some r) found is there =
    let exceeds = list_any (λ l. nat_lt (quantity_of r.shares l.item l.lot) l.quantity) sheet in
    let rest : Result Event Refusal = if exceeds then Err NotReserved else Ok (Picked n r.order r.shares sheet) in
    let unfolds = picked_as es n number sheet r (is_order_open number es) exceeds found refl refl in
    let one : rest ≡ Ok e = later_ok (not (is_order_open number es)) OrderClosed rest e (sym unfolds ∙ is) in
    (r, sym (same_ok (Ok (Picked n r.order r.shares sheet)) (Picked n r.order r.shares sheet) e refl (later_ok exceeds NotReserved (Ok (Picked n r.order r.shares sheet)) e one)), cc there)

lines_same : (sheet : List Line) (ls : List OrderLine) → map (shipped_of sheet) (map page_line ls) ≡ map (shipped_for sheet) ls
lines_same sheet [] = refl
lines_same sheet (l ∷ ls) = ap (λ (x : List ShippedLine). shipped_for sheet l ∷ x) (lines_same sheet ls)

pub shipment_is : (w : Envelope) (p : PageFacts) (es : List Event) (n : ℕ) (number : List ℕ) (sheet : List Line) (e : Event) (k : PageOrder) (text : List ℕ)
    → Shows p es → picked es n number sheet ≡ Ok e → order_at number p.orders ≡ Some k → text ≡ shipment_text w k sheet
    → text ≡ document_of w.warehouse w.depositor w.moment w.number e
shipment_is w p es n number sheet e k text shows is at made =
    let found = picked_event es n number sheet e k (order_under number es) refl is (sym at ∙ shows.orders number) in
    let body : List ShippedLine → List Segment = λ lines. shipment_body w.moment w.number (record { order = found.0.order.number; lines = lines; shipped = total_of sheet }) in
    made ∙ ap (λ (x : PageOrder). shipment_text w x sheet) found.2
    ∙ ap (λ (ls : List ShippedLine). document_text w.warehouse w.depositor w.moment w.number (codes "SW") (codes "945") (body ls)) (lines_same sheet found.0.order.lines)
    ∙ ap (λ (b : List Segment). document_text w.warehouse w.depositor w.moment w.number (codes "SW") (codes "945") b) (sym (body_945-for w.moment w.number found.0.order sheet))
    ∙ ap (document_of w.warehouse w.depositor w.moment w.number) (sym found.1)

-- Recounts.

recounted_event : (es : List Event) (n : ℕ) (sheet : List Line) (e : Event) → recounted es n sheet ≡ Ok e → e ≡ Recounted n (on_hand_now es sheet) sheet
recounted_event es n sheet e is =
    sym (same_ok (Ok (Recounted n (on_hand_now es sheet) sheet)) (Recounted n (on_hand_now es sheet) sheet) e refl (later_ok _ NoDifference _ e (later_ok _ BelowReserved _ e (later_ok _ UnknownLot _ e is))))

-- what is on hand of lines, by pairs
on_hand_of : (es : List Event) (a b : List ℕ) (ls : List Line) → quantity_of (on_hand_now es ls) a b ≡ count_by (is_pair a b) ls * balance es OnHand a b
on_hand_of es a b [] = omega arith
on_hand_of es a b (k ∷ ls) = elim (cases_Bool (is_pair a b k)) [
  | inl y ↦
      let same = pair_is a b k y in
      let head : Line = record { item = k.item; lot = k.lot; quantity = balance es OnHand k.item k.lot } in
      let there : balance es OnHand k.item k.lot ≡ balance es OnHand a b =
      ap (λ (x : List ℕ). balance es OnHand x k.lot) same.0 ∙ ap (λ (x : List ℕ). balance es OnHand a x) same.1 in
      let q : quantity_of (on_hand_now es (k ∷ ls)) a b ≡ balance es OnHand k.item k.lot + quantity_of (on_hand_now es ls) a b = quantity_yes a b head (on_hand_now es ls) y in
      let c = count_yes (is_pair a b) k ls y in
      let later = on_hand_of es a b ls in
      q ∙ ap (λ x. x + quantity_of (on_hand_now es ls) a b) there ∙ ap (λ x. balance es OnHand a b + x) later ∙ more (count_by (is_pair a b) ls) (count_by (is_pair a b) (k ∷ ls)) (balance es OnHand a b) c
  | inr y ↦
      let head : Line = record { item = k.item; lot = k.lot; quantity = balance es OnHand k.item k.lot } in
      quantity_no a b head (on_hand_now es ls) y ∙ on_hand_of es a b ls ∙ ap (λ x. x * balance es OnHand a b) (sym (count_no (is_pair a b) k ls y))
]
  where
    more : (c d x : ℕ) → d ≡ 1 + c → x + c * x ≡ d * x
    more c d x h = rw h (grind arith)

-- each line of a sheet stands there
stand_more : (whole ls : List Line) → ((a b : List ℕ) → count_by (is_pair a b) ls ≤ count_by (is_pair a b) whole) → AllByRecursion (λ (l : Line). 1 ≤ count_by (is_pair l.item l.lot) whole) ls
stand_more whole [] within = tt
stand_more whole (l ∷ ls) within = (
  omega (arith, within l.item l.lot, count_yes (is_pair l.item l.lot) l ls (own_pair l)),
  stand_more whole ls (λ a b. elim (cases_Bool (is_pair a b l)) [
    | inl y ↦ omega (arith, within a b, count_yes (is_pair a b) l ls y)
    | inr y ↦ omega (arith, within a b, count_no (is_pair a b) l ls y)
  ]),
)

adjusted_lines : (es : List Event) (p : PageFacts) (whole ls : List Line) → Shows p es → IsSheet whole → AllByRecursion (λ (l : Line). 1 ≤ count_by (is_pair l.item l.lot) whole) ls
    → map (adjusted_from p) ls ≡ map (adjusted_for (on_hand_now es whole)) ls
adjusted_lines es p whole [] shows sheet all = refl
adjusted_lines es p whole (l ∷ ls) shows sheet all =
    let once : count_by (is_pair l.item l.lot) whole ≡ 1 = omega (arith, sheet.once l.item l.lot, all.0) in
    let of : quantity_of (on_hand_now es whole) l.item l.lot ≡ balance es OnHand l.item l.lot =
    on_hand_of es l.item l.lot whole ∙ ap (λ x. x * balance es OnHand l.item l.lot) once ∙ omega arith in
    let here : of_pair (amount OnHand) l.item l.lot p.rows ≡ quantity_of (on_hand_now es whole) l.item l.lot = omega (arith, of, shows.amounts OnHand l.item l.lot) in
    ap (λ x. record { item = l.item; lot = l.lot; before = x; after = l.quantity } ∷ map (adjusted_from p) ls) here
    ∙ ap (λ (x : List AdjustedLine). adjusted_for (on_hand_now es whole) l ∷ x) (adjusted_lines es p whole ls shows sheet all.1)

pub adjustment_is : (w : Envelope) (p : PageFacts) (es : List Event) (n : ℕ) (sheet : List Line) (e : Event) (text : List ℕ)
    → Shows p es → recounted es n sheet ≡ Ok e → is_sheet Today RecountSheet sheet ≡ true → text ≡ adjustment_text w p sheet
    → text ≡ document_of w.warehouse w.depositor w.moment w.number e
adjustment_is w p es n sheet e text shows is good made =
    made
    ∙ ap (λ (ls : List AdjustedLine). document_text w.warehouse w.depositor w.moment w.number (codes "AW") (codes "947") (adjustment_body w.moment w.number ls))
    (adjusted_lines es p sheet sheet shows (sheet_facts sheet good) (stand_more sheet sheet (λ a b. omega arith)))
    ∙ ap (λ (b : List Segment). document_text w.warehouse w.depositor w.moment w.number (codes "AW") (codes "947") b) (sym (body_947-for w.moment w.number (on_hand_now es sheet) sheet))
    ∙ ap (document_of w.warehouse w.depositor w.moment w.number) (sym (recounted_event es n sheet e is))

-- what the part of a page has on hand of named items
adjusted_part : (n : Named) (p P : PageFacts) (ls : List Line) → IsPart n p P → are_items n ls ≡ true → map (adjusted_from p) ls ≡ map (adjusted_from P) ls
adjusted_part n p P [] part all = refl
adjusted_part n p P (l ∷ ls) part all =
    let q = and_parts (n.items l.item) (are_items n ls) all in
    ap (λ x. record { item = l.item; lot = l.lot; before = x; after = l.quantity } ∷ map (adjusted_from p) ls) (part.rows (amount OnHand) l.item l.lot q.0)
    ∙ ap (λ (x : List AdjustedLine). adjusted_from P l ∷ x) (adjusted_part n p P ls part q.1)

pub adjustment_part : (w : Envelope) (n : Named) (p P : PageFacts) (sheet : List Line) → IsPart n p P → are_items n sheet ≡ true → adjustment_text w p sheet ≡ adjustment_text w P sheet
adjustment_part w n p P sheet part all =
    ap (λ (ls : List AdjustedLine). document_text w.warehouse w.depositor w.moment w.number (codes "AW") (codes "947") (adjustment_body w.moment w.number ls)) (adjusted_part n p P sheet part all)
