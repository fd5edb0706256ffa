-- What is open is the same of the events and of the page, and so is a text of it.
use Rattle.std.proofs.Common.{◌≡◌, ℕ, Bool, true, false, cond, List, [], map, flat_map, refl, ap, sym, subst, ◌∙◌, bytes_eq, Option, Some, None, option_map, Result, Ok, Err, IfErr, IsErrAnd}
use Rattle.std.proofs.lemmas.List.Folds.{flat_map-map}
use Rattle.definitions.specs.Lists.{in_order}
use Rattle.definitions.specs.Means.{Line, Advice, advised, OrderLine}
use Rattle.definitions.specs.Events.{Event, Enrolment, Advised, Ordered, Acknowledged, Counted, Picked, Recounted, Reserved, pair_before, advice_if, order_if, advice_under, order_under, is_advice_open, is_order_open}
use Rattle.definitions.specs.History.{History}
use Rattle.definitions.specs.Need.{need_of_number}
use Rattle.definitions.specs.Page.{PageAdvice, PageOrder, reserved_lines, page_line, page_advice, page_order}
use Rattle.definitions.specs.declared.refusals.Refusal.{Refusal}
use Rattle.definitions.specs.declared.refusals.Refusal.TheVariants.{AdviceClosed, OrderClosed}
use Rattle.definitions.specs.Reports.{pick_sheet, pick_list}
use Rattle.definitions.proofs.NeedLaws.{alone}
use Rattle.definitions.proofs.TextLaws.{text_is}
use Rattle.store.specs.Pages.{PageFacts, advice_at, order_at}
use Rattle.store.specs.Decided.{IsHeldPart}
use Rattle.reports.specs.Opened.{told, open_advice, advice_opened, open_order, order_opened}
use Rattle.reports.specs.PairLines.{lines_text}
use Rattle.reports.specs.Picking.{held_of, order_sheet, listed}
use Rattle.reports.specs.Receiving as receiving
use Rattle.reports.specs.PickSheets as picks
use Rattle.reports.proofs.PickLaws.{held_is, sheet_is, found_is, number_of}
use Rattle.reports.proofs.TakenLaws.{pick_taken}
use Rattle.unready.specs.Refused.{IfRefused}
use Rattle.unready.specs.declared.Unready.{Unready}
use Rattle.unready.specs.declared.Unready.TheVariants.{Refused}

-- Advices.

abbrev shipment_in : Option Advice → List ℕ
shipment_in None = []
shipment_in (Some a) = a.shipment

-- an advice is found under its shipment number
shipment_of : (shipment : List ℕ) (e : Event) (a : Advice) → advice_if shipment e ≡ Some a → a.shipment ≡ shipment
shipment_of shipment (Advised b) a h = by_test (bytes_eq b.shipment shipment) refl
  where
    by_test : (t : Bool) → bytes_eq b.shipment shipment ≡ t → a.shipment ≡ shipment
    by_test true e =
        let found : Some b ≡ Some a = rw e at h in
        sym (ap shipment_in found) ∙ text_is b.shipment shipment e
    by_test false e =
        let found : None ≡ Some a = rw e at h in
        absurd (cc)
shipment_of shipment Enrolment a h = absurd (cc)
shipment_of shipment (Ordered o shares) a h = absurd (cc)
shipment_of shipment (Acknowledged n k) a h = absurd (cc)
shipment_of shipment (Counted n k sheet) a h = absurd (cc)
shipment_of shipment (Picked n o shares sheet) a h = absurd (cc)
shipment_of shipment (Recounted n before sheet) a h = absurd (cc)

-- a text of an advice is that of what the page shows of it
advice_told : (text : Advice → List ℕ) (shown : PageAdvice → List ℕ) (es : List Event) (shipment : List ℕ) → ((a : Advice) → shown (page_advice es a) ≡ text a)
    → told text (open_advice es shipment) ≡ told shown (advice_opened (option_map (page_advice es) (advice_under shipment es)))
advice_told text shown es shipment same = by_advice (advice_under shipment es) refl
  where
    by_open : (a : Advice) → advice_under shipment es ≡ Some a → a.shipment ≡ shipment → (t : Bool) → is_advice_open shipment es ≡ t
        → told text (open_advice es shipment) ≡ told shown (advice_opened (Some (page_advice es a)))
    by_open a e number true f =
        let is_open : is_advice_open a.shipment es ≡ true = ap (λ n. is_advice_open n es) number ∙ f in
        let meant : told text (open_advice es shipment) ≡ Ok (text a) = rw (e, f) refl in
        let found : told shown (advice_opened (Some (page_advice es a))) ≡ Ok (shown (page_advice es a)) =
        ap (λ t. told shown (cond t (Ok (page_advice es a)) (Err AdviceClosed))) is_open in
        meant ∙ ap Ok (sym (same a)) ∙ sym found
    by_open a e number false f =
        let is_closed : is_advice_open a.shipment es ≡ false = ap (λ n. is_advice_open n es) number ∙ f in
        let meant : told text (open_advice es shipment) ≡ Err AdviceClosed = rw (e, f) refl in
        let found : told shown (advice_opened (Some (page_advice es a))) ≡ Err AdviceClosed =
        ap (λ t. told shown (cond t (Ok (page_advice es a)) (Err AdviceClosed))) is_closed in
        meant ∙ sym found

    by_advice : (o : Option Advice) → advice_under shipment es ≡ o
        → told text (open_advice es shipment) ≡ told shown (advice_opened (option_map (page_advice es) (advice_under shipment es)))
    by_advice None e = rw e refl
    by_advice (Some a) e =
        by_open a e (found_is (advice_if shipment) (λ a. a.shipment ≡ shipment) (shipment_of shipment) es a e) (is_advice_open shipment es) refl
        ∙ ap (λ o. told shown (advice_opened (option_map (page_advice es) o))) (sym e)

-- a part of the page that has the advice will do
advice_part_told : (text : Advice → List ℕ) (shown : PageAdvice → List ℕ) (p : PageFacts) (h : History) (shipment : List ℕ) → ((a : Advice) → shown (page_advice h.events a) ≡ text a)
    → IsHeldPart (receiving.need_of_shipment shipment) p h → told text (open_advice h.events shipment) ≡ told shown (advice_opened (advice_at shipment p.advices))
advice_part_told text shown p h shipment same held =
    advice_told text shown h.events shipment same
    ∙ ap (λ o. told shown (advice_opened o)) (sym (held.part.advices shipment (alone shipment) ∙ held.page.shows.advices shipment))

pub part_sheet : (p : PageFacts) (h : History) (shipment : List ℕ) → IsHeldPart (receiving.need_of_shipment shipment) p h
    → receiving.receiving_list h.events shipment ≡ receiving.sheet_on (advice_at shipment p.advices)
part_sheet p h shipment held =
    advice_part_told (λ a. receiving.receiving_sheet a.shipment (advised a)) (λ k. receiving.receiving_sheet k.shipment k.lines) p h shipment (λ a. refl) held

pub part_csv : (p : PageFacts) (h : History) (shipment : List ℕ) → IsHeldPart (receiving.need_of_shipment shipment) p h
    → receiving.receiving_csv h.events shipment ≡ receiving.csv_on (advice_at shipment p.advices)
part_csv p h shipment held = advice_part_told (λ a. lines_text (advised a)) (λ k. lines_text k.lines) p h shipment (λ a. refl) held

-- Orders.

-- what a page has reserved for an open order is what is reserved of its shares
pairs_are : (es : List Event) (r : Reserved) → is_order_open r.order.number es ≡ true → picks.held_pairs (page_order es r) ≡ picks.reserved_pairs r
pairs_are es r h =
    let shares : (page_order es r).reserved ≡ reserved_lines r.shares = ap (λ t. cond t (reserved_lines r.shares) []) h in
    ap (λ (reserved : List Line). flat_map (λ l. held_of reserved l.item) (map page_line r.order.lines)) shares
    ∙ flat_map-map (λ l. held_of (reserved_lines r.shares) l.item) page_line r.order.lines
    ∙ (λ i. flat_map (λ (l : OrderLine). held_is r.shares l.item i) r.order.lines)

-- a text of an order is that of what the page shows of it
order_told : (text : Reserved → List ℕ) (shown : PageOrder → List ℕ) (es : List Event) (number : List ℕ) → ((r : Reserved) → is_order_open r.order.number es ≡ true → shown (page_order es r) ≡ text r)
    → told text (open_order es number) ≡ told shown (order_opened (option_map (page_order es) (order_under number es)))
order_told text shown es number same = by_order (order_under number es) refl
  where
    by_open : (r : Reserved) → order_under number es ≡ Some r → r.order.number ≡ number → (t : Bool) → is_order_open number es ≡ t
        → told text (open_order es number) ≡ told shown (order_opened (Some (page_order es r)))
    by_open r e under true f =
        let is_open : is_order_open r.order.number es ≡ true = ap (λ n. is_order_open n es) under ∙ f in
        let meant : told text (open_order es number) ≡ Ok (text r) = rw (e, f) refl in
        let found : told shown (order_opened (Some (page_order es r))) ≡ Ok (shown (page_order es r)) =
        ap (λ t. told shown (cond t (Ok (page_order es r)) (Err OrderClosed))) is_open in
        meant ∙ ap Ok (sym (same r is_open)) ∙ sym found
    by_open r e under false f =
        let is_closed : is_order_open r.order.number es ≡ false = ap (λ n. is_order_open n es) under ∙ f in
        let meant : told text (open_order es number) ≡ Err OrderClosed = rw (e, f) refl in
        let found : told shown (order_opened (Some (page_order es r))) ≡ Err OrderClosed =
        ap (λ t. told shown (cond t (Ok (page_order es r)) (Err OrderClosed))) is_closed in
        meant ∙ sym found

    by_order : (o : Option Reserved) → order_under number es ≡ o
        → told text (open_order es number) ≡ told shown (order_opened (option_map (page_order es) (order_under number es)))
    by_order None e = rw e refl
    by_order (Some r) e =
        by_open r e (found_is (order_if number) (λ r. r.order.number ≡ number) (number_of number) es r e) (is_order_open number es) refl
        ∙ ap (λ o. told shown (order_opened (option_map (page_order es) o))) (sym e)

-- a part of the page that has the order will do
order_part_told : (text : Reserved → List ℕ) (shown : PageOrder → List ℕ) (p : PageFacts) (h : History) (number : List ℕ)
    → ((r : Reserved) → is_order_open r.order.number h.events ≡ true → shown (page_order h.events r) ≡ text r)
    → IsHeldPart (need_of_number number) p h → told text (open_order h.events number) ≡ told shown (order_opened (order_at number p.orders))
order_part_told text shown p h number same held =
    order_told text shown h.events number same
    ∙ ap (λ o. told shown (order_opened o)) (sym (held.part.orders number (alone number) ∙ held.page.shows.orders number))

pub part_picks : (p : PageFacts) (h : History) (number : List ℕ) → IsHeldPart (need_of_number number) p h → picks.picking_csv h.events number ≡ picks.csv_on (order_at number p.orders)
part_picks p h number held =
    order_part_told (λ r. lines_text (picks.reserved_pairs r)) (λ k. lines_text (picks.held_pairs k)) p h number (λ r is_open. ap lines_text (pairs_are h.events r is_open)) held

-- the picking sheet is told of what is open
list_told : (es : List Event) (number : List ℕ) → pick_list es number ≡ told pick_sheet (open_order es number)
list_told es number = by_order (order_under number es) refl
  where
    by_open : (r : Reserved) → order_under number es ≡ Some r → (t : Bool) → is_order_open number es ≡ t → pick_list es number ≡ told pick_sheet (open_order es number)
    by_open r e true f = rw (e, f) refl
    by_open r e false f = rw (e, f) refl

    by_order : (o : Option Reserved) → order_under number es ≡ o → pick_list es number ≡ told pick_sheet (open_order es number)
    by_order None e = rw e refl
    by_order (Some r) e = by_open r e (is_order_open number es) refl

pub part_list : (p : PageFacts) (h : History) (number : List ℕ) → IsHeldPart (need_of_number number) p h → pick_list h.events number ≡ listed (order_at number p.orders)
part_list p h number held =
    list_told h.events number ∙ order_part_told pick_sheet order_sheet p h number (λ r is_open. sheet_is h.events r is_open) held

-- What a text is told of is open.

is_open_of : {X : Type 0} (f : X → List ℕ) (x : X) (refusal : Refusal) (text : List ℕ) (t : Bool) → told f (cond t (Ok x) (Err refusal)) ≡ Ok text → t ≡ true
is_open_of f x refusal text true h = refl
is_open_of f x refusal text false h = absurd (cc)

abbrev order_or : PageOrder → Option PageOrder → PageOrder
order_or k None = k
order_or k (Some found) = found

-- a pick of what the text of a page's order has is taken
pub page_taken : (p : PageFacts) (h : History) (number text : List ℕ) → picks.csv_on (order_at number p.orders) ≡ Ok text → IsHeldPart (need_of_number number) p h
    → (k : PageOrder) → order_at number p.orders ≡ Some k → picks.IsTaken h.events number (in_order pair_before (picks.held_pairs k))
page_taken p h number text told_so held k there = by_order (order_under number h.events) refl
  where
    shown : order_at number p.orders ≡ option_map (page_order h.events) (order_under number h.events)
    shown = held.part.orders number (alone number) ∙ held.page.shows.orders number

    by_order : (o : Option Reserved) → order_under number h.events ≡ o → picks.IsTaken h.events number (in_order pair_before (picks.held_pairs k))
    by_order None e =
        let none : Some k ≡ None = sym there ∙ shown ∙ ap (option_map (page_order h.events)) e in
        absurd (cc)
    by_order (Some r) e =
        let some : Some k ≡ Some (page_order h.events r) = sym there ∙ shown ∙ ap (option_map (page_order h.events)) e in
        let same : k ≡ page_order h.events r = ap (order_or k) some in
        let page_open = is_open_of (λ (m : PageOrder). lines_text (picks.held_pairs m)) k OrderClosed text k.is_open (ap picks.csv_on (sym there) ∙ told_so) in
        let is_open : is_order_open r.order.number h.events ≡ true = sym (ap (λ (m : PageOrder). m.is_open) same) ∙ page_open in
        let under = found_is (order_if number) (λ r. r.order.number ≡ number) (number_of number) h.events r e in
        let pairs : picks.held_pairs k ≡ picks.reserved_pairs r = ap picks.held_pairs same ∙ pairs_are h.events r is_open in
        subst (λ ls. picks.IsTaken h.events number (in_order pair_before ls)) (sym pairs)
        (pick_taken h.events number r e (sym (ap (λ n. is_order_open n h.events) under) ∙ is_open))

-- a refusal that is handed on
pub handed_on : {X : Type 0} (r : Result X Unready) (refusal : Refusal) (P : Refusal → Type 0) → IsErrAnd r (λ why. why ≡ Refused refusal) → P refusal → IfErr r (IfRefused P)
handed_on (Ok x) refusal P why so = tt
handed_on (Err u) refusal P why so = subst (IfRefused P) (sym why) so
