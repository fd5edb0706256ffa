-- A page with an order more.
use Rattle.std.proofs.Common.{◌≡◌, ℕ, ◌+◌, ◌*◌, ◌<◌, ◌≤◌, ◌^◌, Bool, true, false, not, cond, List, [], ◌∷◌, ◌++◌, refl, ap, sym, ◌∙◌, subst, arith, Option, Some, None}
use Rattle.std.proofs.lemmas.List.{append-nil}
use Rattle.std.proofs.lemmas.Grind.{flat_map-append}
use Rattle.std.specs.Prelude.{bytes_eq, is_some, option_map, flat_map, nat_lt}
use Rattle.std.specs.Option.{option_or}
use Rattle.definitions.specs.Limits.{most_recounted, most_sets}
use Rattle.definitions.specs.Lists.{or_else}
use Rattle.definitions.specs.Means.{Line, Order}
use Rattle.definitions.specs.Rows.{named}
use Rattle.definitions.specs.Page.{PageAdvice, PageOrder, page_order, reserved_lines}
use Rattle.definitions.specs.Events.{Event, Ordered, quantity_of, order_if, order_under, Reserved, picks, count_naming, date_naming, order_fault, order_fault_where, repeated, same_order_item, repeated_item, wrong_order_total}
use Rattle.definitions.specs.Movements.{Column, Expected, OnHand, Reservation, Shipped}
use Rattle.page_rows.specs.OfPairs.{of_pair, amount, given, named_by, positive}
use Rattle.page_rows.specs.Pages.{PageFacts, advice_at, order_at, document_at, awaited, held, IsSound, AreSorted, is_in_lines}
use Rattle.stock.specs.Shows.{Shows, is_numbered_within, NamesEachOnce}
use Rattle.page_rows.specs.Steps.{opened_order, IsReserved}
use Rattle.stock.proofs.Moves.{came_push, went_push, came_comes, went_comes}
use Rattle.page_rows.proofs.Finds.{first_found_push, map_none}
use Rattle.definitions.specs.Bytes.{comes_before}
use Rattle.page_rows.specs.Keyed.{rises_by, shipment_of, entry_of}
use Rattle.page_rows.proofs.Keys.{was}
use Rattle.page_rows.proofs.KeyLemmas.{sorted_distinct, order_sum, orders_put_in_lines, order_put_new, orders_put_sorted, advices_once, orders_once, documents_once}
use Rattle.stock.proofs.PageLemmas.{all_numbered_same}
use Rattle.stock.proofs.Views.{order_seen, unpicked, order_view}
use Rattle.stock.proofs.Events.{found_kept, or_else_left, any_kept, all_push, advice_kept, document_kept, counted_kept, picked_kept}
use Rattle.stock.proofs.Allots.{IsAllotted}

-- the shares fit
pub reserved_fits : (p : PageFacts) (shares : List Line) → IsAllotted p.rows shares → IsSound p → (a b : List ℕ)
    → of_pair (amount Reservation) a b p.rows + quantity_of (reserved_lines shares) a b < 2 ^ 64
reserved_fits p shares allotted sound a b = omega (arith, sound.bounded OnHand a b, sound.covered a b, sound.numbered, sound.few, allotted.within a b)

within_bound : (p : PageFacts) (shares : List Line) → IsAllotted p.rows shares → IsSound p → (c : Column) (a b : List ℕ)
    → of_pair (amount c) a b p.rows + given Reservation (reserved_lines shares) c a b ≤ (most_recounted + 1) * (most_sets * p.entries + p.recent)
within_bound p shares allotted sound Expected a b = omega (arith, sound.bounded Expected a b)
within_bound p shares allotted sound OnHand a b = omega (arith, sound.bounded OnHand a b)
within_bound p shares allotted sound Reservation a b = omega (arith, sound.bounded OnHand a b, sound.covered a b, allotted.within a b)
within_bound p shares allotted sound Shipped a b = omega (arith, sound.bounded Shipped a b)

pub reserved_sound : (o : Order) (shares : List Line) (old new : PageFacts) → IsReserved o shares old new → IsAllotted old.rows shares
    → is_in_lines (opened_order o shares) ≡ true → order_at o.number old.orders ≡ None → old.recent < most_sets → IsSound old → IsSound new
reserved_sound o shares old new step allotted lies unknown room sound = record {
  sorted = sorted;
  distinct = sorted_distinct new.rows step.rows.sorted;
  expected = λ a b. omega (arith, step.rows.amounts Expected a b, sound.expected a b, ap (λ (ks : List PageAdvice). awaited ks a b) step.advices);
  reserved = λ a b. omega (
    arith,
    step.rows.amounts Reservation a b,
    sound.reserved a b,
    ap (λ (ks : List PageOrder). held ks a b) step.orders,
    order_sum (λ (k : PageOrder). cond k.is_open (quantity_of k.reserved a b) 0) (opened_order o shares) old.orders sound.sorted.orders,
    ap (was (λ (k : PageOrder). cond k.is_open (quantity_of k.reserved a b) 0)) unknown,
  );
  in_lines = orders_put_in_lines (opened_order o shares) old.orders new.orders step.orders lies sound.in_lines;
  covered = λ a b. omega (arith, step.rows.amounts Reservation a b, step.rows.amounts OnHand a b, sound.covered a b, allotted.within a b);
  bounded = λ c a b. omega (arith, step.rows.amounts c a b, within_bound old shares allotted sound c a b, step.next.entries, step.next.recent);
  numbered = omega (arith, sound.numbered, step.next.entries);
  few = omega (arith, step.next.recent);
  advices_once = advices_once new.advices sorted.advices;
  orders_once = orders_once new.orders sorted.orders;
  documents_once = documents_once new.documents sorted.documents;
}
  where
    sorted : AreSorted new
    sorted = record {
      rows = step.rows.sorted;
      advices = ap (rises_by comes_before shipment_of) step.advices ∙ sound.sorted.advices;
      orders = orders_put_sorted (opened_order o shares) old.orders new.orders step.orders sound.sorted.orders;
      documents = ap (rises_by nat_lt entry_of) step.documents ∙ sound.sorted.documents;
    }

-- an order that is opened
seen_push : (x : Option Reserved) (v b : Bool) (o : Order) (shares : List Line) → (x ≡ None → v ≡ true)
    → option_or (order_seen x v) (cond b (Some (opened_order o shares)) None) ≡ order_seen (or_else x (cond b (Some (record { order = o; shares = shares })) None)) v
seen_push (Some r) v b o shares h = refl
seen_push None true true o shares h = refl
seen_push None true false o shares h = refl
seen_push None false b o shares h = let no : false ≡ true = h refl in absurd (cc)

each_once : (x : Option Reserved) (b : Bool) (r : Reserved) → NamesEachOnce x → ((a l : List ℕ) → quantity_of (reserved_lines r.shares) a l ≡ quantity_of r.shares a l)
    → NamesEachOnce (or_else x (cond b (Some r) None))
each_once (Some y) b r h g = h
each_once None true r h g = g
each_once None false r h g = tt

pub reserved_shows : (o : Order) (shares : List Line) (old new : PageFacts) (es : List Event) → IsReserved o shares old new → IsAllotted old.rows shares → order_at o.number old.orders ≡ None → Shows old es
    → Shows new (es ++ Ordered o shares ∷ [])
reserved_shows o shares old new es step allotted unknown shows = let e = Ordered o shares in let r : Reserved = record { order = o; shares = shares } in record {
  amounts = λ c a b. omega (
    arith,
    step.rows.amounts c a b,
    shows.amounts c a b,
    came_push es e c a b,
    went_push es e c a b,
    came_comes Reservation shares c a b,
    went_comes Reservation shares c a b,
    same_given c a b,
  );
  sinces = λ a b. found_kept (count_naming a b) es e refl ∙ shows.sinces a b ∙ ap positive (sym (step.rows.sinces a b));
  expiries = λ a b. found_kept (date_naming a b) es e refl ∙ shows.expiries a b ∙ sym (step.rows.expiries a b);
  pairs = λ a b. omega (
    arith,
    step.rows.named a b,
    allotted.named a b,
    shows.pairs a b,
    ap (λ (ls : List Line). named_by ls a b) (flat_map-append named es (e ∷ []) ∙ append-nil (flat_map named es)),
  );
  advices = λ s. ap (advice_at s) step.advices ∙ shows.advices s ∙ advice_kept es e s refl refl;
  orders = λ n. ap (order_at n) step.orders ∙ order_put_new n (opened_order o shares) old.orders unknown
      ∙ ap (λ (x : Option PageOrder). option_or x (cond (bytes_eq o.number n) (Some (opened_order o shares)) None)) (shows.orders n ∙ order_view n es)
      ∙ seen_push (order_under n es) (unpicked n es) (bytes_eq o.number n) o shares (λ none. ap not (shows.picked n none))
      ∙ ap (λ (x : Option Reserved). order_seen x (unpicked n es)) (sym (first_found_push (order_if n) es e))
      ∙ ap (λ (v : Bool). order_seen (order_under n (es ++ e ∷ [])) (not v)) (sym (any_kept (picks n) es e refl))
      ∙ sym (order_view n (es ++ e ∷ []));
  documents = λ n. ap (document_at n) step.documents ∙ shows.documents n ∙ document_kept es e n refl (λ f. refl);
  counted = λ s. counted_kept es e s refl (shows.counted s);
  picked = λ n. picked_kept es e n refl (shows.picked n);
  shares = λ n. subst NamesEachOnce (sym (first_found_push (order_if n) es e)) (each_once (order_under n es) (bytes_eq o.number n) r (shows.shares n) allotted.same);
  numbers = all_push (is_numbered_within (new.entries + 1)) es e (all_numbered_same old.entries new.entries es step.next.entries shows.numbers) refl;
}
  where
    same_given : (c : Column) (a b : List ℕ) → given Reservation (reserved_lines shares) c a b ≡ given Reservation shares c a b
    same_given Expected a b = refl
    same_given OnHand a b = refl
    same_given Reservation a b = allotted.same a b
    same_given Shipped a b = refl

is_some_view : {X Y : Type 0} (f : X → Y) (o : Option X) → is_some (option_map f o) ≡ is_some o
is_some_view f (Some a) = refl
is_some_view f None = refl

-- the fault that the page tells is that of the events
pub order_fault_shown : (p : PageFacts) (es : List Event) (o : Order) → Shows p es → order_fault_where (is_some (order_at o.number p.orders)) o ≡ order_fault es o
order_fault_shown p es o shows = ap (λ (v : Bool). order_fault_where v o) (ap is_some (shows.orders o.number) ∙ is_some_view (page_order es) (order_under o.number es))

-- an order without a fault is new, and names each item once
pub order_unknown : (x : Option PageOrder) (o : Order) → order_fault_where (is_some x) o ≡ None → x ≡ None
order_unknown (Some k) o h = absurd (cc)
order_unknown None o h = refl

pub order_items_once : (v : Bool) (o : Order) → order_fault_where v o ≡ None → repeated same_order_item [] o.lines ≡ None
order_items_once true o h = absurd (cc)
order_items_once false o h = map_none _ (repeated same_order_item [] o.lines) (or_else_left (repeated_item o) (or_else (wrong_order_total o) None) h)
