-- A page with an advice more.
use Rattle.std.proofs.Common.{◌≡◌, ℕ, ◌+◌, ◌<◌, ◌^◌, Bool, true, false, not, cond, List, [], ◌∷◌, ◌++◌, map, refl, ap, sym, ◌∙◌, arith, Option, Some, None}
use Rattle.std.proofs.lemmas.List.{append-nil}
use Rattle.std.proofs.lemmas.Grind.{flat_map-append}
use Rattle.std.specs.List.{list_all}
use Rattle.std.proofs.lemmas.Bool.{and_parts}
use Rattle.std.specs.Prelude.{bytes_eq, codes, find, is_some, option_map, flat_map, nat_lt}
use Rattle.std.specs.Option.{option_or}
use Rattle.definitions.specs.Limits.{most_sets}
use Rattle.definitions.specs.Faults.{SetFault}
use Rattle.definitions.specs.Lists.{or_else, first_present}
use Rattle.definitions.specs.Means.{Line, AdviceLine, Advice, advised}
use Rattle.definitions.specs.Rows.{LotRow, named}
use Rattle.definitions.specs.Page.{PageAdvice, PageOrder, page_advice}
use Rattle.definitions.specs.Events.{Event, Advised, quantity_of, advice_if, advice_under, counts, count_naming, date_naming, is_other_date, is_redated, trade_fault, fault_where, repeated_pair, sooner, wrong_advice_total, advice_fault, advice_fault_where}
use Rattle.definitions.specs.Movements.{Expected, OnHand, Reservation}
use Rattle.sets_in.specs.Limits.{HasFewLines}
use Rattle.page_rows.specs.OfPairs.{of_pair, date_of_pair, amount, named_by, date_of, positive}
use Rattle.page_rows.specs.Pages.{PageFacts, advice_at, order_at, document_at, awaited, held, IsSound, AreSorted, is_in_lines}
use Rattle.stock.specs.Parts.{Named, IsPart, NamesAdvice, are_items}
use Rattle.stock.specs.Shows.{Shows, is_numbered_within}
use Rattle.page_rows.specs.Steps.{opened, IsAnnounced}
use Rattle.page_rows.proofs.Sums.{named_append}
use Rattle.definitions.specs.Bytes.{comes_before}
use Rattle.page_rows.specs.Keyed.{rises_by, number_of, entry_of}
use Rattle.page_rows.proofs.Dates.{same_dates_of}
use Rattle.page_rows.proofs.Keys.{was}
use Rattle.page_rows.proofs.KeyLemmas.{sorted_distinct, advice_sum, advice_put_new, advices_put_sorted, advices_once, orders_once, documents_once}
use Rattle.stock.proofs.Moves.{came_push, went_push, came_comes, went_comes, given_le, quantity_le, advised_le}
use Rattle.page_rows.proofs.Finds.{first_found_push}
use Rattle.stock.proofs.PageLemmas.{all_numbered_same}
use Rattle.stock.proofs.Views.{advice_seen, uncounted, advice_view}
use Rattle.stock.proofs.Events.{found_kept, any_kept, all_push, order_kept, document_kept, shares_kept, counted_kept, picked_kept}

-- the lines fit
pub advised_fits : (a : Advice) (p : PageFacts) → HasFewLines a.lines → IsSound p → (item lot : List ℕ) → of_pair (amount Expected) item lot p.rows + quantity_of (advised a) item lot < 2 ^ 64
advised_fits a p few sound item lot = omega (arith, sound.bounded Expected item lot, sound.numbered, sound.few, quantity_le (advised a) item lot, advised_le a few)

pub announced_sound : (a : Advice) (old new : PageFacts) → IsAnnounced a old new → HasFewLines a.lines → advice_at a.shipment old.advices ≡ None → old.recent < most_sets → IsSound old → IsSound new
announced_sound a old new step few unknown room sound = record {
  sorted = sorted;
  distinct = sorted_distinct new.rows step.rows.sorted;
  expected = λ i l. omega (
    arith,
    step.rows.amounts Expected i l,
    sound.expected i l,
    ap (λ (ks : List PageAdvice). awaited ks i l) step.advices,
    advice_sum (λ (k : PageAdvice). cond k.is_open (quantity_of k.lines i l) 0) (opened a) old.advices sound.sorted.advices,
    ap (was (λ (k : PageAdvice). cond k.is_open (quantity_of k.lines i l) 0)) unknown,
  );
  reserved = λ i l. omega (arith, step.rows.amounts Reservation i l, sound.reserved i l, ap (λ (ks : List PageOrder). held ks i l) step.orders);
  in_lines = ap (list_all is_in_lines) step.orders ∙ sound.in_lines;
  covered = λ i l. omega (arith, step.rows.amounts Reservation i l, step.rows.amounts OnHand i l, sound.covered i l);
  bounded = λ c i l. omega (arith, step.rows.amounts c i l, sound.bounded c i l, given_le Expected (advised a) c i l, advised_le a few, step.next.entries, step.next.recent);
  numbered = omega (arith, sound.numbered, step.next.entries);
  few = omega (arith, step.next.recent);
  advices_once = advices_once new.advices sorted.advices;
  orders_once = orders_once new.orders sorted.orders;
  documents_once = documents_once new.documents sorted.documents;
}
  where
    sorted : AreSorted new
    sorted = record {
      rows = step.rows.sorted;
      advices = advices_put_sorted (opened a) old.advices new.advices step.advices sound.sorted.advices;
      orders = ap (rises_by comes_before number_of) step.orders ∙ sound.sorted.orders;
      documents = ap (rises_by nat_lt entry_of) step.documents ∙ sound.sorted.documents;
    }

-- an advice that is opened
seen_push : (o : Option Advice) (v b : Bool) (a : Advice) → (o ≡ None → v ≡ true)
    → option_or (advice_seen o v) (cond b (Some (opened a)) None) ≡ advice_seen (or_else o (cond b (Some a) None)) v
seen_push (Some x) v b a h = refl
seen_push None true true a h = refl
seen_push None true false a h = refl
seen_push None false b a h = let no : false ≡ true = h refl in absurd (cc)

pub announced_shows : (a : Advice) (old new : PageFacts) (es : List Event) → IsAnnounced a old new → advice_at a.shipment old.advices ≡ None → Shows old es → Shows new (es ++ Advised a ∷ [])
announced_shows a old new es step unknown shows = let e = Advised a in record {
  amounts = λ c i l. omega (arith, step.rows.amounts c i l, shows.amounts c i l, came_push es e c i l, went_push es e c i l, came_comes Expected (advised a) c i l, went_comes Expected (advised a) c i l);
  sinces = λ i l. found_kept (count_naming i l) es e refl ∙ shows.sinces i l ∙ ap positive (sym (step.rows.sinces i l));
  expiries = λ i l. first_found_push (date_naming i l) es e ∙ ap (λ (o : Option (List ℕ)). or_else o (date_of a.lines i l)) (shows.expiries i l)
      ∙ sym (step.rows.expiries i l);
  pairs = λ i l. omega (arith, step.rows.named i l, shows.pairs i l, named_append (flat_map named es) (advised a) i l, ap (λ (ls : List Line). named_by ls i l) (flat_map-append named es (e ∷ []) ∙ ap (λ (ls : List Line). flat_map named es ++ ls) (append-nil (advised a))));
  advices = λ s. ap (advice_at s) step.advices ∙ advice_put_new s (opened a) old.advices unknown
      ∙ ap (λ (o : Option PageAdvice). option_or o (cond (bytes_eq a.shipment s) (Some (opened a)) None)) (shows.advices s ∙ advice_view s es)
      ∙ seen_push (advice_under s es) (uncounted s es) (bytes_eq a.shipment s) a (λ none. ap not (shows.counted s none))
      ∙ ap (λ (o : Option Advice). advice_seen o (uncounted s es)) (sym (first_found_push (advice_if s) es e))
      ∙ ap (λ (v : Bool). advice_seen (advice_under s (es ++ e ∷ [])) (not v)) (sym (any_kept (counts s) es e refl))
      ∙ sym (advice_view s (es ++ e ∷ []));
  orders = λ n. ap (order_at n) step.orders ∙ shows.orders n ∙ order_kept es e n refl refl;
  documents = λ n. ap (document_at n) step.documents ∙ shows.documents n ∙ document_kept es e n refl (λ f. refl);
  counted = λ s. counted_kept es e s refl (shows.counted s);
  picked = λ n. picked_kept es e n refl (shows.picked n);
  shares = λ n. shares_kept es e n refl (shows.shares n);
  numbers = all_push (is_numbered_within (new.entries + 1)) es e (all_numbered_same old.entries new.entries es step.next.entries shows.numbers) refl;
}

is_some_view : {X Y : Type 0} (f : X → Y) (o : Option X) → is_some (option_map f o) ≡ is_some o
is_some_view f (Some a) = refl
is_some_view f None = refl

-- the fault that the page tells is that of the events
pub advice_fault_shown : (p : PageFacts) (es : List Event) (a : Advice) → Shows p es
    → advice_fault_where (is_some (advice_at a.shipment p.advices)) (λ i l. date_of_pair i l p.rows) a ≡ advice_fault es a
advice_fault_shown p es a shows =
    ap (λ (v : Bool). advice_fault_where v (λ i l. date_of_pair i l p.rows) a) (ap is_some (shows.advices a.shipment) ∙ is_some_view (page_advice es) (advice_under a.shipment es))
    ∙ (λ j. advice_fault_where (is_some (advice_under a.shipment es)) (λ i l. sym (shows.expiries i l) j) a)

-- and a part of the page tells it where it has the items of the lines

redated_same : (n : Named) (known other : List ℕ → List ℕ → Option (List ℕ)) → ((i l : List ℕ) → n.items i ≡ true → known i l ≡ other i l)
    → (ls : List AdviceLine) → are_items n (map (λ l. l.line) ls) ≡ true → find (is_redated known) ls ≡ find (is_redated other) ls
redated_same n known other same [] all = refl
redated_same n known other same (l ∷ ls) all =
    let q = and_parts (n.items l.line.item) (are_items n (map (λ l. l.line) ls)) all in
    (λ j. cond (is_other_date (same l.line.item l.line.lot q.0 j) l.expiry) (Some l) (redated_same n known other same ls q.1 j))

abbrev fault_by : Bool → Advice → Option AdviceLine → Option SetFault
fault_by v a o = first_present
    (fault_where v (trade_fault (codes "W06") 2 4)
    ∷ sooner (repeated_pair a) (option_map (λ (l : AdviceLine). trade_fault (codes "N9") (l.position + 1) 4) o)
    ∷ wrong_advice_total a
    ∷ [])

advice_fault_part : (n : Named) (p P : PageFacts) (v : Bool) (a : Advice) → IsPart n p P → NamesAdvice n a
    → advice_fault_where v (λ i l. date_of_pair i l p.rows) a ≡ advice_fault_where v (λ i l. date_of_pair i l P.rows) a
advice_fault_part n p P v a part names = ap (fault_by v a) (redated_same n (λ i l. date_of_pair i l p.rows) (λ i l. date_of_pair i l P.rows)
    (λ i l is. same_dates_of i l p.rows P.rows part.in_order.rows part.sorted.rows (λ f. part.rows f i l is)) a.lines names.items)

pub advice_fault_told : (n : Named) (p P : PageFacts) (es : List Event) (v : Bool) (rows : List LotRow) (a : Advice) → IsPart n p P → NamesAdvice n a → Shows P es
    → v ≡ is_some (advice_at a.shipment p.advices) → rows ≡ p.rows → advice_fault_where v (λ i l. date_of_pair i l rows) a ≡ advice_fault es a
advice_fault_told n p P es v rows a part names shows known same =
    (λ j. advice_fault_where (known j) (λ i l. date_of_pair i l (same j)) a)
    ∙ advice_fault_part n p P (is_some (advice_at a.shipment p.advices)) a part names
    ∙ ap (λ (o : Option PageAdvice). advice_fault_where (is_some o) (λ i l. date_of_pair i l P.rows) a) (part.advices a.shipment names.shipment)
    ∙ advice_fault_shown P es a shows

is_none : {X : Type 0} (o : Option X) → is_some o ≡ false → o ≡ None
is_none (Some x) h = absurd (cc)
is_none None h = refl

-- an advice without a fault is new
pub advice_unknown : (o : Option PageAdvice) (known : List ℕ → List ℕ → Option (List ℕ)) (a : Advice) → advice_fault_where (is_some o) known a ≡ None → o ≡ None
advice_unknown (Some k) known a h = absurd (cc)
advice_unknown None known a h = refl
