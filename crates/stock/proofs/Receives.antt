-- A page with an advice counted.
use Rattle.std.proofs.Common.{◌≡◌, ℕ, ◌+◌, ◌<◌, ◌≤◌, ◌^◌, Bool, true, false, ◌||◌, not, cond, eqb, List, [], ◌∷◌, ◌++◌, map, refl, ap, sym, ◌∙◌, arith, inl, inr, Option, Some, None, Ok, Err}
use Rattle.std.proofs.lemmas.Bool.{cases_Bool, and_parts, leb-true, le-ltb, eqb-true}
use Rattle.std.proofs.lemmas.List.{append-nil}
use Rattle.std.proofs.lemmas.Grind.{flat_map-append}
use Rattle.std.proofs.lemmas.Slice.Eq.{bytes_eq-Decides}
use Rattle.std.specs.Prelude.{bytes_eq, option_map, flat_map, codes, nat_lt, nat_le}
use Rattle.std.specs.Option.{option_or}
use Rattle.std.specs.List.{list_any, list_all}
use Rattle.definitions.specs.Limits.{most_sets}
use Rattle.definitions.specs.Lists.{or_else}
use Rattle.definitions.specs.Means.{Line, Advice, advised}
use Rattle.definitions.specs.Rows.{named, said_of, acknowledges}
use Rattle.definitions.specs.declared.refusals.Refusal.TheVariants.{UnknownAdvice, AdviceClosed}
use Rattle.definitions.specs.Clerk.{counted}
use Rattle.definitions.specs.Page.{PageAdvice, PageOrder, PageDocument, page_advice}
use Rattle.definitions.specs.Events.{Event, Enrolment, Advised, Ordered, Acknowledged, Counted, Picked, Recounted, is_pair, quantity_of, advice_if, advice_under, counts, is_advice_open, count_naming, date_naming}
use Rattle.definitions.specs.Movements.{Column, Expected, OnHand, Reservation, column_eq, comes, goes}
use Rattle.page_rows.specs.OfPairs.{of_pair, amount, since, given, named_by, positive}
use Rattle.definitions.specs.Bytes.{comes_before}
use Rattle.page_rows.specs.Keyed.{rises_by, number_of, put_advice}
use Rattle.page_rows.specs.Pages.{PageFacts, is_shipment, advice_at, order_at, document_at, awaited, held, IsSound, AreSorted, is_in_lines}
use Rattle.stock.specs.Shows.{Shows, sent_if, sent_under, document_of, is_numbered_within}
use Rattle.page_rows.specs.Steps.{closed_advice, with_sent, IsReceived}
use Rattle.page_rows.proofs.Keys.{was}
use Rattle.page_rows.proofs.KeyLemmas.{sorted_distinct, advice_sum, advice_put, advices_put_sorted, sent_sorted, sent_found, advices_once, orders_once, documents_once}
use Rattle.page_rows.proofs.Sums.{named_append}
use Rattle.stock.proofs.Moves.{came_push, went_push, came_append, went_append, came_comes, went_comes, came_goes, went_goes}
use Rattle.page_rows.proofs.Finds.{first_found_push, found_says, found_le, map_some, map_none}
use Rattle.stock.proofs.PageLemmas.{all_numbered_same, own_number}
use Rattle.page_rows.proofs.Pairs.{IsSheet}
use Rattle.stock.proofs.Views.{advice_seen, uncounted, advice_view, advice_found_under}
use Rattle.stock.proofs.Events.{found_kept, any_push, all_push, order_kept, shares_kept, picked_kept}
use Rattle.stock.proofs.Marks.{first_positive}

abbrev pub open_part : List ℕ → List ℕ → PageAdvice → ℕ
open_part i l k = cond k.is_open (quantity_of k.lines i l) 0

-- what an open advice brings is expected
pub expected_there : (p : PageFacts) (s : List ℕ) (k : PageAdvice) → IsSound p → advice_at s p.advices ≡ Some k → k.is_open ≡ true
    → (a b : List ℕ) → quantity_of k.lines a b ≤ of_pair (amount Expected) a b p.rows
expected_there p s k sound known opened a b =
    omega (arith, sound.expected a b, found_le (open_part a b) (is_shipment s) p.advices k known, ap (λ (v : Bool). cond v (quantity_of k.lines a b) 0) opened)

pub given_at_most : (k : Column) (lines : List Line) (c : Column) (a b : List ℕ) → given k lines c a b ≤ quantity_of lines a b
given_at_most k lines c a b = elim (cases_Bool (column_eq k c)) [ inl e ↦ rw e (omega arith) | inr e ↦ rw e (omega arith) ]

pub sheet_fits : (p : PageFacts) (sheet : List Line) → IsSheet sheet → IsSound p → (item lot : List ℕ) → of_pair (amount OnHand) item lot p.rows + quantity_of sheet item lot < 2 ^ 64
sheet_fits p sheet is_sheet sound item lot = omega (arith, sound.bounded OnHand item lot, sound.numbered, sound.few, is_sheet.little item lot)

pub received_sound : (n : ℕ) (k : PageAdvice) (sheet : List Line) (old new : PageFacts) → IsReceived n k sheet old new
    → advice_at k.shipment old.advices ≡ Some k → k.is_open ≡ true → IsSheet sheet → old.recent < most_sets → IsSound old → IsSound new
received_sound n k sheet old new step known opened is_sheet room sound = record {
  sorted = sorted;
  distinct = sorted_distinct new.rows step.rows.sorted;
  expected = λ a b. omega (
    arith,
    step.rows.amounts Expected a b,
    sound.expected a b,
    ap (λ (ks : List PageAdvice). awaited ks a b) step.advices,
    advice_sum (open_part a b) (closed_advice k) old.advices sound.sorted.advices,
    ap (was (open_part a b)) known,
    ap (λ (v : Bool). cond v (quantity_of k.lines a b) 0) opened,
  );
  reserved = λ a b. omega (arith, step.rows.amounts Reservation a b, sound.reserved a b, ap (λ (ks : List PageOrder). held ks a b) step.orders);
  in_lines = ap (list_all is_in_lines) step.orders ∙ sound.in_lines;
  covered = λ a b. omega (arith, step.rows.amounts Reservation a b, step.rows.amounts OnHand a b, sound.covered a b);
  bounded = λ c a b. omega (arith, step.rows.amounts c a b, sound.bounded c a b, given_at_most OnHand sheet c a b, is_sheet.little a b, step.next.entries, step.next.recent);
  numbered = omega (arith, sound.numbered, step.next.entries);
  few = omega (arith, step.next.recent);
  advices_once = advices_once new.advices sorted.advices;
  orders_once = orders_once new.orders sorted.orders;
  documents_once = documents_once new.documents sorted.documents;
}
  where
    sorted : AreSorted new
    sorted = record {
      rows = step.rows.sorted;
      advices = advices_put_sorted (closed_advice k) old.advices new.advices step.advices sound.sorted.advices;
      orders = ap (rises_by comes_before number_of) step.orders ∙ sound.sorted.orders;
      documents = sent_sorted n (codes "RE") old.documents new.documents step.documents sound.sorted.documents;
    }

-- The advice is closed.

abbrev pub closed_if : Bool → Option PageAdvice → Option PageAdvice
closed_if true o = option_map closed_advice o
closed_if false o = o

advice_closed : (s shipment : List ℕ) (ks : List PageAdvice) (k : PageAdvice) → advice_at shipment ks ≡ Some k
    → advice_at s (put_advice (closed_advice k) ks) ≡ closed_if (bytes_eq shipment s) (advice_at s ks)
advice_closed s shipment ks k known =
    let key : k.shipment ≡ shipment = (bytes_eq-Decides k.shipment shipment).0 (found_says (is_shipment shipment) ks k known) in
    advice_put s (closed_advice k) ks
    ∙ ap (λ (t : List ℕ). cond (bytes_eq t s) (Some (closed_advice k)) (advice_at s ks)) key
    ∙ by (bytes_eq shipment s) refl
  where
    by : (v : Bool) → bytes_eq shipment s ≡ v → cond v (Some (closed_advice k)) (advice_at s ks) ≡ closed_if v (advice_at s ks)
    by true e = ap (option_map closed_advice) (sym (ap (λ (t : List ℕ). advice_at t ks) (sym ((bytes_eq-Decides shipment s).0 e)) ∙ known))
    by false e = refl

closed_seen : (b v : Bool) (o : Option Advice) → closed_if b (advice_seen o v) ≡ advice_seen o (cond b false v)
closed_seen true v (Some a) = refl
closed_seen true v None = refl
closed_seen false v o = refl

uncounted_push : (es : List Event) (n : ℕ) (a : Advice) (sheet : List Line) (s : List ℕ)
    → uncounted s (es ++ Counted n a sheet ∷ []) ≡ cond (bytes_eq a.shipment s) false (uncounted s es)
uncounted_push es n a sheet s = ap not (any_push (counts s) es (Counted n a sheet)) ∙ by (list_any (counts s) es) (bytes_eq a.shipment s)
  where
    by : (u v : Bool) → not (u || v) ≡ cond v false (not u)
    by true true = refl
    by true false = refl
    by false true = refl
    by false false = refl

-- What is sent.

-- no acknowledgment of a later document
pub said_none : (n : ℕ) (f : List ℕ) (es : List Event) → list_all (is_numbered_within n) es ≡ true → said_of es n f ≡ None
said_none n f [] h = refl
said_none n f (Acknowledged m a ∷ es) h =
    let p = and_parts (is_numbered_within n (Acknowledged m a)) (list_all (is_numbered_within n) es) h in
    let q = and_parts (nat_lt 0 m) (nat_le m n) p.0 in
    rw (le-ltb n m (leb-true m n q.1)) (said_none n f es p.1)
said_none n f (Enrolment ∷ es) h = said_none n f es h
said_none n f (Advised a ∷ es) h = said_none n f es h
said_none n f (Ordered o shares ∷ es) h = said_none n f es h
said_none n f (Counted m a sheet ∷ es) h = said_none n f es (and_parts (is_numbered_within n (Counted m a sheet)) (list_all (is_numbered_within n) es) h).1
said_none n f (Picked m o shares sheet ∷ es) h = said_none n f es (and_parts (is_numbered_within n (Picked m o shares sheet)) (list_all (is_numbered_within n) es) h).1
said_none n f (Recounted m before sheet ∷ es) h = said_none n f es (and_parts (is_numbered_within n (Recounted m before sheet)) (list_all (is_numbered_within n) es) h).1

-- a document more
pub sent_shown : (es : List Event) (e : Event) (n : ℕ) (f : List ℕ) (old new : List PageDocument) → new ≡ with_sent n f old
    → ((m : ℕ) → sent_if m e ≡ cond (eqb n m) (Some f) None) → ((m : ℕ) (g : List ℕ) → acknowledges m g e ≡ None)
    → list_all (is_numbered_within n) es ≡ true → (m : ℕ) → document_at m old ≡ option_map (document_of es m) (sent_under m es)
    → document_at m new ≡ option_map (document_of (es ++ e ∷ []) m) (sent_under m (es ++ e ∷ []))
sent_shown es e n f old new sent by_event silent numbered m shown =
    ap (document_at m) sent ∙ sent_found n m f old
    ∙ ap (λ (o : Option PageDocument). option_or o (cond (eqb n m) (Some (record { n = n; function = f; said = None })) None)) shown
    ∙ by (sent_under m es) (eqb n m) refl
    ∙ ap (option_map (document_of (es ++ e ∷ []) m)) (ap (or_else (sent_under m es)) (sym (by_event m)) ∙ sym (first_found_push (sent_if m) es e))
  where
    kept : (g : List ℕ) → said_of (es ++ e ∷ []) m g ≡ said_of es m g
    kept g = found_kept (acknowledges m g) es e (silent m g)

    by : (o : Option (List ℕ)) (v : Bool) → eqb n m ≡ v
        → option_or (option_map (document_of es m) o) (cond v (Some (record { n = n; function = f; said = None })) None)
        ≡ option_map (document_of (es ++ e ∷ []) m) (or_else o (cond v (Some f) None))
    by (Some g) v h = ap (λ (u : Option Bool). Some (record { n = m; function = g; said = u })) (sym (kept g))
    by None false h = refl
    by None true h =
        let same : n ≡ m = eqb-true n m h in
        let none : said_of es m f ≡ None = ap (λ (k : ℕ). said_of es k f) (sym same) ∙ said_none n f es numbered in
        (λ i. Some (record { n = same i; function = f; said = sym (kept f ∙ none) i }))

-- A count.

-- an advice of the page is that of the events
pub advice_known : (p : PageFacts) (es : List Event) (s : List ℕ) (k : PageAdvice) → Shows p es → advice_at s p.advices ≡ Some k
    → (a : Advice) × (advice_under s es ≡ Some a) × (page_advice es a ≡ k)
advice_known p es s k shows h = map_some (page_advice es) (advice_under s es) k (sym (shows.advices s) ∙ h)

pub counted_unknown : (p : PageFacts) (es : List Event) (n : ℕ) (s : List ℕ) (sheet : List Line) → Shows p es → advice_at s p.advices ≡ None
    → counted es n s sheet ≡ Err UnknownAdvice
counted_unknown p es n s sheet shows h = rw (map_none (page_advice es) (advice_under s es) (sym (shows.advices s) ∙ h)) refl

open_known : (es : List Event) (s : List ℕ) (a : Advice) (k : PageAdvice) (v : Bool) → advice_under s es ≡ Some a → page_advice es a ≡ k → k.is_open ≡ v → is_advice_open s es ≡ v
open_known es s a k v found is opened = ap (λ (t : List ℕ). is_advice_open t es) (sym (advice_found_under s es a found)) ∙ ap (λ (x : PageAdvice). x.is_open) is ∙ opened

pub counted_closed : (p : PageFacts) (es : List Event) (n : ℕ) (s : List ℕ) (k : PageAdvice) (sheet : List Line) → Shows p es → advice_at s p.advices ≡ Some k → k.is_open ≡ false
    → counted es n s sheet ≡ Err AdviceClosed
counted_closed p es n s k sheet shows h opened = let a = advice_known p es s k shows h in rw (a.1, open_known es s a.0 k false a.1 a.2 opened) refl

pub counted_ok : (es : List Event) (n : ℕ) (s : List ℕ) (a : Advice) (k : PageAdvice) (sheet : List Line) → advice_under s es ≡ Some a → page_advice es a ≡ k → k.is_open ≡ true
    → counted es n s sheet ≡ Ok (Counted n a sheet)
counted_ok es n s a k sheet found is opened = rw (found, open_known es s a k true found is opened) refl

pub received_shows : (n : ℕ) (k : PageAdvice) (a : Advice) (sheet : List Line) (shipment : List ℕ) (old new : PageFacts) (es : List Event)
    → n ≡ old.entries + 1 → IsReceived n k sheet old new → advice_at shipment old.advices ≡ Some k
    → advice_under shipment es ≡ Some a → page_advice es a ≡ k → Shows old es → Shows new (es ++ Counted n a sheet ∷ [])
received_shows n k a sheet shipment old new es number step known found seen shows =
    let e = Counted n a sheet in
    let lines : k.lines ≡ advised a = ap (λ (x : PageAdvice). x.lines) (sym seen) in
    let key : a.shipment ≡ shipment = advice_found_under shipment es a found in
    let numbered : list_all (is_numbered_within n) es ≡ true = ap (λ (m : ℕ). list_all (is_numbered_within m) es) number ∙ shows.numbers in
    record {
      amounts = λ c x y. omega (
        arith,
        step.rows.amounts c x y,
        shows.amounts c x y,
        came_push es e c x y,
        went_push es e c x y,
        ap (λ (ls : List Line). given Expected ls c x y) lines,
        came_append (map (goes Expected) (advised a)) (map (comes OnHand) sheet) c x y,
        went_append (map (goes Expected) (advised a)) (map (comes OnHand) sheet) c x y,
        came_goes Expected (advised a) c x y,
        went_goes Expected (advised a) c x y,
        came_comes OnHand sheet c x y,
        went_comes OnHand sheet c x y,
      );
      sinces = λ x y. first_found_push (count_naming x y) es e ∙ ap (λ (o : Option ℕ). or_else o (count_naming x y e)) (shows.sinces x y)
          ∙ first_positive n (of_pair since x y old.rows) (list_any (is_pair x y) sheet) (omega (arith, number)) ∙ ap positive (sym (step.rows.sinces x y));
      expiries = λ x y. found_kept (date_naming x y) es e refl ∙ shows.expiries x y ∙ sym (step.rows.expiries x y);
      pairs = λ x y. omega (
        arith,
        step.rows.named x y,
        shows.pairs x y,
        named_append (flat_map named es) sheet x y,
        ap (λ (ls : List Line). named_by ls x y) (flat_map-append named es (e ∷ []) ∙ ap (λ (ls : List Line). flat_map named es ++ ls) (append-nil sheet)),
      );
      advices = λ s. ap (advice_at s) step.advices ∙ advice_closed s shipment old.advices k known
          ∙ ap (closed_if (bytes_eq shipment s)) (shows.advices s ∙ advice_view s es)
          ∙ closed_seen (bytes_eq shipment s) (uncounted s es) (advice_under s es)
          ∙ ap (λ (t : List ℕ). advice_seen (advice_under s es) (cond (bytes_eq t s) false (uncounted s es))) (sym key)
          ∙ ap (advice_seen (advice_under s es)) (sym (uncounted_push es n a sheet s))
          ∙ ap (λ (o : Option Advice). advice_seen o (uncounted s (es ++ e ∷ []))) (sym (found_kept (advice_if s) es e refl))
          ∙ sym (advice_view s (es ++ e ∷ []));
      orders = λ m. ap (order_at m) step.orders ∙ shows.orders m ∙ order_kept es e m refl refl;
      documents = λ m. sent_shown es e n (codes "RE") old.documents new.documents step.documents (λ j. refl) (λ j g. refl) numbered m (shows.documents m);
      counted = λ s h.
          let gone : advice_under s es ≡ None = sym (found_kept (advice_if s) es e refl) ∙ h in
          any_push (counts s) es e ∙ ap (λ (v : Bool). v || bytes_eq a.shipment s) (shows.counted s gone) ∙ other s gone;
      picked = λ m. picked_kept es e m refl (shows.picked m);
      shares = λ m. shares_kept es e m refl (shows.shares m);
      numbers = all_push (is_numbered_within (new.entries + 1)) es e (all_numbered_same old.entries new.entries es step.next.entries shows.numbers) (own new step.next.entries);
    }
  where
    other : (s : List ℕ) → advice_under s es ≡ None → bytes_eq a.shipment s ≡ false
    other s gone = elim (cases_Bool (bytes_eq a.shipment s)) [
      | inl f ↦ let both : Some a ≡ None = sym found ∙ ap (λ (t : List ℕ). advice_under t es) (sym (advice_found_under shipment es a found) ∙ (bytes_eq-Decides a.shipment s).0 f) ∙ gone in absurd (cc)
      | inr f ↦ f
    ]

    own : (p : PageFacts) → p.entries ≡ old.entries → is_numbered_within (p.entries + 1) (Counted n a sheet) ≡ true
    own p same = own_number n (p.entries + 1) (omega (arith, number, same), omega (arith, number, same))
