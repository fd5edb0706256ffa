-- A page with an order picked.
use Rattle.std.proofs.Common.{◌≡◌, ℕ, ◌+◌, ◌<◌, ◌≤◌, ◌^◌, Bool, true, false, ◌||◌, not, cond, ltb, List, [], ◌∷◌, ◌++◌, map, refl, ap, sym, ◌∙◌, subst, arith, inl, inr, Option, Some, None, Ok, Err}
use Rattle.std.proofs.lemmas.Bool.{cases_Bool, ltb-false}
use Rattle.std.proofs.lemmas.List.{append-nil}
use Rattle.std.proofs.lemmas.Grind.{flat_map-append}
use Rattle.std.proofs.lemmas.Slice.Eq.{bytes_eq-Decides}
use Rattle.std.specs.Prelude.{bytes_eq, option_map, flat_map, count_by, codes}
use Rattle.std.specs.List.{list_any, list_all}
use Rattle.definitions.specs.Limits.{most_sets}
use Rattle.definitions.specs.Means.{Line, Order}
use Rattle.definitions.specs.Rows.{named}
use Rattle.definitions.specs.declared.refusals.Refusal.TheVariants.{UnknownOrder, OrderClosed, NotReserved}
use Rattle.definitions.specs.Clerk.{picked}
use Rattle.definitions.specs.Page.{PageAdvice, PageOrder, page_order, reserved_lines}
use Rattle.definitions.specs.Events.{Event, Picked, is_pair, quantity_of, order_if, order_under, Reserved, picks, is_order_open, count_naming, date_naming}
use Rattle.definitions.specs.Movements.{Column, Expected, OnHand, Reservation, Shipped, comes, goes}
use Rattle.page_rows.specs.OfPairs.{of_pair, amount, given, named_by, positive}
use Rattle.definitions.specs.Bytes.{comes_before}
use Rattle.page_rows.specs.Keyed.{rises_by, shipment_of, put_order}
use Rattle.page_rows.specs.Pages.{PageFacts, is_number, advice_at, order_at, awaited, held, IsSound, AreSorted}
use Rattle.page_rows.proofs.Keys.{was}
use Rattle.page_rows.proofs.KeyLemmas.{sorted_distinct, order_sum, orders_put_in_lines, order_put, orders_put_sorted, sent_sorted, advices_once, orders_once, documents_once}
use Rattle.stock.specs.Shows.{Shows, is_numbered_within, NamesEachOnce}
use Rattle.page_rows.specs.Steps.{closed_order, exceeds, IsPicked}
use Rattle.stock.proofs.Moves.{came_push, went_push, came_append, went_append, came_comes, went_comes, came_goes, went_goes}
use Rattle.page_rows.proofs.Finds.{found_says, found_le, map_some, map_none}
use Rattle.stock.proofs.PageLemmas.{all_numbered_same, own_number}
use Rattle.page_rows.proofs.Pairs.{IsSheet, count_yes, count_no, quantity_yes, quantity_no, quantity_none}
use Rattle.page_rows.proofs.OfPairLemmas.{pair_is}
use Rattle.stock.proofs.Views.{order_seen, unpicked, order_view, order_found_under}
use Rattle.stock.proofs.Events.{found_kept, any_push, all_push, advice_kept, counted_kept}
use Rattle.stock.proofs.Receives.{given_at_most, sent_shown}

abbrev pub held_part : List ℕ → List ℕ → PageOrder → ℕ
held_part i l k = cond k.is_open (quantity_of k.reserved i l) 0

-- what is held for an open order is reserved, and so on hand
pub held_there : (p : PageFacts) (s : List ℕ) (k : PageOrder) → IsSound p → order_at s p.orders ≡ Some k → k.is_open ≡ true
    → (a b : List ℕ) → quantity_of k.reserved a b ≤ of_pair (amount Reservation) a b p.rows
held_there p s k sound known opened a b =
    omega (arith, sound.reserved a b, found_le (held_part a b) (is_number s) p.orders k known, ap (λ (v : Bool). cond v (quantity_of k.reserved a b) 0) opened)

pub held_fits : (p : PageFacts) (s : List ℕ) (k : PageOrder) → IsSound p → order_at s p.orders ≡ Some k → k.is_open ≡ true
    → (a b : List ℕ) → quantity_of k.reserved a b < 2 ^ 64
held_fits p s k sound known opened a b = omega (arith, held_there p s k sound known opened a b, sound.bounded Reservation a b, sound.numbered, sound.few)

-- no line exceeds, and so no pair does
unlike : (p q : Bool) → (p || q) ≡ false → (p ≡ false) × (q ≡ false)
unlike true q h = absurd (cc)
unlike false q h = (refl, h)

pub within_reserved : (reserved sheet : List Line) (a b : List ℕ) → list_any (exceeds reserved) sheet ≡ false → count_by (is_pair a b) sheet ≤ 1
    → quantity_of sheet a b ≤ quantity_of reserved a b
within_reserved reserved [] a b h few = omega arith
within_reserved reserved (l ∷ ls) a b h few =
    let u = unlike (exceeds reserved l) (list_any (exceeds reserved) ls) h in
    elim (cases_Bool (is_pair a b l)) [
      | inl e ↦
          let same = pair_is a b l e in
          let none : count_by (is_pair a b) ls ≡ 0 = omega (arith, count_yes (is_pair a b) l ls e, few) in
          let there : quantity_of reserved l.item l.lot ≡ quantity_of reserved a b = (λ i. quantity_of reserved (same.0 i) (same.1 i)) in
          omega (arith, quantity_yes a b l ls e, quantity_none a b ls none, ltb-false (quantity_of reserved l.item l.lot) l.quantity u.0, there)
      | inr e ↦ omega (arith, quantity_no a b l ls e, within_reserved reserved ls a b u.1 (omega (arith, count_no (is_pair a b) l ls e, few)))
    ]

pub picked_sound : (n : ℕ) (k : PageOrder) (sheet : List Line) (old new : PageFacts) → IsPicked n k sheet old new
    → order_at k.number old.orders ≡ Some k → k.is_open ≡ true → IsSheet sheet → list_any (exceeds k.reserved) sheet ≡ false → old.recent < most_sets → IsSound old → IsSound new
picked_sound n k sheet old new step known opened is_sheet covers room sound = record {
  sorted = sorted;
  distinct = sorted_distinct new.rows step.rows.sorted;
  expected = λ a b. omega (arith, step.rows.amounts Expected a b, sound.expected a b, ap (λ (ks : List PageAdvice). awaited ks a b) step.advices);
  reserved = λ a b. omega (
    arith,
    step.rows.amounts Reservation a b,
    sound.reserved a b,
    ap (λ (ks : List PageOrder). held ks a b) step.orders,
    order_sum (held_part a b) (closed_order k) old.orders sound.sorted.orders,
    ap (was (held_part a b)) known,
    ap (λ (v : Bool). cond v (quantity_of k.reserved a b) 0) opened,
  );
  in_lines = orders_put_in_lines (closed_order k) old.orders new.orders step.orders refl sound.in_lines;
  covered = λ a b. omega (arith, step.rows.amounts Reservation a b, step.rows.amounts OnHand a b, sound.covered a b, within_reserved k.reserved sheet a b covers (is_sheet.once a b));
  bounded = λ c a b. omega (arith, step.rows.amounts c a b, sound.bounded c a b, given_at_most Shipped sheet c a b, is_sheet.little a b, step.next.entries, step.next.recent);
  numbered = omega (arith, sound.numbered, step.next.entries);
  few = omega (arith, step.next.recent);
  advices_once = advices_once new.advices sorted.advices;
  orders_once = orders_once new.orders sorted.orders;
  documents_once = documents_once new.documents sorted.documents;
}
  where
    sorted : AreSorted new
    sorted = record {
      rows = step.rows.sorted;
      advices = ap (rises_by comes_before shipment_of) step.advices ∙ sound.sorted.advices;
      orders = orders_put_sorted (closed_order k) old.orders new.orders step.orders sound.sorted.orders;
      documents = sent_sorted n (codes "SW") old.documents new.documents step.documents sound.sorted.documents;
    }

-- The order is closed.

abbrev closed_if : Bool → Option PageOrder → Option PageOrder
closed_if true o = option_map closed_order o
closed_if false o = o

order_closed : (s number : List ℕ) (ks : List PageOrder) (k : PageOrder) → order_at number ks ≡ Some k
    → order_at s (put_order (closed_order k) ks) ≡ closed_if (bytes_eq number s) (order_at s ks)
order_closed s number ks k known =
    let key : k.number ≡ number = (bytes_eq-Decides k.number number).0 (found_says (is_number number) ks k known) in
    order_put s (closed_order k) ks
    ∙ ap (λ (t : List ℕ). cond (bytes_eq t s) (Some (closed_order k)) (order_at s ks)) key
    ∙ by (bytes_eq number s) refl
  where
    by : (v : Bool) → bytes_eq number s ≡ v → cond v (Some (closed_order k)) (order_at s ks) ≡ closed_if v (order_at s ks)
    by true e = ap (option_map closed_order) (sym (ap (λ (t : List ℕ). order_at t ks) (sym ((bytes_eq-Decides number s).0 e)) ∙ known))
    by false e = refl

closed_seen : (b v : Bool) (o : Option Reserved) → closed_if b (order_seen o v) ≡ order_seen o (cond b false v)
closed_seen true v (Some a) = refl
closed_seen true v None = refl
closed_seen false v o = refl

unpicked_push : (es : List Event) (n : ℕ) (o : Order) (shares sheet : List Line) (s : List ℕ)
    → unpicked s (es ++ Picked n o shares sheet ∷ []) ≡ cond (bytes_eq o.number s) false (unpicked s es)
unpicked_push es n o shares sheet s = ap not (any_push (picks s) es (Picked n o shares sheet)) ∙ by (list_any (picks s) es) (bytes_eq o.number s)
  where
    by : (u v : Bool) → not (u || v) ≡ cond v false (not u)
    by true true = refl
    by true false = refl
    by false true = refl
    by false false = refl

-- A pick.

-- an order of the page is that of the events
pub order_known : (p : PageFacts) (es : List Event) (s : List ℕ) (k : PageOrder) → Shows p es → order_at s p.orders ≡ Some k
    → (r : Reserved) × (order_under s es ≡ Some r) × (page_order es r ≡ k)
order_known p es s k shows h = map_some (page_order es) (order_under s es) k (sym (shows.orders s) ∙ h)

pub picked_unknown : (p : PageFacts) (es : List Event) (n : ℕ) (s : List ℕ) (sheet : List Line) → Shows p es → order_at s p.orders ≡ None
    → picked es n s sheet ≡ Err UnknownOrder
picked_unknown p es n s sheet shows h = rw (map_none (page_order es) (order_under s es) (sym (shows.orders s) ∙ h)) refl

open_known : (es : List Event) (s : List ℕ) (r : Reserved) (k : PageOrder) (v : Bool) → order_under s es ≡ Some r → page_order es r ≡ k → k.is_open ≡ v → is_order_open s es ≡ v
open_known es s r k v found is opened = ap (λ (t : List ℕ). is_order_open t es) (sym (order_found_under s es r found)) ∙ ap (λ (x : PageOrder). x.is_open) is ∙ opened

pub picked_closed : (p : PageFacts) (es : List Event) (n : ℕ) (s : List ℕ) (k : PageOrder) (sheet : List Line) → Shows p es → order_at s p.orders ≡ Some k → k.is_open ≡ false
    → picked es n s sheet ≡ Err OrderClosed
picked_closed p es n s k sheet shows h opened = let r = order_known p es s k shows h in rw (r.1, open_known es s r.0 k false r.1 r.2 opened) refl

-- what is reserved of an open order has the sums of its shares
pub reserved_sums : (p : PageFacts) (es : List Event) (s : List ℕ) (r : Reserved) (k : PageOrder) → Shows p es → order_under s es ≡ Some r → page_order es r ≡ k → k.is_open ≡ true
    → (a b : List ℕ) → quantity_of k.reserved a b ≡ quantity_of r.shares a b
reserved_sums p es s r k shows found is opened a b =
    let once : NamesEachOnce (Some r) = subst NamesEachOnce found (shows.shares s) in
    let lines : k.reserved ≡ reserved_lines r.shares =
    ap (λ (x : PageOrder). x.reserved) (sym is) ∙ ap (λ (v : Bool). cond v (reserved_lines r.shares) []) (ap (λ (x : PageOrder). x.is_open) is ∙ opened) in
    ap (λ (ls : List Line). quantity_of ls a b) lines ∙ once a b

pub any_same : {X : Type 0} (p q : X → Bool) (xs : List X) → ((x : X) → p x ≡ q x) → list_any p xs ≡ list_any q xs
any_same p q [] h = refl
any_same p q (x ∷ xs) h = (λ i. h x i || any_same p q xs h i)

same_excess : (reserved shares sheet : List Line) → ((a b : List ℕ) → quantity_of reserved a b ≡ quantity_of shares a b) → list_any (exceeds shares) sheet ≡ list_any (exceeds reserved) sheet
same_excess reserved shares sheet same = any_same (exceeds shares) (exceeds reserved) sheet (λ l. ap (λ (n : ℕ). ltb n l.quantity) (sym (same l.item l.lot)))

pub picked_excess : (p : PageFacts) (es : List Event) (n : ℕ) (s : List ℕ) (k : PageOrder) (sheet : List Line) → Shows p es → order_at s p.orders ≡ Some k → k.is_open ≡ true
    → list_any (exceeds k.reserved) sheet ≡ true → picked es n s sheet ≡ Err NotReserved
picked_excess p es n s k sheet shows h opened over =
    let r = order_known p es s k shows h in
    rw (r.1, open_known es s r.0 k true r.1 r.2 opened, same_excess k.reserved r.0.shares sheet (reserved_sums p es s r.0 k shows r.1 r.2 opened) ∙ over) refl

pub picked_ok : (p : PageFacts) (es : List Event) (n : ℕ) (s : List ℕ) (r : Reserved) (k : PageOrder) (sheet : List Line) → Shows p es → order_under s es ≡ Some r → page_order es r ≡ k
    → k.is_open ≡ true → list_any (exceeds k.reserved) sheet ≡ false → picked es n s sheet ≡ Ok (Picked n r.order r.shares sheet)
picked_ok p es n s r k sheet shows found is opened covers =
    rw (found, open_known es s r k true found is opened, same_excess k.reserved r.shares sheet (reserved_sums p es s r k shows found is opened) ∙ covers) refl

pub picked_shows : (n : ℕ) (k : PageOrder) (r : Reserved) (sheet : List Line) (number : List ℕ) (old new : PageFacts) (es : List Event)
    → n ≡ old.entries + 1 → IsPicked n k sheet old new → order_at number old.orders ≡ Some k
    → order_under number es ≡ Some r → page_order es r ≡ k → k.is_open ≡ true → Shows old es → Shows new (es ++ Picked n r.order r.shares sheet ∷ [])
picked_shows n k r sheet number old new es follows step known found seen opened shows =
    let e = Picked n r.order r.shares sheet in
    let key : r.order.number ≡ number = order_found_under number es r found in
    let numbered : list_all (is_numbered_within n) es ≡ true = ap (λ (m : ℕ). list_all (is_numbered_within m) es) follows ∙ shows.numbers in
    record {
      amounts = λ c x y. omega (
        arith,
        step.rows.amounts c x y,
        shows.amounts c x y,
        came_push es e c x y,
        went_push es e c x y,
        same_given c x y,
        came_append (map (goes OnHand) sheet ++ map (comes Shipped) sheet) (map (goes Reservation) r.shares) c x y,
        went_append (map (goes OnHand) sheet ++ map (comes Shipped) sheet) (map (goes Reservation) r.shares) c x y,
        came_append (map (goes OnHand) sheet) (map (comes Shipped) sheet) c x y,
        went_append (map (goes OnHand) sheet) (map (comes Shipped) sheet) c x y,
        came_goes OnHand sheet c x y,
        went_goes OnHand sheet c x y,
        came_comes Shipped sheet c x y,
        went_comes Shipped sheet c x y,
        came_goes Reservation r.shares c x y,
        went_goes Reservation r.shares c x y,
      );
      sinces = λ x y. found_kept (count_naming x y) es e refl ∙ shows.sinces x y ∙ ap positive (sym (step.rows.sinces x y));
      expiries = λ x y. found_kept (date_naming x y) es e refl ∙ shows.expiries x y ∙ sym (step.rows.expiries x y);
      pairs = λ x y. omega (
        arith,
        step.rows.named x y,
        shows.pairs x y,
        ap (λ (ls : List Line). named_by ls x y) (flat_map-append named es (e ∷ []) ∙ append-nil (flat_map named es)),
      );
      advices = λ s. ap (advice_at s) step.advices ∙ shows.advices s ∙ advice_kept es e s refl refl;
      orders = λ s. ap (order_at s) step.orders ∙ order_closed s number old.orders k known
          ∙ ap (closed_if (bytes_eq number s)) (shows.orders s ∙ order_view s es)
          ∙ closed_seen (bytes_eq number s) (unpicked s es) (order_under s es)
          ∙ ap (λ (t : List ℕ). order_seen (order_under s es) (cond (bytes_eq t s) false (unpicked s es))) (sym key)
          ∙ ap (order_seen (order_under s es)) (sym (unpicked_push es n r.order r.shares sheet s))
          ∙ ap (λ (o : Option Reserved). order_seen o (unpicked s (es ++ e ∷ []))) (sym (found_kept (order_if s) es e refl))
          ∙ sym (order_view s (es ++ e ∷ []));
      documents = λ m. sent_shown es e n (codes "SW") old.documents new.documents step.documents (λ j. refl) (λ j g. refl) numbered m (shows.documents m);
      counted = λ s. counted_kept es e s refl (shows.counted s);
      picked = λ s h.
          let gone : order_under s es ≡ None = sym (found_kept (order_if s) es e refl) ∙ h in
          any_push (picks s) es e ∙ ap (λ (v : Bool). v || bytes_eq r.order.number s) (shows.picked s gone) ∙ other s gone;
      shares = λ s. subst NamesEachOnce (sym (found_kept (order_if s) es e refl)) (shows.shares s);
      numbers = all_push (is_numbered_within (new.entries + 1)) es e (all_numbered_same old.entries new.entries es step.next.entries shows.numbers) (own new step.next.entries);
    }
  where
    same_given : (c : Column) (a b : List ℕ) → given Reservation k.reserved c a b ≡ given Reservation r.shares c a b
    same_given Expected a b = refl
    same_given OnHand a b = refl
    same_given Reservation a b = reserved_sums old es number r k shows found seen opened a b
    same_given Shipped a b = refl

    other : (s : List ℕ) → order_under s es ≡ None → bytes_eq r.order.number s ≡ false
    other s gone = elim (cases_Bool (bytes_eq r.order.number s)) [
      | inl f ↦ let both : Some r ≡ None = sym found ∙ ap (λ (t : List ℕ). order_under t es) (sym (order_found_under number es r found) ∙ (bytes_eq-Decides r.order.number s).0 f) ∙ gone in absurd (cc)
      | inr f ↦ f
    ]

    own : (p : PageFacts) → p.entries ≡ old.entries → is_numbered_within (p.entries + 1) (Picked n r.order r.shares sheet) ≡ true
    own p same = own_number n (p.entries + 1) (omega (arith, follows, same), omega (arith, follows, same))
