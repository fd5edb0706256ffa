-- Laws of pages.
use Rattle.std.proofs.Common.{◌≡◌, ℕ, ◌<◌, ◌^◌, Bool, true, false, not, ◌&&◌, List, ◌++◌, refl, ap, sym, ◌∙◌, arith, inl, inr, Option, Some, None, Ok, Err}
use Rattle.std.proofs.lemmas.Bool.{cases_Bool}
use Rattle.std.specs.List.{list_any}
use Rattle.definitions.specs.Clerk.{counted, picked}
use Rattle.definitions.specs.Lists.{or_else}
use Rattle.definitions.specs.Events.{Event, Reserved, expiry, counts, picks, advice_under, order_under, is_advice_open, is_order_open}
use Rattle.std.specs.Prelude.{is_some}
use Rattle.definitions.specs.Means.{Line, Advice}
use Rattle.definitions.specs.Movements.{Column, OnHand, Reservation, IsCovered, balance}
use Rattle.definitions.specs.declared.refusals.Refusal.TheVariants.{UnknownAdvice, AdviceClosed, UnknownOrder, OrderClosed}
use Rattle.definitions.proofs.EventsLaws.{expiry-append}
use Rattle.page_rows.specs.Pages.{PageFacts, IsSound}
use Rattle.stock.specs.Shows.{Shows}
use Rattle.page_rows.specs.OfPairs.{of_pair, date_of_pair, amount}

pub balance_shows : (p : PageFacts) (es : List Event) → Shows p es → (c : Column) (a b : List ℕ) → of_pair (amount c) a b p.rows ≡ balance es c a b
balance_shows p es shows c a b = omega (arith, shows.amounts c a b)

pub date_shows : (p : PageFacts) (es : List Event) → Shows p es → (a b : List ℕ) → date_of_pair a b p.rows ≡ expiry es a b
date_shows p es shows a b = sym (shows.expiries a b)

pub date_stays : (p q : PageFacts) (es more : List Event) → Shows p es → Shows q (es ++ more)
    → (a b date : List ℕ) → date_of_pair a b p.rows ≡ Some date → date_of_pair a b q.rows ≡ Some date
date_stays p q es more shows after a b date is =
    date_shows q (es ++ more) after a b ∙ expiry-append es more a b
    ∙ ap (λ (o : Option (List ℕ)). or_else o (expiry more a b)) (shows.expiries a b ∙ is)

pub covered_events : (p : PageFacts) (es : List Event) → IsSound p → Shows p es → IsCovered es
covered_events p es sound shows = record {
  nothing_below = λ c a b. omega (arith, shows.amounts c a b);
  reserved_on_hand = λ a b. omega (arith, sound.covered a b, balance_shows p es shows Reservation a b, balance_shows p es shows OnHand a b);
}

pub small_amounts : (p : PageFacts) → IsSound p → (c : Column) (a b : List ℕ) → of_pair (amount c) a b p.rows < 2 ^ 64
small_amounts p sound c a b = omega (arith, sound.bounded c a b, sound.numbered, sound.few)

pub counted_once : (es : List Event) (n : ℕ) (s : List ℕ) (sheet : List Line) (e : Event) → counted es n s sheet ≡ Ok e → list_any (counts s) es ≡ false
counted_once es n s sheet e h = elim (cases_Bool (list_any (counts s) es)) [
  | inl t ↦ absurd (by (advice_under s es) refl t)
  | inr t ↦ t
]
  where
    by : (o : Option Advice) → advice_under s es ≡ o → list_any (counts s) es ≡ true → ⊥
    by None f t = let g : Err UnknownAdvice ≡ Ok e = rw f at h in absurd (cc)
    by (Some a) f t =
        let closed : is_advice_open s es ≡ false = ap (λ (o : Option Advice). is_some o && not (list_any (counts s) es)) f ∙ ap (λ (v : Bool). true && not v) t in
        let g : Err AdviceClosed ≡ Ok e = rw (f, closed) at h in absurd (cc)

pub picked_once : (es : List Event) (n : ℕ) (s : List ℕ) (sheet : List Line) (e : Event) → picked es n s sheet ≡ Ok e → list_any (picks s) es ≡ false
picked_once es n s sheet e h = elim (cases_Bool (list_any (picks s) es)) [
  | inl t ↦ absurd (by (order_under s es) refl t)
  | inr t ↦ t
]
  where
    by : (o : Option Reserved) → order_under s es ≡ o → list_any (picks s) es ≡ true → ⊥
    by None f t = let g : Err UnknownOrder ≡ Ok e = rw f at h in absurd (cc)
    by (Some r) f t =
        let closed : is_order_open s es ≡ false = ap (λ (o : Option Reserved). is_some o && not (list_any (picks s) es)) f ∙ ap (λ (v : Bool). true && not v) t in
        let g : Err OrderClosed ≡ Ok e = rw (f, closed) at h in absurd (cc)
