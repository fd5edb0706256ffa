-- How what was found in the events is seen on a page.
use Rattle.std.proofs.Common.{◌≡◌, ℕ, Bool, true, false, ◌&&◌, not, cond, List, [], ◌∷◌, map, refl, ap, sym, ◌∙◌, Option, Some, None}
use Rattle.std.proofs.lemmas.Slice.Eq.{bytes_eq-Decides}
use Rattle.std.specs.Prelude.{bytes_eq, is_some, option_map}
use Rattle.std.specs.List.{list_any}
use Rattle.definitions.specs.Lists.{or_else, first_found}
use Rattle.definitions.specs.Means.{Advice, advised}
use Rattle.definitions.specs.Events.{Event, Enrolment, Advised, Ordered, Acknowledged, Counted, Picked, Recounted, advice_if, advice_under, Reserved, order_if, order_under, counts, picks, is_advice_open, is_order_open}
use Rattle.definitions.specs.Page.{PageAdvice, PageOrder, page_advice, page_line, page_order, reserved_lines}

-- an element in which something is found first
pub found_from : {X Y : Type 0} (f : X → Option Y) (xs : List X) (y : Y) → first_found f xs ≡ Some y → (x : X) × (f x ≡ Some y)
found_from f [] y h = absurd (cc)
found_from {X} {Y} f (x ∷ xs) y h = by (f x) refl h (found_from f xs y)
  where
    by : (o : Option Y) → f x ≡ o → or_else o (first_found f xs) ≡ Some y → (first_found f xs ≡ Some y → (x : X) × (f x ≡ Some y)) → (x : X) × (f x ≡ Some y)
    by (Some z) e h later = (x, e ∙ h)
    by None e h later = later h

advice_key : (s : List ℕ) (e : Event) (a : Advice) → advice_if s e ≡ Some a → a.shipment ≡ s
advice_key s Enrolment a h = absurd (cc)
advice_key s (Advised b) a h = by (bytes_eq b.shipment s) refl h
  where
    by : (v : Bool) → bytes_eq b.shipment s ≡ v → cond v (Some b) None ≡ Some a → a.shipment ≡ s
    by true e h = let same : b ≡ a = cc in ap (λ (x : Advice). x.shipment) (sym same) ∙ (bytes_eq-Decides b.shipment s).0 e
    by false e h = absurd (cc)
advice_key s (Ordered o shares) a h = absurd (cc)
advice_key s (Acknowledged n x) a h = absurd (cc)
advice_key s (Counted n b sheet) a h = absurd (cc)
advice_key s (Picked n o shares sheet) a h = absurd (cc)
advice_key s (Recounted n before sheet) a h = absurd (cc)

order_key : (n : List ℕ) (e : Event) (r : Reserved) → order_if n e ≡ Some r → r.order.number ≡ n
order_key n Enrolment r h = absurd (cc)
order_key n (Advised b) r h = absurd (cc)
order_key n (Ordered o shares) r h = by (bytes_eq o.number n) refl h
  where
    by : (v : Bool) → bytes_eq o.number n ≡ v → cond v (Some (record { order = o; shares = shares })) None ≡ Some r → r.order.number ≡ n
    by true e h = let same : record { order = o; shares = shares } ≡ r = cc in ap (λ (x : Reserved). x.order.number) (sym same) ∙ (bytes_eq-Decides o.number n).0 e
    by false e h = absurd (cc)
order_key n (Acknowledged m x) r h = absurd (cc)
order_key n (Counted m b sheet) r h = absurd (cc)
order_key n (Picked m o shares sheet) r h = absurd (cc)
order_key n (Recounted m before sheet) r h = absurd (cc)

-- what was found is under the key that was looked for
pub advice_found_under : (s : List ℕ) (es : List Event) (a : Advice) → advice_under s es ≡ Some a → a.shipment ≡ s
advice_found_under s es a h = let f = found_from (advice_if s) es a h in advice_key s f.0 a f.1

pub order_found_under : (n : List ℕ) (es : List Event) (r : Reserved) → order_under n es ≡ Some r → r.order.number ≡ n
order_found_under n es r h = let f = found_from (order_if n) es r h in order_key n f.0 r f.1

-- an advice and an order with a state
abbrev pub seen_advice : Bool → Advice → PageAdvice
seen_advice v a = record { shipment = a.shipment; order = a.order; lines = advised a; is_open = v }

abbrev pub seen_order : Bool → Reserved → PageOrder
seen_order v r = record {
  number = r.order.number;
  address = r.order.address;
  lines = map page_line r.order.lines;
  reserved = cond v (reserved_lines r.shares) [];
  is_open = v;
}

abbrev pub advice_seen : Option Advice → Bool → Option PageAdvice
advice_seen o v = option_map (seen_advice v) o

abbrev pub order_seen : Option Reserved → Bool → Option PageOrder
order_seen o v = option_map (seen_order v) o

-- no count of an advice, and no pick of an order
abbrev pub uncounted : List ℕ → List Event → Bool
uncounted s es = not (list_any (counts s) es)

abbrev pub unpicked : List ℕ → List Event → Bool
unpicked n es = not (list_any (picks n) es)

pub advice_open : (s : List ℕ) (es : List Event) (a : Advice) → advice_under s es ≡ Some a → is_advice_open a.shipment es ≡ uncounted s es
advice_open s es a h = ap (λ (x : List ℕ). is_advice_open x es) (advice_found_under s es a h) ∙ ap (λ (o : Option Advice). is_some o && uncounted s es) h

pub order_open : (n : List ℕ) (es : List Event) (r : Reserved) → order_under n es ≡ Some r → is_order_open r.order.number es ≡ unpicked n es
order_open n es r h = ap (λ (x : List ℕ). is_order_open x es) (order_found_under n es r h) ∙ ap (λ (o : Option Reserved). is_some o && unpicked n es) h

-- the views in a simpler form
pub advice_view : (s : List ℕ) (es : List Event) → option_map (page_advice es) (advice_under s es) ≡ advice_seen (advice_under s es) (uncounted s es)
advice_view s es = by (advice_under s es) refl
  where
    by : (o : Option Advice) → advice_under s es ≡ o → option_map (page_advice es) o ≡ advice_seen o (uncounted s es)
    by (Some a) e = ap (λ (v : Bool). Some (seen_advice v a)) (advice_open s es a e)
    by None e = refl

pub order_view : (n : List ℕ) (es : List Event) → option_map (page_order es) (order_under n es) ≡ order_seen (order_under n es) (unpicked n es)
order_view n es = by (order_under n es) refl
  where
    by : (o : Option Reserved) → order_under n es ≡ o → option_map (page_order es) o ≡ order_seen o (unpicked n es)
    by (Some r) e = ap (λ (v : Bool). Some (seen_order v r)) (order_open n es r e)
    by None e = refl
