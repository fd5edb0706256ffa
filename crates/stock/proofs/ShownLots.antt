-- The lots of a page are those that its events name.
use Rattle.std.proofs.Common.{◌≡◌, ℕ, ◌<◌, Bool, true, false, ◌||◌, eqb, ltb, List, [], ◌∷◌, ◌++◌, ◌⊎◌, refl, ap, sym, ◌∙◌, subst, inl, inr, arith, map, Option, Some, None}
use Rattle.std.proofs.lemmas.Bool.{cases_Bool, both_ways, and_parts, ltb-true, lt-ltb, eqb-false, ne_eqb}
use Rattle.std.proofs.lemmas.Slice.Eq.{bytes_eq-Decides}
use Rattle.std.specs.Prelude.{bytes_eq, filter, flat_map, unwrap_or}
use Rattle.std.specs.List.{list_any}
use Rattle.definitions.specs.declared.rules.Rules.{Rules}
use Rattle.definitions.specs.Lists.{in_order, first_found}
use Rattle.definitions.specs.Means.{Line}
use Rattle.definitions.specs.Allotment.{Ranked, ranks_before, lots_named}
use Rattle.definitions.specs.Events.{Event, Enrolment, Advised, Ordered, Acknowledged, Counted, Picked, Recounted, is_pair, count_naming, since, expiry}
use Rattle.page_rows.specs.Lots.{is_lot_of, rank_of, ranks_of}
use Rattle.page_rows.proofs.Orders.{Has, in_order_same}
use Rattle.page_rows.proofs.Ranks.{ranks_order}
use Rattle.page_rows.specs.OfPairs.{is_row, of_pair, since as first_count, positive, IsDistinct}
use Rattle.page_rows.specs.Pages.{PageFacts}
use Rattle.stock.specs.Shows.{Shows}
use Rattle.page_rows.proofs.OfPairLemmas.{row_is}
use Rattle.page_rows.proofs.LotLemmas.{has_map, map_has, has_filter, filter_has, of_pair_has, date_has, ranks_once, of_pair_find}

has_append : {X : Type 0} (z : X) (xs ys : List X) → Has z (xs ++ ys) → Has z xs ⊎ Has z ys
has_append z [] ys h = inr h
has_append z (x ∷ xs) ys h = elim h [ inl a ↦ inl (inl a) | inr b ↦ elim (has_append z xs ys b) [ inl a ↦ inl (inr a) | inr c ↦ inr c ] ]

append_has : {X : Type 0} (z : X) (xs ys : List X) → Has z xs ⊎ Has z ys → Has z (xs ++ ys)
append_has z [] ys h = elim h [ inl a ↦ absurd a | inr b ↦ b ]
append_has z (x ∷ xs) ys h = elim h [
  | inl a ↦ elim a [ inl b ↦ inl b | inr b ↦ inr (append_has z xs ys (inl b)) ]
  | inr b ↦ inr (append_has z xs ys (inr b))
]

-- a list of events names a lot where a count of it does
lot_in_sheet : (item lot : List ℕ) (sheet : List Line) → Has lot (map (λ l. l.lot) (filter (λ l. bytes_eq l.item item) sheet)) → list_any (is_pair item lot) sheet ≡ true
lot_in_sheet item lot [] h = absurd h
lot_in_sheet item lot (l ∷ ls) h = elim (cases_Bool (bytes_eq l.item item)) [
  | inl e ↦ let g : (lot ≡ l.lot) ⊎ Has lot (map (λ (l : Line). l.lot) (filter (λ (l : Line). bytes_eq l.item item) ls)) = rw e at h in elim g [
    | inl a ↦ rw (e, (bytes_eq-Decides l.lot lot).1 (sym a)) refl
    | inr b ↦ or_right (is_pair item lot l) (lot_in_sheet item lot ls b)
  ]
  | inr e ↦ or_right (is_pair item lot l) (lot_in_sheet item lot ls (rw e at h))
]
  where
    or_right : (p : Bool) {q : Bool} → q ≡ true → (p || q) ≡ true
    or_right true h = refl
    or_right false h = h

sheet_has_lot : (item lot : List ℕ) (sheet : List Line) → list_any (is_pair item lot) sheet ≡ true → Has lot (map (λ l. l.lot) (filter (λ l. bytes_eq l.item item) sheet))
sheet_has_lot item lot [] h = absurd (cc)
sheet_has_lot item lot (l ∷ ls) h = elim (cases_Bool (bytes_eq l.item item)) [
  | inl e ↦ rw e (elim (cases_Bool (bytes_eq l.lot lot)) [
    | inl f ↦ inl (sym ((bytes_eq-Decides l.lot lot).0 f))
    | inr f ↦ inr (sheet_has_lot item lot ls (rw (e, f) at h))
  ])
  | inr e ↦ rw e (sheet_has_lot item lot ls (rw e at h))
]

-- the lots that events name are those with a first count
pub naming_has : (item lot : List ℕ) (es : List Event) (m : ℕ) → first_found (count_naming item lot) es ≡ Some m → Has lot (flat_map (lots_named item) es)
naming_has item lot [] m h = absurd (cc)
naming_has item lot (Enrolment ∷ es) m h = naming_has item lot es m h
naming_has item lot (Advised a ∷ es) m h = naming_has item lot es m h
naming_has item lot (Ordered o shares ∷ es) m h = naming_has item lot es m h
naming_has item lot (Acknowledged n a ∷ es) m h = naming_has item lot es m h
naming_has item lot (Picked n o shares sheet ∷ es) m h = naming_has item lot es m h
naming_has item lot (Recounted n before sheet ∷ es) m h = naming_has item lot es m h
naming_has item lot (Counted n a sheet ∷ es) m h = elim (cases_Bool (list_any (is_pair item lot) sheet)) [
  | inl e ↦ append_has lot (lots_named item (Counted n a sheet)) (flat_map (lots_named item) es) (inl (sheet_has_lot item lot sheet e))
  | inr e ↦ append_has lot (lots_named item (Counted n a sheet)) (flat_map (lots_named item) es) (inr (naming_has item lot es m (rw e at h)))
]

pub has_naming : (item lot : List ℕ) (es : List Event) → Has lot (flat_map (lots_named item) es) → (m : ℕ) × (first_found (count_naming item lot) es ≡ Some m)
has_naming item lot [] h = absurd h
has_naming item lot (Enrolment ∷ es) h = has_naming item lot es h
has_naming item lot (Advised a ∷ es) h = has_naming item lot es h
has_naming item lot (Ordered o shares ∷ es) h = has_naming item lot es h
has_naming item lot (Acknowledged n a ∷ es) h = has_naming item lot es h
has_naming item lot (Picked n o shares sheet ∷ es) h = has_naming item lot es h
has_naming item lot (Recounted n before sheet ∷ es) h = has_naming item lot es h
has_naming item lot (Counted n a sheet ∷ es) h = elim (cases_Bool (list_any (is_pair item lot) sheet)) [
  | inl e ↦ (n, rw e refl)
  | inr e ↦ elim (has_append lot (lots_named item (Counted n a sheet)) (flat_map (lots_named item) es) h) [
    | inl x ↦ absurd (both_ways (list_any (is_pair item lot) sheet) e (lot_in_sheet item lot sheet x))
    | inr x ↦ let m = has_naming item lot es x in (m.0, rw e m.1)
  ]
]

positive_some : (t m : ℕ) → positive t ≡ Some m → (t ≡ m) × (0 < t)
positive_some t m h = elim (cases_Bool (eqb t 0)) [
  | inl e ↦ let g : None ≡ Some m = rw e at h in absurd (cc)
  | inr e ↦ let g : Some t ≡ Some m = rw e at h in let apart : t ≡ 0 → ⊥ = eqb-false t 0 e in ((cc), omega arith)
]

some_positive : (t : ℕ) → 0 < t → positive t ≡ Some t
some_positive t h = rw (ne_eqb t 0 (λ z. absurd (omega arith))) refl

-- the lots of a page are those of the events
pub lots_shown : (r : Rules) (p : PageFacts) (es : List Event) (item : List ℕ) → Shows p es → IsDistinct p.rows
    → in_order (ranks_before r) (ranks_of item p.rows)
    ≡ in_order (ranks_before r) (map (λ lot. record { expiry = expiry es item lot; since = since es item lot; lot = lot }) (flat_map (lots_named item) es))
lots_shown r p es item shows distinct = in_order_same (ranks_before r) (ranks_order r) (ranks_of item p.rows) (map rank (flat_map (lots_named item) es)) (ranks_once r item p.rows distinct)
    (λ z h.
    let m = map_has rank_of z (filter (is_lot_of item) p.rows) h in
    let g = filter_has (is_lot_of item) m.0 p.rows m.1 in
    let q = and_parts (bytes_eq m.0.item item) (ltb 0 m.0.since) g.1 in
    let here : is_row item m.0.lot m.0 ≡ true = rw (q.0, (bytes_eq-Decides m.0.lot m.0.lot).1 refl) refl in
    let t : of_pair first_count item m.0.lot p.rows ≡ m.0.since = of_pair_has first_count item m.0.lot p.rows m.0 g.0 here (distinct item m.0.lot) in
    let found : first_found (count_naming item m.0.lot) es ≡ Some m.0.since = shows.sinces item m.0.lot ∙ ap positive t ∙ some_positive m.0.since (ltb-true 0 m.0.since q.1) in
    let date : expiry es item m.0.lot ≡ m.0.expiry = shows.expiries item m.0.lot ∙ date_has item m.0.lot p.rows m.0 g.0 here (distinct item m.0.lot) in
    subst (λ (w : Ranked). Has w (map rank (flat_map (lots_named item) es)))
    ((λ i. record { expiry = date i; since = unwrap_or (found i) 0; lot = m.0.lot }) ∙ sym m.2)
    (has_map rank m.0.lot (flat_map (lots_named item) es) (naming_has item m.0.lot es m.0.since found)))
    (λ z h.
    let m = map_has rank z (flat_map (lots_named item) es) h in
    let f = has_naming item m.0 es m.1 in
    let t = positive_some (of_pair first_count item m.0 p.rows) f.0 (sym (shows.sinces item m.0) ∙ f.1) in
    let r = of_pair_find first_count item m.0 p.rows t.1 in
    let q = row_is item m.0 r.0 r.2 in
    let is : of_pair first_count item m.0 p.rows ≡ r.0.since = of_pair_has first_count item m.0 p.rows r.0 r.1 r.2 (distinct item m.0) in
    let lot : is_lot_of item r.0 ≡ true = rw ((bytes_eq-Decides r.0.item item).1 q.0, lt-ltb 0 r.0.since (omega arith)) refl in
    let number : since es item m.0 ≡ r.0.since = ap (λ (o : Option ℕ). unwrap_or o 0) f.1 ∙ sym t.0 ∙ is in
    let date : expiry es item m.0 ≡ r.0.expiry = shows.expiries item m.0 ∙ date_has item m.0 p.rows r.0 r.1 r.2 (distinct item m.0) in
    subst (λ (w : Ranked). Has w (ranks_of item p.rows))
    ((λ i. record { expiry = sym date i; since = sym number i; lot = q.1 i }) ∙ sym m.2)
    (has_map rank_of r.0 (filter (is_lot_of item) p.rows) (has_filter (is_lot_of item) r.0 p.rows r.1 lot)))
  where
    rank : List ℕ → Ranked
    rank lot = record { expiry = expiry es item lot; since = since es item lot; lot = lot }
