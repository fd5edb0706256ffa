-- The part of a page: a part of a part, and pages that agree on more than is needed.
use Rattle.std.proofs.Common.{◌≡◌, ℕ, Bool, true, false, cond, ◌||◌, List, [], ◌∷◌, ◌++◌, map, refl, sym, ap, ◌∙◌, bytes_eq}
use Rattle.std.specs.Prelude.{filter, flat_map}
use Rattle.std.proofs.lemmas.List.Folds.{list_any-append}
use Rattle.std.proofs.lemmas.List.Concat.{flat_map-cons}
use Rattle.definitions.specs.Bytes.{is_one_of}
use Rattle.definitions.specs.Rows.{LotRow}
use Rattle.definitions.specs.Page.{PageAdvice, PageOrder, PageDocument, Page}
use Rattle.definitions.specs.Need.{Need, Covers, AgreeOn, is_number_of, items_of, advices_in, orders_in, items_in, part}
use Rattle.definitions.proofs.NeedLaws.{in_left, in_right, or_left, or_right, within_itself, in_either}

-- ---- filters

module _ {X : Type 0} (p q : X → Bool) (inside : (x : X) → p x ≡ true → q x ≡ true) where
  -- what is kept of more than is kept
  kept_twice : (xs : List X) → filter p (filter q xs) ≡ filter p xs
  kept_twice [] = refl
  kept_twice (x ∷ xs) = by_tests (p x) (q x) refl refl (kept_twice xs)
    where
      by_tests : (b c : Bool) → p x ≡ b → q x ≡ c → filter p (filter q xs) ≡ filter p xs → filter p (filter q (x ∷ xs)) ≡ filter p (x ∷ xs)
      by_tests true true e f more = rw (f, e) (ap (λ ys. x ∷ ys) more)
      by_tests true false e f more = let named : q x ≡ true = inside x e in absurd (cc)
      by_tests false true e f more = rw (f, e) more
      by_tests false false e f more = rw (f, e) more

  -- what the fewer name the more name too
  named_of_more : (items : X → List (List ℕ)) (t : List ℕ) (xs : List X) → is_one_of (flat_map items (filter p xs)) t ≡ true → is_one_of (flat_map items (filter q xs)) t ≡ true
  named_of_more items t [] h = h
  named_of_more items t (x ∷ xs) h = step (p x) (q x) (inside x) h (named_of_more items t xs)
    where
      cons_any : (ys : List X) → is_one_of (flat_map items (x ∷ ys)) t ≡ (is_one_of (items x) t || is_one_of (flat_map items ys) t)
      cons_any ys = ap (λ zs. is_one_of zs t) (flat_map-cons items x ys) ∙ list_any-append (bytes_eq t) (items x) (flat_map items ys)

      by_first : (b : Bool) → is_one_of (items x) t ≡ b → (b || is_one_of (flat_map items (filter p xs)) t) ≡ true
          → (is_one_of (flat_map items (filter p xs)) t ≡ true → is_one_of (flat_map items (filter q xs)) t ≡ true)
          → (is_one_of (items x) t || is_one_of (flat_map items (filter q xs)) t) ≡ true
      by_first true e k more = or_left (is_one_of (items x) t) (is_one_of (flat_map items (filter q xs)) t) e
      by_first false e k more = or_right (is_one_of (items x) t) (is_one_of (flat_map items (filter q xs)) t) (more k)

      step : (b c : Bool) → (b ≡ true → c ≡ true) → is_one_of (flat_map items (cond b (x ∷ filter p xs) (filter p xs))) t ≡ true
          → (is_one_of (flat_map items (filter p xs)) t ≡ true → is_one_of (flat_map items (filter q xs)) t ≡ true)
          → is_one_of (flat_map items (cond c (x ∷ filter q xs) (filter q xs))) t ≡ true
      step true false i k more = let wrong : false ≡ true = i refl in absurd (cc)
      step true true i k more = cons_any (filter q xs) ∙ by_first (is_one_of (items x) t) refl (sym (cons_any (filter p xs)) ∙ k) more
      step false true i k more = cons_any (filter q xs) ∙ or_right (is_one_of (items x) t) (is_one_of (flat_map items (filter q xs)) t) (more k)
      step false false i k more = more k

-- what stands in either of two lists stands in either of two others
in_both : (xs ys zs us : List (List ℕ)) (t : List ℕ) → (is_one_of xs t ≡ true → is_one_of zs t ≡ true) → (is_one_of ys t ≡ true → is_one_of us t ≡ true)
    → is_one_of (xs ++ ys) t ≡ true → is_one_of (zs ++ us) t ≡ true
in_both xs ys zs us t f g h = in_either xs ys (zs ++ us) t (λ k. in_left zs us t (f k)) (λ k. in_right zs us t (g k)) h

-- ---- parts

abbrev of_advices : Need → Page → List (List ℕ)
of_advices need P = flat_map (λ (k : PageAdvice). items_of k.lines) (advices_in need P)

abbrev of_orders : Need → Page → List (List ℕ)
of_orders need P = flat_map (λ (o : PageOrder). map (λ l. l.item) o.lines) (orders_in need P)

module _ (big small : Need) (covers : Covers big small) (P : Page) where
  items_inside : (t : List ℕ) → is_one_of (items_in small P) t ≡ true → is_one_of (items_in big P) t ≡ true
  items_inside t h = in_both small.items (of_advices small P ++ of_orders small P) big.items (of_advices big P ++ of_orders big P) t (covers.items t)
      (in_both (of_advices small P) (of_orders small P) (of_advices big P) (of_orders big P) t
      (named_of_more (λ (k : PageAdvice). is_one_of small.shipments k.shipment) (λ (k : PageAdvice). is_one_of big.shipments k.shipment) (λ k. covers.shipments k.shipment)
      (λ (k : PageAdvice). items_of k.lines) t P.advices)
      (named_of_more (λ (o : PageOrder). is_one_of small.orders o.number) (λ (o : PageOrder). is_one_of big.orders o.number) (λ o. covers.orders o.number)
      (λ (o : PageOrder). map (λ l. l.item) o.lines) t P.orders)) h

  advices_again : advices_in small (part P big) ≡ advices_in small P
  advices_again = kept_twice (λ (k : PageAdvice). is_one_of small.shipments k.shipment) (λ (k : PageAdvice). is_one_of big.shipments k.shipment) (λ k. covers.shipments k.shipment) P.advices

  orders_again : orders_in small (part P big) ≡ orders_in small P
  orders_again = kept_twice (λ (o : PageOrder). is_one_of small.orders o.number) (λ (o : PageOrder). is_one_of big.orders o.number) (λ o. covers.orders o.number) P.orders

  items_again : items_in small (part P big) ≡ items_in small P
  items_again = λ i. small.items
      ++ (flat_map (λ (k : PageAdvice). items_of k.lines) (advices_again i) ++ flat_map (λ (o : PageOrder). map (λ l. l.item) o.lines) (orders_again i))

  rows_again : filter (λ (r : LotRow). is_one_of (items_in small (part P big)) r.item) ((part P big).rows) ≡ filter (λ (r : LotRow). is_one_of (items_in small P) r.item) P.rows
  rows_again = ap (λ items. filter (λ (r : LotRow). is_one_of items r.item) ((part P big).rows)) items_again
      ∙ kept_twice (λ (r : LotRow). is_one_of (items_in small P) r.item) (λ (r : LotRow). is_one_of (items_in big P) r.item) (λ r. items_inside r.item) P.rows

  documents_again : filter (λ (d : PageDocument). is_number_of small.documents d.n) ((part P big).documents) ≡ filter (λ (d : PageDocument). is_number_of small.documents d.n) P.documents
  documents_again = kept_twice (λ (d : PageDocument). is_number_of small.documents d.n) (λ (d : PageDocument). is_number_of big.documents d.n) (λ d. covers.documents d.n) P.documents

  -- the part of a part that names more
  pub part-part : part (part P big) small ≡ part P small
  part-part = λ i. record {
    rows = rows_again i;
    advices = advices_again i;
    orders = orders_again i;
    documents = documents_again i;
    entries = P.entries;
  }

-- a page agrees with its part
pub agree-part : (need : Need) (P : Page) → AgreeOn need (part P need) P
agree-part need P = part-part need need (within_itself need) P

-- pages that agree on more agree on less
pub agree-covered : (big small : Need) (P Q : Page) → Covers big small → AgreeOn big P Q → AgreeOn small P Q
agree-covered big small P Q c e = sym (part-part big small c P) ∙ ap (λ p. part p small) e ∙ part-part big small c Q
