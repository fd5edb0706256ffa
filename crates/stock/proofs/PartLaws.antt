-- The part of a page that has just what is named.
use Rattle.std.proofs.Common.{◌≡◌, ℕ, ◌≤◌, Bool, true, false, cond, List, [], ◌∷◌, refl, ap, sym, ◌∙◌, inl, inr, arith}
use Rattle.std.proofs.lemmas.Bool.{cases_Bool, and_parts, eqb-true}
use Rattle.std.proofs.lemmas.List.Sums.{sum_by-cons}
use Rattle.std.proofs.lemmas.Slice.Eq.{bytes_eq-Decides}
use Rattle.std.specs.Prelude.{filter, find, bytes_eq, sum_by}
use Rattle.std.specs.List.{list_all}
use Rattle.definitions.specs.Events.{is_pair, quantity_of}
use Rattle.definitions.specs.Means.{Line}
use Rattle.definitions.specs.Movements.{Expected, OnHand, Reservation}
use Rattle.definitions.specs.Page.{PageAdvice, PageOrder, PageDocument}
use Rattle.definitions.specs.Rows.{LotRow}
use Rattle.page_rows.specs.Keyed.{row_key, key_before, shipment_of, number_of, entry_of}
use Rattle.definitions.specs.Bytes.{comes_before}
use Rattle.std.specs.Prelude.{nat_lt}
use Rattle.page_rows.specs.Pages.{PageFacts, IsSound, AreSorted, is_in_lines, is_shipment, is_number, is_document, awaited, held}
use Rattle.stock.specs.Parts.{Named, IsPart, IsClosed, part_of, are_items}
use Rattle.page_rows.specs.OfPairs.{is_row, of_pair, amount}
use Rattle.page_rows.proofs.Keys.{all_filter, filter_rises}
use Rattle.page_rows.proofs.KeyLemmas.{pairs_strict, texts_strict, numbers_strict, sorted_distinct, advices_once, orders_once, documents_once}
use Rattle.page_rows.proofs.Pairs.{quantity_no}
use Rattle.page_rows.proofs.OfPairLemmas.{of_pair_cons, part_no}

-- what is told of a pair whose item is named
of_pair_kept : (q : List ℕ → Bool) (f : LotRow → ℕ) (a b : List ℕ) (rows : List LotRow) → q a ≡ true → of_pair f a b (filter (λ r. q r.item) rows) ≡ of_pair f a b rows
of_pair_kept q f a b [] is = refl
of_pair_kept q f a b (r ∷ rs) is = elim (cases_Bool (q r.item)) [
  | inl e ↦ rw e (omega (arith, of_pair_cons f a b r (filter (λ (x : LotRow). q x.item) rs), of_pair_cons f a b r rs, of_pair_kept q f a b rs is))
  | inr e ↦ rw e (elim (cases_Bool (is_row a b r)) [
    | inl g ↦
        let same : r.item ≡ a = (bytes_eq-Decides r.item a).0 (and_parts (bytes_eq r.item a) (bytes_eq r.lot b) g).0 in
        let no : true ≡ false = sym is ∙ ap q (sym same) ∙ e in
        absurd (cc (no))
    | inr g ↦ omega (arith, of_pair_cons f a b r rs, part_no f a b r g, of_pair_kept q f a b rs is)
  ])
]

-- and of one whose item isn't
of_pair_gone : (q : List ℕ → Bool) (f : LotRow → ℕ) (a b : List ℕ) (rows : List LotRow) → q a ≡ false → of_pair f a b (filter (λ r. q r.item) rows) ≡ 0
of_pair_gone q f a b [] is = refl
of_pair_gone q f a b (r ∷ rs) is = elim (cases_Bool (q r.item)) [
  | inl e ↦ rw e (elim (cases_Bool (is_row a b r)) [
    | inl g ↦
        let same : r.item ≡ a = (bytes_eq-Decides r.item a).0 (and_parts (bytes_eq r.item a) (bytes_eq r.lot b) g).0 in
        let no : true ≡ false = sym e ∙ ap q same ∙ is in
        absurd (cc (no))
    | inr g ↦ omega (arith, of_pair_cons f a b r (filter (λ (x : LotRow). q x.item) rs), part_no f a b r g, of_pair_gone q f a b rs is)
  ])
  | inr e ↦ rw e (of_pair_gone q f a b rs is)
]

-- what is found among what is kept
found_kept : {X : Type 0} (p q : X → Bool) (xs : List X) → ((x : X) → p x ≡ true → q x ≡ true) → find p (filter q xs) ≡ find p xs
found_kept p q [] h = refl
found_kept p q (x ∷ xs) h = elim (cases_Bool (q x)) [
  | inl e ↦ rw e (elim (cases_Bool (p x)) [ inl f ↦ rw f refl | inr f ↦ rw f (found_kept p q xs h) ])
  | inr e ↦ rw e (elim (cases_Bool (p x)) [
    | inl f ↦ let no : true ≡ false = sym (h x f) ∙ e in absurd (cc (no))
    | inr f ↦ rw f (found_kept p q xs h)
  ])
]

pub part_sorted : (n : Named) (P : PageFacts) → AreSorted P → AreSorted (part_of n P)
part_sorted n P s = record {
  rows = filter_rises key_before pairs_strict row_key (λ r. n.items r.item) P.rows s.rows;
  advices = filter_rises comes_before texts_strict shipment_of (λ k. n.shipments k.shipment) P.advices s.advices;
  orders = filter_rises comes_before texts_strict number_of (λ k. n.orders k.number) P.orders s.orders;
  documents = filter_rises nat_lt numbers_strict entry_of (λ d. n.documents d.n) P.documents s.documents;
}

-- it is a part
pub part_is_part : (n : Named) (P : PageFacts) → AreSorted P → IsPart n (part_of n P) P
part_is_part n P s = record {
  in_order = part_sorted n P s;
  sorted = s;
  rows = λ f a b is. of_pair_kept n.items f a b P.rows is;
  advices = λ t is. found_kept (is_shipment t) (λ k. n.shipments k.shipment) P.advices (λ k e. ap n.shipments ((bytes_eq-Decides k.shipment t).0 e) ∙ is);
  orders = λ t is. found_kept (is_number t) (λ k. n.orders k.number) P.orders (λ k e. ap n.orders ((bytes_eq-Decides k.number t).0 e) ∙ is);
  documents = λ m is. found_kept (is_document m) (λ d. n.documents d.n) P.documents (λ d e. ap n.documents (eqb-true d.n m e) ∙ is);
  entries = refl;
  recent = refl;
}

-- Sums over what is kept.

sum_fewer : {X : Type 0} (f : X → ℕ) (q : X → Bool) (xs : List X) → sum_by f (filter q xs) ≤ sum_by f xs
sum_fewer f q [] = omega arith
sum_fewer f q (x ∷ xs) = elim (cases_Bool (q x)) [
  | inl e ↦ rw e (omega (arith, sum_by-cons f x (filter q xs), sum_by-cons f x xs, sum_fewer f q xs))
  | inr e ↦ rw e (omega (arith, sum_by-cons f x xs, sum_fewer f q xs))
]

none_of : (q : List ℕ → Bool) (lines : List Line) (a b : List ℕ) → list_all (λ l. q l.item) lines ≡ true → q a ≡ false → quantity_of lines a b ≡ 0
none_of q [] a b all is = refl
none_of q (l ∷ ls) a b all is =
    let h = and_parts (q l.item) (list_all (λ (l : Line). q l.item) ls) all in
    elim (cases_Bool (is_pair a b l)) [
      | inl e ↦
          let same : l.item ≡ a = (bytes_eq-Decides l.item a).0 (and_parts (bytes_eq l.item a) (bytes_eq l.lot b) e).0 in
          let no : true ≡ false = sym h.0 ∙ ap q same ∙ is in
          absurd (cc (no))
      | inr e ↦ quantity_no a b l ls e ∙ none_of q ls a b h.1 is
    ]

none_awaited : (n : Named) (ks : List PageAdvice) (a b : List ℕ) → list_all (λ k. are_items n k.lines) ks ≡ true → n.items a ≡ false → awaited ks a b ≡ 0
none_awaited n [] a b all is = refl
none_awaited n (k ∷ ks) a b all is =
    let h = and_parts (are_items n k.lines) (list_all (λ (k : PageAdvice). are_items n k.lines) ks) all in
    let mine : cond k.is_open (quantity_of k.lines a b) 0 ≡ 0 = elim (cases_Bool k.is_open) [ inl e ↦ rw e (none_of n.items k.lines a b h.0 is) | inr e ↦ rw e refl ] in
    omega (arith, mine, sum_by-cons (λ (k : PageAdvice). cond k.is_open (quantity_of k.lines a b) 0) k ks, none_awaited n ks a b h.1 is)

none_held : (n : Named) (ks : List PageOrder) (a b : List ℕ) → list_all (λ k. are_items n k.reserved) ks ≡ true → n.items a ≡ false → held ks a b ≡ 0
none_held n [] a b all is = refl
none_held n (k ∷ ks) a b all is =
    let h = and_parts (are_items n k.reserved) (list_all (λ (k : PageOrder). are_items n k.reserved) ks) all in
    let mine : cond k.is_open (quantity_of k.reserved a b) 0 ≡ 0 = elim (cases_Bool k.is_open) [ inl e ↦ rw e (none_of n.items k.reserved a b h.0 is) | inr e ↦ rw e refl ] in
    omega (arith, mine, sum_by-cons (λ (k : PageOrder). cond k.is_open (quantity_of k.reserved a b) 0) k ks, none_held n ks a b h.1 is)

-- and it is sound
pub part_sound : (n : Named) (P : PageFacts) → IsClosed n P → IsSound P → IsSound (part_of n P)
part_sound n P closed sound = record {
  sorted = sorted;
  distinct = sorted_distinct (filter (λ (r : LotRow). n.items r.item) P.rows) sorted.rows;
  expected = λ a b. elim (cases_Bool (n.items a)) [
    | inl e ↦ omega (arith, sound.expected a b, of_pair_kept n.items (amount Expected) a b P.rows e, sum_fewer (λ (k : PageAdvice). cond k.is_open (quantity_of k.lines a b) 0) (λ k. n.shipments k.shipment) P.advices)
    | inr e ↦ omega (arith, none_awaited n (filter (λ (k : PageAdvice). n.shipments k.shipment) P.advices) a b closed.advices e)
  ];
  reserved = λ a b. elim (cases_Bool (n.items a)) [
    | inl e ↦ omega (arith, sound.reserved a b, of_pair_kept n.items (amount Reservation) a b P.rows e, sum_fewer (λ (k : PageOrder). cond k.is_open (quantity_of k.reserved a b) 0) (λ k. n.orders k.number) P.orders)
    | inr e ↦ omega (arith, none_held n (filter (λ (k : PageOrder). n.orders k.number) P.orders) a b closed.orders e)
  ];
  in_lines = all_filter is_in_lines (λ (k : PageOrder). n.orders k.number) P.orders sound.in_lines;
  covered = λ a b. elim (cases_Bool (n.items a)) [
    | inl e ↦ omega (arith, sound.covered a b, of_pair_kept n.items (amount Reservation) a b P.rows e, of_pair_kept n.items (amount OnHand) a b P.rows e)
    | inr e ↦ omega (arith, of_pair_gone n.items (amount Reservation) a b P.rows e)
  ];
  bounded = λ c a b. elim (cases_Bool (n.items a)) [
    | inl e ↦ omega (arith, sound.bounded c a b, of_pair_kept n.items (amount c) a b P.rows e)
    | inr e ↦ omega (arith, of_pair_gone n.items (amount c) a b P.rows e)
  ];
  numbered = sound.numbered;
  few = sound.few;
  advices_once = advices_once (filter (λ (k : PageAdvice). n.shipments k.shipment) P.advices) sorted.advices;
  orders_once = orders_once (filter (λ (k : PageOrder). n.orders k.number) P.orders) sorted.orders;
  documents_once = documents_once (filter (λ (d : PageDocument). n.documents d.n) P.documents) sorted.documents;
}
  where
    sorted : AreSorted (part_of n P)
    sorted = part_sorted n P sound.sorted
