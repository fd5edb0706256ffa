-- How a part of a page grows: what is found under one more key is put into it.
use Rattle.std.proofs.Common.{◌≡◌, ℕ, Bool, true, false, ◌||◌, ◌==◌, eqb, List, [], ◌∷◌, refl, ap, sym, ◌∙◌, inl, inr, Some, None}
use Rattle.std.proofs.lemmas.Bool.{cases_Bool, both_ways, and_parts, eqb-true, eq-eqb}
use Rattle.std.proofs.lemmas.Slice.Eq.{bytes_eq-Decides}
use Rattle.std.specs.Prelude.{filter, find, fold, bytes_eq, nat_lt}
use Rattle.std.specs.List.{list_all}
use Rattle.definitions.specs.Bytes.{comes_before}
use Rattle.definitions.specs.Page.{PageAdvice, PageOrder, PageDocument}
use Rattle.definitions.specs.Rows.{LotRow}
use Rattle.page_rows.specs.Keyed.{put_by, rises_by, key_before, row_key, put_row, shipment_of, put_advice, number_of, put_order, entry_of, put_document}
use Rattle.page_rows.specs.Pages.{PageFacts, AreSorted, is_shipment, advice_at, is_number, order_at, is_document, document_at}
use Rattle.stock.specs.Parts.{Named, part_of}
use Rattle.stock.specs.Puts.{nothing_yet}
use Rattle.page_rows.proofs.Orders.{IsStrict}
use Rattle.page_rows.proofs.Keys.{IsTest, all_filter, put_front, find_above}
use Rattle.page_rows.proofs.KeyLemmas.{texts_strict, pairs_strict, numbers_strict, shipment_test, number_test, document_test}

-- What is kept of a list.

kept_none : {X : Type 0} (xs : List X) → filter (λ x. false) xs ≡ []
kept_none [] = refl
kept_none (x ∷ xs) = kept_none xs

kept_same : {X : Type 0} (p q : X → Bool) → ((x : X) → p x ≡ q x) → (xs : List X) → filter p xs ≡ filter q xs
kept_same p q same xs = λ i. filter (λ x. same x i) xs

not_found : {X : Type 0} (is : X → Bool) (xs : List X) → find is xs ≡ None → filter is xs ≡ []
not_found is [] none = refl
not_found is (x ∷ xs) none = elim (cases_Bool (is x)) [
  | inl e ↦ let no : Some x ≡ None = rw e at none in absurd (cc (no))
  | inr e ↦ rw e (not_found is xs (rw e at none))
]

-- where none passes a test, as much is kept with it as without
none_more : {X : Type 0} (p is : X → Bool) (xs : List X) → find is xs ≡ None → filter p xs ≡ filter (λ x. p x || is x) xs
none_more p is [] none = refl
none_more p is (x ∷ xs) none = elim (cases_Bool (is x)) [
  | inl e ↦ let no : Some x ≡ None = rw e at none in absurd (cc (no))
  | inr e ↦ elim (cases_Bool (p x)) [
    | inl f ↦ rw (e, f) (ap (λ ys. x ∷ ys) (none_more p is xs (rw e at none)))
    | inr f ↦ rw (e, f) (none_more p is xs (rw e at none))
  ]
]

module _ {X K : Type 0} (less : K → K → Bool) (strict : IsStrict less) (key : X → K) where
  put_later : (x z : X) (ys : List X) → less (key x) (key z) ≡ true → put_by less key z (x ∷ ys) ≡ x ∷ put_by less key z ys
  put_later x z ys before = elim (cases_Bool (less (key z) (key x))) [
    | inl f ↦ absurd (both_ways (less (key x) (key x)) (strict.never (key x)) (strict.through (key x) (key z) (key x) before f))
    | inr f ↦ rw (f, before) refl
  ]

  put_same : (x : X) (ys : List X) → put_by less key x (x ∷ ys) ≡ x ∷ ys
  put_same x ys = rw (strict.never (key x)) refl

  -- the first stays first where all that are put come after it
  puts_after : (x : X) (ys zs : List X) → list_all (λ z. less (key x) (key z)) zs ≡ true
      → fold (λ (ws : List X) (z : X). put_by less key z ws) (x ∷ ys) zs ≡ x ∷ fold (λ (ws : List X) (z : X). put_by less key z ws) ys zs
  puts_after x ys [] all = refl
  puts_after x ys (z ∷ zs) all =
      let a = and_parts (less (key x) (key z)) (list_all (λ z. less (key x) (key z)) zs) all in
      ap (λ (us : List X). fold (λ (ws : List X) (z : X). put_by less key z ws) us zs) (put_later x z ys a.0)
      ∙ puts_after x (put_by less key z ys) zs a.1

  -- what passes one test, put into what passes another
  pub puts_kept : (p q : X → Bool) (xs : List X) → rises_by less key xs ≡ true
      → fold (λ (ws : List X) (z : X). put_by less key z ws) (filter p xs) (filter q xs) ≡ filter (λ x. p x || q x) xs
  puts_kept p q [] h = refl
  puts_kept p q (x ∷ xs) h =
      let a = and_parts (list_all (λ z. less (key x) (key z)) xs) (rises_by less key xs) h in
      let after = puts_after x (filter p xs) (filter q xs) (all_filter (λ z. less (key x) (key z)) q xs a.0)
      ∙ ap (λ (ys : List X). x ∷ ys) (puts_kept p q xs a.1) in
      let into : List X → List X = λ us. fold (λ (ws : List X) (z : X). put_by less key z ws) us (filter q xs) in
      let front = put_front less strict key x (filter p xs) (all_filter (λ z. less (key x) (key z)) p xs a.0) in
      elim (cases_Bool (p x)) [
        | inl e ↦ elim (cases_Bool (q x)) [
          | inl f ↦ rw (e, f) (ap into (put_same x (filter p xs)) ∙ after)
          | inr f ↦ rw (e, f) after
        ]
        | inr e ↦ elim (cases_Bool (q x)) [
          | inl f ↦ rw (e, f) (ap into front ∙ after)
          | inr f ↦ rw (e, f) (puts_kept p q xs a.1)
        ]
      ]

  -- what is found under a key is all that has it
  found_alone : (k : K) (is : X → Bool) → IsTest key k is → (xs : List X) (z : X) → rises_by less key xs ≡ true → find is xs ≡ Some z
      → filter is xs ≡ z ∷ []
  found_alone k is test [] z h found = absurd (cc (found))
  found_alone k is test (x ∷ xs) z h found =
      let a = and_parts (list_all (λ z. less (key x) (key z)) xs) (rises_by less key xs) h in
      elim (cases_Bool (is x)) [
        | inl e ↦
            let same : Some x ≡ Some z = rw e at found in
            let is_it : x ≡ z = cc (same) in
            let above : list_all (λ y. less k (key y)) xs ≡ true = ap (λ (j : K). list_all (λ y. less j (key y)) xs) (sym (test.says x e)) ∙ a.0 in
            let rest = not_found is xs (find_above less strict key k is test xs above) in
            rw e (ap (λ (ys : List X). x ∷ ys) rest ∙ ap (λ (y : X). y ∷ []) is_it)
        | inr e ↦ rw e (found_alone k is test xs z a.1 (rw e at found))
      ]

  -- one more key: what is found under it is put in
  pub one_more_kept : (p : X → Bool) (k : K) (is : X → Bool) → IsTest key k is → (xs : List X) (z : X) → rises_by less key xs ≡ true
      → find is xs ≡ Some z → put_by less key z (filter p xs) ≡ filter (λ x. p x || is x) xs
  one_more_kept p k is test xs z h found =
      ap (λ (zs : List X). fold (λ (ws : List X) (y : X). put_by less key y ws) (filter p xs) zs) (sym (found_alone k is test xs z h found))
      ∙ puts_kept p is xs h

-- A part that names nothing.

abbrev pub none_named : Named
none_named = record { items = λ item. false; shipments = λ s. false; orders = λ s. false; documents = λ n. false }

pub nothing_part : (P : PageFacts) → part_of none_named P ≡ record (nothing_yet P.entries) { recent = P.recent }
nothing_part P = λ i. record P {
  rows = kept_none P.rows i;
  advices = kept_none P.advices i;
  orders = kept_none P.orders i;
  documents = kept_none P.documents i;
}

-- Equality tests either way round.

bytes_turned : (s t : List ℕ) → bytes_eq s t ≡ bytes_eq t s
bytes_turned s t = elim (cases_Bool (bytes_eq s t)) [
  | inl e ↦ e ∙ sym ((bytes_eq-Decides t s).1 (sym ((bytes_eq-Decides s t).0 e)))
  | inr e ↦ elim (cases_Bool (bytes_eq t s)) [
    | inl f ↦ let g : bytes_eq s t ≡ true = (bytes_eq-Decides s t).1 (sym ((bytes_eq-Decides t s).0 f)) in absurd (cc (e, g))
    | inr f ↦ e ∙ sym f
  ]
]

number_turned : (m n : ℕ) → eqb m n ≡ eqb n m
number_turned m n = elim (cases_Bool (eqb m n)) [
  | inl e ↦ e ∙ sym (eq-eqb n m (sym (eqb-true m n e)))
  | inr e ↦ elim (cases_Bool (eqb n m)) [
    | inl f ↦ let g : eqb m n ≡ true = eq-eqb m n (sym (eqb-true n m f)) in absurd (cc (e, g))
    | inr f ↦ e ∙ sym f
  ]
]

-- One more advice.

advice_tested : (n : Named) (s : List ℕ) (ks : List PageAdvice)
    → filter (λ k. n.shipments k.shipment || is_shipment s k) ks ≡ filter (λ k. n.shipments k.shipment || bytes_eq s k.shipment) ks
advice_tested n s ks = kept_same (λ k. n.shipments k.shipment || is_shipment s k) (λ k. n.shipments k.shipment || bytes_eq s k.shipment)
    (λ k. ap (λ v. n.shipments k.shipment || v) (bytes_turned k.shipment s)) ks

pub advice_part : (n : Named) (P : PageFacts) → AreSorted P → (s : List ℕ) (k : PageAdvice) → advice_at s P.advices ≡ Some k
    → record (part_of n P) { advices = put_advice k (part_of n P).advices }
    ≡ part_of (record n { shipments = λ t. n.shipments t || bytes_eq s t }) P
advice_part n P sorted s k found =
    let grown = one_more_kept comes_before texts_strict shipment_of (λ k. n.shipments k.shipment) s (is_shipment s) (shipment_test s)
    P.advices k sorted.advices found ∙ advice_tested n s P.advices in
    ap (λ (ks : List PageAdvice). record (part_of n P) { advices = ks }) grown

pub advice_absent : (n : Named) (P : PageFacts) (s : List ℕ) → advice_at s P.advices ≡ None
    → part_of n P ≡ part_of (record n { shipments = λ t. n.shipments t || bytes_eq s t }) P
advice_absent n P s none =
    ap (λ (ks : List PageAdvice). record (part_of n P) { advices = ks })
    (none_more (λ k. n.shipments k.shipment) (is_shipment s) P.advices none ∙ advice_tested n s P.advices)

-- One more order.

order_tested : (n : Named) (s : List ℕ) (ks : List PageOrder)
    → filter (λ k. n.orders k.number || is_number s k) ks ≡ filter (λ k. n.orders k.number || bytes_eq s k.number) ks
order_tested n s ks = kept_same (λ k. n.orders k.number || is_number s k) (λ k. n.orders k.number || bytes_eq s k.number)
    (λ k. ap (λ v. n.orders k.number || v) (bytes_turned k.number s)) ks

pub order_part : (n : Named) (P : PageFacts) → AreSorted P → (s : List ℕ) (k : PageOrder) → order_at s P.orders ≡ Some k
    → record (part_of n P) { orders = put_order k (part_of n P).orders }
    ≡ part_of (record n { orders = λ t. n.orders t || bytes_eq s t }) P
order_part n P sorted s k found =
    let grown = one_more_kept comes_before texts_strict number_of (λ k. n.orders k.number) s (is_number s) (number_test s)
    P.orders k sorted.orders found ∙ order_tested n s P.orders in
    ap (λ (ks : List PageOrder). record (part_of n P) { orders = ks }) grown

pub order_absent : (n : Named) (P : PageFacts) (s : List ℕ) → order_at s P.orders ≡ None
    → part_of n P ≡ part_of (record n { orders = λ t. n.orders t || bytes_eq s t }) P
order_absent n P s none =
    ap (λ (ks : List PageOrder). record (part_of n P) { orders = ks })
    (none_more (λ k. n.orders k.number) (is_number s) P.orders none ∙ order_tested n s P.orders)

-- One more document.

document_tested : (n : Named) (m : ℕ) (ds : List PageDocument)
    → filter (λ d. n.documents d.n || is_document m d) ds ≡ filter (λ d. n.documents d.n || eqb m d.n) ds
document_tested n m ds = kept_same (λ d. n.documents d.n || is_document m d) (λ d. n.documents d.n || eqb m d.n)
    (λ d. ap (λ v. n.documents d.n || v) (number_turned d.n m)) ds

pub document_part : (n : Named) (P : PageFacts) → AreSorted P → (m : ℕ) (d : PageDocument) → document_at m P.documents ≡ Some d
    → record (part_of n P) { documents = put_document d (part_of n P).documents }
    ≡ part_of (record n { documents = λ j. n.documents j || (m == j) }) P
document_part n P sorted m d found =
    let grown = one_more_kept nat_lt numbers_strict entry_of (λ d. n.documents d.n) m (is_document m) (document_test m)
    P.documents d sorted.documents found ∙ document_tested n m P.documents in
    ap (λ (ds : List PageDocument). record (part_of n P) { documents = ds }) grown

pub document_absent : (n : Named) (P : PageFacts) (m : ℕ) → document_at m P.documents ≡ None
    → part_of n P ≡ part_of (record n { documents = λ j. n.documents j || (m == j) }) P
document_absent n P m none =
    ap (λ (ds : List PageDocument). record (part_of n P) { documents = ds })
    (none_more (λ d. n.documents d.n) (is_document m) P.documents none ∙ document_tested n m P.documents)

-- The lots of one more item.

row_tested : (n : Named) (item : List ℕ) (rows : List LotRow)
    → filter (λ r. n.items r.item || bytes_eq r.item item) rows ≡ filter (λ r. n.items r.item || bytes_eq item r.item) rows
row_tested n item rows = kept_same (λ r. n.items r.item || bytes_eq r.item item) (λ r. n.items r.item || bytes_eq item r.item)
    (λ r. ap (λ v. n.items r.item || v) (bytes_turned r.item item)) rows

pub lots_part : (n : Named) (P : PageFacts) → AreSorted P → (item : List ℕ)
    → record (part_of n P) {
      rows = fold (λ (ws : List LotRow) (r : LotRow). put_row r ws) (part_of n P).rows (filter (λ r. bytes_eq r.item item) P.rows);
    }
    ≡ part_of (record n { items = λ t. n.items t || bytes_eq item t }) P
lots_part n P sorted item =
    let grown = puts_kept key_before pairs_strict row_key (λ r. n.items r.item) (λ r. bytes_eq r.item item) P.rows sorted.rows
    ∙ row_tested n item P.rows in
    ap (λ (rows : List LotRow). record (part_of n P) { rows = rows }) grown
