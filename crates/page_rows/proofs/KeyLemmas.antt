-- The keys of a page's lists, and what is told by them.
use Rattle.std.proofs.Common.{◌≡◌, ℕ, ◌+◌, ◌<◌, ◌≤◌, Bool, true, false, not, ◌&&◌, ◌||◌, cond, eqb, List, ◌⊎◌, length, get_or, set, refl, ap, sym, ◌∙◌, inl, inr, arith, Option, Some, None}
use Rattle.std.specs.List.Sorted.{IsPartitionedBy}
use Rattle.std.proofs.lemmas.Bool.{cases_Bool, cases_lt, or_cases, and_parts, ltb-true, ltb-false, lt-ltb, le-ltb, eqb-true, eq-eqb}
use Rattle.std.proofs.lemmas.List.{get_or_default}
use Rattle.std.proofs.lemmas.Slice.Eq.{bytes_eq-Decides}
use Rattle.std.specs.Prelude.{bytes_eq, find, nat_lt, count_by, sum_by}
use Rattle.std.specs.Option.{option_or}
use Rattle.std.specs.List.{insert, list_all}
use Rattle.definitions.specs.Bytes.{comes_before}
use Rattle.definitions.specs.Movements.{Column, Expected, OnHand, Reservation, Shipped}
use Rattle.definitions.specs.Rows.{LotRow}
use Rattle.definitions.specs.Page.{PageAdvice, PageOrder, PageDocument}
use Rattle.page_rows.specs.Keyed.{Pair, key_before, row_key, put_row, IsSorted, shipment_of, number_of, entry_of, rises_by, put_advice, put_order, put_document, IsRank}
use Rattle.page_rows.specs.Moved.{IsPlace}
use Rattle.page_rows.specs.Pages.{is_shipment, is_number, is_document, advice_at, order_at, document_at, IsAt, is_in_lines}
use Rattle.page_rows.specs.Steps.{sent_unless, with_sent, said_of_found, with_said}
use Rattle.page_rows.specs.OfPairs.{is_row, of_pair, one, raised, lowered, IsDistinct}
use Rattle.page_rows.proofs.Orders.{IsStrict}
use Rattle.page_rows.proofs.Texts.{texts_never, texts_through, texts_total}
use Rattle.page_rows.proofs.Keys.{IsTest, all_put, was, sum_found, count_once, find_put, put_rises, set_rises, sum_put, at_set, rank_insert, none_apart, rises_at}
use Rattle.page_rows.proofs.Finds.{put_new, find_at, element_at}

pub texts_strict : IsStrict comes_before
texts_strict = record { never = texts_never; through = texts_through; total = texts_total }

pub numbers_strict : IsStrict nat_lt
numbers_strict = record {
  never = λ x. le-ltb x x (omega arith);
  through = λ x y z h g. lt-ltb x z (omega (arith, ltb-true x y h, ltb-true y z g));
  total = λ x y h g. omega (arith, ltb-false x y h, ltb-false y x g);
}

key_says : (x y : Pair) → key_before x y ≡ true → (comes_before x.0 y.0 ≡ true) ⊎ ((x.0 ≡ y.0) × (comes_before x.1 y.1 ≡ true))
key_says x y h = elim (or_cases (comes_before x.0 y.0) (bytes_eq x.0 y.0 && comes_before x.1 y.1) h) [
  | inl a ↦ inl a
  | inr b ↦ let p = and_parts (bytes_eq x.0 y.0) (comes_before x.1 y.1) b in inr ((bytes_eq-Decides x.0 y.0).0 p.0, p.1)
]

key_item : (x y : Pair) → comes_before x.0 y.0 ≡ true → key_before x y ≡ true
key_item x y h = rw h refl

pub key_lot : (x y : Pair) → x.0 ≡ y.0 → key_before x y ≡ comes_before x.1 y.1
key_lot x y e = rw (ap (comes_before x.0) (sym e) ∙ texts_never x.0, (bytes_eq-Decides x.0 y.0).1 e) refl

pub key_apart : (x y : Pair) → bytes_eq x.0 y.0 ≡ false → key_before x y ≡ comes_before x.0 y.0
key_apart x y h = rw h (or_false (comes_before x.0 y.0))
  where
    or_false : (v : Bool) → (v || false) ≡ v
    or_false true = refl
    or_false false = refl

or_left : (p q : Bool) → (p || q) ≡ false → p ≡ false
or_left true q h = absurd (cc)
or_left false q h = refl

pub pairs_strict : IsStrict key_before
pairs_strict = record {
  never = λ x. key_lot x x refl ∙ texts_never x.1;
  through = λ x y z h g. elim (key_says x y h) [
    | inl a ↦ elim (key_says y z g) [
      | inl b ↦ key_item x z (texts_through x.0 y.0 z.0 a b)
      | inr b ↦ key_item x z (ap (comes_before x.0) (sym b.0) ∙ a)
    ]
    | inr a ↦ elim (key_says y z g) [
      | inl b ↦ key_item x z (ap (λ (w : List ℕ). comes_before w z.0) a.0 ∙ b)
      | inr b ↦ key_lot x z (a.0 ∙ b.0) ∙ texts_through x.1 y.1 z.1 a.1 b.1
    ]
  ];
  total = λ x y h g.
      let items : x.0 ≡ y.0 = texts_total x.0 y.0 (or_left (comes_before x.0 y.0) (bytes_eq x.0 y.0 && comes_before x.1 y.1) h) (or_left (comes_before y.0 x.0) (bytes_eq y.0 x.0 && comes_before y.1 x.1) g) in
      let lots : x.1 ≡ y.1 = texts_total x.1 y.1 (sym (key_lot x y items) ∙ h) (sym (key_lot y x (sym items)) ∙ g) in
      (λ i. (items i, lots i));
}

-- The tests for a key.

pub row_test : (a b : List ℕ) → IsTest row_key (a, b) (is_row a b)
row_test a b = record {
  says = λ x h. let p = and_parts (bytes_eq x.item a) (bytes_eq x.lot b) h in
      let item = (bytes_eq-Decides x.item a).0 p.0 in
      let lot = (bytes_eq-Decides x.lot b).0 p.1 in
      (λ i. (item i, lot i));
  said = λ x e. rw ((bytes_eq-Decides x.item a).1 (ap (λ (p : Pair). p.0) e), (bytes_eq-Decides x.lot b).1 (ap (λ (p : Pair). p.1) e)) refl;
}

pub shipment_test : (s : List ℕ) → IsTest shipment_of s (is_shipment s)
shipment_test s = record { says = λ x h. (bytes_eq-Decides x.shipment s).0 h; said = λ x e. (bytes_eq-Decides x.shipment s).1 e }

pub number_test : (s : List ℕ) → IsTest number_of s (is_number s)
number_test s = record { says = λ x h. (bytes_eq-Decides x.number s).0 h; said = λ x e. (bytes_eq-Decides x.number s).1 e }

pub document_test : (n : ℕ) → IsTest entry_of n (is_document n)
document_test n = record { says = λ x h. eqb-true x.n n h; said = λ x e. eq-eqb x.n n e }

-- Rows.

-- what sorted rows tell of a pair is what its row says
pub of_pair_found : (f : LotRow → ℕ) (a b : List ℕ) (rows : List LotRow) → IsSorted rows → of_pair f a b rows ≡ was f (find (is_row a b) rows)
of_pair_found f a b rows sorted = sum_found key_before pairs_strict row_key f (a, b) (is_row a b) (row_test a b) rows sorted

pub sorted_distinct : (rows : List LotRow) → IsSorted rows → IsDistinct rows
sorted_distinct rows sorted a b = count_once key_before pairs_strict row_key (a, b) (is_row a b) (row_test a b) rows sorted

pub put_sorted : (r : LotRow) (rows : List LotRow) → IsSorted rows → IsSorted (put_row r rows)
put_sorted r rows sorted = put_rises key_before pairs_strict row_key r rows sorted

-- and with one row more
pub of_pair_put : (f : LotRow → ℕ) (a b : List ℕ) (r : LotRow) (rows : List LotRow) → IsSorted rows → of_pair f a b (put_row r rows) ≡ cond (is_row a b r) (f r) (of_pair f a b rows)
of_pair_put f a b r rows sorted =
    of_pair_found f a b (put_row r rows) (put_sorted r rows sorted)
    ∙ ap (was f) (find_put key_before pairs_strict row_key (a, b) (is_row a b) (row_test a b) r rows)
    ∙ elim (cases_Bool (is_row a b r)) [
      | inl e ↦ rw e refl
      | inr e ↦ rw e (sym (of_pair_found f a b rows sorted))
    ]

-- a row in the place of one with its key
pub sorted_kept : (rows : List LotRow) (i : ℕ) (r y : LotRow) → IsSorted rows → i < length rows → r ≡ get_or rows i r → row_key y ≡ row_key r → IsSorted (set rows i y)
sorted_kept rows i r y sorted within is same =
    set_rises key_before pairs_strict row_key rows i y sorted within (ap row_key (get_or_default rows i y r within ∙ sym is) ∙ sym same)

pub key_raised : (k : Column) (n : ℕ) (r : LotRow) → row_key (raised k n r) ≡ row_key r
key_raised Expected n r = refl
key_raised OnHand n r = refl
key_raised Reservation n r = refl
key_raised Shipped n r = refl

pub key_lowered : (k : Column) (n : ℕ) (r : LotRow) → row_key (lowered k n r) ≡ row_key r
key_lowered Expected n r = refl
key_lowered OnHand n r = refl
key_lowered Reservation n r = refl
key_lowered Shipped n r = refl

-- Advices, orders and documents.

pub advices_once : (ks : List PageAdvice) → rises_by comes_before shipment_of ks ≡ true → (s : List ℕ) → count_by (is_shipment s) ks ≤ 1
advices_once ks sorted s = count_once comes_before texts_strict shipment_of s (is_shipment s) (shipment_test s) ks sorted

pub orders_once : (ks : List PageOrder) → rises_by comes_before number_of ks ≡ true → (s : List ℕ) → count_by (is_number s) ks ≤ 1
orders_once ks sorted s = count_once comes_before texts_strict number_of s (is_number s) (number_test s) ks sorted

pub documents_once : (ds : List PageDocument) → rises_by nat_lt entry_of ds ≡ true → (n : ℕ) → count_by (is_document n) ds ≤ 1
documents_once ds sorted n = count_once nat_lt numbers_strict entry_of n (is_document n) (document_test n) ds sorted

pub advice_put : (s : List ℕ) (k : PageAdvice) (ks : List PageAdvice) → advice_at s (put_advice k ks) ≡ cond (bytes_eq k.shipment s) (Some k) (advice_at s ks)
advice_put s k ks = find_put comes_before texts_strict shipment_of s (is_shipment s) (shipment_test s) k ks

pub order_put : (s : List ℕ) (k : PageOrder) (ks : List PageOrder) → order_at s (put_order k ks) ≡ cond (bytes_eq k.number s) (Some k) (order_at s ks)
order_put s k ks = find_put comes_before texts_strict number_of s (is_number s) (number_test s) k ks

pub document_put : (n : ℕ) (d : PageDocument) (ds : List PageDocument) → document_at n (put_document d ds) ≡ cond (eqb d.n n) (Some d) (document_at n ds)
document_put n d ds = find_put nat_lt numbers_strict entry_of n (is_document n) (document_test n) d ds

pub advice_put_new : (s : List ℕ) (k : PageAdvice) (ks : List PageAdvice) → advice_at k.shipment ks ≡ None
    → advice_at s (put_advice k ks) ≡ option_or (advice_at s ks) (cond (bytes_eq k.shipment s) (Some k) None)
advice_put_new s k ks unknown = advice_put s k ks
    ∙ put_new (bytes_eq k.shipment s) (advice_at s ks) k (λ e. ap (λ (t : List ℕ). advice_at t ks) (sym ((bytes_eq-Decides k.shipment s).0 e)) ∙ unknown)

pub order_put_new : (s : List ℕ) (k : PageOrder) (ks : List PageOrder) → order_at k.number ks ≡ None
    → order_at s (put_order k ks) ≡ option_or (order_at s ks) (cond (bytes_eq k.number s) (Some k) None)
order_put_new s k ks unknown = order_put s k ks
    ∙ put_new (bytes_eq k.number s) (order_at s ks) k (λ e. ap (λ (t : List ℕ). order_at t ks) (sym ((bytes_eq-Decides k.number s).0 e)) ∙ unknown)

pub document_put_new : (m : ℕ) (d : PageDocument) (ds : List PageDocument) → document_at d.n ds ≡ None
    → document_at m (put_document d ds) ≡ option_or (document_at m ds) (cond (eqb d.n m) (Some d) None)
document_put_new m d ds unknown = document_put m d ds
    ∙ put_new (eqb d.n m) (document_at m ds) d (λ e. ap (λ (n : ℕ). document_at n ds) (sym (eqb-true d.n m e)) ∙ unknown)

-- a sum over advices, or over orders, with one put
pub advice_sum : (f : PageAdvice → ℕ) (k : PageAdvice) (ks : List PageAdvice) → rises_by comes_before shipment_of ks ≡ true
    → sum_by f (put_advice k ks) + was f (advice_at k.shipment ks) ≡ sum_by f ks + f k
advice_sum f k ks sorted = sum_put comes_before texts_strict shipment_of f k (is_shipment k.shipment) (shipment_test k.shipment) ks sorted

pub order_sum : (f : PageOrder → ℕ) (k : PageOrder) (ks : List PageOrder) → rises_by comes_before number_of ks ≡ true
    → sum_by f (put_order k ks) + was f (order_at k.number ks) ≡ sum_by f ks + f k
order_sum f k ks sorted = sum_put comes_before texts_strict number_of f k (is_number k.number) (number_test k.number) ks sorted

pub advices_put_sorted : (k : PageAdvice) (ks new : List PageAdvice) → new ≡ put_advice k ks → rises_by comes_before shipment_of ks ≡ true → rises_by comes_before shipment_of new ≡ true
advices_put_sorted k ks new e sorted = ap (rises_by comes_before shipment_of) e ∙ put_rises comes_before texts_strict shipment_of k ks sorted

pub orders_put_in_lines : (k : PageOrder) (ks new : List PageOrder) → new ≡ put_order k ks → is_in_lines k ≡ true → list_all is_in_lines ks ≡ true → list_all is_in_lines new ≡ true
orders_put_in_lines k ks new e lies all = ap (list_all is_in_lines) e ∙ all_put comes_before texts_strict number_of is_in_lines k ks lies all

pub orders_put_sorted : (k : PageOrder) (ks new : List PageOrder) → new ≡ put_order k ks → rises_by comes_before number_of ks ≡ true → rises_by comes_before number_of new ≡ true
orders_put_sorted k ks new e sorted = ap (rises_by comes_before number_of) e ∙ put_rises comes_before texts_strict number_of k ks sorted

-- Documents that are sent and decided.

sent_rises : (o : Option PageDocument) (n : ℕ) (f : List ℕ) (ds : List PageDocument) → rises_by nat_lt entry_of ds ≡ true → rises_by nat_lt entry_of (sent_unless o n f ds) ≡ true
sent_rises (Some d) n f ds sorted = sorted
sent_rises None n f ds sorted = put_rises nat_lt numbers_strict entry_of (record { n = n; function = f; said = None }) ds sorted

pub sent_sorted : (n : ℕ) (f : List ℕ) (ds new : List PageDocument) → new ≡ with_sent n f ds → rises_by nat_lt entry_of ds ≡ true → rises_by nat_lt entry_of new ≡ true
sent_sorted n f ds new e sorted = ap (rises_by nat_lt entry_of) e ∙ sent_rises (document_at n ds) n f ds sorted

said_rises : (o : Option PageDocument) (v : Bool) (ds : List PageDocument) → rises_by nat_lt entry_of ds ≡ true → rises_by nat_lt entry_of (said_of_found o v ds) ≡ true
said_rises (Some d) v ds sorted = put_rises nat_lt numbers_strict entry_of (record d { said = Some v }) ds sorted
said_rises None v ds sorted = sorted

pub said_sorted : (n : ℕ) (v : Bool) (ds : List PageDocument) → rises_by nat_lt entry_of ds ≡ true → rises_by nat_lt entry_of (with_said n v ds) ≡ true
said_sorted n v ds sorted = said_rises (document_at n ds) v ds sorted

-- what is found where a document is sent
pub sent_found : (n m : ℕ) (f : List ℕ) (ds : List PageDocument)
    → document_at m (with_sent n f ds) ≡ option_or (document_at m ds) (cond (eqb n m) (Some (record { n = n; function = f; said = None })) None)
sent_found n m f ds = by (document_at n ds) refl
  where
    d : PageDocument
    d = record { n = n; function = f; said = None }

    left : (o : Option PageDocument) (x : PageDocument) (y : Option PageDocument) → o ≡ Some x → o ≡ option_or o y
    left (Some z) x y h = refl
    left None x y h = absurd (cc)

    kept : (o : Option PageDocument) → o ≡ option_or o None
    kept (Some z) = refl
    kept None = refl

    old : (x : PageDocument) (v : Bool) → document_at n ds ≡ Some x → eqb n m ≡ v → document_at m ds ≡ option_or (document_at m ds) (cond v (Some d) None)
    old x true h e = left (document_at m ds) x (Some d) (ap (λ (k : ℕ). document_at k ds) (sym (eqb-true n m e)) ∙ h)
    old x false h e = kept (document_at m ds)

    by : (o : Option PageDocument) → document_at n ds ≡ o → document_at m (sent_unless o n f ds) ≡ option_or (document_at m ds) (cond (eqb n m) (Some d) None)
    by (Some x) h = old x (eqb n m) h refl
    by None h = document_put_new m d ds h

-- What is put at a place.

pub documents_put_sorted : (d : PageDocument) (ds new : List PageDocument) → new ≡ put_document d ds → rises_by nat_lt entry_of ds ≡ true → rises_by nat_lt entry_of new ≡ true
documents_put_sorted d ds new e sorted = ap (rises_by nat_lt entry_of) e ∙ put_rises nat_lt numbers_strict entry_of d ds sorted

pub row_set : (r : LotRow) (rows : List LotRow) (i : ℕ) → IsSorted rows → IsPlace r.item r.lot rows i → set rows i r ≡ put_row r rows
row_set r rows i sorted at = at_set key_before pairs_strict row_key rows i r sorted at.within ((row_test r.item r.lot).says (get_or rows i r) (at.here r))

pub found_none : (a b : List ℕ) (rows : List LotRow) → IsSorted rows → of_pair one a b rows ≡ 0 → find (is_row a b) rows ≡ None
found_none a b rows sorted none = by (find (is_row a b) rows) (sym (of_pair_found one a b rows sorted) ∙ none)
  where
    by : (o : Option LotRow) → was one o ≡ 0 → o ≡ None
    by None h = refl
    by (Some r) h = absurd (omega arith)

pub row_insert : (r : LotRow) (rows : List LotRow) (i : ℕ) → IsSorted rows → IsRank key_before row_key rows (r.item, r.lot) i → of_pair one r.item r.lot rows ≡ 0 → insert rows i r ≡ put_row r rows
row_insert r rows i sorted rank none = rank_insert key_before pairs_strict row_key rows i r rank
    (λ d within e. none_apart key_before pairs_strict row_key (r.item, r.lot) (is_row r.item r.lot) (row_test r.item r.lot) rows i d (found_none r.item r.lot rows sorted none) within e)

pub sent_there : (n i : ℕ) (f : List ℕ) (ds : List PageDocument) → IsAt (is_document n) ds i → ds ≡ with_sent n f ds
sent_there n i f ds at =
    let x = element_at (is_document n) ds i at in
    ap (λ (o : Option PageDocument). sent_unless o n f ds) (sym (find_at (is_document n) ds i x.0 at x.1))

pub sent_insert : (n i : ℕ) (f : List ℕ) (ds : List PageDocument) → IsRank nat_lt entry_of ds n i → document_at n ds ≡ None
    → insert ds i (record { n = n; function = f; said = None }) ≡ with_sent n f ds
sent_insert n i f ds rank none =
    rank_insert nat_lt numbers_strict entry_of ds i (record { n = n; function = f; said = None }) rank
    (λ d within e. none_apart nat_lt numbers_strict entry_of n (is_document n) (document_test n) ds i d none within e)
    ∙ ap (λ (o : Option PageDocument). sent_unless o n f ds) (sym none)

pub said_set : (n i : ℕ) (v : Bool) (d : PageDocument) (ds : List PageDocument) → rises_by nat_lt entry_of ds ≡ true → IsAt (is_document n) ds i → d ≡ get_or ds i d
    → set ds i (record d { said = Some v }) ≡ with_said n v ds
said_set n i v d ds sorted at is =
    let y : PageDocument = record d { said = Some v } in
    let key : entry_of (get_or ds i y) ≡ entry_of y = ap entry_of (get_or_default ds i y d at.within ∙ sym is) in
    at_set nat_lt numbers_strict entry_of ds i y sorted at.within key
    ∙ ap (λ (o : Option PageDocument). said_of_found o v ds) (sym (find_at (is_document n) ds i d at is))

pub not_true : (v : Bool) → not v ≡ true → v ≡ false
not_true true h = absurd (cc)
not_true false h = refl

pub not_false : (v : Bool) → not v ≡ false → v ≡ true
not_false true h = refl
not_false false h = absurd (cc)

-- What has the keys of an item stands together.

module _ {X : Type 0} (key : X → Pair) where
  items_rise : (xs : List X) (i j : ℕ) (d : X) → rises_by key_before key xs ≡ true → i < j → j < length xs
      → (comes_before (key (get_or xs i d)).0 (key (get_or xs j d)).0 ≡ true) ⊎ ((key (get_or xs i d)).0 ≡ (key (get_or xs j d)).0)
  items_rise xs i j d sorted lt within = elim (key_says (key (get_or xs i d)) (key (get_or xs j d)) (rises_at key_before pairs_strict key xs i j d sorted lt within)) [
    | inl a ↦ inl a
    | inr b ↦ inr b.0
  ]

  pub before_parted : (xs : List X) (item : List ℕ) → rises_by key_before key xs ≡ true → IsPartitionedBy (λ x. comes_before (key x).0 item) xs
  before_parted xs item sorted i j d le within here = elim (cases_lt i j) [
    | inl lt ↦ elim (items_rise xs i j d sorted lt within) [
      | inl a ↦ texts_through (key (get_or xs i d)).0 (key (get_or xs j d)).0 item a here
      | inr e ↦ ap (λ (t : List ℕ). comes_before t item) e ∙ here
    ]
    | inr ge ↦ let e : i ≡ j = omega arith in ap (λ (n : ℕ). comes_before (key (get_or xs n d)).0 item) e ∙ here
  ]

  pub later_parted : (xs : List X) (item : List ℕ) → rises_by key_before key xs ≡ true → IsPartitionedBy (λ x. not (comes_before item (key x).0)) xs
  later_parted xs item sorted i j d le within here = elim (cases_lt i j) [
    | inl lt ↦ elim (cases_Bool (comes_before item (key (get_or xs i d)).0)) [
      | inl f ↦
          let later : comes_before item (key (get_or xs j d)).0 ≡ true = elim (items_rise xs i j d sorted lt within) [
            | inl a ↦ texts_through item (key (get_or xs i d)).0 (key (get_or xs j d)).0 f a
            | inr e ↦ ap (comes_before item) (sym e) ∙ f
          ] in
          let g : true ≡ false = sym later ∙ not_true (comes_before item (key (get_or xs j d)).0) here in
          absurd (cc)
      | inr f ↦ rw f refl
    ]
    | inr ge ↦ let e : i ≡ j = omega arith in ap (λ (n : ℕ). not (comes_before item (key (get_or xs n d)).0)) e ∙ here
  ]
