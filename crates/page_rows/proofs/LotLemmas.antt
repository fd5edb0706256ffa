-- The lots that rows name.
use Rattle.std.proofs.Common.{◌≡◌, ℕ, zero, suc, ◌+◌, ◌<◌, ◌≤◌, Bool, true, false, ◌&&◌, cond, ltb, List, [], ◌∷◌, ◌++◌, ◌⊎◌, refl, ap, sym, ◌∙◌, subst, inl, inr, arith, length, get_or, take, map, Option, Some}
use Rattle.std.proofs.lemmas.Bool.{cases_Bool, both_ways, and_parts, ltb-true, lt-ltb}
use Rattle.std.proofs.lemmas.List.{take_more, map-append, append-nil}
use Rattle.std.proofs.lemmas.List.Elements.{filter-append}
use Rattle.std.proofs.lemmas.Slice.Eq.{bytes_eq-Decides}
use Rattle.std.specs.List.Sorted.{IsPermutation, IsSortedBy}
use Rattle.std.specs.Prelude.{bytes_eq, count_by, filter, find, option_and_then}
use Rattle.std.proofs.lemmas.List.Sorted.{IsPermutation-sym, sum_by-IsPermutation}
use Rattle.std.proofs.lemmas.List.Sums.{sum_by-cons}
use Rattle.definitions.specs.declared.rules.Rules.{Rules}
use Rattle.definitions.specs.Lists.{in_order}
use Rattle.definitions.specs.Rows.{LotRow}
use Rattle.definitions.specs.Allotment.{Ranked, ranks_before}
use Rattle.page_rows.specs.Lots.{is_lot_of, rank_of, ranks_of}
use Rattle.definitions.specs.Bytes.{comes_before}
use Rattle.page_rows.proofs.Orders.{Has, AreTotal, Rises, has_in_order, in_order_has, in_order_rises, in_order_same, rising_same}
use Rattle.page_rows.proofs.Sorted.{Settles, has_moved, settled}
use Rattle.page_rows.proofs.Texts.{texts_never}
use Rattle.page_rows.proofs.Ranks.{ranks_one, ranks_order, ranks_weak}
use Rattle.page_rows.specs.OfPairs.{is_row, of_pair, date_of_pair, one, since as first_count, IsDistinct}
use Rattle.page_rows.proofs.Dates.{dates_same}
use Rattle.page_rows.proofs.OfPairLemmas.{of_pair_cons, of_pair_absent, part_yes, part_no, row_is}

pub ranks_more : (item : List ℕ) (rows : List LotRow) (i : ℕ) (r : LotRow) → i < length rows → r ≡ get_or rows i r
    → ranks_of item (take (i + 1) rows) ≡ ranks_of item (take i rows) ++ map rank_of (cond (is_lot_of item r) (r ∷ []) [])
ranks_more item rows i r within is =
    ap (ranks_of item) (take_more rows i r within ∙ ap (λ (x : LotRow). take i rows ++ x ∷ []) (sym is))
    ∙ ap (map rank_of) (filter-append (is_lot_of item) (take i rows) (r ∷ []))
    ∙ map-append rank_of (filter (is_lot_of item) (take i rows)) (filter (is_lot_of item) (r ∷ []))

pub has_map : {X Y : Type 0} (f : X → Y) (x : X) (xs : List X) → Has x xs → Has (f x) (map f xs)
has_map f x [] h = h
has_map f x (y ∷ ys) h = elim h [ inl a ↦ inl (ap f a) | inr b ↦ inr (has_map f x ys b) ]

pub map_has : {X Y : Type 0} (f : X → Y) (z : Y) (xs : List X) → Has z (map f xs) → (x : X) × Has x xs × (z ≡ f x)
map_has f z [] h = absurd h
map_has f z (y ∷ ys) h = elim h [ inl a ↦ (y, inl refl, a) | inr b ↦ let m = map_has f z ys b in (m.0, inr m.1, m.2) ]

pub has_filter : {X : Type 0} (p : X → Bool) (x : X) (xs : List X) → Has x xs → p x ≡ true → Has x (filter p xs)
has_filter p x [] h e = h
has_filter {X} p x (y ∷ ys) h e = elim (cases_Bool (p y)) [
  | inl f ↦ rw f (elim h [ inl a ↦ inl a | inr b ↦ inr (has_filter p x ys b e) ])
  | inr f ↦ rw f (elim h [ inl a ↦ absurd (both_ways (p y) f (subst (λ (w : X). p w ≡ true) a e)) | inr b ↦ has_filter p x ys b e ])
]

pub filter_has : {X : Type 0} (p : X → Bool) (x : X) (xs : List X) → Has x (filter p xs) → Has x xs × (p x ≡ true)
filter_has p x [] h = absurd h
filter_has {X} p x (y ∷ ys) h = elim (cases_Bool (p y)) [
  | inl f ↦ let g : (x ≡ y) ⊎ Has x (filter p ys) = rw f at h in
      elim g [ inl a ↦ (inl a, subst (λ (w : X). p w ≡ true) (sym a) f) | inr b ↦ let m = filter_has p x ys b in (inr m.0, m.1) ]
  | inr f ↦ let g : Has x (filter p ys) = rw f at h in let m = filter_has p x ys g in (inr m.0, m.1)
]

-- a row that is there is told of
pub of_pair_some : (a b : List ℕ) (rows : List LotRow) (r : LotRow) → Has r rows → is_row a b r ≡ true → of_pair one a b rows ≡ 0 → ⊥
of_pair_some a b [] r h e none = h
of_pair_some a b (x ∷ xs) r h e none = elim h [
  | inl same ↦ let here : is_row a b x ≡ true = ap (is_row a b) (sym same) ∙ e in absurd (omega (arith, of_pair_cons one a b x xs, part_yes one a b x here))
  | inr later ↦ of_pair_some a b xs r later e (omega (arith, of_pair_cons one a b x xs))
]

-- a row that is there is what is told of its pair
pub of_pair_has : (f : LotRow → ℕ) (a b : List ℕ) (rows : List LotRow) (r : LotRow) → Has r rows → is_row a b r ≡ true → of_pair one a b rows ≤ 1 → of_pair f a b rows ≡ f r
of_pair_has f a b [] r h e few = absurd h
of_pair_has f a b (x ∷ xs) r h e few = elim h [
  | inl same ↦ let here : is_row a b x ≡ true = ap (is_row a b) (sym same) ∙ e in
      let none : of_pair one a b xs ≡ 0 = omega (arith, of_pair_cons one a b x xs, part_yes one a b x here) in
      omega (arith, of_pair_cons f a b x xs, part_yes f a b x here, of_pair_absent f a b xs none, ap f same)
  | inr later ↦ elim (cases_Bool (is_row a b x)) [
    | inl here ↦
        let none : of_pair one a b xs ≡ 0 = omega (arith, of_pair_cons one a b x xs, part_yes one a b x here) in
        absurd (of_pair_some a b xs r later e none)
    | inr other ↦ omega (
      arith,
      of_pair_cons f a b x xs,
      part_no f a b x other,
      of_pair_has f a b xs r later e (omega (arith, of_pair_cons one a b x xs, part_no one a b x other)),
    )
  ]
]

-- the date of a row is what is told of its pair
pub date_has : (a b : List ℕ) (rows : List LotRow) (r : LotRow) → Has r rows → is_row a b r ≡ true → of_pair one a b rows ≤ 1 → date_of_pair a b rows ≡ r.expiry
date_has a b [] r h e few = absurd h
date_has a b (x ∷ xs) r h e few = elim h [
  | inl same ↦ ap date_if (ap (is_row a b) (sym same) ∙ e) ∙ ap (λ (y : LotRow). y.expiry) (sym same)
  | inr later ↦ elim (cases_Bool (is_row a b x)) [
    | inl here ↦
        let none : of_pair one a b xs ≡ 0 = omega (arith, of_pair_cons one a b x xs, part_yes one a b x here) in
        absurd (of_pair_some a b xs r later e none)
    | inr other ↦ ap date_if other ∙ date_has a b xs r later e (omega (arith, of_pair_cons one a b x xs, part_no one a b x other))
  ]
]
  where
    date_if : Bool → Option (List ℕ)
    date_if v = option_and_then (λ (y : LotRow). y.expiry) (cond v (Some x) (find (is_row a b) xs))

-- a page has each lot of an item once
pub ranks_once : (r : Rules) (item : List ℕ) (rows : List LotRow) → IsDistinct rows → AreTotal (ranks_before r) (ranks_of item rows)
ranks_once r item rows distinct = ranks_one r (λ lot. date_of_pair item lot rows) (ranks_of item rows) (λ x h.
    let m = map_has rank_of x (filter (is_lot_of item) rows) h in
    let g = filter_has (is_lot_of item) m.0 rows m.1 in
    let q = and_parts (bytes_eq m.0.item item) (ltb 0 m.0.since) g.1 in
    let here : is_row item m.0.lot m.0 ≡ true = rw (q.0, (bytes_eq-Decides m.0.lot m.0.lot).1 refl) refl in
    ap (λ (k : Ranked). k.expiry) m.2 ∙ sym (date_has item m.0.lot rows m.0 g.0 here (distinct item m.0.lot))
    ∙ ap (λ (k : Ranked). date_of_pair item k.lot rows) (sym m.2))

pub lots_step_yes : (item : List ℕ) (rows : List LotRow) (i : ℕ) (x : LotRow) (before after : List Ranked) → i < length rows → x ≡ get_or rows i x
    → before ≡ ranks_of item (take i rows) → is_lot_of item x ≡ true → after ≡ before ++ rank_of x ∷ [] → after ≡ ranks_of item (take (i + 1) rows)
lots_step_yes item rows i x before after within is inv holds made =
    made ∙ ap (λ (ks : List Ranked). ks ++ rank_of x ∷ []) inv
    ∙ ap (λ (v : Bool). ranks_of item (take i rows) ++ map rank_of (cond v (x ∷ []) [])) (sym holds) ∙ sym (ranks_more item rows i x within is)

pub lots_step_no : (item : List ℕ) (rows : List LotRow) (i : ℕ) (x : LotRow) (before : List Ranked) → i < length rows → x ≡ get_or rows i x
    → before ≡ ranks_of item (take i rows) → is_lot_of item x ≡ false → before ≡ ranks_of item (take (i + 1) rows)
lots_step_no item rows i x before within is inv fails =
    inv ∙ sym (append-nil (ranks_of item (take i rows)))
    ∙ ap (λ (v : Bool). ranks_of item (take i rows) ++ map rank_of (cond v (x ∷ []) [])) (sym fails) ∙ sym (ranks_more item rows i x within is)

-- A page has each lot of an item once, so that lots which were sorted rise.

abbrev tally : List ℕ → List Ranked → ℕ
tally lot ks = count_by (λ k. bytes_eq k.lot lot) ks

tally_cons : (lot : List ℕ) (k : Ranked) (ks : List Ranked) → tally lot (k ∷ ks) ≡ cond (bytes_eq k.lot lot) 1 0 + tally lot ks
tally_cons lot k ks = sum_by-cons (λ (x : Ranked). cond (bytes_eq x.lot lot) 1 0) k ks

tally_itself : (k : Ranked) (ks : List Ranked) → tally k.lot (k ∷ ks) ≡ 1 + tally k.lot ks
tally_itself k ks = tally_cons k.lot k ks ∙ ap (λ (v : Bool). cond v 1 0 + tally k.lot ks) ((bytes_eq-Decides k.lot k.lot).1 refl)

tally_has : (k : Ranked) (ks : List Ranked) → Has k ks → 0 < tally k.lot ks
tally_has k [] h = absurd h
tally_has k (j ∷ ks) h = elim h [
  | inl a ↦ subst (λ (x : Ranked). 0 < tally k.lot (x ∷ ks)) a (omega (arith, tally_itself k ks))
  | inr b ↦ omega (arith, tally_cons k.lot j ks, tally_has k ks b)
]

-- the lots are among the rows of their pairs
tally_few : (item lot : List ℕ) (rows : List LotRow) → tally lot (ranks_of item rows) ≤ of_pair one item lot rows
tally_few item lot [] = omega arith
tally_few item lot (r ∷ rows) = elim (cases_Bool (is_lot_of item r)) [
  | inl e ↦
      let same : bytes_eq r.item item ≡ true = (and_parts (bytes_eq r.item item) (ltb 0 r.since) e).0 in
      let more : tally lot (ranks_of item (r ∷ rows)) ≡ cond (bytes_eq r.lot lot) 1 0 + tally lot (ranks_of item rows) = rw e (tally_cons lot (rank_of r) (ranks_of item rows)) in
      let told : of_pair one item lot (r ∷ rows) ≡ cond (bytes_eq r.lot lot) 1 0 + of_pair one item lot rows =
      of_pair_cons one item lot r rows ∙ ap (λ (v : Bool). cond (v && bytes_eq r.lot lot) 1 0 + of_pair one item lot rows) same in
      omega (arith, more, told, tally_few item lot rows)
  | inr e ↦
      let as_many : tally lot (ranks_of item (r ∷ rows)) ≡ tally lot (ranks_of item rows) = rw e refl in
      omega (arith, as_many, of_pair_cons one item lot r rows, tally_few item lot rows)
]

lots_rise : (r : Rules) (ks : List Ranked) → Settles (ranks_before r) ks → AreTotal (ranks_before r) ks → ((lot : List ℕ) → tally lot ks ≤ 1) → Rises (ranks_before r) ks
lots_rise r [] s total few = tt
lots_rise r (k ∷ ks) s total few = (
  λ z has. elim (cases_Bool (ranks_before r k z)) [
    | inl e ↦ e
    | inr e ↦
        let same : k ≡ z = total k z (inl refl) (inr has) e (s.0 z has) in
        let twice : 0 < tally k.lot ks = subst (λ (x : Ranked). 0 < tally x.lot ks) (sym same) (tally_has z ks has) in
        absurd (omega (arith, few k.lot, tally_itself k ks, twice))
  ],
  lots_rise r ks s.1 (λ x y p q. total x y (inr p) (inr q)) (λ lot. omega (arith, few lot, tally_cons lot k ks)),
)

pub lots_sorted : (r : Rules) (item : List ℕ) (rows : List LotRow) (ks : List Ranked) → IsDistinct rows → IsPermutation (ranks_of item rows) ks
    → IsSortedBy (ranks_before r) ks → ks ≡ in_order (ranks_before r) (ranks_of item rows)
lots_sorted r item rows ks distinct moved up =
    let js = ranks_of item rows in
    let total = ranks_once r item rows distinct in
    let among = has_moved ks js (IsPermutation-sym js ks moved) in
    let few : (lot : List ℕ) → tally lot ks ≤ 1 = λ lot. omega (arith, sum_by-IsPermutation (λ (k : Ranked). cond (bytes_eq k.lot lot) 1 0) js ks moved, tally_few item lot rows, distinct item lot) in
    rising_same (ranks_before r) (ranks_order r) ks (in_order (ranks_before r) js)
    (lots_rise r ks (settled (ranks_before r) (ranks_weak r) ks up) (λ x y p q. total x y (among x p) (among y q)) few)
    (in_order_rises (ranks_before r) (ranks_order r) js)
    (λ z has. in_order_has (ranks_before r) z js total (among z has))
    (λ z has. has_moved js ks moved z (has_in_order (ranks_before r) z js has))

-- a pair that something is told of has a row
pub of_pair_find : (f : LotRow → ℕ) (a b : List ℕ) (rows : List LotRow) → 0 < of_pair f a b rows → (r : LotRow) × Has r rows × (is_row a b r ≡ true)
of_pair_find f a b [] h = absurd (omega arith)
of_pair_find f a b (x ∷ xs) h = elim (cases_Bool (is_row a b x)) [
  | inl e ↦ (x, inl refl, e)
  | inr e ↦ let m = of_pair_find f a b xs (omega (arith, of_pair_cons f a b x xs, part_no f a b x e)) in (m.0, inr m.1, m.2)
]

-- rows that tell the same of an item have the same lots of it

ranks_among : (item : List ℕ) (ps qs : List LotRow) → IsDistinct ps → IsDistinct qs → ((f : LotRow → ℕ) (lot : List ℕ) → of_pair f item lot ps ≡ of_pair f item lot qs)
    → (z : Ranked) → Has z (ranks_of item ps) → Has z (ranks_of item qs)
ranks_among item ps qs once only same z h =
    let m = map_has rank_of z (filter (is_lot_of item) ps) h in
    let g = filter_has (is_lot_of item) m.0 ps m.1 in
    let q = and_parts (bytes_eq m.0.item item) (ltb 0 m.0.since) g.1 in
    let here : is_row item m.0.lot m.0 ≡ true = rw (q.0, (bytes_eq-Decides m.0.lot m.0.lot).1 refl) refl in
    let t : of_pair first_count item m.0.lot ps ≡ m.0.since = of_pair_has first_count item m.0.lot ps m.0 g.0 here (once item m.0.lot) in
    let r = of_pair_find first_count item m.0.lot qs (omega (arith, t, same first_count m.0.lot, ltb-true 0 m.0.since q.1)) in
    let keys = row_is item m.0.lot r.0 r.2 in
    let u : of_pair first_count item m.0.lot qs ≡ r.0.since = of_pair_has first_count item m.0.lot qs r.0 r.1 r.2 (only item m.0.lot) in
    let number : m.0.since ≡ r.0.since = sym t ∙ same first_count m.0.lot ∙ u in
    let lot : is_lot_of item r.0 ≡ true = rw ((bytes_eq-Decides r.0.item item).1 keys.0, lt-ltb 0 r.0.since (omega (arith, number, ltb-true 0 m.0.since q.1))) refl in
    let date : m.0.expiry ≡ r.0.expiry = dates_same m.0 r.0 (λ f. sym (of_pair_has f item m.0.lot ps m.0 g.0 here (once item m.0.lot)) ∙ same f m.0.lot
    ∙ of_pair_has f item m.0.lot qs r.0 r.1 r.2 (only item m.0.lot)) in
    subst (λ (w : Ranked). Has w (ranks_of item qs))
    ((λ i. record { expiry = sym date i; since = sym number i; lot = keys.1 i }) ∙ sym m.2)
    (has_map rank_of r.0 (filter (is_lot_of item) qs) (has_filter (is_lot_of item) r.0 qs r.1 lot))

pub ranks_same : (r : Rules) (item : List ℕ) (ps qs : List LotRow) → IsDistinct ps → IsDistinct qs → ((f : LotRow → ℕ) (lot : List ℕ) → of_pair f item lot ps ≡ of_pair f item lot qs)
    → in_order (ranks_before r) (ranks_of item ps) ≡ in_order (ranks_before r) (ranks_of item qs)
ranks_same r item ps qs once only same = in_order_same (ranks_before r) (ranks_order r) (ranks_of item ps) (ranks_of item qs) (ranks_once r item ps once)
    (ranks_among item ps qs once only same) (ranks_among item qs ps only once (λ f lot. sym (same f lot)))

-- Only the rows of an item have its lots.

pub lots_none_before : (item : List ℕ) (rows : List LotRow) (i : ℕ) → ((k : ℕ) (d : LotRow) → k < i → comes_before (get_or rows k d).item item ≡ true) → ranks_of item (take i rows) ≡ []
lots_none_before item rows zero before = refl
lots_none_before item [] (suc i) before = refl
lots_none_before item (r ∷ rows) (suc i) before =
    let apart : is_lot_of item r ≡ false = no_lot item r (before 0 r (omega arith)) in
    rw apart (lots_none_before item rows i (λ k d lt. before (suc k) d (omega arith)))
  where
    no_lot : (item : List ℕ) (r : LotRow) → comes_before r.item item ≡ true → is_lot_of item r ≡ false
    no_lot item r h = elim (cases_Bool (bytes_eq r.item item)) [
      | inl e ↦
          let same = (bytes_eq-Decides r.item item).0 e in
          let g : true ≡ false = sym h ∙ ap (comes_before r.item) (sym same) ∙ texts_never r.item in
          absurd (cc)
      | inr e ↦ rw e refl
    ]

pub lots_none_later : (item : List ℕ) (rows : List LotRow) (i : ℕ) → ((k : ℕ) (d : LotRow) → i ≤ k → k < length rows → comes_before item (get_or rows k d).item ≡ true)
    → ranks_of item (take i rows) ≡ ranks_of item rows
lots_none_later item [] zero back = refl
lots_none_later item (r ∷ rows) zero back =
    let apart : is_lot_of item r ≡ false = no_lot item r (back 0 r (omega arith) (omega arith)) in
    rw apart (lots_none_later item rows zero (λ k d le within. back (suc k) d (omega arith) (omega arith)))
  where
    no_lot : (item : List ℕ) (r : LotRow) → comes_before item r.item ≡ true → is_lot_of item r ≡ false
    no_lot item r h = elim (cases_Bool (bytes_eq r.item item)) [
      | inl e ↦
          let same = (bytes_eq-Decides r.item item).0 e in
          let g : true ≡ false = sym h ∙ ap (comes_before item) same ∙ texts_never item in
          absurd (cc)
      | inr e ↦ rw e refl
    ]
lots_none_later item [] (suc i) back = refl
lots_none_later item (r ∷ rows) (suc i) back = elim (cases_Bool (is_lot_of item r)) [
  | inl e ↦ rw e (ap (λ (rs : List Ranked). rank_of r ∷ rs) (lots_none_later item rows i (λ k d le within. back (suc k) d (omega arith) (omega arith))))
  | inr e ↦ rw e (lots_none_later item rows i (λ k d le within. back (suc k) d (omega arith) (omega arith)))
]
