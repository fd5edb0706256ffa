-- A part of a page: what changes on it is what changes on the page.
use Rattle.std.proofs.Common.{◌≡◌, ℕ, ◌+◌, Bool, true, false, ◌&&◌, ◌||◌, not, cond, ltb, eqb, List, [], ◌∷◌, ◌++◌, map, refl, ap, sym, ◌∙◌, subst, inl, inr, arith, Option, Some, None}
use Rattle.std.proofs.lemmas.Bool.{cases_Bool, and_parts, lt-ltb, eqb-true}
use Rattle.std.proofs.lemmas.Slice.Eq.{bytes_eq-Decides}
use Rattle.std.specs.Prelude.{fold, bytes_eq, option_map}
use Rattle.std.specs.Option.{option_or}
use Rattle.std.specs.List.{list_any, list_all}
use Rattle.definitions.specs.Events.{is_pair}
use Rattle.definitions.specs.Means.{Line, Advice, advised, OrderLine, Order}
use Rattle.definitions.specs.Movements.{OnHand, Reservation}
use Rattle.definitions.specs.Rows.{LotRow}
use Rattle.definitions.specs.Page.{PageAdvice, PageOrder, PageDocument, reserved_lines}
use Rattle.stock.specs.declared.steps.Change.{Change}
use Rattle.stock.specs.declared.steps.Change.TheVariants as change
use Rattle.page_rows.specs.Functions.{function_text}
use Rattle.page_rows.specs.Pages.{PageFacts, AreSorted, document_at, is_document}
use Rattle.stock.specs.Parts.{Named, all_named, IsPart, are_items, NamesAdvice}
use Rattle.stock.specs.Puts.{put, put_change}
use Rattle.page_rows.specs.declared.documents.Function.TheVariants.{Receipt, Shipment, Adjustment}
use Rattle.page_rows.specs.Moved.{IsAdded, IsAdvised, IsCounted, IsShipped, SetsOnHand}
use Rattle.page_rows.specs.Steps.{opened, opened_order, closed_advice, closed_order, with_said, said_of_found, is_unknown, is_below, is_on_hand, IsAnnounced, IsReserved, IsReceived, IsPicked, IsRecounted}
use Rattle.stock.specs.Stops.{row_changes, advice_changes, order_changes}
use Rattle.page_rows.specs.OfPairs.{is_row, of_pair, date_of_pair, one, since, amount, same_row, changed_rows}
use Rattle.stock.specs.Touched.{IsTouched}
use Rattle.stock.proofs.ChangeLaws.{same_is}
use Rattle.page_rows.proofs.Dates.{same_dates_of}
use Rattle.page_rows.proofs.KeyLemmas.{of_pair_put, advice_put, order_put, document_put, sent_found}
use Rattle.page_rows.proofs.Finds.{found_says}
use Rattle.stock.proofs.Leads.{touched_none, not_named, among_second}
use Rattle.stock.proofs.Steppings.{Makes, change_sorted, announced_put, reserved_put, received_put, picked_put, recounted_put}
use Rattle.page_rows.proofs.OfPairLemmas.{of_pair_cons, part_yes, part_no}

-- a page is a part of itself
pub part_of_self : (n : Named) (p : PageFacts) → AreSorted p → IsPart n p p
part_of_self n p sorted = record { in_order = sorted; sorted = sorted; rows = λ f a b is. refl; advices = λ s is. refl; orders = λ s is. refl; documents = λ m is. refl; entries = refl; recent = refl }

pub all_items : (lines : List Line) → are_items all_named lines ≡ true
all_items [] = refl
all_items (l ∷ ls) = all_items ls

pub all_ordered : (lines : List OrderLine) → list_all (λ l. all_named.items l.item) lines ≡ true
all_ordered [] = refl
all_ordered (l ∷ ls) = all_ordered ls

-- a part tells the dates of named items
pub part_date : (n : Named) (p P : PageFacts) → IsPart n p P → (a b : List ℕ) → n.items a ≡ true → date_of_pair a b p.rows ≡ date_of_pair a b P.rows
part_date n p P part a b is = same_dates_of a b p.rows P.rows part.in_order.rows part.sorted.rows (λ f. part.rows f a b is)

-- A row is on the part where it is on the page.

abbrev is_same : LotRow → LotRow → ℕ
is_same r x = cond (same_row r x) 1 0

own : (r : LotRow) → is_row r.item r.lot r ≡ true
own r = rw ((bytes_eq-Decides r.item r.item).1 refl, (bytes_eq-Decides r.lot r.lot).1 refl) refl

of_pair_any : (r : LotRow) (rows : List LotRow) → list_any (same_row r) rows ≡ ltb 0 (of_pair (is_same r) r.item r.lot rows)
of_pair_any r [] = refl
of_pair_any r (x ∷ xs) = elim (cases_Bool (same_row r x)) [
  | inl e ↦
      let here : is_row r.item r.lot x ≡ true = ap (is_row r.item r.lot) (sym (same_is r x e)) ∙ own r in
      ap (λ (v : Bool). v || list_any (same_row r) xs) e ∙ sym (lt-ltb 0 (of_pair (is_same r) r.item r.lot (x ∷ xs))
      (omega (arith, of_pair_cons (is_same r) r.item r.lot x xs, part_yes (is_same r) r.item r.lot x here, ap (λ (v : Bool). cond {A = ℕ} v 1 0) e)))
  | inr e ↦
      let nothing : is_same r x ≡ 0 = ap (λ (v : Bool). cond {A = ℕ} v 1 0) e in
      let same : of_pair (is_same r) r.item r.lot (x ∷ xs) ≡ of_pair (is_same r) r.item r.lot xs = elim (cases_Bool (is_row r.item r.lot x)) [
        | inl f ↦ omega (arith, of_pair_cons (is_same r) r.item r.lot x xs, part_yes (is_same r) r.item r.lot x f, nothing)
        | inr f ↦ omega (arith, of_pair_cons (is_same r) r.item r.lot x xs, part_no (is_same r) r.item r.lot x f)
      ] in
      ap (λ (v : Bool). v || list_any (same_row r) xs) e ∙ of_pair_any r xs ∙ ap (ltb 0) (sym same)
]

any_same : (n : Named) (p P : PageFacts) → IsPart n p P → (r : LotRow) → n.items r.item ≡ true → list_any (same_row r) p.rows ≡ list_any (same_row r) P.rows
any_same n p P part r is = of_pair_any r p.rows ∙ ap (ltb 0) (part.rows (is_same r) r.item r.lot is) ∙ sym (of_pair_any r P.rows)

-- so rows of named items changed on the part where they changed on the page
pub changed_same : (n : Named) (p P : PageFacts) → IsPart n p P → (rows : List LotRow) → list_all (λ r. n.items r.item) rows ≡ true → changed_rows p.rows rows ≡ changed_rows P.rows rows
changed_same n p P part [] all = refl
changed_same n p P part (r ∷ rs) all =
    let q = and_parts (n.items r.item) (list_all (λ r. n.items r.item) rs) all in
    ap (λ (v : Bool). cond (not v) (r ∷ changed_rows p.rows rs) (changed_rows p.rows rs)) (any_same n p P part r q.0)
    ∙ ap (λ (ws : List LotRow). cond (not (list_any (same_row r) P.rows)) (r ∷ ws) ws) (changed_same n p P part rs q.1)

-- Touched rows.

pub item_of_pair : (n : Named) (lines : List Line) (a b : List ℕ) → are_items n lines ≡ true → list_any (is_pair a b) lines ≡ true → n.items a ≡ true
item_of_pair n [] a b all named = absurd (cc)
item_of_pair n (l ∷ ls) a b all named =
    let q = and_parts (n.items l.item) (are_items n ls) all in
    elim (cases_Bool (is_pair a b l)) [
      | inl e ↦ ap n.items (sym ((bytes_eq-Decides l.item a).0 (and_parts (bytes_eq l.item a) (bytes_eq l.lot b) e).0)) ∙ q.0
      | inr e ↦ item_of_pair n ls a b q.1 (sym (ap (λ (v : Bool). v || list_any (is_pair a b) ls) e) ∙ named)
    ]

-- what was touched on the part is what is touched on the page
pub touched_whole : (n : Named) (p P : PageFacts) (lines : List Line) (t : List LotRow) → IsPart n p P → are_items n lines ≡ true → IsTouched lines p.rows t → IsTouched lines P.rows t
touched_whole n p P lines t part all touched = record {
  sorted = touched.sorted;
  same = λ f a b. touched.same f a b ∙ elim (cases_Bool (list_any (is_pair a b) lines)) [
    | inl e ↦ ap (λ (m : ℕ). cond (list_any (is_pair a b) lines) m 0) (part.rows f a b (item_of_pair n lines a b all e))
    | inr e ↦ rw e refl
  ];
}

-- rows of pairs that lines name are of named items
pub rows_named : (n : Named) (lines : List Line) (rows : List LotRow) → are_items n lines ≡ true → ((a b : List ℕ) → list_any (is_pair a b) lines ≡ false → of_pair one a b rows ≡ 0)
    → list_all (λ r. n.items r.item) rows ≡ true
rows_named n lines [] all none = refl
rows_named n lines (r ∷ rs) all none =
    let later = rows_named n lines rs all (λ a b e. omega (arith, none a b e, of_pair_cons one a b r rs)) in
    elim (cases_Bool (list_any (is_pair r.item r.lot) lines)) [
      | inl e ↦ rw (item_of_pair n lines r.item r.lot all e) later
      | inr e ↦ absurd (omega (arith, none r.item r.lot e, of_pair_cons one r.item r.lot r rs, part_yes one r.item r.lot r (own r)))
    ]

-- Changes keep a part a part.

said_found : (m j : ℕ) (v : Bool) (ds : List PageDocument)
    → document_at j (with_said m v ds) ≡ cond (eqb m j) (option_map (λ (d : PageDocument). record d { said = Some v }) (document_at m ds)) (document_at j ds)
said_found m j v ds = by (document_at m ds) refl
  where
    heard : PageDocument → PageDocument
    heard d = record d { said = Some v }

    none : (w : Bool) → eqb m j ≡ w → document_at m ds ≡ None → document_at j ds ≡ cond w None (document_at j ds)
    none true e h = ap (λ (k : ℕ). document_at k ds) (sym (eqb-true m j e)) ∙ h
    none false e h = refl

    by : (o : Option PageDocument) → document_at m ds ≡ o → document_at j (said_of_found o v ds) ≡ cond (eqb m j) (option_map heard o) (document_at j ds)
    by (Some d) h =
        let key : d.n ≡ m = eqb-true d.n m (found_says (is_document m) ds d h) in
        document_put j (heard d) ds ∙ ap (λ (k : ℕ). cond (eqb k j) (Some (heard d)) (document_at j ds)) key
    by None h = none (eqb m j) refl h

said_part : (n : Named) (m j : ℕ) (v : Bool) (ds es : List PageDocument) → ((k : ℕ) → n.documents k ≡ true → document_at k ds ≡ document_at k es) → n.documents j ≡ true
    → document_at j (with_said m v ds) ≡ document_at j (with_said m v es)
said_part n m j v ds es same is = said_found m j v ds ∙ by (eqb m j) refl ∙ sym (said_found m j v es)
  where
    heard : PageDocument → PageDocument
    heard d = record d { said = Some v }

    by : (w : Bool) → eqb m j ≡ w → cond w (option_map heard (document_at m ds)) (document_at j ds) ≡ cond w (option_map heard (document_at m es)) (document_at j es)
    by true e = ap (option_map heard) (same m (ap n.documents (eqb-true m j e) ∙ is))
    by false e = same j is

change_part : (n : Named) (c : Change) (p P : PageFacts) → IsPart n p P → IsPart n (put_change p c) (put_change P c)
change_part n (change.Stock r) p P part = record {
  in_order = change_sorted (change.Stock r) p part.in_order;
  sorted = change_sorted (change.Stock r) P part.sorted;
  rows = λ f a b is. of_pair_put f a b r p.rows part.in_order.rows ∙ ap (cond (is_row a b r) (f r)) (part.rows f a b is) ∙ sym (of_pair_put f a b r P.rows part.sorted.rows);
  advices = part.advices;
  orders = part.orders;
  documents = part.documents;
  entries = part.entries;
  recent = part.recent;
}
change_part n (change.Advice k) p P part = record {
  in_order = change_sorted (change.Advice k) p part.in_order;
  sorted = change_sorted (change.Advice k) P part.sorted;
  rows = part.rows;
  orders = part.orders;
  documents = part.documents;
  entries = part.entries;
  recent = part.recent;
  advices = λ t is. advice_put t k p.advices ∙ ap (cond (bytes_eq k.shipment t) (Some k)) (part.advices t is) ∙ sym (advice_put t k P.advices);
}
change_part n (change.Order k) p P part = record {
  in_order = change_sorted (change.Order k) p part.in_order;
  sorted = change_sorted (change.Order k) P part.sorted;
  rows = part.rows;
  advices = part.advices;
  documents = part.documents;
  entries = part.entries;
  recent = part.recent;
  orders = λ t is. order_put t k p.orders ∙ ap (cond (bytes_eq k.number t) (Some k)) (part.orders t is) ∙ sym (order_put t k P.orders);
}
change_part n (change.Sent m f) p P part = record {
  in_order = change_sorted (change.Sent m f) p part.in_order;
  sorted = change_sorted (change.Sent m f) P part.sorted;
  rows = part.rows;
  advices = part.advices;
  orders = part.orders;
  entries = part.entries;
  recent = part.recent;
  documents = λ j is. sent_found m j (function_text f) p.documents
      ∙ ap (λ (o : Option PageDocument). option_or o (cond (eqb m j) (Some (record { n = m; function = function_text f; said = None })) None)) (part.documents j is)
      ∙ sym (sent_found m j (function_text f) P.documents);
}
change_part n (change.Document m v) p P part = record {
  in_order = change_sorted (change.Document m v) p part.in_order;
  sorted = change_sorted (change.Document m v) P part.sorted;
  rows = part.rows;
  advices = part.advices;
  orders = part.orders;
  entries = part.entries;
  recent = part.recent;
  documents = λ j is. said_part n m j v p.documents P.documents part.documents is;
}

pub changes_part : (n : Named) (cs : List Change) (p P : PageFacts) → IsPart n p P → IsPart n (fold put_change p cs) (fold put_change P cs)
changes_part n [] p P part = part
changes_part n (c ∷ cs) p P part = changes_part n cs (put_change p c) (put_change P c) (change_part n c p P part)

-- whatever the counts are
pub counted_part : (n : Named) (p P : PageFacts) (e r : ℕ) → IsPart n p P → IsPart n (record p { entries = e; recent = r }) (record P { entries = e; recent = r })
counted_part n p P e r q = record {
  in_order = record { rows = q.in_order.rows; advices = q.in_order.advices; orders = q.in_order.orders; documents = q.in_order.documents };
  sorted = record { rows = q.sorted.rows; advices = q.sorted.advices; orders = q.sorted.orders; documents = q.sorted.documents };
  rows = q.rows;
  advices = q.advices;
  orders = q.orders;
  documents = q.documents;
  entries = refl;
  recent = refl;
}

pub put_part : (n : Named) (cs : List Change) (p P : PageFacts) → IsPart n p P → IsPart n (put cs p) (put cs P)
put_part n cs p P part =
    let q = counted_part n (fold put_change p cs) (fold put_change P cs) p.entries (p.recent + 1) (changes_part n cs p P part) in
    subst (λ (e : ℕ). IsPart n (put cs p) (record (fold put_change P cs) { entries = e; recent = P.recent + 1 })) part.entries
    (subst (λ (r : ℕ). IsPart n (put cs p) (record (fold put_change P cs) { entries = p.entries; recent = r + 1 })) part.recent q)

-- What a step makes of the part it makes of the page.

pub announced_whole : (n : Named) (a : Advice) (p P : PageFacts) (t0 t1 : List LotRow) → IsPart n p P → NamesAdvice n a → IsTouched (advised a) p.rows t0 → IsAdvised a.lines t0 t1
    → Makes (IsAnnounced a P) (advice_changes a.shipment P) P (map change.Stock (changed_rows p.rows t1) ++ change.Advice (opened a) ∷ [])
announced_whole n a p P t0 t1 part names touched moved =
    let same = changed_same n p P part t1 (rows_named n (advised a) t1 names.items (λ i l e. omega (arith, moved.named i l, touched_none (advised a) p.rows t0 touched one i l e, not_named (advised a) i l e))) in
    subst (λ (rs : List LotRow). Makes (IsAnnounced a P) (advice_changes a.shipment P) P (map change.Stock rs ++ change.Advice (opened a) ∷ [])) (sym same)
    (announced_put a P t0 t1 part.sorted.rows (touched_whole n p P (advised a) t0 part names.items touched) moved)

pub reserved_whole : (n : Named) (o : Order) (shares : List Line) (p P : PageFacts) (t0 t1 : List LotRow) → IsPart n p P → are_items n (reserved_lines shares) ≡ true
    → IsTouched (reserved_lines shares) p.rows t0 → IsAdded Reservation (reserved_lines shares) t0 t1
    → Makes (IsReserved o shares P) (order_changes o.number P) P (map change.Stock (changed_rows p.rows t1) ++ change.Order (opened_order o shares) ∷ [])
reserved_whole n o shares p P t0 t1 part items touched moved =
    let lines = reserved_lines shares in
    let same = changed_same n p P part t1 (rows_named n lines t1 items (λ i l e. omega (arith, moved.named i l, touched_none lines p.rows t0 touched one i l e, not_named lines i l e))) in
    subst (λ (rs : List LotRow). Makes (IsReserved o shares P) (order_changes o.number P) P (map change.Stock rs ++ change.Order (opened_order o shares) ∷ [])) (sym same)
    (reserved_put o shares P t0 t1 part.sorted.rows (touched_whole n p P lines t0 part items touched) moved)

both_items : (n : Named) (xs ys : List Line) → are_items n xs ≡ true → are_items n ys ≡ true → are_items n (xs ++ ys) ≡ true
both_items n [] ys a b = b
both_items n (x ∷ xs) ys a b = let q = and_parts (n.items x.item) (are_items n xs) a in rw (q.0, both_items n xs ys q.1 b) refl

pub received_whole : (n : Named) (m : ℕ) (k : PageAdvice) (sheet : List Line) (p P : PageFacts) (t0 t1 : List LotRow) → IsPart n p P → are_items n k.lines ≡ true → are_items n sheet ≡ true
    → IsTouched (k.lines ++ sheet) p.rows t0 → IsCounted m k.lines sheet t0 t1
    → Makes (IsReceived m k sheet P) (λ q. advice_changes k.shipment P q ++ change.Sent m Receipt ∷ []) P
    ((map change.Stock (changed_rows p.rows t1) ++ change.Advice (closed_advice k) ∷ []) ++ change.Sent m Receipt ∷ [])
received_whole n m k sheet p P t0 t1 part lines goods touched moved =
    let all = k.lines ++ sheet in
    let items = both_items n k.lines sheet lines goods in
    let same = changed_same n p P part t1 (rows_named n all t1 items (λ i l e. omega (arith, moved.named i l, touched_none all p.rows t0 touched one i l e, not_named sheet i l (among_second k.lines sheet i l e)))) in
    subst (λ (rs : List LotRow). Makes (IsReceived m k sheet P) (λ q. advice_changes k.shipment P q ++ change.Sent m Receipt ∷ []) P
    ((map change.Stock rs ++ change.Advice (closed_advice k) ∷ []) ++ change.Sent m Receipt ∷ [])) (sym same)
    (received_put m k sheet P t0 t1 part.sorted.rows (touched_whole n p P all t0 part items touched) moved)

pub picked_whole : (n : Named) (m : ℕ) (k : PageOrder) (sheet : List Line) (p P : PageFacts) (t0 t1 : List LotRow) → IsPart n p P → are_items n k.reserved ≡ true → are_items n sheet ≡ true
    → IsTouched (k.reserved ++ sheet) p.rows t0 → IsShipped k.reserved sheet t0 t1
    → Makes (IsPicked m k sheet P) (λ q. order_changes k.number P q ++ change.Sent m Shipment ∷ []) P
    ((map change.Stock (changed_rows p.rows t1) ++ change.Order (closed_order k) ∷ []) ++ change.Sent m Shipment ∷ [])
picked_whole n m k sheet p P t0 t1 part lines goods touched moved =
    let all = k.reserved ++ sheet in
    let items = both_items n k.reserved sheet lines goods in
    let same = changed_same n p P part t1 (rows_named n all t1 items (λ i l e. omega (arith, moved.named i l, touched_none all p.rows t0 touched one i l e))) in
    subst (λ (rs : List LotRow). Makes (IsPicked m k sheet P) (λ q. order_changes k.number P q ++ change.Sent m Shipment ∷ []) P
    ((map change.Stock rs ++ change.Order (closed_order k) ∷ []) ++ change.Sent m Shipment ∷ [])) (sym same)
    (picked_put m k sheet P t0 t1 part.sorted.rows (touched_whole n p P all t0 part items touched) moved)

pub recounted_whole : (n : Named) (m : ℕ) (sheet : List Line) (p P : PageFacts) (t0 t1 : List LotRow) → IsPart n p P → are_items n sheet ≡ true → IsTouched sheet p.rows t0 → SetsOnHand sheet t0 t1
    → Makes (IsRecounted m sheet P) (λ q. row_changes P q ++ change.Sent m Adjustment ∷ []) P (map change.Stock (changed_rows p.rows t1) ++ change.Sent m Adjustment ∷ [])
recounted_whole n m sheet p P t0 t1 part goods touched moved =
    let same = changed_same n p P part t1 (rows_named n sheet t1 goods (λ i l e. omega (arith, moved.named i l, touched_none sheet p.rows t0 touched one i l e))) in
    subst (λ (rs : List LotRow). Makes (IsRecounted m sheet P) (λ q. row_changes P q ++ change.Sent m Adjustment ∷ []) P (map change.Stock rs ++ change.Sent m Adjustment ∷ [])) (sym same)
    (recounted_put m sheet P t0 t1 part.sorted.rows (touched_whole n p P sheet t0 part goods touched) moved)

-- what is asked of each line of a sheet

any_line : (n : Named) (f g : Line → Bool) (ls : List Line) → are_items n ls ≡ true → ((l : Line) → n.items l.item ≡ true → f l ≡ g l) → list_any f ls ≡ list_any g ls
any_line n f g [] all same = refl
any_line n f g (l ∷ ls) all same = let q = and_parts (n.items l.item) (are_items n ls) all in (λ i. same l q.0 i || any_line n f g ls q.1 same i)

all_line : (n : Named) (f g : Line → Bool) (ls : List Line) → are_items n ls ≡ true → ((l : Line) → n.items l.item ≡ true → f l ≡ g l) → list_all f ls ≡ list_all g ls
all_line n f g [] all same = refl
all_line n f g (l ∷ ls) all same = let q = and_parts (n.items l.item) (are_items n ls) all in (λ i. same l q.0 i && all_line n f g ls q.1 same i)

pub unknown_part : (n : Named) (p P : PageFacts) (ls : List Line) → IsPart n p P → are_items n ls ≡ true → list_any (is_unknown p.rows) ls ≡ list_any (is_unknown P.rows) ls
unknown_part n p P ls part all = any_line n (is_unknown p.rows) (is_unknown P.rows) ls all (λ l is. ap (λ (m : ℕ). eqb m 0) (part.rows since l.item l.lot is))

pub below_part : (n : Named) (p P : PageFacts) (ls : List Line) → IsPart n p P → are_items n ls ≡ true → list_any (is_below p.rows) ls ≡ list_any (is_below P.rows) ls
below_part n p P ls part all = any_line n (is_below p.rows) (is_below P.rows) ls all (λ l is. ap (ltb l.quantity) (part.rows (amount Reservation) l.item l.lot is))

pub on_hand_part : (n : Named) (p P : PageFacts) (ls : List Line) → IsPart n p P → are_items n ls ≡ true → list_all (is_on_hand p.rows) ls ≡ list_all (is_on_hand P.rows) ls
on_hand_part n p P ls part all = all_line n (is_on_hand p.rows) (is_on_hand P.rows) ls all (λ l is. ap (eqb l.quantity) (part.rows (amount OnHand) l.item l.lot is))

-- any changes, with any number of events after them
pub after_part : (n : Named) (cs : List Change) (r : ℕ) (p P : PageFacts) → IsPart n p P
    → IsPart n (record (fold put_change p cs) { entries = p.entries; recent = r }) (record (fold put_change P cs) { entries = P.entries; recent = r })
after_part n cs r p P part =
    subst (λ (e : ℕ). IsPart n (record (fold put_change p cs) { entries = p.entries; recent = r }) (record (fold put_change P cs) { entries = e; recent = r })) part.entries
    (counted_part n (fold put_change p cs) (fold put_change P cs) p.entries r (changes_part n cs p P part))
