-- What changes make of a page.
use Rattle.std.proofs.Common.{◌≡◌, ℕ, ◌+◌, Bool, true, cond, List, [], ◌∷◌, ◌++◌, map, refl, ap, sym, ◌∙◌, subst, Some}
use Rattle.std.proofs.lemmas.List.Sums.{fold-append}
use Rattle.std.proofs.lemmas.Slice.Eq.{bytes_eq-Decides}
use Rattle.std.specs.Prelude.{fold, bytes_eq, codes, option_map, option_to_list}
use Rattle.definitions.specs.Means.{Line, Advice, advised, Order}
use Rattle.definitions.specs.Movements.{Reservation}
use Rattle.definitions.specs.Page.{PageAdvice, PageOrder, reserved_lines}
use Rattle.definitions.specs.Rows.{LotRow}
use Rattle.stock.specs.declared.steps.Change.{Change}
use Rattle.stock.specs.declared.steps.Change.TheVariants as change
use Rattle.page_rows.specs.declared.documents.Function.TheVariants.{Receipt, Shipment, Adjustment}
use Rattle.page_rows.specs.Functions.{function_text}
use Rattle.page_rows.specs.Keyed.{put_advice, put_order, IsSorted}
use Rattle.page_rows.specs.Moved.{IsAdded, IsAdvised, IsCounted, IsShipped, SetsOnHand}
use Rattle.page_rows.specs.Pages.{PageFacts, AreSorted, advice_at, order_at}
use Rattle.stock.specs.Puts.{put, put_change}
use Rattle.page_rows.specs.Steps.{opened, opened_order, closed_advice, closed_order, with_sent, IsAnnounced, IsReserved, IsReceived, IsPicked, IsRecounted}
use Rattle.stock.specs.Stops.{row_changes, advice_changes, order_changes}
use Rattle.page_rows.specs.OfPairs.{changed_rows}
use Rattle.stock.specs.Touched.{IsTouched}
use Rattle.page_rows.proofs.Keys.{put_rises}
use Rattle.page_rows.proofs.KeyLemmas.{advice_put, order_put, put_sorted, texts_strict, said_sorted, sent_sorted}
use Rattle.stock.proofs.Leads.{put_rows, rows_exact, added_led, advised_led, counted_led, shipped_led, set_led}
use Rattle.definitions.specs.Bytes.{comes_before}
use Rattle.page_rows.specs.Keyed.{shipment_of, number_of}

pub stock_puts : (cs : List LotRow) (p : PageFacts) → fold put_change p (map change.Stock cs) ≡ record p { rows = put_rows cs p.rows }
stock_puts [] p = refl
stock_puts (c ∷ cs) p = stock_puts cs (put_change p (change.Stock c))

-- each list stays in order
pub change_sorted : (c : Change) (p : PageFacts) → AreSorted p → AreSorted (put_change p c)
change_sorted (change.Stock r) p s = record { rows = put_sorted r p.rows s.rows; advices = s.advices; orders = s.orders; documents = s.documents }
change_sorted (change.Advice k) p s = record { rows = s.rows; advices = put_rises comes_before texts_strict shipment_of k p.advices s.advices; orders = s.orders; documents = s.documents }
change_sorted (change.Order k) p s = record { rows = s.rows; advices = s.advices; orders = put_rises comes_before texts_strict number_of k p.orders s.orders; documents = s.documents }
change_sorted (change.Sent n f) p s = record { rows = s.rows; advices = s.advices; orders = s.orders; documents = sent_sorted n (function_text f) p.documents (with_sent n (function_text f) p.documents) refl s.documents }
change_sorted (change.Document n v) p s = record { rows = s.rows; advices = s.advices; orders = s.orders; documents = said_sorted n v p.documents s.documents }

-- rows, and after them other changes
abbrev pub rows_and : List LotRow → List Change → List Change
rows_and cs rest = map change.Stock cs ++ rest

pub rows_and_put : (cs : List LotRow) (rest : List Change) (p : PageFacts) → fold put_change p (rows_and cs rest) ≡ fold put_change (record p { rows = put_rows cs p.rows }) rest
rows_and_put cs rest p = fold-append put_change p (map change.Stock cs) rest ∙ ap (λ (q : PageFacts). fold put_change q rest) (stock_puts cs p)

put_rest : (cs : List LotRow) (rest : List Change) (p : PageFacts)
    → put (rows_and cs rest) p ≡ record (fold put_change (record p { rows = put_rows cs p.rows }) rest) { entries = p.entries; recent = p.recent + 1 }
put_rest cs rest p = ap (λ (q : PageFacts). record q { entries = p.entries; recent = p.recent + 1 }) (rows_and_put cs rest p)

same_text : (a : List ℕ) → bytes_eq a a ≡ true
same_text a = (bytes_eq-Decides a a).1 refl

-- An advice.

advice_exact : (p q : PageFacts) (k : PageAdvice) (s : List ℕ) (touched : List LotRow) → IsSorted p.rows → IsSorted touched → k.shipment ≡ s
    → q.rows ≡ put_rows (changed_rows p.rows touched) p.rows → q.advices ≡ put_advice k p.advices
    → map change.Stock (changed_rows p.rows touched) ++ change.Advice k ∷ [] ≡ advice_changes s p q
advice_exact p q k s touched sorted rises key rows advices =
    let found : advice_at s q.advices ≡ Some k = ap (advice_at s) advices ∙ advice_put s k p.advices
    ∙ ap (λ (v : Bool). cond v (Some k) (advice_at s p.advices)) (ap (λ (t : List ℕ). bytes_eq t s) key ∙ same_text s) in
    let changed : changed_rows p.rows touched ≡ changed_rows p.rows q.rows = sym (rows_exact p.rows touched sorted rises) ∙ ap (changed_rows p.rows) (sym rows) in
    (λ i. map change.Stock (changed i) ++ option_to_list (option_map change.Advice (sym found i)))

order_exact : (p q : PageFacts) (k : PageOrder) (s : List ℕ) (touched : List LotRow) → IsSorted p.rows → IsSorted touched → k.number ≡ s
    → q.rows ≡ put_rows (changed_rows p.rows touched) p.rows → q.orders ≡ put_order k p.orders
    → map change.Stock (changed_rows p.rows touched) ++ change.Order k ∷ [] ≡ order_changes s p q
order_exact p q k s touched sorted rises key rows orders =
    let found : order_at s q.orders ≡ Some k = ap (order_at s) orders ∙ order_put s k p.orders
    ∙ ap (λ (v : Bool). cond v (Some k) (order_at s p.orders)) (ap (λ (t : List ℕ). bytes_eq t s) key ∙ same_text s) in
    let changed : changed_rows p.rows touched ≡ changed_rows p.rows q.rows = sym (rows_exact p.rows touched sorted rises) ∙ ap (changed_rows p.rows) (sym rows) in
    (λ i. map change.Stock (changed i) ++ option_to_list (option_map change.Order (sym found i)))

-- What a step made of a page, and that it lists exactly what changed.
pub record Makes (R : PageFacts → Type 0) (listed : PageFacts → List Change) (p : PageFacts) (cs : List Change) : Type 0 where
  pub made : R (put cs p)
  pub exact : cs ≡ listed (put cs p)

makes : (R : PageFacts → Type 0) (listed : PageFacts → List Change) (p q : PageFacts) (cs : List Change) → put cs p ≡ q → R q → cs ≡ listed q → Makes R listed p cs
makes R listed p q cs e made exact = record { made = subst R (sym e) made; exact = exact ∙ ap listed (sym e) }

pub announced_put : (a : Advice) (p : PageFacts) (t0 t1 : List LotRow) → IsSorted p.rows → IsTouched (advised a) p.rows t0 → IsAdvised a.lines t0 t1
    → Makes (IsAnnounced a p) (advice_changes a.shipment p) p (map change.Stock (changed_rows p.rows t1) ++ change.Advice (opened a) ∷ [])
announced_put a p t0 t1 sorted touched moved =
    let cs = changed_rows p.rows t1 in
    let q : PageFacts = record p { rows = put_rows cs p.rows; advices = put_advice (opened a) p.advices; recent = p.recent + 1 } in
    makes (IsAnnounced a p) (advice_changes a.shipment p) p q (rows_and cs (change.Advice (opened a) ∷ [])) (put_rest cs (change.Advice (opened a) ∷ []) p)
    (record { rows = advised_led a.lines p.rows t0 t1 sorted touched moved; advices = refl; orders = refl; documents = refl; next = record { entries = refl; recent = refl } })
    (advice_exact p q (opened a) a.shipment t1 sorted moved.sorted refl refl refl)

pub reserved_put : (o : Order) (shares : List Line) (p : PageFacts) (t0 t1 : List LotRow) → IsSorted p.rows → IsTouched (reserved_lines shares) p.rows t0
    → IsAdded Reservation (reserved_lines shares) t0 t1
    → Makes (IsReserved o shares p) (order_changes o.number p) p (map change.Stock (changed_rows p.rows t1) ++ change.Order (opened_order o shares) ∷ [])
reserved_put o shares p t0 t1 sorted touched moved =
    let cs = changed_rows p.rows t1 in
    let k = opened_order o shares in
    let q : PageFacts = record p { rows = put_rows cs p.rows; orders = put_order k p.orders; recent = p.recent + 1 } in
    makes (IsReserved o shares p) (order_changes o.number p) p q (rows_and cs (change.Order k ∷ [])) (put_rest cs (change.Order k ∷ []) p)
    (record { rows = added_led Reservation (reserved_lines shares) p.rows t0 t1 sorted touched moved; advices = refl; orders = refl; documents = refl; next = record { entries = refl; recent = refl } })
    (order_exact p q k o.number t1 sorted moved.sorted refl refl refl)

assoc : (cs : List Change) (x y : Change) → (cs ++ x ∷ []) ++ y ∷ [] ≡ cs ++ (x ∷ y ∷ [])
assoc [] x y = refl
assoc (c ∷ cs) x y = ap (λ (zs : List Change). c ∷ zs) (assoc cs x y)

pub received_put : (n : ℕ) (k : PageAdvice) (sheet : List Line) (p : PageFacts) (t0 t1 : List LotRow) → IsSorted p.rows → IsTouched (k.lines ++ sheet) p.rows t0
    → IsCounted n k.lines sheet t0 t1
    → Makes (IsReceived n k sheet p) (λ q. advice_changes k.shipment p q ++ change.Sent n Receipt ∷ []) p
    ((map change.Stock (changed_rows p.rows t1) ++ change.Advice (closed_advice k) ∷ []) ++ change.Sent n Receipt ∷ [])
received_put n k sheet p t0 t1 sorted touched moved =
    let cs = changed_rows p.rows t1 in
    let rest = change.Advice (closed_advice k) ∷ change.Sent n Receipt ∷ [] in
    let q : PageFacts = record p { rows = put_rows cs p.rows; advices = put_advice (closed_advice k) p.advices; documents = with_sent n (codes "RE") p.documents; recent = p.recent + 1 } in
    makes (IsReceived n k sheet p) (λ q. advice_changes k.shipment p q ++ change.Sent n Receipt ∷ []) p q
    ((map change.Stock cs ++ change.Advice (closed_advice k) ∷ []) ++ change.Sent n Receipt ∷ [])
    (ap (λ (xs : List Change). put xs p) (assoc (map change.Stock cs) (change.Advice (closed_advice k)) (change.Sent n Receipt)) ∙ put_rest cs rest p)
    (record { rows = counted_led n k.lines sheet p.rows t0 t1 sorted touched moved; advices = refl; orders = refl; documents = refl; next = record { entries = refl; recent = refl } })
    (ap (λ (xs : List Change). xs ++ change.Sent n Receipt ∷ []) (advice_exact p q (closed_advice k) k.shipment t1 sorted moved.sorted refl refl refl))

pub picked_put : (n : ℕ) (k : PageOrder) (sheet : List Line) (p : PageFacts) (t0 t1 : List LotRow) → IsSorted p.rows → IsTouched (k.reserved ++ sheet) p.rows t0
    → IsShipped k.reserved sheet t0 t1
    → Makes (IsPicked n k sheet p) (λ q. order_changes k.number p q ++ change.Sent n Shipment ∷ []) p
    ((map change.Stock (changed_rows p.rows t1) ++ change.Order (closed_order k) ∷ []) ++ change.Sent n Shipment ∷ [])
picked_put n k sheet p t0 t1 sorted touched moved =
    let cs = changed_rows p.rows t1 in
    let rest = change.Order (closed_order k) ∷ change.Sent n Shipment ∷ [] in
    let q : PageFacts = record p { rows = put_rows cs p.rows; orders = put_order (closed_order k) p.orders; documents = with_sent n (codes "SW") p.documents; recent = p.recent + 1 } in
    makes (IsPicked n k sheet p) (λ q. order_changes k.number p q ++ change.Sent n Shipment ∷ []) p q
    ((map change.Stock cs ++ change.Order (closed_order k) ∷ []) ++ change.Sent n Shipment ∷ [])
    (ap (λ (xs : List Change). put xs p) (assoc (map change.Stock cs) (change.Order (closed_order k)) (change.Sent n Shipment)) ∙ put_rest cs rest p)
    (record { rows = shipped_led k.reserved sheet p.rows t0 t1 sorted touched moved; advices = refl; orders = refl; documents = refl; next = record { entries = refl; recent = refl } })
    (ap (λ (xs : List Change). xs ++ change.Sent n Shipment ∷ []) (order_exact p q (closed_order k) k.number t1 sorted moved.sorted refl refl refl))

pub recounted_put : (n : ℕ) (sheet : List Line) (p : PageFacts) (t0 t1 : List LotRow) → IsSorted p.rows → IsTouched sheet p.rows t0 → SetsOnHand sheet t0 t1
    → Makes (IsRecounted n sheet p) (λ q. row_changes p q ++ change.Sent n Adjustment ∷ []) p (map change.Stock (changed_rows p.rows t1) ++ change.Sent n Adjustment ∷ [])
recounted_put n sheet p t0 t1 sorted touched moved =
    let cs = changed_rows p.rows t1 in
    let q : PageFacts = record p { rows = put_rows cs p.rows; documents = with_sent n (codes "AW") p.documents; recent = p.recent + 1 } in
    makes (IsRecounted n sheet p) (λ q. row_changes p q ++ change.Sent n Adjustment ∷ []) p q (rows_and cs (change.Sent n Adjustment ∷ [])) (put_rest cs (change.Sent n Adjustment ∷ []) p)
    (record { rows = set_led sheet p.rows t0 t1 sorted touched moved; advices = refl; orders = refl; documents = refl; next = record { entries = refl; recent = refl } })
    (ap (λ (xs : List Change). xs ++ change.Sent n Adjustment ∷ []) (ap (map change.Stock) (sym (rows_exact p.rows t1 sorted moved.sorted))))
