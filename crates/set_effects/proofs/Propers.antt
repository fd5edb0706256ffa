-- What the steps of a page change is proper.
use Rattle.std.proofs.Common.{◌≡◌, ℕ, ◌+◌, ◌≤◌, Bool, true, false, not, ◌&&◌, ◌||◌, cond, List, [], ◌∷◌, ◌++◌, map, Option, Some, None, Ok, Err, refl, sym, ap, ◌∙◌, subst, arith}
use Rattle.std.specs.Prelude.{Result, IfOk, is_some, is_none, bytes_eq, option_map, option_to_list, filter, fold, if◌then◌else◌, nat_le, nat_lt, ◌==◌}
use Rattle.std.specs.List.{list_any}
use borrow.Author.Tests.{eqb-true}
use Rattle.std.proofs.lemmas.Bool.{leb-true, and_parts, eq-eqb}
use Rattle.definitions.specs.Lists.{or_else}
use Rattle.definitions.specs.Means.{Line, Advice, Order, Acknowledgment}
use Rattle.definitions.specs.Rows.{LotRow}
use Rattle.definitions.specs.Clerk.{counted, picked}
use Rattle.definitions.specs.Events.{Event, Advised, Ordered, Counted, Picked, expiry, advice_if, advice_under, Reserved, order_if, order_under, counts, picks, advice_fault, order_fault}
use Rattle.definitions.specs.Register.{Count, Pick}
use Rattle.definitions.specs.Page.{PageAdvice, PageOrder, PageDocument, reserved_lines}
use Rattle.definitions.proofs.TextLaws.{same_text}
use Rattle.stock.specs.Keyed.{key_before, rises_by}
use Rattle.stock.specs.OfPairs.{date_of_pair, changed_rows}
use Rattle.stock.specs.Pages.{PageFacts, AreSorted, advice_at, order_at, document_at}
use Rattle.stock.specs.Puts.{put, put_change}
use Rattle.stock.specs.Shows.{Shows}
use Rattle.stock.specs.Steps.{decides}
use Rattle.stock.specs.Stops.{row_changes, advice_changes, order_changes, document_changes}
use Rattle.stock.specs.declared.steps.Change.{Change}
use Rattle.stock.specs.declared.steps.Change.TheVariants.{Stock, Advice as Announces, Order as Orders, Sent, Document}
use Rattle.stock.specs.Function.{Function}
use Rattle.stock.specs.Function.TheVariants.{Receipt, Shipment, Adjustment}
use Rattle.stock.proofs.Finds.{first_found_push}
use Rattle.stock.proofs.Views.{seen_advice, seen_order, advice_seen, order_seen, uncounted, unpicked, advice_view, order_view, advice_found_under, order_found_under}
use Rattle.stock.proofs.Events.{any_push}
use Rattle.stock.proofs.KeyLemmas.{pairs_strict}
use Rattle.set_effects.specs.Proper.{KeepsDate, IsProper, IsProperAdvice, IsProperOrder, AreProper, pair_of}
use Rattle.set_effects.proofs.Added.{advice_new, order_new, of_performed}
use Rattle.set_effects.proofs.KeyedLists.{order_rises}
use Rattle.set_effects.proofs.Dates.{Dates, AreKept, AreDated, dates_kept, kept_put, changed_dated}
use Rattle.set_effects.proofs.TableChanges.{sorted_with_all}

-- Lists of changes.

-- changes look at no count of events, and leave the number of entries

pub entries_kept : (cs : List Change) (p : PageFacts) → (fold put_change p cs).entries ≡ p.entries
entries_kept [] p = refl
entries_kept (Stock row ∷ cs) p = entries_kept cs (put_change p (Stock row))
entries_kept (Announces k ∷ cs) p = entries_kept cs (put_change p (Announces k))
entries_kept (Orders k ∷ cs) p = entries_kept cs (put_change p (Orders k))
entries_kept (Sent m f ∷ cs) p = entries_kept cs (put_change p (Sent m f))
entries_kept (Document m accepts ∷ cs) p = entries_kept cs (put_change p (Document m accepts))

proper_recent : (cs : List Change) (p : PageFacts) (r : ℕ) → AreProper (record p { recent = r }) cs → AreProper p cs
proper_recent [] p r h = tt
proper_recent (Stock row ∷ cs) p r h = (h.0, proper_recent cs (put_change p (Stock row)) r h.1)
proper_recent (Announces k ∷ cs) p r h = (h.0, proper_recent cs (put_change p (Announces k)) r h.1)
proper_recent (Orders k ∷ cs) p r h = (h.0, proper_recent cs (put_change p (Orders k)) r h.1)
proper_recent (Sent m f ∷ cs) p r h = (h.0, proper_recent cs (put_change p (Sent m f)) r h.1)
proper_recent (Document m accepts ∷ cs) p r h = (h.0, proper_recent cs (put_change p (Document m accepts)) r h.1)

-- one list after another
pub proper_both : (cs ds : List Change) (p : PageFacts) → AreProper p cs → AreProper (fold put_change p cs) ds → AreProper p (cs ++ ds)
proper_both [] ds p first second = second
proper_both (c ∷ cs) ds p first second = (first.0, proper_both cs ds (put_change p c) first.1 second)

pub proper_led : (ds : List Change) (old mid : PageFacts) (cs : List Change) → mid ≡ record (fold put_change old cs) { entries = old.entries; recent = mid.recent }
    → AreProper mid ds → AreProper (fold put_change old cs) ds
proper_led ds old mid cs led proper =
    let q = fold put_change old cs in
    let there : AreProper (record q { entries = old.entries; recent = mid.recent }) ds = subst (λ (x : PageFacts). AreProper x ds) led proper in
    proper_recent ds q mid.recent (subst (λ (n : ℕ). AreProper (record q { entries = n; recent = mid.recent }) ds) (sym (entries_kept cs old)) there)

-- rows that keep the dates of a page
record KeepDates (p : PageFacts) (rows : List LotRow) : Type 0 where
  known : Dates
  kept : AreKept known p.rows
  dated : AreDated known rows

-- those that change where an event comes
keep_dates : (p : PageFacts) (es : List Event) (e : Event) (cs : List Change) → AreSorted p → Shows p es → Shows (put cs p) (es ++ e ∷ [])
    → KeepDates p (changed_rows p.rows (put cs p).rows)
keep_dates p es e cs sorted shows next = record {
  known = expiry (es ++ e ∷ []);
  kept = dates_kept p es e shows;
  dated = changed_dated p.rows (put cs p) (es ++ e ∷ []) (sorted_with_all cs p sorted).rows next;
}

later_first : (r : LotRow) (rows : List LotRow) (p : PageFacts) → KeepDates p (r ∷ rows) → KeepDates (put_change p (Stock r)) rows
later_first r rows p keep = record { known = keep.known; kept = kept_put keep.known r p.rows keep.dated.0 keep.kept; dated = keep.dated.1 }

row_proper : (r : LotRow) (rows : List LotRow) (p : PageFacts) → KeepDates p (r ∷ rows) → IsProper p (Stock r)
row_proper r rows p keep = subst (KeepsDate (date_of_pair r.item r.lot p.rows)) (sym keep.dated.0) (keep.kept r.item r.lot)

-- rows are put in first
rows_first : (rows : List LotRow) (p : PageFacts) (more : List Change) → KeepDates p rows → ((rs : List LotRow) → AreProper (record p { rows = rs }) more) → AreProper p (map Stock rows ++ more)
rows_first [] p more keep h = h p.rows
rows_first (r ∷ rows) p more keep h = (row_proper r rows p keep, rows_first rows (put_change p (Stock r)) more (later_first r rows p keep) h)

-- after the rows what was found, and more
row_one : (rows : List LotRow) (p : PageFacts) (c : Change) (more : List Change) → KeepDates p rows
    → ((rs : List LotRow) → IsProper (record p { rows = rs }) c × AreProper (put_change (record p { rows = rs }) c) more)
    → AreProper p ((map Stock rows ++ c ∷ []) ++ more)
row_one [] p c more keep h = h p.rows
row_one (r ∷ rows) p c more keep h = (row_proper r rows p keep, row_one rows (put_change p (Stock r)) c more (later_first r rows p keep) h)

-- Advices.

advice_one : (p : PageFacts) (rows : List LotRow) (o : Option PageAdvice) (k : PageAdvice) → KeepDates p rows → o ≡ Some k → IsProperAdvice (advice_at k.shipment p.advices) k
    → AreProper p (map Stock rows ++ option_to_list (option_map Announces o))
advice_one p rows o k keep is proper =
    subst (λ (x : Option PageAdvice). AreProper p (map Stock rows ++ option_to_list (option_map Announces x))) (sym is) (rows_first rows p (Announces k ∷ []) keep (λ rs. (proper, tt)))

advice_sent : (p : PageFacts) (rows : List LotRow) (o : Option PageAdvice) (k : PageAdvice) (f : Function) → KeepDates p rows → o ≡ Some k → IsProperAdvice (advice_at k.shipment p.advices) k
    → AreProper p ((map Stock rows ++ option_to_list (option_map Announces o)) ++ Sent (p.entries + 1) f ∷ [])
advice_sent p rows o k f keep is proper =
    subst (λ (x : Option PageAdvice). AreProper p ((map Stock rows ++ option_to_list (option_map Announces x)) ++ Sent (p.entries + 1) f ∷ [])) (sym is)
    (row_one rows p (Announces k) (Sent (p.entries + 1) f ∷ []) keep (λ rs. (proper, (refl, tt))))

-- what is found of an advice on a page
advice_there : (p : PageFacts) (es : List Event) (s : List ℕ) (o : Option Advice) → Shows p es → advice_under s es ≡ o → advice_at s p.advices ≡ advice_seen o (uncounted s es)
advice_there p es s o shows found = shows.advices s ∙ advice_view s es ∙ ap (λ (x : Option Advice). advice_seen x (uncounted s es)) found

uncounted_new : (p : PageFacts) (es : List Event) (s : List ℕ) (a : Advice) → Shows p es → advice_under s es ≡ None → uncounted s (es ++ Advised a ∷ []) ≡ true
uncounted_new p es s a shows none = ap not (any_push (counts s) es (Advised a) ∙ ap (λ (b : Bool). b || false) (shows.counted s none))

pub announced_proper : (p : PageFacts) (es : List Event) (a : Advice) (cs : List Change) → AreSorted p → Shows p es → advice_fault es a ≡ None → Shows (put cs p) (es ++ Advised a ∷ [])
    → cs ≡ advice_changes a.shipment p (put cs p) → AreProper p cs
announced_proper p es a cs sorted shows good next is =
    let s = a.shipment in
    let new = put cs p in
    let fs = es ++ Advised a ∷ [] in
    let none = advice_new es a good in
    let old : advice_at s p.advices ≡ None = advice_there p es s None shows none in
    let found : advice_under s fs ≡ Some a =
    first_found_push (advice_if s) es (Advised a) ∙ ap (λ (o : Option Advice). or_else o (advice_if s (Advised a))) none ∙ ap (λ (b : Bool). if b then Some a else None) (same_text s) in
    let there : advice_at s new.advices ≡ Some (seen_advice true a) = advice_there new fs s (Some a) next found ∙ ap (λ (b : Bool). Some (seen_advice b a)) (uncounted_new p es s a shows none) in
    subst (AreProper p) (sym is)
    (advice_one p _ (advice_at s new.advices) (seen_advice true a) (keep_dates p es (Advised a) cs sorted shows next) there (subst (λ (o : Option PageAdvice). IsProperAdvice o (seen_advice true a)) (sym old) refl))

counted_now : (es : List Event) (n : ℕ) (s : List ℕ) (a : Advice) (sheet : List Line) → a.shipment ≡ s → uncounted s (es ++ Counted n a sheet ∷ []) ≡ false
counted_now es n s a sheet under =
    let here : counts s (Counted n a sheet) ≡ true = ap (λ (t : List ℕ). bytes_eq t s) under ∙ same_text s in
    ap not (any_push (counts s) es (Counted n a sheet) ∙ ap (λ (b : Bool). list_any (counts s) es || b) here ∙ or_true (list_any (counts s) es))
  where
    or_true : (b : Bool) → (b || true) ≡ true
    or_true true = refl
    or_true false = refl

pub counted_proper : (p : PageFacts) (es : List Event) (s : List ℕ) (sheet : List Line) (e : Event) (cs : List Change) → AreSorted p → Shows p es → counted es (p.entries + 1) s sheet ≡ Ok e
    → Shows (put cs p) (es ++ e ∷ []) → cs ≡ advice_changes s p (put cs p) ++ Sent (p.entries + 1) Receipt ∷ [] → AreProper p cs
counted_proper p es s sheet e cs sorted shows made next is =
    let n = p.entries + 1 in
    let new = put cs p in
    let done = of_performed es n (Count s sheet) e made in
    let a = done.0 in
    let under = advice_found_under s es a done.1 in
    let shown : Shows new (es ++ Counted n a sheet ∷ []) = subst (λ (x : Event). Shows new (es ++ x ∷ [])) done.3 next in
    let found : advice_under s (es ++ Counted n a sheet ∷ []) ≡ Some a = first_found_push (advice_if s) es (Counted n a sheet) ∙ ap (λ (o : Option Advice). or_else o None) done.1 in
    let there : advice_at s new.advices ≡ Some (seen_advice false a) =
    advice_there new (es ++ Counted n a sheet ∷ []) s (Some a) shown found ∙ ap (λ (b : Bool). Some (seen_advice b a)) (counted_now es n s a sheet under) in
    let old : advice_at a.shipment p.advices ≡ Some (seen_advice (uncounted s es) a) = ap (λ (t : List ℕ). advice_at t p.advices) under ∙ advice_there p es s (Some a) shows done.1 in
    subst (AreProper p) (sym is)
    (advice_sent p _ (advice_at s new.advices) (seen_advice false a) Receipt (keep_dates p es e cs sorted shows next) there (subst (λ (o : Option PageAdvice). IsProperAdvice o (seen_advice false a)) (sym old) refl))

-- Orders.

order_one : (p : PageFacts) (rows : List LotRow) (o : Option PageOrder) (k : PageOrder) → KeepDates p rows → o ≡ Some k → IsProperOrder (order_at k.number p.orders) k
    → AreProper p (map Stock rows ++ option_to_list (option_map Orders o))
order_one p rows o k keep is proper =
    subst (λ (x : Option PageOrder). AreProper p (map Stock rows ++ option_to_list (option_map Orders x))) (sym is) (rows_first rows p (Orders k ∷ []) keep (λ rs. (proper, tt)))

order_sent : (p : PageFacts) (rows : List LotRow) (o : Option PageOrder) (k : PageOrder) (f : Function) → KeepDates p rows → o ≡ Some k → IsProperOrder (order_at k.number p.orders) k
    → AreProper p ((map Stock rows ++ option_to_list (option_map Orders o)) ++ Sent (p.entries + 1) f ∷ [])
order_sent p rows o k f keep is proper =
    subst (λ (x : Option PageOrder). AreProper p ((map Stock rows ++ option_to_list (option_map Orders x)) ++ Sent (p.entries + 1) f ∷ [])) (sym is)
    (row_one rows p (Orders k) (Sent (p.entries + 1) f ∷ []) keep (λ rs. (proper, (refl, tt))))

order_there : (p : PageFacts) (es : List Event) (s : List ℕ) (o : Option Reserved) → Shows p es → order_under s es ≡ o → order_at s p.orders ≡ order_seen o (unpicked s es)
order_there p es s o shows found = shows.orders s ∙ order_view s es ∙ ap (λ (x : Option Reserved). order_seen x (unpicked s es)) found

unpicked_new : (p : PageFacts) (es : List Event) (s : List ℕ) (o : Order) (shares : List Line) → Shows p es → order_under s es ≡ None → unpicked s (es ++ Ordered o shares ∷ []) ≡ true
unpicked_new p es s o shares shows none = ap not (any_push (picks s) es (Ordered o shares) ∙ ap (λ (b : Bool). b || false) (shows.picked s none))

-- what is reserved stands by its pairs
shares_rise : (shares : List Line) → rises_by key_before pair_of (reserved_lines shares) ≡ true
shares_rise shares = order_rises key_before pairs_strict pair_of (filter (λ (l : Line). nat_lt 0 l.quantity) shares)

pub ordered_proper : (p : PageFacts) (es : List Event) (o : Order) (shares : List Line) (cs : List Change) → AreSorted p → Shows p es → order_fault es o ≡ None → Shows (put cs p) (es ++ Ordered o shares ∷ [])
    → cs ≡ order_changes o.number p (put cs p) → AreProper p cs
ordered_proper p es o shares cs sorted shows good next is =
    let s = o.number in
    let new = put cs p in
    let r : Reserved = record { order = o; shares = shares } in
    let fs = es ++ Ordered o shares ∷ [] in
    let none = order_new es o good in
    let old : order_at s p.orders ≡ None = order_there p es s None shows none in
    let found : order_under s fs ≡ Some r =
    first_found_push (order_if s) es (Ordered o shares) ∙ ap (λ (x : Option Reserved). or_else x (order_if s (Ordered o shares))) none ∙ ap (λ (b : Bool). if b then Some r else None) (same_text s) in
    let there : order_at s new.orders ≡ Some (seen_order true r) = order_there new fs s (Some r) next found ∙ ap (λ (b : Bool). Some (seen_order b r)) (unpicked_new p es s o shares shows none) in
    subst (AreProper p) (sym is)
    (order_one p _ (order_at s new.orders) (seen_order true r) (keep_dates p es (Ordered o shares) cs sorted shows next) there (subst (λ (x : Option PageOrder). IsProperOrder x (seen_order true r)) (sym old) (refl, shares_rise shares)))

picked_now : (es : List Event) (n : ℕ) (s : List ℕ) (r : Reserved) (sheet : List Line) → r.order.number ≡ s → unpicked s (es ++ Picked n r.order r.shares sheet ∷ []) ≡ false
picked_now es n s r sheet under =
    let here : picks s (Picked n r.order r.shares sheet) ≡ true = ap (λ (t : List ℕ). bytes_eq t s) under ∙ same_text s in
    ap not (any_push (picks s) es (Picked n r.order r.shares sheet) ∙ ap (λ (b : Bool). list_any (picks s) es || b) here ∙ or_true (list_any (picks s) es))
  where
    or_true : (b : Bool) → (b || true) ≡ true
    or_true true = refl
    or_true false = refl

pub picked_proper : (p : PageFacts) (es : List Event) (s : List ℕ) (sheet : List Line) (e : Event) (cs : List Change) → AreSorted p → Shows p es → picked es (p.entries + 1) s sheet ≡ Ok e
    → Shows (put cs p) (es ++ e ∷ []) → cs ≡ order_changes s p (put cs p) ++ Sent (p.entries + 1) Shipment ∷ [] → AreProper p cs
picked_proper p es s sheet e cs sorted shows made next is =
    let n = p.entries + 1 in
    let new = put cs p in
    let done = of_performed es n (Pick s sheet) e made in
    let r = done.0 in
    let fs = es ++ Picked n r.order r.shares sheet ∷ [] in
    let under = order_found_under s es r done.1 in
    let shown : Shows new fs = subst (λ (x : Event). Shows new (es ++ x ∷ [])) done.3 next in
    let found : order_under s fs ≡ Some r = first_found_push (order_if s) es (Picked n r.order r.shares sheet) ∙ ap (λ (o : Option Reserved). or_else o None) done.1 in
    let there : order_at s new.orders ≡ Some (seen_order false r) =
    order_there new fs s (Some r) shown found ∙ ap (λ (b : Bool). Some (seen_order b r)) (picked_now es n s r sheet under) in
    let old : order_at r.order.number p.orders ≡ Some (seen_order (unpicked s es) r) = ap (λ (t : List ℕ). order_at t p.orders) under ∙ order_there p es s (Some r) shows done.1 in
    subst (AreProper p) (sym is)
    (order_sent p _ (order_at s new.orders) (seen_order false r) Shipment (keep_dates p es e cs sorted shows next) there (subst (λ (o : Option PageOrder). IsProperOrder o (seen_order false r)) (sym old) refl))

-- Recounts and acknowledgments.

pub recounted_proper : (p : PageFacts) (es : List Event) (e : Event) (cs : List Change) → AreSorted p → Shows p es → Shows (put cs p) (es ++ e ∷ [])
    → cs ≡ row_changes p (put cs p) ++ Sent (p.entries + 1) Adjustment ∷ [] → AreProper p cs
recounted_proper p es e cs sorted shows next is =
    subst (AreProper p) (sym is) (rows_first _ p (Sent (p.entries + 1) Adjustment ∷ []) (keep_dates p es e cs sorted shows next) (λ rs. (refl, tt)))

decided : (n : ℕ) (a : Acknowledgment) (ds : List PageDocument) → list_any (decides n a) ds ≡ true → (a.document ≤ n) × (is_some (document_at a.document ds) ≡ true)
decided n a [] h = absurd (cc (h))
decided n a (d ∷ ds) h = by (decides n a d) (a.document == d.n) refl refl (decided n a ds) h
  where
    by : (v w : Bool) → decides n a d ≡ v → (a.document == d.n) ≡ w → (list_any (decides n a) ds ≡ true → (a.document ≤ n) × (is_some (document_at a.document ds) ≡ true))
        → (v || list_any (decides n a) ds) ≡ true → (a.document ≤ n) × (is_some (document_at a.document (d ∷ ds)) ≡ true)
    by true true e f later g =
        let same : a.document ≡ d.n = eqb-true a.document d.n f in
        let parts = and_parts (nat_le d.n n && a.document == d.n && bytes_eq a.function d.function) (is_none d.said) e in
        let parts2 = and_parts (nat_le d.n n && a.document == d.n) (bytes_eq a.function d.function) parts.0 in
        let parts3 = and_parts (nat_le d.n n) (a.document == d.n) parts2.0 in
        (omega (arith, leb-true d.n n parts3.0, same), ap (λ (b : Bool). is_some (cond b (Some d) (document_at a.document ds))) (eq-eqb d.n a.document (sym same)))
    by true false e f later g =
        let parts = and_parts (nat_le d.n n && a.document == d.n && bytes_eq a.function d.function) (is_none d.said) e in
        let parts2 = and_parts (nat_le d.n n && a.document == d.n) (bytes_eq a.function d.function) parts.0 in
        let parts3 = and_parts (nat_le d.n n) (a.document == d.n) parts2.0 in
        absurd (cc (f, parts3.1))
    by false w e f later g = ((later g).0, by_number (d.n == a.document))
      where
        by_number : (b : Bool) → is_some (cond b (Some d) (document_at a.document ds)) ≡ true
        by_number true = refl
        by_number false = (later g).1

pub acknowledged_proper : (p : PageFacts) (a : Acknowledgment) (cs : List Change) → cs ≡ document_changes p a → AreProper p cs
acknowledged_proper p a cs is = subst (AreProper p) (sym is) (by (list_any (decides p.entries a) p.documents) refl)
  where
    by : (b : Bool) → list_any (decides p.entries a) p.documents ≡ b → AreProper p (if b then Document a.document a.accepts ∷ [] else [])
    by true e = (decided p.entries a p.documents e, tt)
    by false e = tt

-- two facts of a result
pub both_ok : {X Y : Type 0} (r : Result X Y) (P Q R : X → Type 0) → ((x : X) → P x → Q x → R x) → IfOk r P → IfOk r Q → IfOk r R
both_ok (Ok x) P Q R f p q = f x p q
both_ok (Err y) P Q R f p q = tt
