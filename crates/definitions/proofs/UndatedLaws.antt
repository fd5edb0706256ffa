-- Under rules 1 no advice gives an expiry, and so no pair has one.
use Rattle.std.proofs.Common.{◌≡◌, ℕ, suc, ◌+◌, ◌-◌, ◌≤◌, Bool, true, false, not, cond, ◌&&◌, ◌||◌, List, [], ◌∷◌, ◌++◌, map, length, refl, sym, ap, ◌∙◌, arith, Some, None, Option, option_map, is_none, unwrap_or, Result, Ok, Err, bytes_eq, codes, append_assoc, length-append}
use Rattle.std.specs.Prelude.{◌==◌, nat_lt, fold, filter, filter_map, flat_map, slice_get, option_and_then, option_to_list}
use Rattle.std.specs.List.{list_any, list_all, enumerate_from}
use Rattle.std.specs.Cmp.Derive.{both_true}
use Rattle.std.proofs.lemmas.List.Folds.{list_all-append, list_all-map}
use Rattle.std.proofs.lemmas.List.Concat.{flat_map-cons}
use Rattle.definitions.specs.declared.rules.Rules.TheVariants.{One}
use Rattle.definitions.specs.Bytes.{Delims}
use Rattle.definitions.specs.Lists.{or_else, first_found}
use Rattle.definitions.specs.Cut.{cut, Segment, element, id_of, has_id, places_of}
use Rattle.definitions.specs.Header.{delims_of}
use Rattle.definitions.specs.Words.{Words, kind_words, has_word, words_after}
use Rattle.definitions.specs.declared.set_kind.SetKind.{SetKind}
use Rattle.definitions.specs.declared.set_kind.SetKind.TheVariants.{ShippingOrder, ShipmentAdvice, FunctionalAcknowledgment}
use Rattle.definitions.specs.Elements.{plain_lot_rows, segment_rows, rows_in, ElementRow, ElementFault, element_fault, faulty_element, least_element_fault}
use Rattle.definitions.specs.Faults.{SetFault, inner_fault, place_fault, fault_at, fault_from, set_fault}
use Rattle.definitions.specs.Structure.{Set, Group, groups_of, kind_of, group_fault, examined}
use Rattle.definitions.specs.Means.{Line, AdviceLine, Advice, expiry_of, advice_line, advice_of, order_of}
use Rattle.definitions.specs.Register.{Act, Count, Pick, Recount, Deed, Enrolled, Received, Performed, Entry, is_first}
use Rattle.definitions.specs.Events.{Event, Enrolment, Advised, Ordered, Acknowledged, Counted, Picked, Recounted, is_pair, date_given, date_naming, expiry, advice_fault, order_fault, advice_under, Reserved, order_under, since}
use Rattle.definitions.specs.Movements.{OnHand, Reservation, balance}
use Rattle.definitions.specs.Clerk.{performed, counted, picked, on_hand_now}
use Rattle.definitions.specs.Refusals.{Refusal, AdviceClosed, OrderClosed, NotReserved, UnknownLot, BelowReserved, NoDifference}
use Rattle.definitions.specs.History.{Rejection, unless, traded, judged, Verdict, event_of, by_segment, outcome_of, verdicts_on, telling_of, events_told, tellings_on, events_added, History, after_entry, events}
use Rattle.definitions.proofs.TextLaws.{both_parts, text_is}
use Rattle.definitions.proofs.FaultsLaws.{set_fault-from}
use Rattle.definitions.proofs.RegisterLaws.{first_is}

-- ---- segments

or_else_none : {X : Type 0} (a b : Option X) → or_else a b ≡ None → (a ≡ None) × (b ≡ None)
or_else_none None b h = (refl, h)
or_else_none (Some x) b h = absurd (cc)

mapped_none : {X Y : Type 0} (f : X → Y) (o : Option X) → option_map f o ≡ None → o ≡ None
mapped_none f None h = refl
mapped_none f (Some x) h = absurd (cc)

-- elements without fault aren't more than the rows
within_rows : (d : Delims) (place : ℕ) (rows : List ElementRow) (es : List (List ℕ)) → least_element_fault d place rows es ≡ None → length es ≤ length rows
within_rows d place [] [] h = omega arith
within_rows d place [] (e ∷ es) h = absurd (cc)
within_rows d place (row ∷ rows) [] h = omega arith
within_rows d place (row ∷ rows) (e ∷ es) h =
    let p = or_else_none (option_map (λ code. record { place = place; code = code }) (element_fault d row e)) (least_element_fault d (place + 1) rows es) h in
    omega (arith, within_rows d (place + 1) rows es p.1)

fifth : (a : List ℕ) (es : List (List ℕ)) → length es ≤ 3 → element (a ∷ es) 4 ≡ []
fifth a [] h = refl
fifth a (b ∷ []) h = refl
fifth a (b ∷ c ∷ []) h = refl
fifth a (b ∷ c ∷ e ∷ []) h = refl
fifth a (b ∷ c ∷ e ∷ f ∷ more) h = absurd (omega (arith, h))

-- a lot's N9 without fault has no fourth element
no_fourth : (d : Delims) (s : Segment) → faulty_element d plain_lot_rows s ≡ None → element s 4 ≡ []
no_fourth d [] h = refl
no_fourth d (a ∷ es) h = fifth a es (within_rows d 1 plain_lot_rows es h)

abbrev told_at : List ℕ → ℕ → ElementFault → SetFault
told_at id position f = record { id = id; position = position; code = 8; element = Some f }

undated_lot : (d : Delims) (position : ℕ) (s : Segment) → inner_fault One d (codes "W04") position s ≡ None → expiry_of s ≡ None
undated_lot d position s h = by_test (has_id (codes "N9") s) refl
  where
    by_test : (b : Bool) → has_id (codes "N9") s ≡ b → expiry_of s ≡ None
    by_test true e =
        let inner : option_map (told_at (id_of s) position) (faulty_element d plain_lot_rows s) ≡ None =
        ap (λ (b : Bool). option_map (told_at (id_of s) position) (option_and_then (λ rows. faulty_element d rows s) (cond (b && true) (Some plain_lot_rows) (rows_in (segment_rows One) (id_of s))))) (sym e) ∙ h in
        let none = no_fourth d s (mapped_none (told_at (id_of s) position) (faulty_element d plain_lot_rows s) inner) in
        λ i. cond (e i && nat_lt 0 (length (none i))) (Some (none i)) None
    by_test false e = ap (λ (b : Bool). cond (b && nat_lt 0 (length (element s 4))) (Some (element s 4)) None) e

-- no N9 directly after a W04 gives a date; `after` is the id before these segments
abbrev pub gives_none : List ℕ → List Segment → Bool
gives_none previous [] = true
gives_none previous (s ∷ ss) = (not (bytes_eq previous (codes "W04")) || is_none (expiry_of s)) && gives_none (id_of s) ss

faultless_gives_none : (d : Delims) (words rest : Words) (previous : List ℕ) (position : ℕ) (ss : List Segment)
    → fault_from One d words rest previous position ss ≡ None → gives_none previous ss ≡ true
faultless_gives_none d words rest previous position [] h = refl
faultless_gives_none d words rest previous position (s ∷ ss) h =
    let p = or_else_none (fault_at One d words rest previous position s) _ h in
    both_true (by_after p.0 (bytes_eq previous (codes "W04")) refl)
    (faultless_gives_none d words (words_after (id_of s) rest) (id_of s) (position + 1) ss p.1)
  where
    in_place : fault_at One d words rest previous position s ≡ None → (b : Bool) → has_word (words_after (id_of s) rest) ≡ b → inner_fault One d previous position s ≡ None
    in_place k true e = ap (λ b. cond b (inner_fault One d previous position s) (Some (place_fault One words rest position (id_of s)))) (sym e) ∙ k
    in_place k false e =
        let out : Some (place_fault One words rest position (id_of s)) ≡ None =
        ap (λ b. cond b (inner_fault One d previous position s) (Some (place_fault One words rest position (id_of s)))) (sym e) ∙ k in
        absurd (cc)

    by_after : fault_at One d words rest previous position s ≡ None → (b : Bool) → bytes_eq previous (codes "W04") ≡ b
        → (not (bytes_eq previous (codes "W04")) || is_none (expiry_of s)) ≡ true
    by_after k false e = ap (λ b. not b || is_none (expiry_of s)) e
    by_after k true e =
        let inner = in_place k (has_word (words_after (id_of s) rest)) refl in
        let none = undated_lot d position s (ap (λ x. inner_fault One d x position s) (sym (text_is previous (codes "W04") e)) ∙ inner) in
        λ i. not (e i) || is_none (none i)

-- ---- advices

get_next : (before : List Segment) (s : Segment) (ss : List Segment) → slice_get (before ++ s ∷ ss) (suc (length before)) ≡ slice_get ss 0
get_next [] s ss = refl
get_next (b ∷ bs) s ss = get_next bs s ss

abbrev undated_at : List Segment → ℕ → Bool
undated_at ss position = is_none ((advice_line ss position).expiry)

first_undated : (s : Segment) (ss : List Segment) → has_id (codes "W04") s ≡ true → gives_none (id_of s) ss ≡ true
    → is_none (expiry_of (unwrap_or (slice_get ss 0) [])) ≡ true
first_undated s [] e h = refl
first_undated s (t ∷ ts) e h =
    let q = both_parts (not (bytes_eq (id_of s) (codes "W04")) || is_none (expiry_of t)) (gives_none (id_of t) ts) h in
    ap (λ b. not b || is_none (expiry_of t)) (sym e) ∙ q.0

next_undated : (before : List Segment) (s : Segment) (ss : List Segment) → has_id (codes "W04") s ≡ true → gives_none (id_of s) ss ≡ true
    → undated_at (before ++ s ∷ ss) (length before + 1) ≡ true
next_undated before s ss e h =
    let place : (length before + 1) + 1 - 1 ≡ suc (length before) = omega arith in
    ap (λ k. is_none (expiry_of (unwrap_or (slice_get (before ++ s ∷ ss) k) []))) place
    ∙ ap (λ o. is_none (expiry_of (unwrap_or o []))) (get_next before s ss)
    ∙ first_undated s ss e h

lines_undated : (before ss : List Segment) (previous : List ℕ) → gives_none previous ss ≡ true
    → list_all (undated_at (before ++ ss)) (map (λ (p : ℕ × Segment). p.0) (filter (λ (p : ℕ × Segment). has_id (codes "W04") p.1) (enumerate_from (length before + 1) ss))) ≡ true
lines_undated before [] previous h = refl
lines_undated before (s ∷ ss) previous h =
    let q = both_parts (not (bytes_eq previous (codes "W04")) || is_none (expiry_of s)) (gives_none (id_of s) ss) h in
    by_test (has_id (codes "W04") s) refl q.1 (rest (lines_undated (before ++ s ∷ []) ss (id_of s) q.1))
  where
    positions : ℕ → List Segment → List ℕ
    positions n xs = map (λ (p : ℕ × Segment). p.0) (filter (λ (p : ℕ × Segment). has_id (codes "W04") p.1) (enumerate_from n xs))

    rest : list_all (undated_at ((before ++ s ∷ []) ++ ss)) (positions (length (before ++ s ∷ []) + 1) ss) ≡ true
        → list_all (undated_at (before ++ s ∷ ss)) (positions ((length before + 1) + 1) ss) ≡ true
    rest more =
        let size : (length before + 1) + 1 ≡ length (before ++ s ∷ []) + 1 = omega (arith, length-append before (s ∷ [])) in
        ap (λ n. list_all (undated_at (before ++ s ∷ ss)) (positions n ss)) size
        ∙ ap (λ xs. list_all (undated_at xs) (positions (length (before ++ s ∷ []) + 1) ss)) (sym (append_assoc before (s ∷ []) ss))
        ∙ more

    by_test : (b : Bool) → has_id (codes "W04") s ≡ b → gives_none (id_of s) ss ≡ true
        → list_all (undated_at (before ++ s ∷ ss)) (positions ((length before + 1) + 1) ss) ≡ true
        → list_all (undated_at (before ++ s ∷ ss)) (positions (length before + 1) (s ∷ ss)) ≡ true
    by_test true e k more = rw e (both_true (next_undated before s ss e k) more)
    by_test false e k more = rw e more

-- the lines of a 943 without fault have no expiry
pub advice_of-undated : (d : Delims) (ss : List Segment) (kind : SetKind) → set_fault One d (kind_words One kind) ss ≡ None
    → list_all (λ (l : AdviceLine). is_none l.expiry) (advice_of ss).lines ≡ true
advice_of-undated d ss kind h =
    let none = faultless_gives_none d (kind_words One kind) (kind_words One kind) [] 1 ss (sym (set_fault-from One d (kind_words One kind) ss) ∙ h) in
    list_all-map (λ (l : AdviceLine). is_none l.expiry) (advice_line ss) (places_of (codes "W04") ss) ∙ lines_undated [] ss [] none

-- ---- events

abbrev pub is_undated : Event → Bool
is_undated (Advised a) = list_all (λ l. is_none l.expiry) a.lines
is_undated e = true

-- of a set or an act, if it is an event
abbrev is_good : {X : Type 0} → Result Event X → Bool
is_good (Ok e) = is_undated e
is_good (Err x) = true

unless_good : (o : Option SetFault) (e : Event) → is_undated e ≡ true → is_good (unless o e) ≡ true
unless_good None e h = h
unless_good (Some f) e h = refl

traded_good : (d : Delims) (es : List Event) (n : ℕ) (kind : SetKind) (ss : List Segment) → set_fault One d (kind_words One kind) ss ≡ None
    → is_good (traded One es n kind ss) ≡ true
traded_good d es n ShipmentAdvice ss h = unless_good (advice_fault es (advice_of ss)) (Advised (advice_of ss)) (advice_of-undated d ss ShipmentAdvice h)
traded_good d es n ShippingOrder ss h = unless_good (order_fault es (order_of ss)) _ refl
traded_good d es n FunctionalAcknowledgment ss h = refl

judged_good : (d : Delims) (es : List Event) (n : ℕ) (kind : SetKind) (ss : List Segment) → is_good (judged One d es n kind ss) ≡ true
judged_good d es n kind ss = by_fault (set_fault One d (kind_words One kind) ss) refl
  where
    by_fault : (o : Option SetFault) → set_fault One d (kind_words One kind) ss ≡ o → is_good (judged One d es n kind ss) ≡ true
    by_fault None e = rw e (traded_good d es n kind ss e)
    by_fault (Some f) e = rw e refl

segment_good : (x : Result Event SetFault) → is_good x ≡ true → is_good (by_segment x) ≡ true
segment_good (Ok e) h = h
segment_good (Err f) h = refl

outcome_good : (d : Delims) (es : List Event) (n : ℕ) (kind : Option SetKind) (code : Option ℕ) (s : Set) → is_good (outcome_of One d es n kind code s) ≡ true
outcome_good d es n kind (Some code) s = refl
outcome_good d es n None None s = refl
outcome_good d es n (Some kind) None s = segment_good (judged One d es n kind s.segments) (judged_good d es n kind s.segments)

abbrev are_undated : List Event → Bool
are_undated es = list_all is_undated es

verdict_good : (v : Verdict) (vs : List Verdict) → is_good v.outcome ≡ true → are_undated (filter_map event_of vs) ≡ true → are_undated (filter_map event_of (v ∷ vs)) ≡ true
verdict_good v vs h more = by_outcome v.outcome refl h
  where
    by_outcome : (o : Result Event Rejection) → v.outcome ≡ o → is_good o ≡ true → are_undated (filter_map event_of (v ∷ vs)) ≡ true
    by_outcome (Ok e) f k = rw f (both_true k more)
    by_outcome (Err r) f k = rw f more

verdicts_good : (d : Delims) (es : List Event) (n : ℕ) (kind : Option SetKind) (ps : List (Set × Option ℕ)) → are_undated (filter_map event_of (verdicts_on One d es n kind ps)) ≡ true
verdicts_good d es n kind [] = refl
verdicts_good d es n kind (p ∷ ps) =
    let v : Verdict = record { set = p.0; outcome = outcome_of One d es n kind p.1 p.0 } in
    let more = es ++ option_to_list (event_of v) in
    verdict_good v (verdicts_on One d more n kind ps) (outcome_good d es n kind p.1 p.0) (verdicts_good d more n kind ps)

telling_good : (d : Delims) (es : List Event) (n : ℕ) (g : Group) → are_undated (events_told (telling_of One d es n g)) ≡ true
telling_good d es n g = by_test (is_none (group_fault g)) refl
  where
    by_test : (b : Bool) → is_none (group_fault g) ≡ b → are_undated (events_told (telling_of One d es n g)) ≡ true
    by_test true e = rw e (verdicts_good d es n (kind_of g) (examined g))
    by_test false e = rw e refl

tellings_good : (d : Delims) (es : List Event) (n : ℕ) (gs : List Group) → are_undated (flat_map events_told (tellings_on One d es n gs)) ≡ true
tellings_good d es n [] = refl
tellings_good d es n (g ∷ gs) =
    let t = telling_of One d es n g in
    ap are_undated (flat_map-cons events_told t (tellings_on One d (es ++ events_told t) n gs))
    ∙ list_all-append is_undated (events_told t) (flat_map events_told (tellings_on One d (es ++ events_told t) n gs))
    ∙ both_true (telling_good d es n g) (tellings_good d (es ++ events_told t) n gs)

if_good : (b : Bool) (e : Event) (r : Refusal) → is_undated e ≡ true → is_good (cond b (Ok e) (Err r)) ≡ true
if_good true e r h = h
if_good false e r h = refl

unless_refused : (b : Bool) (r : Refusal) (x : Result Event Refusal) → is_good x ≡ true → is_good (cond b (Err r) x) ≡ true
unless_refused true r x h = refl
unless_refused false r x h = h

twice_refused : (a b : Bool) (e : Event) (q r : Refusal) → is_undated e ≡ true → is_good (cond a (Err q) (cond b (Err r) (Ok e))) ≡ true
twice_refused true b e q r h = refl
twice_refused false true e q r h = refl
twice_refused false false e q r h = h

counted_good : (es : List Event) (n : ℕ) (shipment : List ℕ) (sheet : List Line) → is_good (counted es n shipment sheet) ≡ true
counted_good es n shipment sheet = by_found (advice_under shipment es) refl
  where
    by_found : (o : Option Advice) → advice_under shipment es ≡ o → is_good (counted es n shipment sheet) ≡ true
    by_found None e = rw e refl
    by_found (Some a) e = rw e (if_good _ (Counted n a sheet) AdviceClosed refl)

picked_good : (es : List Event) (n : ℕ) (number : List ℕ) (sheet : List Line) → is_good (picked es n number sheet) ≡ true
picked_good es n number sheet = by_found (order_under number es) refl
  where
    by_found : (o : Option Reserved) → order_under number es ≡ o → is_good (picked es n number sheet) ≡ true
    by_found None e = rw e refl
    by_found (Some r) e = rw e (twice_refused _ _ (Picked n r.order r.shares sheet) OrderClosed NotReserved refl)

performed_good : (es : List Event) (n : ℕ) (act : Act) → is_good (performed es n act) ≡ true
performed_good es n (Count shipment sheet) = counted_good es n shipment sheet
performed_good es n (Pick number sheet) = picked_good es n number sheet
performed_good es n (Recount sheet) =
    let unknown = list_any (λ (l : Line). since es l.item l.lot == 0) sheet in
    let below = list_any (λ (l : Line). nat_lt l.quantity (balance es Reservation l.item l.lot)) sheet in
    let same = list_all (λ (l : Line). l.quantity == balance es OnHand l.item l.lot) sheet in
    let done : Result Event Refusal = Ok (Recounted n (on_hand_now es sheet) sheet) in
    let last : Result Event Refusal = cond same (Err NoDifference) done in
    unless_refused unknown UnknownLot (cond below (Err BelowReserved) last)
    (unless_refused below BelowReserved last (unless_refused same NoDifference done refl))

added_good : (es : List Event) (n : ℕ) (deed : Deed) → are_undated (events_added One es n deed) ≡ true
added_good es n Enrolled = refl
added_good es n (Received text) = tellings_good (delims_of text) es n (groups_of ((cut (delims_of text) text).segments))
added_good es n (Performed ticket act) = by_outcome (performed es n act) refl (performed_good es n act)
  where
    by_outcome : (o : Result Event Refusal) → performed es n act ≡ o → is_good (performed es n act) ≡ true → are_undated (events_added One es n (Performed ticket act)) ≡ true
    by_outcome (Ok e) f h = let k : is_undated e ≡ true = ap is_good (sym f) ∙ h in rw f (both_true k refl)
    by_outcome (Err r) f h = rw f refl

entry_good : (h : History) (e : Entry) → are_undated h.events ≡ true → is_first e ≡ true → are_undated (after_entry h e).events ≡ true
entry_good h e good first =
    list_all-append is_undated h.events (events_added e.rules h.events (h.numbered + 1) e.deed)
    ∙ both_true good (ap (λ r. are_undated (events_added r h.events (h.numbered + 1) e.deed)) (first_is e.rules first) ∙ added_good h.events (h.numbered + 1) e.deed)

history_good : (h : History) (M : List Entry) → are_undated h.events ≡ true → list_all is_first M ≡ true → are_undated (fold after_entry h M).events ≡ true
history_good h [] good first = good
history_good h (e ∷ M) good first =
    let p = both_parts (is_first e) (list_all is_first M) first in
    history_good (after_entry h e) M (entry_good h e good p.0) p.1

-- the events of entries under rules 1 give no date
pub events-undated : (M : List Entry) → list_all is_first M ≡ true → list_all is_undated (events M) ≡ true
events-undated M first = history_good (record { numbered = 0; events = [] }) M refl first

-- ---- expiries

none_is : {X : Type 0} (o : Option X) → is_none o ≡ true → o ≡ None
none_is None h = refl
none_is (Some x) h = absurd (cc)

no_date : (item lot : List ℕ) (ls : List AdviceLine) → list_all (λ (l : AdviceLine). is_none l.expiry) ls ≡ true → first_found (date_given item lot) ls ≡ None
no_date item lot [] h = refl
no_date item lot (l ∷ ls) h =
    let p = both_parts (is_none l.expiry) (list_all (λ (l : AdviceLine). is_none l.expiry) ls) h in
    by_test (is_pair item lot l.line) refl (none_is l.expiry p.0) (no_date item lot ls p.1)
  where
    by_test : (b : Bool) → is_pair item lot l.line ≡ b → l.expiry ≡ None → first_found (date_given item lot) ls ≡ None → first_found (date_given item lot) (l ∷ ls) ≡ None
    by_test true e f more = (λ i. or_else (cond (e i) (f i) None) (first_found (date_given item lot) ls)) ∙ more
    by_test false e f more = ap (λ b. or_else (cond b l.expiry None) (first_found (date_given item lot) ls)) e ∙ more

named_none : (item lot : List ℕ) (e : Event) → is_undated e ≡ true → date_naming item lot e ≡ None
named_none item lot Enrolment h = refl
named_none item lot (Advised a) h = no_date item lot a.lines h
named_none item lot (Ordered o shares) h = refl
named_none item lot (Acknowledged n a) h = refl
named_none item lot (Counted n a sheet) h = refl
named_none item lot (Picked n o shares sheet) h = refl
named_none item lot (Recounted n before sheet) h = refl

-- no pair of undated events has an expiry
pub expiry-undated : (es : List Event) (item lot : List ℕ) → list_all is_undated es ≡ true → expiry es item lot ≡ None
expiry-undated [] item lot h = refl
expiry-undated (e ∷ es) item lot h =
    let p = both_parts (is_undated e) (list_all is_undated es) h in
    ap (λ o. or_else o (expiry es item lot)) (named_none item lot e p.0) ∙ expiry-undated es item lot p.1

-- so none has one under rules 1
pub expiry-first : (M : List Entry) (item lot : List ℕ) → list_all is_first M ≡ true → expiry (events M) item lot ≡ None
expiry-first M item lot h = expiry-undated (events M) item lot (events-undated M h)
