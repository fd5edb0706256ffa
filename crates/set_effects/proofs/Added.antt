-- The events that an entry adds to those before it: of sets, each new where it stands, or of one
-- act.
use Rattle.std.proofs.Common.{◌≡◌, ℕ, Bool, true, false, not, List, [], ◌∷◌, ◌++◌, Option, Some, None, Ok, Err, refl, sym, subst, append_assoc, append-nil}
use Rattle.std.specs.Prelude.{Result, is_some, is_none, if◌then◌else◌, option_to_list, ◌==◌, nat_lt}
use Rattle.std.specs.List.{cons_option, list_any, list_all}
use Rattle.definitions.specs.declared.rules.Rules.{Rules}
use Rattle.definitions.specs.Bytes.{Delims}
use Rattle.definitions.specs.Cut.{Segment, cut}
use Rattle.definitions.specs.Words.{kind_words}
use Rattle.definitions.specs.declared.set_kind.SetKind.{SetKind}
use Rattle.definitions.specs.declared.set_kind.SetKind.TheVariants.{ShippingOrder, ShipmentAdvice, FunctionalAcknowledgment}
use Rattle.definitions.specs.Faults.{SetFault, set_fault}
use Rattle.definitions.specs.Lists.{first_present}
use Rattle.definitions.specs.Means.{Line, Advice, advice_of, Order, order_of}
use Rattle.definitions.specs.Structure.{Set, Group, kind_of, group_fault, examined, groups_of}
use Rattle.definitions.specs.Header.{delims_of}
use Rattle.definitions.specs.Events.{Event, Advised, Ordered, Acknowledged, Counted, Picked, Recounted, Reserved, advice_under, order_under, advice_fault, order_fault, fault_where, expiry, repeated_pair, redated_pair, sooner, repeated_item, wrong_advice_total, wrong_order_total, is_advice_open, is_order_open, quantity_of, since}
use Rattle.definitions.specs.Allotment.{order_shares}
use Rattle.definitions.specs.Movements.{OnHand, Reservation, balance}
use Rattle.definitions.specs.declared.refusals.Refusal.{Refusal}
use Rattle.definitions.specs.declared.refusals.Refusal.TheVariants.{UnknownAdvice, AdviceClosed, UnknownOrder, OrderClosed, NotReserved, UnknownLot, BelowReserved, NoDifference}
use Rattle.definitions.specs.Clerk.{counted, picked, recounted, performed, on_hand_now}
use Rattle.definitions.specs.History.{Rejection, event_of, unless, traded, judged, by_segment, outcome_of, verdicts_on, telling_of, events_told, tellings_on, events_added}
use Rattle.definitions.specs.Register.{Act, Count, Pick, Recount, Received}
use Rattle.set_effects.specs.Judging.{passed, told_events}
use Rattle.set_effects.proofs.Judges.{judged_sound, judged_faulty}

-- the event of a set after others: an advice and an order under a new number, an acknowledgment
-- under its entry's
abbrev pub IsOfSet : List Event → ℕ → Event → Type 0
IsOfSet es n (Advised a) = advice_under a.shipment es ≡ None
IsOfSet es n (Ordered o shares) = order_under o.number es ≡ None
IsOfSet es n (Acknowledged m a) = m ≡ n
IsOfSet es n e = ⊥

-- events of sets, one after another
abbrev pub AreOfSets : List Event → ℕ → List Event → Type 0
AreOfSets es n [] = Unit {0}
AreOfSets es n (e ∷ fs) = IsOfSet es n e × AreOfSets (es ++ e ∷ []) n fs

pub of_both : (es : List Event) (n : ℕ) (fs gs : List Event) → AreOfSets es n fs → AreOfSets (es ++ fs) n gs → AreOfSets es n (fs ++ gs)
of_both es n [] gs first second = subst (λ (hs : List Event). AreOfSets hs n gs) (append-nil es) second
of_both es n (e ∷ fs) gs first second =
    (first.0, of_both (es ++ e ∷ []) n fs gs first.1 (subst (λ (hs : List Event). AreOfSets hs n gs) (sym (append_assoc es (e ∷ []) fs)) second))

-- One set.

-- an outcome whose event, if it is one, is of a set
abbrev OfTrade : List Event → ℕ → Result Event SetFault → Type 0
OfTrade es n (Ok e) = IsOfSet es n e
OfTrade es n (Err f) = Unit {0}

abbrev OfSet : List Event → ℕ → Result Event Rejection → Type 0
OfSet es n (Ok e) = IsOfSet es n e
OfSet es n (Err r) = Unit {0}

none_known : {X : Type 0} (o : Option X) (f : SetFault) (fs : List (Option SetFault)) → first_present (fault_where (is_some o) f ∷ fs) ≡ None → o ≡ None
none_known None f fs h = refl
none_known (Some x) f fs h = absurd (cc (h))

pub advice_new : (es : List Event) (a : Advice) → advice_fault es a ≡ None → advice_under a.shipment es ≡ None
advice_new es a h = none_known (advice_under a.shipment es) _ (sooner (repeated_pair a) (redated_pair (expiry es) a) ∷ wrong_advice_total a ∷ []) h

pub order_new : (es : List Event) (o : Order) → order_fault es o ≡ None → order_under o.number es ≡ None
order_new es o h = none_known (order_under o.number es) _ (repeated_item o ∷ wrong_order_total o ∷ []) h

of_trade : (r : Rules) (es : List Event) (n : ℕ) (kind : SetKind) (ss : List Segment) → OfTrade es n (traded r es n kind ss)
of_trade r es n ShipmentAdvice ss = by (advice_fault es (advice_of ss)) refl
  where
    by : (o : Option SetFault) → advice_fault es (advice_of ss) ≡ o → OfTrade es n (unless o (Advised (advice_of ss)))
    by None e = advice_new es (advice_of ss) e
    by (Some f) e = tt
of_trade r es n ShippingOrder ss = by (order_fault es (order_of ss)) refl
  where
    by : (o : Option SetFault) → order_fault es (order_of ss) ≡ o → OfTrade es n (unless o (Ordered (order_of ss) (order_shares r es (order_of ss))))
    by None e = order_new es (order_of ss) e
    by (Some f) e = tt
of_trade r es n FunctionalAcknowledgment ss = refl

of_judged : (r : Rules) (d : Delims) (es : List Event) (n : ℕ) (kind : SetKind) (ss : List Segment) → OfTrade es n (judged r d es n kind ss)
of_judged r d es n kind ss = by (set_fault r d (kind_words r kind) ss) refl
  where
    by : (o : Option SetFault) → set_fault r d (kind_words r kind) ss ≡ o → OfTrade es n (judged r d es n kind ss)
    by None e = subst (OfTrade es n) (sym (judged_sound r d es n kind ss e)) (of_trade r es n kind ss)
    by (Some f) e = subst (OfTrade es n) (sym (judged_faulty r d es n kind ss f e)) tt

of_segment : (es : List Event) (n : ℕ) (r : Result Event SetFault) → OfTrade es n r → OfSet es n (by_segment r)
of_segment es n (Ok e) h = h
of_segment es n (Err f) h = tt

of_outcome : (r : Rules) (d : Delims) (es : List Event) (n : ℕ) (kind : Option SetKind) (code : Option ℕ) (s : Set) → OfSet es n (outcome_of r d es n kind code s)
of_outcome r d es n kind (Some code) s = tt
of_outcome r d es n None None s = tt
of_outcome r d es n (Some kind) None s = of_segment es n (judged r d es n kind s.segments) (of_judged r d es n kind s.segments)

-- Sets and groups, one after another.

one_more : (es : List Event) (n : ℕ) (s : Set) (r : Result Event Rejection) (more : List Event → List Event) → OfSet es n r → ((fs : List Event) → AreOfSets fs n (more fs))
    → AreOfSets es n (cons_option (event_of (record { set = s; outcome = r })) (more (es ++ option_to_list (event_of (record { set = s; outcome = r })))))
one_more es n s (Ok e) more h later = (h, later (es ++ e ∷ []))
one_more es n s (Err r) more h later = subst (λ (fs : List Event). AreOfSets fs n (more (es ++ []))) (append-nil es) (later (es ++ []))

of_verdicts : (r : Rules) (d : Delims) (es : List Event) (n : ℕ) (kind : Option SetKind) (ps : List (Set × Option ℕ)) → AreOfSets es n (passed (verdicts_on r d es n kind ps))
of_verdicts r d es n kind [] = tt
of_verdicts r d es n kind (p ∷ ps) =
    one_more es n p.0 (outcome_of r d es n kind p.1 p.0) (λ (fs : List Event). passed (verdicts_on r d fs n kind ps)) (of_outcome r d es n kind p.1 p.0) (λ fs. of_verdicts r d fs n kind ps)

of_telling : (r : Rules) (d : Delims) (es : List Event) (n : ℕ) (g : Group) → AreOfSets es n (events_told (telling_of r d es n g))
of_telling r d es n g = by (is_none (group_fault g))
  where
    by : (b : Bool) → AreOfSets es n (passed (if b then verdicts_on r d es n (kind_of g) (examined g) else []))
    by true = of_verdicts r d es n (kind_of g) (examined g)
    by false = tt

of_tellings : (r : Rules) (d : Delims) (es : List Event) (n : ℕ) (gs : List Group) → AreOfSets es n (told_events (tellings_on r d es n gs))
of_tellings r d es n [] = tt
of_tellings r d es n (g ∷ gs) =
    let t = telling_of r d es n g in
    of_both es n (events_told t) (told_events (tellings_on r d (es ++ events_told t) n gs)) (of_telling r d es n g) (of_tellings r d (es ++ events_told t) n gs)

-- the events of an interchange
pub of_received : (r : Rules) (es : List Event) (n : ℕ) (text : List ℕ) → AreOfSets es n (events_added r es n (Received text))
of_received r es n text = of_tellings r (delims_of text) es n (groups_of ((cut (delims_of text) text).segments))

-- Acts.

-- the event of an act, with what it found
abbrev pub IsOfAct : List Event → ℕ → Act → Event → Type 0
IsOfAct es n (Count shipment sheet) e = (a : Advice) × (advice_under shipment es ≡ Some a) × (is_advice_open shipment es ≡ true) × (e ≡ Counted n a sheet)
IsOfAct es n (Pick number sheet) e = (r : Reserved) × (order_under number es ≡ Some r) × (is_order_open number es ≡ true) × (e ≡ Picked n r.order r.shares sheet)
IsOfAct es n (Recount sheet) e = e ≡ Recounted n (on_hand_now es sheet) sheet

abbrev of_count : List Event → ℕ → List ℕ → List Line → Option Advice → Result Event Refusal
of_count es n shipment sheet None = Err UnknownAdvice
of_count es n shipment sheet (Some a) = if is_advice_open shipment es then Ok (Counted n a sheet) else Err AdviceClosed

counted_is : (es : List Event) (n : ℕ) (shipment : List ℕ) (sheet : List Line) (e : Event) → counted es n shipment sheet ≡ Ok e → IsOfAct es n (Count shipment sheet) e
counted_is es n shipment sheet e h = by (advice_under shipment es) refl h
  where
    by : (o : Option Advice) → advice_under shipment es ≡ o → of_count es n shipment sheet o ≡ Ok e → IsOfAct es n (Count shipment sheet) e
    by None f g = absurd (cc (g))
    by (Some a) f g = by_open (is_advice_open shipment es) refl g
      where
        by_open : (b : Bool) → is_advice_open shipment es ≡ b → (if b then Ok (Counted n a sheet) else Err AdviceClosed) ≡ Ok e → IsOfAct es n (Count shipment sheet) e
        by_open true o k = let same : e ≡ Counted n a sheet = cc (k) in (a, f, o, same)
        by_open false o k = absurd (cc (k))

abbrev exceeding : List Line → List Line → Bool
exceeding shares sheet = list_any (λ (l : Line). nat_lt (quantity_of shares l.item l.lot) l.quantity) sheet

abbrev of_pick : List Event → ℕ → List ℕ → List Line → Option Reserved → Result Event Refusal
of_pick es n number sheet None = Err UnknownOrder
of_pick es n number sheet (Some r) =
    if not (is_order_open number es) then Err OrderClosed else (if exceeding r.shares sheet then Err NotReserved else Ok (Picked n r.order r.shares sheet))

picked_is : (es : List Event) (n : ℕ) (number : List ℕ) (sheet : List Line) (e : Event) → picked es n number sheet ≡ Ok e → IsOfAct es n (Pick number sheet) e
picked_is es n number sheet e h = by (order_under number es) refl h
  where
    by : (o : Option Reserved) → order_under number es ≡ o → of_pick es n number sheet o ≡ Ok e → IsOfAct es n (Pick number sheet) e
    by None f g = absurd (cc (g))
    by (Some r) f g = by_open (is_order_open number es) (exceeding r.shares sheet) refl g
      where
        by_open : (b x : Bool) → is_order_open number es ≡ b
            → (if not b then Err OrderClosed else (if x then Err NotReserved else Ok (Picked n r.order r.shares sheet))) ≡ Ok e → IsOfAct es n (Pick number sheet) e
        by_open true false o k = let same : e ≡ Picked n r.order r.shares sheet = cc (k) in (r, f, o, same)
        by_open true true o k = absurd (cc (k))
        by_open false x o k = absurd (cc (k))

recounted_is : (es : List Event) (n : ℕ) (sheet : List Line) (e : Event) → recounted es n sheet ≡ Ok e → e ≡ Recounted n (on_hand_now es sheet) sheet
recounted_is es n sheet e h = by
    (list_any (λ (l : Line). since es l.item l.lot == 0) sheet)
    (list_any (λ (l : Line). nat_lt l.quantity (balance es Reservation l.item l.lot)) sheet)
    (list_all (λ (l : Line). l.quantity == balance es OnHand l.item l.lot) sheet)
    h
  where
    by : (a b c : Bool)
        → (if a then Err UnknownLot else (if b then Err BelowReserved else (if c then Err NoDifference else Ok (Recounted n (on_hand_now es sheet) sheet)))) ≡ Ok e
        → e ≡ Recounted n (on_hand_now es sheet) sheet
    by false false false k = cc (k)
    by false false true k = absurd (cc (k))
    by false true c k = absurd (cc (k))
    by true b c k = absurd (cc (k))

pub of_performed : (es : List Event) (n : ℕ) (act : Act) (e : Event) → performed es n act ≡ Ok e → IsOfAct es n act e
of_performed es n (Count shipment sheet) e h = counted_is es n shipment sheet e h
of_performed es n (Pick number sheet) e h = picked_is es n number sheet e h
of_performed es n (Recount sheet) e h = recounted_is es n sheet e h
