-- Steps of sets, as the definitions judge them.
use Rattle.std.proofs.Common.{◌≡◌, ℕ, List, Option, Some, None, Ok, Err, refl, sym, ap, ◌∙◌, subst}
use Rattle.std.specs.Prelude.{Result}
use Rattle.definitions.specs.declared.rules.Rules.{Rules}
use Rattle.definitions.specs.Bytes.{Delims}
use Rattle.definitions.specs.Cut.{Segment, Piece, AreOf, segments_of}
use Rattle.definitions.specs.Words.{kind_words}
use Rattle.definitions.specs.declared.set_kind.SetKind.{SetKind}
use Rattle.definitions.specs.declared.set_kind.SetKind.TheVariants.{ShipmentAdvice, ShippingOrder, FunctionalAcknowledgment}
use Rattle.definitions.specs.Faults.{SetFault, set_fault, IsFaultOf}
use Rattle.definitions.specs.Means.{Advice, advice_of, Order, order_of, Acknowledgment, acknowledgment_of}
use Rattle.definitions.specs.Events.{Event, Advised, Ordered, Acknowledged, advice_fault, order_fault}
use Rattle.definitions.specs.Allotment.{order_shares}
use Rattle.definitions.specs.History.{traded, unless, judged, by_segment, Rejection}
use Rattle.stock.specs.Stops.{StopsFor}
use Rattle.stock.specs.declared.steps.SetStop.{SetStop}
use Rattle.stock.specs.declared.steps.SetStop.TheVariants as stopped
use Rattle.set_effects.specs.Judging.{IsStop}

-- a fault, or the event
stops : (e : Event) (fault : Option SetFault) (outcome : Result Event SetFault) (stop : SetStop) → outcome ≡ unless fault e → StopsFor fault stop → IsStop outcome stop
stops e fault outcome (stopped.Fault f) is h = is ∙ ap (λ (o : Option SetFault). unless o e) h
stops e fault outcome stopped.OutOfMemory is h = tt

advised_is : (r : Rules) (es : List Event) (n : ℕ) (kind : SetKind) (ss : List Segment) (a : Advice) → kind ≡ ShipmentAdvice → a ≡ advice_of ss
    → traded r es n kind ss ≡ unless (advice_fault es a) (Advised a)
advised_is r es n kind ss a is same = ap (λ (k : SetKind). traded r es n k ss) is ∙ ap (λ (x : Advice). unless (advice_fault es x) (Advised x)) (sym same)

pub advised_ok : (r : Rules) (es : List Event) (n : ℕ) (kind : SetKind) (ss : List Segment) (a : Advice) → kind ≡ ShipmentAdvice → a ≡ advice_of ss
    → advice_fault es a ≡ None → traded r es n kind ss ≡ Ok (Advised a)
advised_ok r es n kind ss a is same none = advised_is r es n kind ss a is same ∙ ap (λ (o : Option SetFault). unless o (Advised a)) none

pub advised_stops : (r : Rules) (es : List Event) (n : ℕ) (kind : SetKind) (ss : List Segment) (a : Advice) (stop : SetStop) → kind ≡ ShipmentAdvice → a ≡ advice_of ss
    → StopsFor (advice_fault es a) stop → IsStop (traded r es n kind ss) stop
advised_stops r es n kind ss a stop is same h = stops (Advised a) (advice_fault es a) (traded r es n kind ss) stop (advised_is r es n kind ss a is same) h

ordered_is : (r : Rules) (es : List Event) (n : ℕ) (kind : SetKind) (ss : List Segment) (o : Order) → kind ≡ ShippingOrder → o ≡ order_of ss
    → traded r es n kind ss ≡ unless (order_fault es o) (Ordered o (order_shares r es o))
ordered_is r es n kind ss o is same = ap (λ (k : SetKind). traded r es n k ss) is ∙ ap (λ (x : Order). unless (order_fault es x) (Ordered x (order_shares r es x))) (sym same)

pub ordered_ok : (r : Rules) (es : List Event) (n : ℕ) (kind : SetKind) (ss : List Segment) (o : Order) → kind ≡ ShippingOrder → o ≡ order_of ss
    → order_fault es o ≡ None → traded r es n kind ss ≡ Ok (Ordered o (order_shares r es o))
ordered_ok r es n kind ss o is same none = ordered_is r es n kind ss o is same ∙ ap (λ (x : Option SetFault). unless x (Ordered o (order_shares r es o))) none

pub ordered_stops : (r : Rules) (es : List Event) (n : ℕ) (kind : SetKind) (ss : List Segment) (o : Order) (stop : SetStop) → kind ≡ ShippingOrder → o ≡ order_of ss
    → StopsFor (order_fault es o) stop → IsStop (traded r es n kind ss) stop
ordered_stops r es n kind ss o stop is same h = stops (Ordered o (order_shares r es o)) (order_fault es o) (traded r es n kind ss) stop (ordered_is r es n kind ss o is same) h

pub acknowledged_ok : (r : Rules) (es : List Event) (n : ℕ) (kind : SetKind) (ss : List Segment) (a : Acknowledgment) → kind ≡ FunctionalAcknowledgment → a ≡ acknowledgment_of ss
    → traded r es n kind ss ≡ Ok (Acknowledged n a)
acknowledged_ok r es n kind ss a is same = ap (λ (k : SetKind). traded r es n k ss) is ∙ ap (λ (x : Acknowledgment). Ok (Acknowledged n x)) (sym same)

-- an outcome by segment
pub by_segment_ok : (outcome : Result Event SetFault) (e : Event) → outcome ≡ Ok e → by_segment outcome ≡ Ok e
by_segment_ok outcome e is = ap by_segment is

pub by_segment_err : (outcome : Result Event SetFault) (f : SetFault) (r : Rejection) → outcome ≡ Err f → r ≡ record { code = 5; segment = Some f } → by_segment outcome ≡ Err r
by_segment_err outcome f r is same = ap by_segment is ∙ ap Err (sym same)

-- a set without a fault of its own is judged by trade alone, and another by its fault
pub judged_sound : (r : Rules) (d : Delims) (es : List Event) (n : ℕ) (kind : SetKind) (ss : List Segment) → set_fault r d (kind_words r kind) ss ≡ None
    → judged r d es n kind ss ≡ traded r es n kind ss
judged_sound r d es n kind ss none = rw none refl

pub judged_faulty : (r : Rules) (d : Delims) (es : List Event) (n : ℕ) (kind : SetKind) (ss : List Segment) (f : SetFault) → set_fault r d (kind_words r kind) ss ≡ Some f
    → judged r d es n kind ss ≡ Err f
judged_faulty r d es n kind ss f some = rw some refl

-- a set that is judged by trade alone
pub judged_traded : (r : Rules) (d : Delims) (es : List Event) (n : ℕ) (kind k : SetKind) (q : Rules) (ps qs : List Piece) → k ≡ kind → qs ≡ ps → q ≡ r → IsFaultOf r kind ps None → AreOf d ps
    → by_segment (traded q es n k (segments_of qs)) ≡ by_segment (judged r d es n kind (segments_of ps))
judged_traded r d es n kind k q ps qs is same ruled none of =
    ap by_segment (ap (λ (x : Rules). traded x es n k (segments_of qs)) ruled ∙ ap (λ (x : SetKind). traded r es n x (segments_of qs)) is
    ∙ ap (λ (xs : List Piece). traded r es n kind (segments_of xs)) same
    ∙ sym (judged_sound r d es n kind (segments_of ps) (none d of)))

-- a trade fault that stopped it
pub stopped_by : (outcome : Result Event SetFault) (stop : SetStop) (f : SetFault) (r : Rejection) → stop ≡ stopped.Fault f → IsStop outcome stop
    → r ≡ record { code = 5; segment = Some f } → by_segment outcome ≡ Err r
stopped_by outcome stop f r is h same = by_segment_err outcome f r (subst (IsStop outcome) is h) same
