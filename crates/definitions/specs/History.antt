-- What an interchange's groups are told, and the events of a list of entries. Each set is judged by
-- the rules of its entry and by the events before it.
use Rattle.std.specs.Prelude.{ℕ, ◌+◌, List, [], ◌∷◌, ◌++◌, is_none, if◌then◌else◌, Some, None, Ok, Err, fold, flat_map, filter_map, Option, Result, option_to_list}
use Rattle.definitions.specs.declared.rules.Rules.{Rules}
use Rattle.definitions.specs.Bytes.{Delims}
use Rattle.definitions.specs.Cut.{cut, Segment}
use Rattle.definitions.specs.Header.{delims_of}
use Rattle.definitions.specs.Words.{kind_words}
use Rattle.definitions.specs.declared.set_kind.SetKind.{SetKind}
use Rattle.definitions.specs.declared.set_kind.SetKind.TheVariants.{ShippingOrder, ShipmentAdvice, FunctionalAcknowledgment}
use Rattle.definitions.specs.Faults.{SetFault, set_fault}
use Rattle.definitions.specs.Structure.{Set, Group, groups_of, kind_of, group_fault, examined}
use Rattle.definitions.specs.Means.{advice_of, order_of, acknowledgment_of}
use Rattle.definitions.specs.Register.{Deed, Enrolled, Received, Performed, Entry, is_numbered}
use Rattle.definitions.specs.Events.{Event, Enrolment, Advised, Ordered, Acknowledged, advice_fault, order_fault}
use Rattle.definitions.specs.Allotment.{order_shares}
use Rattle.definitions.specs.Refusals.{Refusal}
use Rattle.definitions.specs.Clerk.{performed}

-- why a set is rejected: AK502, and for 5 the segment in error
pub record Rejection : Type 0 where
  pub code : ℕ
  pub segment : Option SetFault

abbrev pub unless : Option SetFault → Event → Result Event SetFault
unless None e = Ok e
unless (Some f) e = Err f

-- the event of a set without fault after these events, under its entry's number, or its trade fault
abbrev pub traded : Rules → List Event → ℕ → SetKind → List Segment → Result Event SetFault
traded r es n ShipmentAdvice ss = let a = advice_of ss in unless (advice_fault es a) (Advised a)
traded r es n ShippingOrder ss =
    let o = order_of ss in unless (order_fault es o) (Ordered o (order_shares r es o))
traded r es n FunctionalAcknowledgment ss = Ok (Acknowledged n (acknowledgment_of ss))

-- the event of a set, or the segment in error
abbrev pub judged : Rules → Delims → List Event → ℕ → SetKind → List Segment → Result Event SetFault
judged r d es n kind ss = unless_found (set_fault r d (kind_words r kind) ss)
  where
    unless_found : Option SetFault → Result Event SetFault
    unless_found None = traded r es n kind ss
    unless_found (Some f) = Err f

-- a set, and the event that it is or why it is rejected
pub record Verdict : Type 0 where
  pub set : Set
  pub outcome : Result Event Rejection

abbrev pub event_of : Verdict → Option Event
event_of v = by_outcome v.outcome
  where
    by_outcome : Result Event Rejection → Option Event
    by_outcome (Ok e) = Some e
    by_outcome (Err r) = None

abbrev pub rejection_of : Verdict → Option Rejection
rejection_of v = by_outcome v.outcome
  where
    by_outcome : Result Event Rejection → Option Rejection
    by_outcome (Ok e) = None
    by_outcome (Err r) = Some r

abbrev pub by_segment : Result Event SetFault → Result Event Rejection
by_segment (Ok e) = Ok e
by_segment (Err f) = Err (record { code = 5; segment = Some f })

-- a set's outcome: a fault of its envelope, of a segment, of trade, or its event
abbrev pub outcome_of : Rules → Delims → List Event → ℕ → Option SetKind → Option ℕ → Set
    → Result Event Rejection
outcome_of r d es n kind (Some code) s = Err (record { code = code; segment = None })
outcome_of r d es n None None s = Err (record { code = 1; segment = None })
outcome_of r d es n (Some kind) None s = by_segment (judged r d es n kind s.segments)

-- the examined sets in turn: one that passes acts at once, before the next is judged
abbrev pub verdicts_on : Rules → Delims → List Event → ℕ → Option SetKind → List (Set × Option ℕ)
    → List Verdict
verdicts_on r d es n kind [] = []
verdicts_on r d es n kind (p ∷ ps) =
    let v : Verdict = record { set = p.0; outcome = outcome_of r d es n kind p.1 p.0 } in
    v ∷ verdicts_on r d (es ++ option_to_list (event_of v)) n kind ps

-- a group, its fault if there is one, and else what its sets are told
pub record Telling : Type 0 where
  pub group : Group
  pub fault : Option ℕ
  pub verdicts : List Verdict

-- a group with a fault lists no sets, and none of them acts
abbrev pub telling_of : Rules → Delims → List Event → ℕ → Group → Telling
telling_of r d es n g = record {
  group = g;
  fault = group_fault g;
  verdicts = if is_none (group_fault g) then verdicts_on r d es n (kind_of g) (examined g) else [];
}

abbrev pub events_told : Telling → List Event
events_told t = filter_map event_of t.verdicts

-- the groups in turn
abbrev pub tellings_on : Rules → Delims → List Event → ℕ → List Group → List Telling
tellings_on r d es n [] = []
tellings_on r d es n (g ∷ gs) =
    let t = telling_of r d es n g in
    t ∷ tellings_on r d (es ++ events_told t) n gs

-- what an interchange's groups are told, under its entry's number
abbrev pub tellings : Rules → List Event → ℕ → List ℕ → List Telling
tellings r es n text =
    tellings_on r (delims_of text) es n (groups_of ((cut (delims_of text) text).segments))

-- the events that a deed adds to those before it
abbrev pub events_added : Rules → List Event → ℕ → Deed → List Event
events_added r es n Enrolled = Enrolment ∷ []
events_added r es n (Received text) = flat_map events_told (tellings r es n text)
events_added r es n (Performed ticket act) = added (performed es n act)
  where
    added : Result Event Refusal → List Event
    added (Ok e) = e ∷ []
    added (Err refusal) = []

-- entries so far: how many are numbered, and their events
pub record History : Type 0 where
  pub numbered : ℕ
  pub events : List Event

abbrev pub after_entry : History → Entry → History
after_entry h e = record {
  numbered = h.numbered + (if is_numbered e then 1 else 0);
  events = h.events ++ events_added e.rules h.events (h.numbered + 1) e.deed;
}

abbrev pub history : List Entry → History
history M = fold after_entry (record { numbered = 0; events = [] }) M

-- the events of a depositor's own entries
abbrev pub events : List Entry → List Event
events M = (history M).events
