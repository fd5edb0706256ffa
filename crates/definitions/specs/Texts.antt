-- The texts that go out: their segments, and how these stand together.
use Rattle.std.specs.Prelude.{ℕ, ◌+◌, ◌-◌, not, List, [], ◌∷◌, ◌++◌, map, length, is_none, if◌then◌else◌, nat_lt, ◌==◌, Some, None, codes, bytes_eq, decimal, sum_by, count_by, filter, flat_map, Option, option_map, option_to_list}
use Rattle.std.specs.List.{enumerate_from}
use Rattle.definitions.specs.declared.widths.TheConstants.{BLANK_BYTES, CONTROL_DIGITS, LEAST_SET_CONTROL, NOTE_DIGITS}
use Rattle.definitions.specs.Limits.{most_partner}
use Rattle.definitions.specs.Bytes.{value, zero_filled, padded, Delims}
use Rattle.definitions.specs.Lists.{first_of, in_order}
use Rattle.definitions.specs.Cut.{Segment, element, spelled}
use Rattle.definitions.specs.Moments.{Moment, date8, date6, time4}
use Rattle.definitions.specs.Header.{Who, isa, delims_of}
use Rattle.definitions.specs.Elements.{ElementFault}
use Rattle.definitions.specs.Faults.{SetFault}
use Rattle.definitions.specs.Structure.{Group, head_of, control_of}
use Rattle.definitions.specs.Means.{Line, Advice, advised, OrderLine, Order}
use Rattle.definitions.specs.Events.{Event, Counted, Picked, Recounted, pair_before, quantity_of}
use Rattle.definitions.specs.History.{Rejection, Verdict, rejection_of, Telling}

-- `*`, `>` and `~`, with which a document is written; an answer has the received delimiters
abbrev pub own_delims : Delims
own_delims = record { separator = 42; component = 62; terminator = 126 }

-- segments one after another
abbrev pub text_of : Delims → List Segment → List ℕ
text_of d ss = flat_map (spelled d) ss

-- Envelopes.

-- the other side of an outgoing interchange: ISA07 and ISA08
pub record Receiver : Type 0 where
  pub qualifier : List ℕ
  pub id : List ℕ

abbrev pub receiver_of : Who → Receiver
receiver_of w = record { qualifier = w.qualifier; id = padded most_partner w.id }

-- ISA under a control number, with usage P and no acknowledgment requested
abbrev pub isa_segment : Delims → Who → Receiver → Moment → ℕ → Segment
isa_segment d W r t n = codes "ISA" ∷ codes "00" ∷ padded BLANK_BYTES [] ∷ codes "00"
    ∷ padded BLANK_BYTES []
    ∷ W.qualifier ∷ padded most_partner W.id ∷ r.qualifier ∷ r.id
    ∷ date6 t ∷ time4 t ∷ codes "U" ∷ codes "00401" ∷ zero_filled CONTROL_DIGITS n ∷ codes "0"
    ∷ codes "P" ∷ (d.component ∷ []) ∷ []

-- ISA, what stands between, and IEA with the number of groups
abbrev pub interchange : Delims → Who → Receiver → Moment → ℕ → List Segment → ℕ → List ℕ
interchange d W r t n between groups = text_of d
    (isa_segment d W r t n ∷ between
    ++ (codes "IEA" ∷ decimal groups ∷ zero_filled CONTROL_DIGITS n ∷ []) ∷ [])

-- ST, the set's segments, and SE with their number
abbrev pub set_of_segments : List ℕ → ℕ → List Segment → List Segment
set_of_segments number place body =
    (codes "ST" ∷ number ∷ zero_filled LEAST_SET_CONTROL place ∷ []) ∷ body
    ++ (codes "SE" ∷ decimal (length body + 2) ∷ zero_filled LEAST_SET_CONTROL place ∷ []) ∷ []

-- sets of one number, from ST02 0001 on
abbrev pub sets_of_segments : List ℕ → List (List Segment) → List Segment
sets_of_segments number bodies =
    flat_map (λ p. set_of_segments number p.0 p.1) (enumerate_from 1 bodies)

-- GS with the functional identifier, the sets, and GE
abbrev pub group_of_sets : Who → Who → Moment → ℕ → List ℕ → List ℕ → List (List Segment)
    → List Segment
group_of_sets W w t n function number bodies =
    (codes "GS" ∷ function ∷ W.id ∷ w.id ∷ date8 t ∷ time4 t ∷ decimal n ∷ codes "X"
    ∷ codes "004010" ∷ [])
    ∷ sets_of_segments number bodies
    ++ (codes "GE" ∷ decimal (length bodies) ∷ decimal n ∷ []) ∷ []

-- Answers.

-- TA1 Interchange Acknowledgment of a received interchange: accepted, or rejected with a note code
abbrev pub ta1 : List ℕ → Option ℕ → Segment
ta1 text None = codes "TA1" ∷ isa text 13 ∷ isa text 9 ∷ isa text 10 ∷ codes "A" ∷ codes "000" ∷ []
ta1 text (Some note) = codes "TA1" ∷ isa text 13 ∷ isa text 9 ∷ isa text 10 ∷ codes "R"
    ∷ zero_filled NOTE_DIGITS note ∷ []

abbrev pub ak4_segments : Option ElementFault → List Segment
ak4_segments None = []
ak4_segments (Some f) = (codes "AK4" ∷ decimal f.place ∷ [] ∷ decimal f.code ∷ []) ∷ []

abbrev pub ak3_segments : Option SetFault → List Segment
ak3_segments None = []
ak3_segments (Some f) = (codes "AK3" ∷ f.id ∷ decimal f.position ∷ [] ∷ decimal f.code ∷ [])
    ∷ ak4_segments f.element

abbrev pub ak5_segments : Option Rejection → List Segment
ak5_segments None = (codes "AK5" ∷ codes "A" ∷ []) ∷ []
ak5_segments (Some r) = ak3_segments r.segment ++ (codes "AK5" ∷ codes "R" ∷ decimal r.code ∷ [])
    ∷ []

-- what a 997 tells of a set: ST01, ST02, and why it is rejected if it is
pub record ToldSet : Type 0 where
  pub number : List ℕ
  pub control : List ℕ
  pub rejection : Option Rejection

-- what it tells of a group: GS01, GS06, the sets that are stated and those received, its fault, and
-- else its sets
pub record Told : Type 0 where
  pub function : List ℕ
  pub number : List ℕ
  pub stated : ℕ
  pub received : ℕ
  pub fault : Option ℕ
  pub sets : List ToldSet

-- AK2 to AK5 of a set
abbrev pub told_segments : ToldSet → List Segment
told_segments s = (codes "AK2" ∷ s.number ∷ s.control ∷ []) ∷ ak5_segments s.rejection

abbrev pub accepted_sets : Told → ℕ
accepted_sets t = count_by (λ s. is_none s.rejection) t.sets

-- AK901: A where all sets passed, P where some did, R where none did or the group has a fault
abbrev pub ak901 : Told → List ℕ
ak901 t = first_of (codes "P")
    ((accepted_sets t == 0, codes "R")
    ∷ (accepted_sets t == t.received, codes "A")
    ∷ [])

-- 997 Functional Acknowledgment of a group, without ST and SE
abbrev pub body_997 : Told → List Segment
body_997 t = (codes "AK1" ∷ t.function ∷ t.number ∷ []) ∷ flat_map told_segments t.sets
    ++ (codes "AK9" ∷ ak901 t ∷ decimal t.stated ∷ decimal t.received ∷ decimal (accepted_sets t)
    ∷ option_to_list (option_map decimal t.fault)) ∷ []

-- the sets that GE01 states, or those received where GE is missing
abbrev pub stated_sets : Group → ℕ
stated_sets g = stated g.tail
  where
    stated : Option Segment → ℕ
    stated None = length g.sets
    stated (Some ge) = value (element ge 1)

abbrev pub told_set : Verdict → ToldSet
told_set v = record {
  number = element (head_of v.set) 1;
  control = control_of v.set;
  rejection = rejection_of v;
}

abbrev pub told_of : Telling → Told
told_of t = record {
  function = element t.group.head 1;
  number = element t.group.head 6;
  stated = stated_sets t.group;
  received = length t.group.sets;
  fault = t.fault;
  sets = map told_set t.verdicts;
}

-- the groups that are answered: all but those of received acknowledgments
abbrev pub answered : List Telling → List Telling
answered ts = filter (λ t. not (bytes_eq (element t.group.head 1) (codes "FA"))) ts

-- The answer to an interchange under its entry's number: a TA1 where ISA14 is 1, and one FA group
-- with a 997 for each group that is answered; with neither it is empty.
abbrev pub answer : Who → Who → Moment → ℕ → List ℕ → List Telling → List ℕ
answer W w t n text ts =
    let acknowledged = (if bytes_eq (isa text 14) (codes "1") then ta1 text None ∷ [] else []) in
    let bodies = map (λ t. body_997 (told_of t)) (answered ts) in
    let groups = (if length bodies == 0 then 0 else 1) in
    let between = acknowledged ++ (if groups == 0 then [] else group_of_sets W w t n (codes "FA") (codes "997") bodies) in
    if length between == 0 then []
    else interchange (delims_of text) W (receiver_of w) t n between groups

-- the interchange that refuses one with a note: under control number 0, to ISA05 and ISA06 as
-- received
abbrev pub refusal_interchange : Who → List ℕ → Moment → ℕ → List ℕ
refusal_interchange W text t note =
    interchange (delims_of text) W (record { qualifier = isa text 5; id = isa text 6 }) t 0
    (ta1 text (Some note) ∷ []) 0

-- Documents.

-- the item of a line, as the elements from the unit on say it
abbrev pub goods : List ℕ → List (List ℕ)
goods item = codes "EA" ∷ [] ∷ codes "SK" ∷ item ∷ []

abbrev pub total_of : List Line → ℕ
total_of lines = sum_by (λ l. l.quantity) lines

-- 944 Warehouse Stock Transfer Receipt Advice, without ST and SE: each pair advised or counted,
-- with what was counted
abbrev pub body_944 : Moment → ℕ → Advice → List Line → List Segment
body_944 t n a sheet =
    (codes "W17" ∷ codes "F" ∷ date8 t ∷ decimal n ∷ a.order ∷ a.shipment ∷ [])
    ∷ flat_map (λ l. (codes "W07" ∷ decimal (quantity_of sheet l.item l.lot) ∷ goods l.item)
    ∷ (codes "N9" ∷ codes "LT" ∷ l.lot ∷ []) ∷ [])
    (in_order pair_before (advised a ++ sheet))
    ++ (codes "W14" ∷ decimal (total_of sheet) ∷ decimal (total_of (advised a)) ∷ []) ∷ []

-- a line of an order with what of its item was picked, by lot bytes
abbrev pub line_945 : List Line → ℕ → OrderLine → List Segment
line_945 sheet place l =
    let lots = in_order pair_before (filter (λ k. bytes_eq k.item l.item) sheet) in
    let shipped = total_of lots in
    (codes "LX" ∷ decimal place ∷ [])
    ∷ (codes "W12" ∷ (if shipped == l.quantity then codes "CC" else codes "CP") ∷ decimal l.quantity
    ∷ decimal shipped
    ∷ decimal (l.quantity - shipped) ∷ goods l.item)
    ∷ map (λ k. codes "N9" ∷ codes "LT" ∷ k.lot ∷ decimal k.quantity ∷ []) lots

-- 945 Warehouse Shipping Advice, without ST and SE
abbrev pub body_945 : Moment → ℕ → Order → List Line → List Segment
body_945 t n o sheet =
    (codes "W06" ∷ codes "F" ∷ o.number ∷ date8 t ∷ decimal n ∷ [])
    ∷ flat_map (λ p. line_945 sheet p.0 p.1) (enumerate_from 1 o.lines)
    ++ (codes "W03" ∷ decimal (total_of sheet) ∷ []) ∷ []

-- new less old, with `-` where below 0
abbrev pub difference : ℕ → ℕ → List ℕ
difference new old =
    if nat_lt new old then codes "-" ++ decimal (old - new) else decimal (new - old)

-- 947 Warehouse Inventory Adjustment Advice, without ST and SE: each line that differs, with AA for
-- a recount
abbrev pub body_947 : Moment → ℕ → List Line → List Line → List Segment
body_947 t n before sheet =
    (codes "W15" ∷ date8 t ∷ decimal n ∷ [])
    ∷ flat_map (λ l. (codes "W19" ∷ codes "AA"
    ∷ difference l.quantity (quantity_of before l.item l.lot) ∷ goods l.item)
    ∷ (codes "N9" ∷ codes "LT" ∷ l.lot ∷ []) ∷ [])
    (filter (λ l. not (l.quantity == quantity_of before l.item l.lot)) sheet)

-- an interchange of one group of one set
abbrev pub document_text : Who → Who → Moment → ℕ → List ℕ → List ℕ → List Segment → List ℕ
document_text W w t n function number body =
    interchange own_delims W (receiver_of w) t n (group_of_sets W w t n function number (body
    ∷ [])) 1

-- what a clerk's event writes
abbrev pub document_of : Who → Who → Moment → ℕ → Event → List ℕ
document_of W w t n (Counted m a sheet) =
    document_text W w t n (codes "RE") (codes "944") (body_944 t n a sheet)
document_of W w t n (Picked m o shares sheet) =
    document_text W w t n (codes "SW") (codes "945") (body_945 t n o sheet)
document_of W w t n (Recounted m before sheet) =
    document_text W w t n (codes "AW") (codes "947") (body_947 t n before sheet)
document_of W w t n e = []
