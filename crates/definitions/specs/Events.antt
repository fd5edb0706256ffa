-- The events of a depositor, and what is found by looking back through them.
use Rattle.std.specs.Prelude.{ℕ, ◌+◌, Bool, false, not, ◌&&◌, ◌||◌, List, [], ◌∷◌, ◌++◌, is_some, if◌then◌else◌, nat_le, ◌==◌, Some, None, codes, bytes_eq, sum_by, filter, find, position, Option, unwrap_or, option_map}
use Rattle.std.specs.List.{list_any}
use Rattle.definitions.specs.Bytes.{comes_before}
use Rattle.definitions.specs.Lists.{first_present, first_found}
use Rattle.definitions.specs.Faults.{SetFault}
use Rattle.definitions.specs.Means.{Line, AdviceLine, Advice, advised, OrderLine, Order, Acknowledgment}

-- A set that passed or a clerk's act, with what it found in the events before it; so each event
-- says by itself what it moves.
pub data Event : Type 0 where
  Enrolment : Event
  Advised : Advice → Event
  -- with the shares that were reserved
  Ordered : Order → List Line → Event
  -- under the number of its entry
  Acknowledged : ℕ → Acknowledgment → Event
  -- under the number of its entry, the advice that it closes, and the sheet
  Counted : ℕ → Advice → List Line → Event
  -- under the number of its entry, the order that it closes with its shares, and the sheet
  Picked : ℕ → Order → List Line → List Line → Event
  -- under the number of its entry, the amounts on hand before, and the sheet
  Recounted : ℕ → List Line → List Line → Event

-- an item and a lot
abbrev pub is_pair : List ℕ → List ℕ → Line → Bool
is_pair item lot l = bytes_eq l.item item && bytes_eq l.lot lot

abbrev pub same_pair : Line → Line → Bool
same_pair a b = is_pair a.item a.lot b

-- by item and then lot bytes
abbrev pub pair_before : Line → Line → Bool
pair_before a b = comes_before a.item b.item || (bytes_eq a.item b.item && comes_before a.lot b.lot)

-- the quantity that lines give a pair
abbrev pub quantity_of : List Line → List ℕ → List ℕ → ℕ
quantity_of lines item lot = sum_by (λ l. l.quantity) (filter (is_pair item lot) lines)

-- Looking back.

abbrev pub advice_if : List ℕ → Event → Option Advice
advice_if shipment (Advised a) = if bytes_eq a.shipment shipment then Some a else None
advice_if shipment e = None

-- the advice under a shipment number
abbrev pub advice_under : List ℕ → List Event → Option Advice
advice_under shipment es = first_found (advice_if shipment) es

-- an order with its shares
pub record Reserved : Type 0 where
  pub order : Order
  pub shares : List Line

abbrev pub order_if : List ℕ → Event → Option Reserved
order_if number (Ordered o shares) =
    if bytes_eq o.number number then Some (record { order = o; shares = shares }) else None
order_if number e = None

-- the order under its number
abbrev pub order_under : List ℕ → List Event → Option Reserved
order_under number es = first_found (order_if number) es

-- An advice is open where it stands in the events and no count of it does, an order where it stands
-- there and no pick of it does. A count or a pick stands only after what it closes, so looking
-- through all events is looking after it.
abbrev pub counts : List ℕ → Event → Bool
counts shipment (Counted n a sheet) = bytes_eq a.shipment shipment
counts shipment e = false

abbrev pub picks : List ℕ → Event → Bool
picks number (Picked n o shares sheet) = bytes_eq o.number number
picks number e = false

abbrev pub is_advice_open : List ℕ → List Event → Bool
is_advice_open shipment es = is_some (advice_under shipment es)
    && not (list_any (counts shipment) es)

abbrev pub is_order_open : List ℕ → List Event → Bool
is_order_open number es = is_some (order_under number es) && not (list_any (picks number) es)

-- the number of a count whose sheet names the pair
abbrev pub count_naming : List ℕ → List ℕ → Event → Option ℕ
count_naming item lot (Counted n a sheet) =
    if list_any (is_pair item lot) sheet then Some n else None
count_naming item lot e = None

-- of the first such count, if there is one
abbrev pub first_count : List Event → List ℕ → List ℕ → Option ℕ
first_count es item lot = first_found (count_naming item lot) es

-- and 0 where there is none
abbrev pub since : List Event → List ℕ → List ℕ → ℕ
since es item lot = unwrap_or (first_count es item lot) 0

-- the date that a line of an advice gives a pair
abbrev pub date_given : List ℕ → List ℕ → AdviceLine → Option (List ℕ)
date_given item lot l = if is_pair item lot l.line then l.expiry else None

abbrev pub date_naming : List ℕ → List ℕ → Event → Option (List ℕ)
date_naming item lot (Advised a) = first_found (date_given item lot) a.lines
date_naming item lot e = None

-- the expiry of a pair: the date in the first advice that gave it one
abbrev pub expiry : List Event → List ℕ → List ℕ → Option (List ℕ)
expiry es item lot = first_found (date_naming item lot) es

-- Trade faults: a segment's element that the depositor's own earlier events or the set itself
-- gainsay.

-- AK304 is 8, AK403 is 7
abbrev pub trade_fault : List ℕ → ℕ → ℕ → SetFault
trade_fault id position place = record {
  id = id;
  position = position;
  code = 8;
  element = Some (record { place = place; code = 7 });
}

-- the fault, where the condition holds
abbrev pub fault_where : Bool → SetFault → Option SetFault
fault_where b f = if b then Some f else None

-- the first that is like one before it
abbrev pub repeated : {X : Type 0} → (X → X → Bool) → List X → List X → Option X
repeated same before [] = None
repeated same before (x ∷ xs) =
    if list_any (same x) before then Some x else repeated same (before ++ x ∷ []) xs

abbrev pub same_advice_pair : AdviceLine → AdviceLine → Bool
same_advice_pair k l = same_pair k.line l.line

abbrev pub same_order_item : OrderLine → OrderLine → Bool
same_order_item k l = bytes_eq k.item l.item

-- a line of an advice whose pair stood before in the set: its N9, element 2
abbrev pub repeated_pair : Advice → Option SetFault
repeated_pair a = option_map
    (λ (l : AdviceLine). trade_fault (codes "N9") (l.position + 1) 2)
    (repeated same_advice_pair [] a.lines)

-- a line of an order whose item stood before in the set: its W01, element 5
abbrev pub repeated_item : Order → Option SetFault
repeated_item o = option_map
    (λ (l : OrderLine). trade_fault (codes "W01") l.position 5)
    (repeated same_order_item [] o.lines)

-- whether a date is given for what has another
abbrev pub is_other_date : Option (List ℕ) → Option (List ℕ) → Bool
is_other_date (Some known) (Some date) = not (bytes_eq known date)
is_other_date known date = false

abbrev pub is_redated : (List ℕ → List ℕ → Option (List ℕ)) → AdviceLine → Bool
is_redated known l = is_other_date (known l.line.item l.line.lot) l.expiry

-- a line of an advice with a date for a pair that has another: its N9, element 4; `known` is what
-- the pairs have
abbrev pub redated_pair : (List ℕ → List ℕ → Option (List ℕ)) → Advice → Option SetFault
redated_pair known a = option_map
    (λ (l : AdviceLine). trade_fault (codes "N9") (l.position + 1) 4)
    (find (is_redated known) a.lines)

-- the fault at the lesser position, the first where they stand in one segment
abbrev pub sooner : Option SetFault → Option SetFault → Option SetFault
sooner None g = g
sooner (Some f) None = Some f
sooner (Some f) (Some g) = if nat_le f.position g.position then Some f else Some g

-- the W03 of an advice that isn't the sum of its lines, and the W76 of an order that isn't
abbrev pub wrong_advice_total : Advice → Option SetFault
wrong_advice_total a =
    fault_where (not (sum_by (λ l. l.quantity) (advised a) == a.total))
    (trade_fault (codes "W03") a.total_position 1)

abbrev pub wrong_order_total : Order → Option SetFault
wrong_order_total o =
    fault_where (not (sum_by (λ l. l.quantity) o.lines == o.total))
    (trade_fault (codes "W76") o.total_position 1)

-- Of a 943, from the least position on: a shipment number of an earlier advice, a repeated pair or
-- one with another expiry, a W03 that isn't the sum. Of the events it looks only at whether the
-- shipment number is known, and at the expiries.
abbrev pub advice_fault_where : Bool → (List ℕ → List ℕ → Option (List ℕ)) → Advice
    → Option SetFault
advice_fault_where is_known known a = first_present
    (fault_where is_known (trade_fault (codes "W06") 2 4)
    ∷ sooner (repeated_pair a) (redated_pair known a)
    ∷ wrong_advice_total a
    ∷ [])

abbrev pub advice_fault : List Event → Advice → Option SetFault
advice_fault es a = advice_fault_where (is_some (advice_under a.shipment es)) (expiry es) a

-- Of a 940, from the least position on: an order number of an earlier order, a repeated item, a W76
-- that isn't the sum. Of the events it looks only at whether the order number is known.
abbrev pub order_fault_where : Bool → Order → Option SetFault
order_fault_where is_known o = first_present
    (fault_where is_known (trade_fault (codes "W05") 2 2)
    ∷ repeated_item o
    ∷ wrong_order_total o
    ∷ [])

abbrev pub order_fault : List Event → Order → Option SetFault
order_fault es o = order_fault_where (is_some (order_under o.number es)) o
