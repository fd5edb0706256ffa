-- The trade faults that a set may be told, and the least of them.
use Rattle.std.specs.Prelude.{◌≤◌, List, [], ◌∷◌, is_some, codes, Option, Some, None}
use Rattle.definitions.specs.Faults.{SetFault}
use Rattle.definitions.specs.Means.{Advice, Order}
use Rattle.definitions.specs.Events.{Event, trade_fault, fault_where, advice_under, order_under, expiry, repeated_pair, redated_pair, repeated_item, wrong_advice_total, wrong_order_total}

-- of an advice: its shipment number is known, a pair stood before, a pair has another expiry, W03
-- isn't the sum
abbrev pub faults_of_advice : List Event → Advice → List (Option SetFault)
faults_of_advice es a =
    fault_where (is_some (advice_under a.shipment es)) (trade_fault (codes "W06") 2 4)
    ∷ repeated_pair a ∷ redated_pair (expiry es) a ∷ wrong_advice_total a ∷ []

-- of an order: its number is known, an item stood before, W76 isn't the sum
abbrev pub faults_of_order : List Event → Order → List (Option SetFault)
faults_of_order es o =
    fault_where (is_some (order_under o.number es)) (trade_fault (codes "W05") 2 2)
    ∷ repeated_item o ∷ wrong_order_total o ∷ []

-- none of the faults that are there stands at a lesser position
abbrev pub IsLeastOf : SetFault → List (Option SetFault) → Type 0
IsLeastOf f [] = Unit {0}
IsLeastOf f (None ∷ os) = IsLeastOf f os
IsLeastOf f (Some g ∷ os) = (f.position ≤ g.position) × IsLeastOf f os
