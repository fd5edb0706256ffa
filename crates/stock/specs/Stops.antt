-- Why there is no page with one event more, and which rows change where there is one.
use Rattle.std.specs.Prelude.{ℕ, ◌≡◌, List, [], ◌∷◌, ◌++◌, map, if◌then◌else◌, Option, Some, Result, Err, option_map, option_to_list}
use Rattle.std.specs.List.{list_any}
use Rattle.definitions.specs.Faults.{SetFault}
use Rattle.definitions.specs.Means.{Acknowledgment}
use Rattle.definitions.specs.Events.{Event}
use Rattle.definitions.specs.declared.refusals.Refusal.{Refusal}
use Rattle.stock.specs.declared.steps.SetStop.{SetStop}
use Rattle.stock.specs.declared.steps.SetStop.TheVariants as sets
use Rattle.stock.specs.declared.steps.ActStop.{ActStop}
use Rattle.stock.specs.declared.steps.ActStop.TheVariants as acts
use Rattle.stock.specs.declared.steps.Change.{Change}
use Rattle.stock.specs.declared.steps.Change.TheVariants.{Stock, Advice, Order, Document}
use Rattle.page_rows.specs.OfPairs.{changed_rows}
use Rattle.page_rows.specs.Pages.{PageFacts, advice_at, order_at}
use Rattle.page_rows.specs.Steps.{decides}

-- a set's trade fault, or want of memory
abbrev pub StopsFor : Option SetFault → SetStop → Type 0
StopsFor fault (sets.Fault f) = fault ≡ Some f
StopsFor fault sets.OutOfMemory = Unit {0}

-- an act's refusal, or want of memory
abbrev pub StopsAct : Result Event Refusal → ActStop → Type 0
StopsAct outcome (acts.Refused r) = outcome ≡ Err r
StopsAct outcome acts.OutOfMemory = Unit {0}

-- the rows of pairs that changed
abbrev pub row_changes : PageFacts → PageFacts → List Change
row_changes old new = map Stock (changed_rows old.rows new.rows)

-- and the advice or the order as the new page has it
abbrev pub advice_changes : List ℕ → PageFacts → PageFacts → List Change
advice_changes shipment old new = row_changes old new
    ++ option_to_list (option_map Advice (advice_at shipment new.advices))

abbrev pub order_changes : List ℕ → PageFacts → PageFacts → List Change
order_changes number old new = row_changes old new
    ++ option_to_list (option_map Order (order_at number new.orders))

-- the document that an acknowledgment decides, if it decides one
abbrev pub document_changes : PageFacts → Acknowledgment → List Change
document_changes p a =
    if list_any (decides p.entries a) p.documents then Document a.document a.accepts ∷ [] else []
