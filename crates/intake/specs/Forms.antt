-- The forms that clerks take along and fill in: what an advice announced, and what is reserved for
-- an order.
use Rattle.std.specs.Prelude.{ℕ, List, Result}
use Rattle.definitions.specs.Events.{Event}
use Rattle.definitions.specs.Need.{Need, need_of_number}
use Rattle.definitions.specs.Reports.{pick_list}
use Rattle.definitions.specs.declared.refusals.Refusal.{Refusal}
use Rattle.reports.specs.PickSheets.{picking_csv}
use Rattle.reports.specs.Receiving.{need_of_shipment, receiving_csv, receiving_list}
use Rattle.intake.specs.declared.calls.Form.{Form}
use Rattle.intake.specs.declared.calls.Form.TheVariants.{PickList, ReceivingList, ReceivingCsv, PickingCsv}

-- what of its depositor's state a form needs
abbrev pub form_need : Form → List ℕ → Need
form_need PickList number = need_of_number number
form_need ReceivingList number = need_of_shipment number
form_need ReceivingCsv number = need_of_shipment number
form_need PickingCsv number = need_of_number number

-- its text, by the events of its depositor, or why there is none
abbrev pub form_text : Form → List Event → List ℕ → Result (List ℕ) Refusal
form_text PickList events number = pick_list events number
form_text ReceivingList events number = receiving_list events number
form_text ReceivingCsv events number = receiving_csv events number
form_text PickingCsv events number = picking_csv events number
