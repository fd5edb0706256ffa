-- What is handed over, as the definitions see it.
use Rattle.std.specs.Prelude.{ℕ, List, codes}
use Rattle.definitions.specs.Cut.{Segment}
use Rattle.definitions.specs.Moments.{Moment}
use Rattle.sets_out.specs.Documents as meant
use Rattle.sets_out.specs.declared.sheets.Document.{Document}
use Rattle.sets_out.specs.declared.sheets.Document.TheVariants.{Received, Shipped, Adjusted}
use Rattle.sets_out.specs.declared.sheets.Receipt.{Receipt}
use Rattle.sets_out.specs.declared.sheets.Shipment.{Shipment}

abbrev pub receipt_of : Receipt → meant.Receipt
receipt_of r = record {
  order = r.order.now;
  shipment = r.shipment.now;
  lines = r.lines.now;
  counted = r.counted;
  advised = r.advised;
}

abbrev pub shipment_of : Shipment → meant.Shipment
shipment_of s = record { order = s.order.now; lines = s.lines.now; shipped = s.shipped }

-- the functional identifier, the number of the set, and its body
abbrev pub function_of : Document → List ℕ
function_of (Received r) = codes "RE"
function_of (Shipped s) = codes "SW"
function_of (Adjusted lines) = codes "AW"

abbrev pub number_of : Document → List ℕ
number_of (Received r) = codes "944"
number_of (Shipped s) = codes "945"
number_of (Adjusted lines) = codes "947"

abbrev pub body_of : Moment → ℕ → Document → List Segment
body_of t n (Received r) = meant.receipt_body t n (receipt_of r.now)
body_of t n (Shipped s) = meant.shipment_body t n (shipment_of s.now)
body_of t n (Adjusted lines) = meant.adjustment_body t n lines.now
