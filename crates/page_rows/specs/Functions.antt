-- The functional identifiers of the documents that are sent.
use Rattle.std.specs.Prelude.{ℕ, List, codes}
use Rattle.page_rows.specs.declared.documents.Function.{Function}
use Rattle.page_rows.specs.declared.documents.Function.TheVariants.{Receipt, Shipment, Adjustment}

abbrev pub function_text : Function → List ℕ
function_text Receipt = codes "RE"
function_text Shipment = codes "SW"
function_text Adjustment = codes "AW"
