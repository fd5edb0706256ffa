-- What is looked up under a number: parts of advices and of orders, and what went out.
use Rattle.std.specs.Prelude.{◌≡◌, ℕ, List, [], None, Some, Option}
use Rattle.definitions.specs.Means.{Line}
use Rattle.definitions.specs.Page.{PageAdvice, PageLine, PageOrder, PageDocument}
use Rattle.definitions.specs.Rows.{OutRow, state_text}
use Rattle.rules.specs.Functions.{function_text}
use Rattle.rules.specs.Function.{Function}
use Rattle.rules.specs.Function.TheVariants as functions
use Rattle.rules.specs.OutKind.{OutKind}
use Rattle.rules.specs.OutKind.TheVariants.{Answer, Receipt, Shipment, Adjustment}
use Rattle.rules.specs.Kinds.{kind_text}
use Rattle.store.specs.declared.rows.DocumentState.TheVariants.{Unasked}
use Rattle.store.specs.Sent.{state_name}

-- an advice but for its lines
abbrev pub bare_advice : PageAdvice → PageAdvice
bare_advice a = record a { lines = [] }

-- the lines of an advice, if there is one
abbrev pub lines_advised : Option PageAdvice → List Line
lines_advised None = []
lines_advised (Some a) = a.lines

-- an order but for its lines and what is reserved for it
abbrev pub bare_order : PageOrder → PageOrder
bare_order o = record o { lines = []; reserved = [] }

-- the lines of an order, if there is one, and what is reserved for it
abbrev pub lines_ordered : Option PageOrder → List PageLine
lines_ordered None = []
lines_ordered (Some o) = o.lines

abbrev pub lines_reserved : Option PageOrder → List Line
lines_reserved None = []
lines_reserved (Some o) = o.reserved

-- What went out under a number.

-- the kind of document that goes out as this; none as an answer
abbrev pub function_as : OutKind → Option Function
function_as Answer = None
function_as Receipt = Some functions.Receipt
function_as Shipment = Some functions.Shipment
function_as Adjustment = Some functions.Adjustment

-- the row of a number is that of the document under it, or of an answer where there is none
abbrev pub IsRowOf : ℕ → OutRow → Option PageDocument → Type 0
IsRowOf n r None = (r.kind ≡ kind_text Answer) × (r.state ≡ state_name Unasked)
IsRowOf n r (Some d) = (kind : OutKind) × (function : Function) × (function_as kind ≡ Some function)
    × (r.kind ≡ kind_text kind) × (r.state ≡ state_text d.said)
    × (d ≡ record { n = n; function = function_text function; said = d.said })
