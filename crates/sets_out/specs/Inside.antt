-- What may be handed over so that what is written of it is cut again.
use Rattle.std.specs.Prelude.{◌≡◌, List, [], ℕ, IsTrue, IfSome}
use Rattle.std.specs.List.{list_all, AllByRecursion}
use Rattle.definitions.specs.Bytes.{Delims}
use Rattle.definitions.specs.Cut.{Segment, is_inside, cut}
use Rattle.definitions.specs.Means.{Line}
use Rattle.definitions.specs.Texts.{ToldSet, Told, own_delims, text_of}
use Rattle.sets_out.specs.Handed.{receipt_of, shipment_of}
use Rattle.sets_out.specs.Headings.{Heading}
use Rattle.sets_out.specs.Documents.{ShippedLine, AdjustedLine, Receipt, Shipment}
use Rattle.sets_out.specs.declared.sheets.Document.{Document}
use Rattle.sets_out.specs.declared.sheets.Document.TheVariants.{Received, Shipped, Adjusted}

-- neither a separator nor a terminator stands in the text; data bytes are such
abbrev pub IsInside : Delims → List ℕ → Type 0
IsInside d text = IsTrue (list_all (is_inside d) text)

-- what a TA1 repeats of ISA
abbrev pub IsHeadingInside : Delims → Heading → Type 0
IsHeadingInside d h = IsInside d h.control × IsInside d h.date × IsInside d h.time

-- what a 997 tells of a set
abbrev pub IsSetInside : Delims → ToldSet → Type 0
IsSetInside d s = IsInside d s.number × IsInside d s.control
    × IfSome s.rejection (λ r. IfSome r.segment (λ f. IsInside d f.id))

-- and of a group
abbrev pub IsToldInside : Delims → Told → Type 0
IsToldInside d t = IsInside d t.function × IsInside d t.number
    × AllByRecursion (IsSetInside d) t.sets

-- Documents have delimiters of their own.

abbrev pub IsOwn : List ℕ → Type 0
IsOwn text = IsInside own_delims text

abbrev pub IsLineOwn : Line → Type 0
IsLineOwn l = IsOwn l.item × IsOwn l.lot

abbrev pub IsReceiptOwn : Receipt → Type 0
IsReceiptOwn r = IsOwn r.order × IsOwn r.shipment × AllByRecursion IsLineOwn r.lines

abbrev pub IsShippedOwn : ShippedLine → Type 0
IsShippedOwn l = IsOwn l.item × AllByRecursion (λ k. IsOwn k.lot) l.lots

abbrev pub IsShipmentOwn : Shipment → Type 0
IsShipmentOwn s = IsOwn s.order × AllByRecursion IsShippedOwn s.lines

abbrev pub IsAdjustedOwn : AdjustedLine → Type 0
IsAdjustedOwn l = IsOwn l.item × IsOwn l.lot

abbrev pub IsDocumentOwn : Document → Type 0
IsDocumentOwn (Received r) = IsReceiptOwn (receipt_of r.now)
IsDocumentOwn (Shipped s) = IsShipmentOwn (shipment_of s.now)
IsDocumentOwn (Adjusted lines) = AllByRecursion IsAdjustedOwn lines.now

-- segments are the one cut of their text
abbrev pub IsCutAgain : Delims → List Segment → Type 0
IsCutAgain d ss = cut d (text_of d ss) ≡ record { segments = ss; rest = [] }
