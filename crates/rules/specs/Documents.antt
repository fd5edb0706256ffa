-- The texts of documents, from what a page tells.
use Rattle.std.specs.Prelude.{ℕ, List, ◌++◌, map, filter, bytes_eq, codes}
use Rattle.definitions.specs.Means.{Line}
use Rattle.definitions.specs.Events.{pair_before, quantity_of}
use Rattle.definitions.specs.Lists.{in_order}
use Rattle.definitions.specs.Page.{PageAdvice, PageLine, PageOrder}
use Rattle.definitions.specs.Texts.{total_of, document_text}
use Rattle.sets_out.specs.Documents.{receipt_body, shipment_body, adjustment_body, PickedLot, ShippedLine, AdjustedLine}
use Rattle.definitions.specs.Movements.{OnHand}
use Rattle.stock.specs.OfPairs.{of_pair, amount}
use Rattle.stock.specs.Pages.{PageFacts}
use Rattle.sets_out.specs.declared.envelopes.Envelope.{Envelope}

-- a pair with what a sheet gives it
abbrev pub received_line : List Line → Line → Line
received_line sheet l =
    record { item = l.item; lot = l.lot; quantity = quantity_of sheet l.item l.lot }

-- the 944 of an advice and the sheet of its count
abbrev pub receipt_text : Envelope → PageAdvice → List Line → List ℕ
receipt_text e a sheet =
    document_text e.warehouse e.depositor e.moment e.number (codes "RE") (codes "944")
    (receipt_body e.moment e.number (record {
      order = a.order;
      shipment = a.shipment;
      lines = map (received_line sheet) (in_order pair_before (a.lines ++ sheet));
      counted = total_of sheet;
      advised = total_of a.lines;
    }))

-- what was picked of a lot
abbrev pub picked_lot : Line → PickedLot
picked_lot k = record { lot = k.lot; quantity = k.quantity }

-- a line of an order with what a sheet says of its item
abbrev pub shipped_of : List Line → PageLine → ShippedLine
shipped_of sheet l =
    let lots = in_order pair_before (filter (λ k. bytes_eq k.item l.item) sheet) in
    record {
      item = l.item;
      ordered = l.quantity;
      shipped = total_of lots;
      lots = map picked_lot lots;
    }

-- the 945 of an order and the sheet of its pick
abbrev pub shipment_text : Envelope → PageOrder → List Line → List ℕ
shipment_text e o sheet =
    document_text e.warehouse e.depositor e.moment e.number (codes "SW") (codes "945")
    (shipment_body e.moment e.number (record {
      order = o.number;
      lines = map (shipped_of sheet) o.lines;
      shipped = total_of sheet;
    }))

-- a pair with what a page has on hand of it, and what is there now
abbrev pub adjusted_from : PageFacts → Line → AdjustedLine
adjusted_from p l =
    record {
      item = l.item;
      lot = l.lot;
      before = of_pair (amount OnHand) l.item l.lot p.rows;
      after = l.quantity;
    }

-- the 947 of the sheet of a recount
abbrev pub adjustment_text : Envelope → PageFacts → List Line → List ℕ
adjustment_text e p sheet =
    document_text e.warehouse e.depositor e.moment e.number (codes "AW") (codes "947")
    (adjustment_body e.moment e.number (map (adjusted_from p) sheet))
