-- Changes of a page as changes of the tables, worked for an advice, its count, an order, its pick
-- and an acknowledgment.
use Rattle.std.specs.Prelude.{◌≡◌, true, false, List, [], ◌∷◌, Some, None, codes}
use Rattle.std.proofs.Common.{refl, ℕ, Bool}
use Rattle.definitions.specs.Header.{Who}
use Rattle.definitions.specs.Means.{Line}
use Rattle.definitions.specs.Rows.{LotRow}
use Rattle.definitions.specs.Page.{PageAdvice, PageOrder}
use Rattle.definitions.specs.Tables.{Cell, Null, Number, Text}
use Rattle.definitions.specs.Changes.{Puts, SetsState, Frees}
use Rattle.stock.specs.Function.TheVariants.{Receipt, Shipment}
use Rattle.stock.specs.declared.steps.Change.TheVariants.{Stock, Advice, Order, Sent, Document}
use Rattle.set_effects.specs.Tabled.{table_changes}

abbrev acme : Who
acme = record { qualifier = codes "ZZ"; id = codes "ACME" }

abbrev who : Cell
who = Text (codes "ZZ-ACME")

abbrev bolts : ℕ → ℕ → ℕ → ℕ → ℕ → LotRow
bolts since expected on_hand reserved shipped =
    record { item = codes "BOLT"; lot = codes "L1"; expiry = None; since = since; expected = expected; on_hand = on_hand; reserved = reserved; shipped = shipped }

abbrev line : ℕ → Line
line quantity = record { item = codes "BOLT"; lot = codes "L1"; quantity = quantity }

abbrev advice : Bool → PageAdvice
advice is_open = record { shipment = codes "SHP1"; order = codes "PO77"; lines = line 100 ∷ []; is_open = is_open }

abbrev order : List Line → Bool → PageOrder
order reserved is_open =
    record { number = codes "ORD1"; address = None; lines = record { item = codes "BOLT"; pin = None; quantity = 120 } ∷ []; reserved = reserved; is_open = is_open }

-- an advice brings its row, its lines and the row of each pair
announced : table_changes acme (Stock (bolts 0 100 0 0 0) ∷ Advice (advice true) ∷ []) ≡
    Puts (codes "stock") (who ∷ Text (codes "BOLT") ∷ Text (codes "L1") ∷ Number 0 ∷ Number 100 ∷ Number 0 ∷ Number 0 ∷ Number 0 ∷ [])
    ∷ Puts (codes "advice") (who ∷ Text (codes "SHP1") ∷ Text (codes "PO77") ∷ Number 1 ∷ [])
    ∷ Puts (codes "advice_line") (who ∷ Text (codes "SHP1") ∷ Number 1 ∷ Text (codes "BOLT") ∷ Text (codes "L1") ∷ Number 100 ∷ [])
    ∷ []
announced = refl

-- and, where it gives one, the date of a pair
dated : table_changes acme (Stock (record (bolts 0 100 0 0 0) { expiry = Some (codes "20271231") }) ∷ []) ≡
    Puts (codes "stock") (who ∷ Text (codes "BOLT") ∷ Text (codes "L1") ∷ Number 0 ∷ Number 100 ∷ Number 0 ∷ Number 0 ∷ Number 0 ∷ [])
    ∷ Puts (codes "lot_expiry") (who ∷ Text (codes "BOLT") ∷ Text (codes "L1") ∷ Text (codes "20271231") ∷ [])
    ∷ []
dated = refl

-- its count closes it; the document comes with the entry's outgoing text
counted : table_changes acme (Stock (bolts 2 0 90 0 0) ∷ Advice (advice false) ∷ Sent 2 Receipt ∷ []) ≡
    Puts (codes "stock") (who ∷ Text (codes "BOLT") ∷ Text (codes "L1") ∷ Number 2 ∷ Number 0 ∷ Number 90 ∷ Number 0 ∷ Number 0 ∷ [])
    ∷ Puts (codes "advice") (who ∷ Text (codes "SHP1") ∷ Text (codes "PO77") ∷ Number 0 ∷ [])
    ∷ []
counted = refl

-- an order brings its row, its lines and what is reserved for it
ordered : table_changes acme (Stock (bolts 2 0 90 90 0) ∷ Order (order (line 90 ∷ []) true) ∷ []) ≡
    Puts (codes "stock") (who ∷ Text (codes "BOLT") ∷ Text (codes "L1") ∷ Number 2 ∷ Number 0 ∷ Number 90 ∷ Number 90 ∷ Number 0 ∷ [])
    ∷ Puts (codes "orders") (who ∷ Text (codes "ORD1") ∷ Number 1 ∷ Null ∷ Text [] ∷ Text [] ∷ Text [] ∷ [])
    ∷ Puts (codes "order_line") (who ∷ Text (codes "ORD1") ∷ Number 1 ∷ Text (codes "BOLT") ∷ Null ∷ Number 120 ∷ [])
    ∷ Puts (codes "reservation") (who ∷ Text (codes "ORD1") ∷ Text (codes "BOLT") ∷ Text (codes "L1") ∷ Number 90 ∷ [])
    ∷ []
ordered = refl

-- its pick closes it and frees what was reserved
picked_up : table_changes acme (Stock (bolts 2 0 0 0 90) ∷ Order (order [] false) ∷ Sent 4 Shipment ∷ []) ≡
    Puts (codes "stock") (who ∷ Text (codes "BOLT") ∷ Text (codes "L1") ∷ Number 2 ∷ Number 0 ∷ Number 0 ∷ Number 0 ∷ Number 90 ∷ [])
    ∷ Puts (codes "orders") (who ∷ Text (codes "ORD1") ∷ Number 0 ∷ Null ∷ Text [] ∷ Text [] ∷ Text [] ∷ [])
    ∷ Frees (codes "ZZ-ACME") (codes "ORD1")
    ∷ []
picked_up = refl

-- an acknowledgment sets the state of the document that it decides
acknowledged : table_changes acme (Document 4 true ∷ []) ≡ SetsState (codes "ZZ-ACME") 4 (Some true) ∷ []
acknowledged = refl
