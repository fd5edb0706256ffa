-- The events that a page stands for.
use Rattle.std.specs.Prelude.{ℕ, ◌≡◌, ◌+◌, Bool, true, false, ◌&&◌, List, if◌then◌else◌, nat_lt, nat_le, ◌==◌, Some, None, codes, Option, option_map, flat_map}
use Rattle.std.specs.List.{list_any, list_all}
use Rattle.definitions.specs.Lists.{first_found}
use Rattle.definitions.specs.Events.{Event, Acknowledged, Counted, Picked, Recounted, quantity_of, advice_under, Reserved, order_under, counts, picks, first_count, expiry}
use Rattle.definitions.specs.Movements.{Column, came_to, went_from}
use Rattle.definitions.specs.Rows.{named, said_of}
use Rattle.definitions.specs.Page.{PageDocument, reserved_lines, page_advice, page_order}
use Rattle.page_rows.specs.OfPairs.{of_pair, date_of_pair, one, since, amount, named_by, positive}
use Rattle.page_rows.specs.Pages.{PageFacts, advice_at, order_at, document_at}

-- the functional identifier of the document that a clerk's event sent under a number
abbrev pub sent_if : ℕ → Event → Option (List ℕ)
sent_if n (Counted m a sheet) = if m == n then Some (codes "RE") else None
sent_if n (Picked m o shares sheet) = if m == n then Some (codes "SW") else None
sent_if n (Recounted m before sheet) = if m == n then Some (codes "AW") else None
sent_if n e = None

abbrev pub sent_under : ℕ → List Event → Option (List ℕ)
sent_under n es = first_found (sent_if n) es

-- a document with what the events say of it
abbrev pub document_of : List Event → ℕ → List ℕ → PageDocument
document_of es n function = record { n = n; function = function; said = said_of es n function }

-- an event that carries a number carries one from 1 to the most
abbrev pub is_numbered_within : ℕ → Event → Bool
is_numbered_within most (Acknowledged m a) = nat_lt 0 m && nat_le m most
is_numbered_within most (Counted m a sheet) = nat_lt 0 m && nat_le m most
is_numbered_within most (Picked m o shares sheet) = nat_lt 0 m && nat_le m most
is_numbered_within most (Recounted m before sheet) = nat_lt 0 m && nat_le m most
is_numbered_within most e = true

-- the shares of an order that was found name each pair once, so far as they are above 0: their sums
-- are those of the lines in order
abbrev pub NamesEachOnce : Option Reserved → Type 0
NamesEachOnce None = Unit {0}
NamesEachOnce (Some r) = (item lot : List ℕ)
    → quantity_of (reserved_lines r.shares) item lot ≡ quantity_of r.shares item lot

-- The page stands for the events. Amounts are told without a difference, so that they say at once
-- that no more went than came.
pub record Shows (p : PageFacts) (es : List Event) : Type 0 where
  pub amounts : (c : Column) (item lot : List ℕ)
      → of_pair (amount c) item lot p.rows + went_from es c item lot ≡ came_to es c item lot
  pub sinces : (item lot : List ℕ)
      → first_count es item lot ≡ positive (of_pair since item lot p.rows)
  -- the date in the first advice that gave the pair one
  pub expiries : (item lot : List ℕ) → expiry es item lot ≡ date_of_pair item lot p.rows
  -- a row for each pair that was named, and no two
  pub pairs : (item lot : List ℕ)
      → of_pair one item lot p.rows ≡ named_by (flat_map named es) item lot
  pub advices : (shipment : List ℕ)
      → advice_at shipment p.advices ≡ option_map (page_advice es) (advice_under shipment es)
  pub orders : (number : List ℕ)
      → order_at number p.orders ≡ option_map (page_order es) (order_under number es)
  pub documents : (n : ℕ)
      → document_at n p.documents ≡ option_map (document_of es n) (sent_under n es)
  -- no count of an unknown advice, and no pick of an unknown order
  pub counted : (shipment : List ℕ) → advice_under shipment es ≡ None
      → list_any (counts shipment) es ≡ false
  pub picked : (number : List ℕ) → order_under number es ≡ None → list_any (picks number) es ≡ false
  pub shares : (number : List ℕ) → NamesEachOnce (order_under number es)
  -- so a document is acknowledged only by a later entry
  pub numbers : list_all (is_numbered_within (p.entries + 1)) es ≡ true
