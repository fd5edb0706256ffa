-- What becomes of a page with one event more.
use Rattle.std.specs.Prelude.{ℕ, ◌≡◌, ◌+◌, ◌==◌, Bool, true, false, List, [], if◌then◌else◌, Option, Some, None, codes, map, nat_lt, nat_le, is_none, ◌&&◌, bytes_eq, option_map}
use Rattle.definitions.specs.Means.{Line, Advice, advised, Order, Acknowledgment}
use Rattle.definitions.specs.Events.{quantity_of}
use Rattle.definitions.specs.Movements.{OnHand, Reservation}
use Rattle.definitions.specs.Rows.{LotRow}
use Rattle.definitions.specs.Page.{PageAdvice, PageOrder, PageDocument, page_line, reserved_lines}
use Rattle.page_rows.specs.Moved.{IsAdvised, IsAdded, IsCounted, IsShipped, SetsOnHand}
use Rattle.page_rows.specs.OfPairs.{of_pair, since, amount}
use Rattle.page_rows.specs.Keyed.{put_advice, put_order, put_document, rises_by, entry_of}
use Rattle.page_rows.specs.Pages.{PageFacts, document_at}

-- an advice that is opened
abbrev pub opened : Advice → PageAdvice
opened a = record { shipment = a.shipment; order = a.order; lines = advised a; is_open = true }

-- one event more in the same entry
pub record FollowsOn (old new : PageFacts) : Type 0 where
  pub entries : new.entries ≡ old.entries
  pub recent : new.recent ≡ old.recent + 1

pub record IsAnnounced (a : Advice) (old new : PageFacts) : Type 0 where
  pub rows : IsAdvised a.lines old.rows new.rows
  pub advices : new.advices ≡ put_advice (opened a) old.advices
  pub orders : new.orders ≡ old.orders
  pub documents : new.documents ≡ old.documents
  pub next : FollowsOn old new

-- an advice that is closed, and an order
abbrev pub closed_advice : PageAdvice → PageAdvice
closed_advice k = record k { is_open = false }

abbrev pub closed_order : PageOrder → PageOrder
closed_order k = record k { reserved = []; is_open = false }

-- a document that is sent, unless one was sent under its number
abbrev pub sent_unless : Option PageDocument → ℕ → List ℕ → List PageDocument → List PageDocument
sent_unless (Some d) n function ds = ds
sent_unless None n function ds =
    put_document (record { n = n; function = function; said = None }) ds

abbrev pub with_sent : ℕ → List ℕ → List PageDocument → List PageDocument
with_sent n function ds = sent_unless (document_at n ds) n function ds

-- a document with what is said of it, if there is one
abbrev pub said_of_found : Option PageDocument → Bool → List PageDocument → List PageDocument
said_of_found (Some d) accepts ds = put_document (record d { said = Some accepts }) ds
said_of_found None accepts ds = ds

abbrev pub with_said : ℕ → Bool → List PageDocument → List PageDocument
with_said n accepts ds = said_of_found (document_at n ds) accepts ds

-- goods are counted: the advice is closed, the sheet is on hand
pub record IsReceived
    (n : ℕ) (k : PageAdvice) (sheet : List Line) (old new : PageFacts) : Type 0 where
  pub rows : IsCounted n k.lines sheet old.rows new.rows
  pub advices : new.advices ≡ put_advice (closed_advice k) old.advices
  pub orders : new.orders ≡ old.orders
  pub documents : new.documents ≡ with_sent n (codes "RE") old.documents
  pub next : FollowsOn old new

-- an order that is opened, with its shares
abbrev pub opened_order : Order → List Line → PageOrder
opened_order o shares = record {
  number = o.number;
  address = o.address;
  lines = map page_line o.lines;
  reserved = reserved_lines shares;
  is_open = true;
}

-- the order is opened, and its shares are reserved
pub record IsReserved (o : Order) (shares : List Line) (old new : PageFacts) : Type 0 where
  pub rows : IsAdded Reservation (reserved_lines shares) old.rows new.rows
  pub advices : new.advices ≡ old.advices
  pub orders : new.orders ≡ put_order (opened_order o shares) old.orders
  pub documents : new.documents ≡ old.documents
  pub next : FollowsOn old new

-- whether a line exceeds what is reserved of its pair
abbrev pub exceeds : List Line → Line → Bool
exceeds reserved l = nat_lt (quantity_of reserved l.item l.lot) l.quantity

-- goods are picked: the order is closed, the sheet is shipped, and nothing is reserved for the
-- order any more
pub record IsPicked (n : ℕ) (k : PageOrder) (sheet : List Line) (old new : PageFacts) : Type 0 where
  pub rows : IsShipped k.reserved sheet old.rows new.rows
  pub advices : new.advices ≡ old.advices
  pub orders : new.orders ≡ put_order (closed_order k) old.orders
  pub documents : new.documents ≡ with_sent n (codes "SW") old.documents
  pub next : FollowsOn old new

-- whether no count named the pair of a line, whether it is below what is reserved, and whether it
-- is what is on hand
abbrev pub is_unknown : List LotRow → Line → Bool
is_unknown rows l = of_pair since l.item l.lot rows == 0

abbrev pub is_below : List LotRow → Line → Bool
is_below rows l = nat_lt l.quantity (of_pair (amount Reservation) l.item l.lot rows)

abbrev pub is_on_hand : List LotRow → Line → Bool
is_on_hand rows l = l.quantity == of_pair (amount OnHand) l.item l.lot rows

-- goods are counted again: the sheet says what is on hand
pub record IsRecounted (n : ℕ) (sheet : List Line) (old new : PageFacts) : Type 0 where
  pub rows : SetsOnHand sheet old.rows new.rows
  pub advices : new.advices ≡ old.advices
  pub orders : new.orders ≡ old.orders
  pub documents : new.documents ≡ with_sent n (codes "AW") old.documents
  pub next : FollowsOn old new

-- an acknowledgment decides a document of an earlier entry that it names, unless one before it did
abbrev pub decides : ℕ → Acknowledgment → PageDocument → Bool
decides entries a d = nat_le d.n entries && a.document == d.n && bytes_eq a.function d.function
    && is_none d.said

-- a document after an acknowledgment
abbrev pub heard : ℕ → Acknowledgment → PageDocument → PageDocument
heard entries a d = record d { said = if decides entries a d then Some a.accepts else d.said }

-- an acknowledgment is taken
pub record IsAcknowledged (a : Acknowledgment) (old new : PageFacts) : Type 0 where
  pub rows : new.rows ≡ old.rows
  pub advices : new.advices ≡ old.advices
  pub orders : new.orders ≡ old.orders
  pub documents : (n : ℕ)
      → document_at n new.documents ≡ option_map (heard old.entries a) (document_at n old.documents)
  pub sorted : rises_by nat_lt entry_of new.documents ≡ true
  pub next : FollowsOn old new
