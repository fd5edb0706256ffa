-- The page of a depositor: what its entries come to, with nothing in it that its tables haven't.
use Rattle.std.specs.Prelude.{ℕ, ◌+◌, Bool, List, [], ◌∷◌, ◌++◌, map, if◌then◌else◌, nat_lt, Some, None, filter, filter_map, Option}
use Rattle.definitions.specs.Bytes.{comes_before}
use Rattle.definitions.specs.Lists.{in_order}
use Rattle.definitions.specs.Means.{Line, Advice, advised, OrderLine, Address}
use Rattle.definitions.specs.Register.{Deed, Performed, Entry, is_numbered}
use Rattle.definitions.specs.Events.{Event, Advised, Ordered, pair_before, Reserved, is_advice_open, is_order_open}
use Rattle.definitions.specs.History.{events, history}
use Rattle.definitions.specs.Rows.{LotRow, running_rows, act_function, said_of}

pub record PageAdvice : Type 0 where
  pub shipment : List ℕ
  pub order : List ℕ
  pub lines : List Line
  pub is_open : Bool

pub record PageLine : Type 0 where
  pub item : List ℕ
  pub pin : Option (List ℕ)
  pub quantity : ℕ

pub record PageOrder : Type 0 where
  pub number : List ℕ
  pub address : Option Address
  pub lines : List PageLine
  -- what is reserved for it, by item and lot, each above 0; nothing where it is closed
  pub reserved : List Line
  pub is_open : Bool

-- a document that was sent, and what the first acknowledgment of it said
pub record PageDocument : Type 0 where
  pub n : ℕ
  pub function : List ℕ
  pub said : Option Bool

pub record Page : Type 0 where
  pub rows : List LotRow
  pub advices : List PageAdvice
  pub orders : List PageOrder
  pub documents : List PageDocument
  -- how many numbered entries there are
  pub entries : ℕ

-- The advices and the orders of events, by their numbers.

abbrev pub advices_of : List Event → List Advice
advices_of es = in_order (λ a b. comes_before a.shipment b.shipment) (filter_map advice es)
  where
    advice : Event → Option Advice
    advice (Advised a) = Some a
    advice e = None

abbrev pub orders_of : List Event → List Reserved
orders_of es = in_order (λ a b. comes_before a.order.number b.order.number) (filter_map order es)
  where
    order : Event → Option Reserved
    order (Ordered o shares) = Some (record { order = o; shares = shares })
    order e = None

-- the shares above 0, by item and lot
abbrev pub reserved_lines : List Line → List Line
reserved_lines shares = in_order pair_before (filter (λ l. nat_lt 0 l.quantity) shares)

abbrev pub page_advice : List Event → Advice → PageAdvice
page_advice es a =
    record {
      shipment = a.shipment;
      order = a.order;
      lines = advised a;
      is_open = is_advice_open a.shipment es;
    }

abbrev pub page_line : OrderLine → PageLine
page_line l = record { item = l.item; pin = l.pin; quantity = l.quantity }

abbrev pub page_order : List Event → Reserved → PageOrder
page_order es r = record {
  number = r.order.number;
  address = r.order.address;
  lines = map page_line r.order.lines;
  reserved = if is_order_open r.order.number es then reserved_lines r.shares else [];
  is_open = is_order_open r.order.number es;
}

abbrev pub page_advices : List Event → List PageAdvice
page_advices es = map (page_advice es) (advices_of es)

abbrev pub page_orders : List Event → List PageOrder
page_orders es = map (page_order es) (orders_of es)

-- the document that a deed sent under a number: that number and the functional identifier
abbrev pub sent_by : ℕ → Deed → List (ℕ × List ℕ)
sent_by n (Performed ticket act) = (n, act_function act) ∷ []
sent_by n deed = []

-- those of entries, by their numbers
abbrev pub sent_on : ℕ → List Entry → List (ℕ × List ℕ)
sent_on n [] = []
sent_on n (e ∷ M) = sent_by n e.deed ++ sent_on (n + (if is_numbered e then 1 else 0)) M

abbrev pub documents_of : List Event → List (ℕ × List ℕ) → List PageDocument
documents_of es sent =
    map (λ (d : ℕ × List ℕ). record { n = d.0; function = d.1; said = said_of es d.0 d.1 }) sent

-- The page of events, of the documents that were sent, and of the number of entries: so also within
-- an interchange, whose sets act one after another before its entry counts.
abbrev pub page_at : List Event → List (ℕ × List ℕ) → ℕ → Page
page_at es sent n = record {
  rows = running_rows es;
  advices = page_advices es;
  orders = page_orders es;
  documents = documents_of es sent;
  entries = n;
}

-- the page of a depositor's own entries
abbrev pub page_of : List Entry → Page
page_of M = page_at (events M) (sent_on 1 M) (history M).numbered
