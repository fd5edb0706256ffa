-- What a depositor can ask for: the rows of stock and of the outbox.
use Rattle.std.specs.Prelude.{ℕ, Bool, true, false, ◌&&◌, List, [], ◌∷◌, ◌++◌, map, length, if◌then◌else◌, nat_lt, ◌==◌, Some, None, codes, bytes_eq, filter, flat_map, Option}
use Rattle.definitions.specs.Lists.{first_found, in_order}
use Rattle.definitions.specs.Header.{Who}
use Rattle.definitions.specs.Means.{Line, advised}
use Rattle.definitions.specs.Register.{Act, Count, Pick, Recount, Deed, Performed, Entry, is_numbered, own, next_number}
use Rattle.definitions.specs.Events.{Event, Advised, Acknowledged, Counted, pair_before, since, expiry}
use Rattle.definitions.specs.Movements.{Expected, OnHand, Reservation, Shipped, balance}
use Rattle.definitions.specs.History.{events}
use Rattle.definitions.specs.Reply.{out}

-- Stock.

-- what can be asked for of a pair
pub record StockRow : Type 0 where
  pub item : List ℕ
  pub lot : List ℕ
  pub expiry : Option (List ℕ)
  pub expected : ℕ
  pub on_hand : ℕ
  pub reserved : ℕ
  pub shipped : ℕ

-- the running row of a pair
pub record LotRow : Type 0 where
  pub item : List ℕ
  pub lot : List ℕ
  -- the date in the first advice that gave the pair one
  pub expiry : Option (List ℕ)
  -- the number of the first count that named the pair, or 0
  pub since : ℕ
  pub expected : ℕ
  pub on_hand : ℕ
  pub reserved : ℕ
  pub shipped : ℕ

abbrev pub shown_row : LotRow → StockRow
shown_row r = record {
  item = r.item;
  lot = r.lot;
  expiry = r.expiry;
  expected = r.expected;
  on_hand = r.on_hand;
  reserved = r.reserved;
  shipped = r.shipped;
}

-- the lines whose pairs an event names: those of an advice, and of a count's sheet
abbrev pub named : Event → List Line
named (Advised a) = advised a
named (Counted n a sheet) = sheet
named e = []

abbrev pub lot_row : List Event → Line → LotRow
lot_row es l = record {
  item = l.item;
  lot = l.lot;
  expiry = expiry es l.item l.lot;
  since = since es l.item l.lot;
  expected = balance es Expected l.item l.lot;
  on_hand = balance es OnHand l.item l.lot;
  reserved = balance es Reservation l.item l.lot;
  shipped = balance es Shipped l.item l.lot;
}

abbrev pub stock_row : List Event → Line → StockRow
stock_row es l = shown_row (lot_row es l)

-- a row for each pair that an advice or a count named, by item and lot
abbrev pub running_rows : List Event → List LotRow
running_rows es = map (lot_row es) (in_order pair_before (flat_map named es))

abbrev pub stock_rows : List Entry → List StockRow
stock_rows M = map shown_row (running_rows (events M))

-- The outbox.

pub record OutRow : Type 0 where
  pub n : ℕ
  -- ANS, 944, 945 or 947
  pub kind : List ℕ
  pub content : List ℕ
  -- `-` for an answer; `open`, `accepted` or `refused` for a document
  pub state : List ℕ

abbrev pub act_kind : Act → List ℕ
act_kind (Count shipment sheet) = codes "944"
act_kind (Pick order sheet) = codes "945"
act_kind (Recount sheet) = codes "947"

-- the functional identifier of a document's group
abbrev pub act_function : Act → List ℕ
act_function (Count shipment sheet) = codes "RE"
act_function (Pick order sheet) = codes "SW"
act_function (Recount sheet) = codes "AW"

-- what an acknowledgment after document n says of it, where it names it
abbrev pub acknowledges : ℕ → List ℕ → Event → Option Bool
acknowledges n function (Acknowledged m a) =
    if nat_lt n m && a.document == n && bytes_eq a.function function then Some a.accepts else None
acknowledges n function e = None

-- what is said of document n: the first acknowledgment after it that names it decides
abbrev pub said_of : List Event → ℕ → List ℕ → Option Bool
said_of es n function = first_found (acknowledges n function) es

abbrev pub state_text : Option Bool → List ℕ
state_text None = codes "open"
state_text (Some true) = codes "accepted"
state_text (Some false) = codes "refused"

-- the state of document n
abbrev pub document_state : List Event → ℕ → List ℕ → List ℕ
document_state es n function = state_text (said_of es n function)

-- the row of a numbered entry, when `before` stands before it and `es` are all events
abbrev pub out_row : Who → List Event → List Entry → Entry → OutRow
out_row W es before e = by_deed e.deed
  where
    by_deed : Deed → OutRow
    by_deed (Performed ticket act) = record {
      n = next_number before;
      kind = act_kind act;
      content = out W before e;
      state = document_state es (next_number before) (act_function act);
    }
    by_deed d = record {
      n = next_number before;
      kind = codes "ANS";
      content = out W before e;
      state = codes "-";
    }

-- the row of an entry that is new: no acknowledgment of it is known yet
abbrev pub new_out_row : Who → List Entry → Entry → OutRow
new_out_row W before e = out_row W [] before e

abbrev pub outgoing_on : Who → List Event → List Entry → List Entry → List OutRow
outgoing_on W es before [] = []
outgoing_on W es before (e ∷ M) =
    (if is_numbered e then out_row W es before e ∷ [] else [])
    ++ outgoing_on W es (before ++ e ∷ []) M

-- a row for each numbered entry, an empty answer too
abbrev pub outgoing_rows : Who → List Entry → List OutRow
outgoing_rows W M = outgoing_on W (events M) [] M

-- a row for each numbered entry that sent something out
abbrev pub outbox_rows : Who → List Entry → List OutRow
outbox_rows W M = filter (λ r. nat_lt 0 (length r.content)) (outgoing_rows W M)

-- The queries, for a depositor of a register: none for a stranger.
abbrev pub stock_of : List Entry → Who → Option (List StockRow)
stock_of L d = let M = own L d in if length M == 0 then None else Some (stock_rows M)

abbrev pub outbox_of : Who → List Entry → Who → Option (List OutRow)
outbox_of W L d = let M = own L d in if length M == 0 then None else Some (outbox_rows W M)
