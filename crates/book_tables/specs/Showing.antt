-- What the queries of running rows show of a row.
use Rattle.std.specs.Prelude.{◌≡◌, ◌<◌, ◌^◌, ◌+◌, ℕ, Bool, true, false, List, [], ◌∷◌, pos, Option, option_map}
use Rattle.std.specs.Borrow.{Bor}
use Rattle.sqlite.specs.declared.types.Value.TheVariants.{Int, Text, Blob}
use Rattle.sqlite.specs.Order.{Row, column}
use Rattle.definitions.specs.Means.{Line}
use Rattle.definitions.specs.Page.{PageAdvice, PageLine, PageOrder}
use Rattle.definitions.specs.Rows.{LotRow, OutRow}
use Rattle.definitions.specs.Tables as cell
use Rattle.definitions.specs.Tables.{Cell, flag, text_or_null, address_cells}
use Rattle.rules.specs.OutKind.{OutKind}
use Rattle.rules.specs.OutKind.TheVariants.{Answer}
use Rattle.store.specs.declared.rows.DocumentState.{DocumentState}
use Rattle.store.specs.declared.rows.DocumentState.TheVariants.{Unasked}
use Rattle.rules.specs.Kinds.{kind_text}
use Rattle.store.specs.Sent.{state_name}
use Rattle.book_statements.specs.Held.{value_of, values}

-- What went out.

-- a text of this kind can have this state: nothing is asked about an answer, and something about
-- each document
abbrev pub is_state_of : OutKind → DocumentState → Bool
is_state_of Answer Unasked = true
is_state_of Answer state = false
is_state_of kind Unasked = false
is_state_of kind state = true

-- two columns of a row have the words of this kind and of this state, which it can have
pub record IsSentAs (row : Row) (kind_at state_at : ℕ) (kind : OutKind) (state : DocumentState)
    : Type 0 where
  pub kind_is : column row kind_at ≡ Text (kind_text kind)
  pub state_is : column row state_at ≡ Text (state_name state)
  pub fits : is_state_of kind state ≡ true

-- of some kind and some state
abbrev pub HasKindAndState : Row → ℕ → ℕ → Type 0
HasKindAndState row kind_at state_at = (kind : OutKind) × (state : DocumentState)
    × IsSentAs row kind_at state_at kind state

-- the row has a text that went out
abbrev pub HasText : Row → Type 0
HasText row = (text : List ℕ) × (column row 2 ≡ Blob text)

-- the row of n, kind, content and state has one, and it is known what it is and what was said of it
abbrev pub IsOut : Row → Type 0
IsOut row = HasText row × HasKindAndState row 1 3

-- n, kind, content, state
abbrev pub out_shown : OutRow → Row
out_shown r = Int (pos r.n) ∷ Text r.kind ∷ Blob r.content ∷ Text r.state ∷ []

-- a text that went out: its number has 32 bits, its kind and state are ones that there are, and it
-- can have this state
pub record IsSent (r : OutRow) : Type 0 where
  pub few : r.n < 2 ^ 32
  pub kind : OutKind
  pub kind_is : r.kind ≡ kind_text kind
  pub state : DocumentState
  pub state_is : r.state ≡ state_name state
  pub fits : is_state_of kind state ≡ true

-- item, lot, since, expected, on_hand, reserved, shipped: all but the date
abbrev pub lot_shown : LotRow → Row
lot_shown r = Text r.item ∷ Text r.lot ∷ Int (pos r.since) ∷ Int (pos r.expected)
    ∷ Int (pos r.on_hand) ∷ Int (pos r.reserved) ∷ Int (pos r.shipped) ∷ []

-- an advice but for its lines: shipment, ord, is_open
abbrev pub advice_shown : PageAdvice → Row
advice_shown a = Text a.shipment ∷ Text a.order ∷ value_of (flag a.is_open) ∷ []

-- item, lot, quantity: of a line of an advice, and of what is reserved
abbrev pub line_shown : Line → Row
line_shown l = Text l.item ∷ Text l.lot ∷ Int (pos l.quantity) ∷ []

-- the columns of a row from one on have these cells
abbrev pub AreAt : Row → ℕ → List Cell → Type 0
AreAt row at [] = Unit {0}
AreAt row at (cell ∷ cells) = (column row at ≡ value_of cell) × AreAt row (at + 1) cells

-- a text that may be NULL
abbrev pub lent_text : Option (Bor (List ℕ)) → Option (List ℕ)
lent_text text = option_map (λ t. t.now) text

-- the last four cells of an order: to_name, which may be NULL, to_one, to_two and to_place
abbrev pub to_cells : Option (List ℕ) → List ℕ → List ℕ → List ℕ → List Cell
to_cells name one two place =
    text_or_null name ∷ cell.Text one ∷ cell.Text two ∷ cell.Text place ∷ []

-- an order but for its lines and what is reserved: ord, is_open, to_name, to_one, to_two, to_place
abbrev pub order_shown : PageOrder → Row
order_shown o = Text o.number ∷ value_of (flag o.is_open) ∷ values (address_cells o.address)

-- item, lot, quantity, where a line that isn't pinned to a lot has NULL
abbrev pub order_line_shown : PageLine → Row
order_line_shown l = Text l.item ∷ value_of (text_or_null l.pin) ∷ Int (pos l.quantity) ∷ []

-- kind and state of what went out
abbrev pub sent_shown : OutRow → Row
sent_shown r = Text r.kind ∷ Text r.state ∷ []

-- content, kind and state of it
abbrev pub content_shown : OutRow → Row
content_shown r = Blob r.content ∷ Text r.kind ∷ Text r.state ∷ []

-- a name alone: a shipment number, the number of an order, or a depositor as the tables have it
abbrev pub name_shown : List ℕ → Row
name_shown name = Text name ∷ []
