-- The rows that the tables of the book hold, each table's by its key.
use Rattle.std.specs.Prelude.{ℕ, ◌+◌, Bool, List, [], ◌∷◌, ◌++◌, map, length, if◌then◌else◌, ◌==◌, Some, None, codes, flat_map, filter_map, Option, option_and_then, option_to_list}
use Rattle.std.specs.List.{enumerate_from}
use Rattle.definitions.specs.declared.rules.Rules.{Rules}
use Rattle.definitions.specs.declared.rules.Rules.TheVariants.{One, Two}
use Rattle.definitions.specs.Rules.{rules_number}
use Rattle.definitions.specs.Bytes.{comes_before}
use Rattle.definitions.specs.Lists.{first_of, in_order}
use Rattle.definitions.specs.Moments.{stamp}
use Rattle.definitions.specs.Header.{Who, who_text}
use Rattle.definitions.specs.Means.{Address}
use Rattle.definitions.specs.Register.{Deed, Enrolled, Entry, mark, is_numbered, own, next_number, body_of}
use Rattle.definitions.specs.Readings.{entry_from}
use Rattle.definitions.specs.History.{events}
use Rattle.definitions.specs.Rows.{LotRow, running_rows, OutRow, outgoing_rows}
use Rattle.definitions.specs.Page.{PageAdvice, PageOrder, page_advices, page_orders}

pub data Cell : Type 0 where
  Null : Cell
  Number : ℕ → Cell
  Text : List ℕ → Cell
  Blob : List ℕ → Cell

abbrev pub TableRow : Type 0
TableRow = List Cell

abbrev pub flag : Bool → Cell
flag b = Number (if b then 1 else 0)

abbrev pub text_or_null : Option (List ℕ) → Cell
text_or_null None = Null
text_or_null (Some text) = Text text

-- the enrolled depositors, by their texts
abbrev pub depositors : List Entry → List Who
depositors L = in_order (λ a b. comes_before (who_text a) (who_text b)) (filter_map enrolled L)
  where
    by_deed : Who → Deed → Option Who
    by_deed w Enrolled = Some w
    by_deed w d = None

    enrolled : Entry → Option Who
    enrolled e = by_deed e.who e.deed

-- the rows of each depositor, each beginning with who it is
abbrev pub for_each : List Entry → (List Entry → List TableRow) → List TableRow
for_each L rows = flat_map (λ w. map (λ r. Text (who_text w) ∷ r) (rows (own L w))) (depositors L)

-- book: version, qualifier, id
abbrev pub book_table : Rules → Who → List TableRow
book_table r W = (Number (rules_number r) ∷ Text W.qualifier ∷ Text W.id ∷ []) ∷ []

-- entry: seq, who, mark, n, moment, body

-- an entry's number when `before` stands before it in the register: 0 of an enrolment
abbrev pub number_of : List Entry → Entry → ℕ
number_of before e = if is_numbered e then next_number (own before e.who) else 0

abbrev pub entry_row : List Entry → Entry → TableRow
entry_row before e = Number (length before + 1) ∷ Text (who_text e.who) ∷ Text (mark e)
    ∷ Number (number_of before e)
    ∷ Text (stamp e.moment) ∷ Blob (body_of e.deed) ∷ []

abbrev pub entries_on : List Entry → List Entry → List TableRow
entries_on before [] = []
entries_on before (e ∷ L) = entry_row before e ∷ entries_on (before ++ e ∷ []) L

abbrev pub entry_table : List Entry → List TableRow
entry_table L = entries_on [] L

-- entry_rules: seq, rules

abbrev pub entry_rules_row : List Entry → Entry → TableRow
entry_rules_row before e = Number (length before + 1) ∷ Number (rules_number e.rules) ∷ []

abbrev pub entry_rules_on : List Entry → List Entry → List TableRow
entry_rules_on before [] = []
entry_rules_on before (e ∷ L) = entry_rules_row before e ∷ entry_rules_on (before ++ e ∷ []) L

abbrev pub entry_rules_table : List Entry → List TableRow
entry_rules_table L = entry_rules_on [] L

-- The way back.

-- the entry under these rules that a row of `entry` holds, if it holds one
abbrev pub entry_in : Rules → TableRow → Option Entry
entry_in r (Number seq ∷ Text who ∷ Text under ∷ Number n ∷ Text moment ∷ Blob body ∷ []) =
    entry_from r who under moment body
entry_in r row = None

-- the rules that a row of `entry_rules` holds, if it holds some
abbrev pub rules_in : TableRow → Option Rules
rules_in (Number seq ∷ Number n ∷ []) = first_of None ((n == 1, Some One) ∷ (n == 2, Some Two) ∷ [])
rules_in row = None

-- the register that the rows of `entry` hold under these rules, and under rules 1 where none are
-- told
abbrev pub register_in : List (Option Rules) → List TableRow → List Entry
register_in rs [] = []
register_in [] (row ∷ rows) = option_to_list (entry_in One row) ++ register_in [] rows
register_in (r ∷ rs) (row ∷ rows) = option_to_list (option_and_then (λ r. entry_in r row) r)
    ++ register_in rs rows

-- outgoing: who, n, kind, content, state
abbrev pub outgoing_cells : OutRow → TableRow
outgoing_cells r = Number r.n ∷ Text r.kind ∷ Blob r.content ∷ Text r.state ∷ []

abbrev pub outgoing_row : Who → OutRow → TableRow
outgoing_row w r = Text (who_text w) ∷ outgoing_cells r

abbrev pub outgoing_table : Who → List Entry → List TableRow
outgoing_table W L = for_each L (λ M. map outgoing_cells (outgoing_rows W M))

-- stock: who, item, lot, since, expected, on_hand, reserved, shipped
abbrev pub stock_cells : LotRow → TableRow
stock_cells r = Text r.item ∷ Text r.lot ∷ Number r.since
    ∷ Number r.expected ∷ Number r.on_hand ∷ Number r.reserved ∷ Number r.shipped ∷ []

abbrev pub stock_table : List Entry → List TableRow
stock_table L = for_each L (λ M. map stock_cells (running_rows (events M)))

-- advice: who, shipment, ord, is_open
abbrev pub advice_cells : PageAdvice → TableRow
advice_cells a = Text a.shipment ∷ Text a.order ∷ flag a.is_open ∷ []

abbrev pub advice_rows : List Entry → List TableRow
advice_rows M = map advice_cells (page_advices (events M))

abbrev pub advice_table : List Entry → List TableRow
advice_table L = for_each L advice_rows

-- advice_line: who, shipment, line, item, lot, quantity
abbrev pub advice_line_cells : PageAdvice → List TableRow
advice_line_cells a = map
    (λ p. Text a.shipment ∷ Number p.0 ∷ Text p.1.item ∷ Text p.1.lot ∷ Number p.1.quantity ∷ [])
    (enumerate_from 1 a.lines)

abbrev pub advice_line_rows : List Entry → List TableRow
advice_line_rows M = flat_map advice_line_cells (page_advices (events M))

abbrev pub advice_line_table : List Entry → List TableRow
advice_line_table L = for_each L advice_line_rows

-- orders: who, ord, is_open, to_name, to_one, to_two, to_place

abbrev pub address_cells : Option Address → List Cell
address_cells None = Null ∷ Text [] ∷ Text [] ∷ Text [] ∷ []
address_cells (Some a) = Text a.name ∷ Text a.one ∷ Text a.two ∷ Text a.place ∷ []

abbrev pub orders_cells : PageOrder → TableRow
orders_cells o = Text o.number ∷ flag o.is_open ∷ address_cells o.address

abbrev pub orders_rows : List Entry → List TableRow
orders_rows M = map orders_cells (page_orders (events M))

abbrev pub orders_table : List Entry → List TableRow
orders_table L = for_each L orders_rows

-- order_line: who, ord, line, item, lot, quantity
abbrev pub order_line_cells : PageOrder → List TableRow
order_line_cells o = map
    (λ p. Text o.number ∷ Number p.0 ∷ Text p.1.item ∷ text_or_null p.1.pin ∷ Number p.1.quantity
    ∷ [])
    (enumerate_from 1 o.lines)

abbrev pub order_line_rows : List Entry → List TableRow
order_line_rows M = flat_map order_line_cells (page_orders (events M))

abbrev pub order_line_table : List Entry → List TableRow
order_line_table L = for_each L order_line_rows

-- reservation: who, ord, item, lot, quantity; the shares above 0 of open orders
abbrev pub reservation_cells : PageOrder → List TableRow
reservation_cells o =
    map (λ l. Text o.number ∷ Text l.item ∷ Text l.lot ∷ Number l.quantity ∷ []) o.reserved

abbrev pub reservation_rows : List Entry → List TableRow
reservation_rows M = flat_map reservation_cells (page_orders (events M))

abbrev pub reservation_table : List Entry → List TableRow
reservation_table L = for_each L reservation_rows

-- lot_expiry: who, item, lot, expiry; of each pair that has one
abbrev pub expiry_cells : LotRow → List TableRow
expiry_cells r = map (λ date. Text r.item ∷ Text r.lot ∷ Text date ∷ []) (option_to_list r.expiry)

abbrev pub lot_expiry_table : List Entry → List TableRow
lot_expiry_table L = for_each L (λ M. flat_map expiry_cells (running_rows (events M)))

-- All tables of the book of a version, by their names.

abbrev pub AllTables : Type 0
AllTables = List (List ℕ × List TableRow)

-- those that version 1 hasn't
abbrev pub later_tables : Rules → List Entry → AllTables
later_tables One L = []
later_tables Two L = (codes "entry_rules", entry_rules_table L)
    ∷ (codes "lot_expiry", lot_expiry_table L) ∷ []

abbrev pub tables : Rules → Who → List Entry → AllTables
tables r W L =
    (codes "book", book_table r W)
    ∷ (codes "entry", entry_table L)
    ∷ (codes "outgoing", outgoing_table W L)
    ∷ (codes "stock", stock_table L)
    ∷ (codes "advice", advice_table L)
    ∷ (codes "advice_line", advice_line_table L)
    ∷ (codes "orders", orders_table L)
    ∷ (codes "order_line", order_line_table L)
    ∷ (codes "reservation", reservation_table L)
    ∷ later_tables r L
