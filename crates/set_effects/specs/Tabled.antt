-- What changes of a depositor's page are in the tables of the book.
use Rattle.std.specs.Prelude.{ℕ, List, [], ◌∷◌, ◌++◌, if◌then◌else◌, map, fold, filter_map, flat_map, codes, Option, Some, None}
use Rattle.definitions.specs.Header.{Who, who_text}
use Rattle.definitions.specs.Rows.{LotRow}
use Rattle.definitions.specs.Page.{PageAdvice, PageOrder}
use Rattle.definitions.specs.Tables.{Text, TableRow, stock_cells, expiry_cells, advice_cells, advice_line_cells, orders_cells, order_line_cells, reservation_cells}
use Rattle.definitions.specs.Schema.{stock_schema, put_row}
use Rattle.definitions.specs.Changes as tables
use Rattle.stock.specs.declared.steps.Change.{Change}
use Rattle.stock.specs.declared.steps.Change.TheVariants.{Stock, Advice, Order, Sent, Document}

abbrev pub stock_row : Who → LotRow → TableRow
stock_row w row = Text (who_text w) ∷ stock_cells row

-- a depositor's rows of the table
abbrev pub stock_part : Who → List LotRow → List TableRow
stock_part w rows = map (stock_row w) rows

-- the rows that changes put
abbrev pub changed_row : Change → Option LotRow
changed_row (Stock row) = Some row
changed_row c = None

abbrev pub stock_puts : Who → List Change → List TableRow
stock_puts w cs = stock_part w (filter_map changed_row cs)

-- rows with others put in turn, each by its key
abbrev pub with_rows : List TableRow → List TableRow → List TableRow
with_rows rows more = fold (λ rs row. put_row stock_schema row rs) rows more

-- rows of a depositor that are put into the table of this name
abbrev pub puts_into : List ℕ → Who → List TableRow → List tables.Change
puts_into name w rows = map (λ (row : TableRow). tables.Puts name (Text (who_text w) ∷ row)) rows

-- A row of a pair comes with its expiry, if the pair has one: version 1 has no table of it, and no
-- pair an expiry.
abbrev pub row_changes : Who → LotRow → List tables.Change
row_changes w row = puts_into (codes "stock") w (stock_cells row ∷ [])
    ++ puts_into (codes "lot_expiry") w (expiry_cells row)

-- An advice that is opened brings its lines; one that is closed has them.
abbrev pub advice_changes : Who → PageAdvice → List tables.Change
advice_changes w k = puts_into (codes "advice") w (advice_cells k ∷ [])
    ++ (if k.is_open then puts_into (codes "advice_line") w (advice_line_cells k) else [])

-- An order that is opened brings its lines and what is reserved for it; one that is closed frees
-- that.
abbrev pub order_changes : Who → PageOrder → List tables.Change
order_changes w k = puts_into (codes "orders") w (orders_cells k ∷ [])
    ++ (if k.is_open
    then puts_into (codes "order_line") w (order_line_cells k)
    ++ puts_into (codes "reservation") w (reservation_cells k)
    else tables.Frees (who_text w) k.number ∷ [])

-- A document that is sent comes with its entry's outgoing text, whose state is open.
abbrev pub table_changes_of : Who → Change → List tables.Change
table_changes_of w (Stock row) = row_changes w row
table_changes_of w (Advice k) = advice_changes w k
table_changes_of w (Order k) = order_changes w k
table_changes_of w (Sent n function) = []
table_changes_of w (Document n accepts) = tables.SetsState (who_text w) n (Some accepts) ∷ []

-- what an accepted command of a depositor changes in the tables, besides its entry and its outgoing
-- text
abbrev pub table_changes : Who → List Change → List tables.Change
table_changes w cs = flat_map (table_changes_of w) cs
