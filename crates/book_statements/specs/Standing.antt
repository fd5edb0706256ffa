-- When a database stands for a register.
use Rattle.std.specs.Prelude.{◌≡◌, ℕ, zero, suc, Bool, true, false, List, [], ◌∷◌, take, length, map, nat_eq, if◌then◌else◌}
use Rattle.sqlite.specs.Tree.{Trees}
use Rattle.sqlite.specs.Schema as sqlite
use Rattle.sqlite.specs.Effect.{Database}
use Rattle.sqlite.specs.Table.{Table}
use Rattle.sqlite.specs.Order.{Row}
use Rattle.sqlite_catalog.specs.Listing.{IsSound}
use Rattle.sqlite_rules.specs.Lists.{Has}
use Rattle.definitions.specs.Rules.{Today}
use Rattle.definitions.specs.Header.{Who}
use Rattle.definitions.specs.Register.{Entry}
use Rattle.definitions.specs.Accepted.{IsLegal}
use Rattle.definitions.specs.Tables.{Null, Number, Text, Blob, TableRow, AllTables, book_table, entry_table, outgoing_table, stock_table, advice_table, advice_line_table, orders_table, order_line_table, reservation_table, entry_rules_table, lot_expiry_table}
use Rattle.definitions.specs.Schema.{Schema, is_by_key, key_in, book_schema, entry_schema, outgoing_schema, stock_schema, advice_schema, advice_line_schema, orders_schema, order_line_schema, reservation_schema, entry_rules_schema, lot_expiry_schema}
use Rattle.book_statements.specs.declared.names.TableName.{TableName}
use Rattle.book_statements.specs.declared.names.TableName.TheVariants as table
use Rattle.book_statements.specs.declared.names.TheConstants.{BOOK_TABLES}
use Rattle.book_statements.specs.Layout.{IsLayout, book_trees, book_layout, entry_layout, outgoing_layout, stock_layout, advice_layout, advice_line_layout, orders_layout, order_line_layout, reservation_layout, entry_rules_layout, lot_expiry_layout}
use Rattle.book_statements.specs.Held.{Holds, first_row, entry_values}

-- How a table's rows are told apart: by nothing, since there is one; by the first column, which is
-- the rowid; or by the first columns, which are the key.
pub data Keying : Type 0 where
  Alone : Keying
  ByRowid : Keying
  ByColumns : Keying

abbrev pub keying_of : TableName → Keying
keying_of table.Book = Alone
keying_of table.Entry = ByRowid
keying_of table.EntryRules = ByRowid
keying_of t = ByColumns

-- a table's columns and key, as the definitions have them
abbrev pub schema_of : TableName → Schema
schema_of table.Book = book_schema
schema_of table.Entry = entry_schema
schema_of table.Outgoing = outgoing_schema
schema_of table.Stock = stock_schema
schema_of table.Advice = advice_schema
schema_of table.AdviceLine = advice_line_schema
schema_of table.Orders = orders_schema
schema_of table.OrderLine = order_line_schema
schema_of table.Reservation = reservation_schema
schema_of table.EntryRules = entry_rules_schema
schema_of table.LotExpiry = lot_expiry_schema

-- how it is laid out in SQLite
abbrev pub layout_of : TableName → Table
layout_of table.Book = book_layout
layout_of table.Entry = entry_layout
layout_of table.Outgoing = outgoing_layout
layout_of table.Stock = stock_layout
layout_of table.Advice = advice_layout
layout_of table.AdviceLine = advice_line_layout
layout_of table.Orders = orders_layout
layout_of table.OrderLine = order_line_layout
layout_of table.Reservation = reservation_layout
layout_of table.EntryRules = entry_rules_layout
layout_of table.LotExpiry = lot_expiry_layout

-- its name, the number of its tree, and how many columns its key has
abbrev pub name_of : TableName → List ℕ
name_of t = (schema_of t).name

abbrev pub tree_of : TableName → ℕ
tree_of t = (layout_of t).tree

abbrev pub width_of : TableName → ℕ
width_of t = length (schema_of t).key

-- all tables, in the order of their making
abbrev pub all_tables : List TableName
all_tables = BOOK_TABLES

-- the rows of each table
abbrev pub Filled : Type 0
Filled = TableName → List TableRow

-- those of a register
abbrev pub filled : Who → List Entry → TableName → List TableRow
filled W L table.Book = book_table Today W
filled W L table.Entry = entry_table L
filled W L table.Outgoing = outgoing_table W L
filled W L table.Stock = stock_table L
filled W L table.Advice = advice_table L
filled W L table.AdviceLine = advice_line_table L
filled W L table.Orders = orders_table L
filled W L table.OrderLine = order_line_table L
filled W L table.Reservation = reservation_table L
filled W L table.EntryRules = entry_rules_table L
filled W L table.LotExpiry = lot_expiry_table L

-- the same rows, but these in one table
abbrev pub with_rows : TableName → List TableRow → Filled → Filled
with_rows t rows f = λ u. if nat_eq (tree_of t) (tree_of u) then rows else f u

-- each table's name and its rows
abbrev pub named : Filled → AllTables
named f = map (λ t. (name_of t, f t)) all_tables

-- what is stored is these rows, in their order, or as a set where columns are their key
abbrev pub HeldAs : Keying → List TableRow → List Row → Type 0
HeldAs Alone rows stored = stored ≡ map first_row rows
HeldAs ByRowid rows stored = stored ≡ map entry_values rows
HeldAs ByColumns rows stored = Holds rows stored

-- the trees of the book's tables, by their numbers, hold these rows
abbrev pub TreesHold : Filled → Trees → Type 0
TreesHold f db = (t : TableName) → HeldAs (keying_of t) (f t) (db (tree_of t))

-- the register is legal, and the schema has the book's eleven tables, which hold the rows that the
-- warehouse's register has
pub record StandsSecond (W : Who) (L : List Entry) (db : Database) : Type 0 where
  pub legal : IsLegal Today W L
  pub schema : IsLayout db.schema
  pub rows : TreesHold (filled W L) (book_trees db)

-- the same of the trees that a crash leaves or an opening reads
abbrev pub StandsIn : Who → List Entry → Trees → Type 0
StandsIn W L db = (schema : sqlite.Schema) × IsSound schema db
    × StandsSecond W L (record { schema = schema; trees = db })

-- Rows by their keys.

-- the first cells can be a key: numbers and texts
abbrev pub has_key_cells : ℕ → TableRow → Bool
has_key_cells zero row = true
has_key_cells (suc k) [] = false
has_key_cells (suc k) (Null ∷ row) = false
has_key_cells (suc k) (Number n ∷ row) = has_key_cells k row
has_key_cells (suc k) (Text t ∷ row) = has_key_cells k row
has_key_cells (suc k) (Blob b ∷ row) = false

-- a row whose key under a schema is its first k cells
pub record HasKey (s : Schema) (k : ℕ) (row : TableRow) : Type 0 where
  pub key : key_in s row ≡ take k row
  pub cells : has_key_cells k row ≡ true

-- rows in the order of their keys
pub record AreByKey (s : Schema) (k : ℕ) (rows : List TableRow) : Type 0 where
  pub by_key : is_by_key s rows ≡ true
  pub each : (row : TableRow) → Has rows row → HasKey s k row

-- a row of `outgoing`, and one of a table with this schema whose first column is the rowid
abbrev pub IsOutgoing : TableRow → Type 0
IsOutgoing row = (who : List ℕ) × (n : ℕ) × (kind : List ℕ) × (content : List ℕ) × (state : List ℕ)
    × (row ≡ Text who ∷ Number n ∷ Text kind ∷ Blob content ∷ Text state ∷ [])

abbrev pub IsBySeq : Schema → TableRow → Type 0
IsBySeq s row = (seq : ℕ) × (cells : TableRow) × (row ≡ Number seq ∷ cells)
    × (key_in s row ≡ Number seq ∷ [])

-- a row of a table is one of these
abbrev pub IsRowIn : TableName → TableRow → Type 0
IsRowIn table.Outgoing row = IsOutgoing row
IsRowIn t row = Unit {0}

-- rows are in the order of their keys
abbrev pub OrderedAs : Keying → Schema → ℕ → List TableRow → Type 0
OrderedAs Alone s k rows = Unit {0}
OrderedAs ByRowid s k rows = (row : TableRow) → Has rows row → IsBySeq s row
OrderedAs ByColumns s k rows = AreByKey s k rows

-- the rows of each table are in the order of their keys, and each has its table's shape
pub record AreOrdered (f : Filled) : Type 0 where
  pub each : (t : TableName) → OrderedAs (keying_of t) (schema_of t) (width_of t) (f t)
  pub shaped : (t : TableName) (row : TableRow) → Has (f t) row → IsRowIn t row
