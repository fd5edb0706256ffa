-- The tables of the book as data: their columns, keys and checks; and when the rows of tables stand
-- for a register.
use Rattle.std.specs.Prelude.{◌≡◌, ℕ, Bool, true, false, not, ◌&&◌, ◌||◌, List, [], ◌∷◌, length, if◌then◌else◌, nat_lt, nat_le, ◌==◌, codes, bytes_eq, find, unwrap_or}
use Rattle.std.specs.List.{list_all}
use Rattle.definitions.specs.declared.rules.Rules.{Rules}
use Rattle.definitions.specs.declared.rules.Rules.TheVariants.{One, Two}
use Rattle.definitions.specs.Bytes.{is_one_of, comes_before}
use Rattle.definitions.specs.Lists.{has_repeats}
use Rattle.definitions.specs.Header.{Who}
use Rattle.definitions.specs.Register.{Entry}
use Rattle.definitions.specs.Accepted.{IsLegal}
use Rattle.definitions.specs.Tables.{tables, Cell, Null, Number, Text, Blob, TableRow, AllTables}

pub data ColumnType : Type 0 where
  OfNumbers : ColumnType
  OfTexts : ColumnType
  OfBlobs : ColumnType

pub record TableColumn : Type 0 where
  pub name : List ℕ
  pub type : ColumnType
  pub may_be_null : Bool

-- what a table checks of each row
pub data Check : Type 0 where
  -- a number isn't below 0
  AtLeastZero : List ℕ → Check
  -- the first column's number is at most the second's
  AtMost : List ℕ → List ℕ → Check

-- a table: all are STRICT, and texts compare by their bytes
pub record Schema : Type 0 where
  pub name : List ℕ
  pub columns : List TableColumn
  -- the columns of the primary key
  pub key : List (List ℕ)
  -- further sets of columns that are UNIQUE
  pub unique : List (List (List ℕ))
  pub checks : List Check

abbrev pub number_column : List ℕ → TableColumn
number_column name = record { name = name; type = OfNumbers; may_be_null = false }

abbrev pub text_column : List ℕ → TableColumn
text_column name = record { name = name; type = OfTexts; may_be_null = false }

abbrev pub optional_text_column : List ℕ → TableColumn
optional_text_column name = record { name = name; type = OfTexts; may_be_null = true }

abbrev pub blob_column : List ℕ → TableColumn
blob_column name = record { name = name; type = OfBlobs; may_be_null = false }

abbrev pub book_schema : Schema
book_schema = record {
  name = codes "book";
  columns = number_column (codes "version") ∷ text_column (codes "qualifier")
      ∷ text_column (codes "id") ∷ [];
  key = [];
  unique = [];
  checks = [];
}

abbrev pub entry_schema : Schema
entry_schema = record {
  name = codes "entry";
  columns = number_column (codes "seq") ∷ text_column (codes "who") ∷ text_column (codes "mark")
      ∷ number_column (codes "n")
      ∷ text_column (codes "moment") ∷ blob_column (codes "body") ∷ [];
  key = codes "seq" ∷ [];
  unique = (codes "who" ∷ codes "mark" ∷ []) ∷ (codes "who" ∷ codes "n" ∷ []) ∷ [];
  checks = [];
}

abbrev pub outgoing_schema : Schema
outgoing_schema = record {
  name = codes "outgoing";
  columns = text_column (codes "who") ∷ number_column (codes "n") ∷ text_column (codes "kind")
      ∷ blob_column (codes "content")
      ∷ text_column (codes "state") ∷ [];
  key = codes "who" ∷ codes "n" ∷ [];
  unique = [];
  checks = [];
}

abbrev pub stock_schema : Schema
stock_schema = record {
  name = codes "stock";
  columns = text_column (codes "who") ∷ text_column (codes "item") ∷ text_column (codes "lot")
      ∷ number_column (codes "since")
      ∷ number_column (codes "expected") ∷ number_column (codes "on_hand")
      ∷ number_column (codes "reserved")
      ∷ number_column (codes "shipped") ∷ [];
  key = codes "who" ∷ codes "item" ∷ codes "lot" ∷ [];
  unique = [];
  checks = AtLeastZero (codes "expected") ∷ AtLeastZero (codes "on_hand")
      ∷ AtLeastZero (codes "reserved")
      ∷ AtLeastZero (codes "shipped") ∷ AtMost (codes "reserved") (codes "on_hand") ∷ [];
}

abbrev pub advice_schema : Schema
advice_schema = record {
  name = codes "advice";
  columns = text_column (codes "who") ∷ text_column (codes "shipment") ∷ text_column (codes "ord")
      ∷ number_column (codes "is_open") ∷ [];
  key = codes "who" ∷ codes "shipment" ∷ [];
  unique = [];
  checks = [];
}

abbrev pub advice_line_schema : Schema
advice_line_schema = record {
  name = codes "advice_line";
  columns = text_column (codes "who") ∷ text_column (codes "shipment")
      ∷ number_column (codes "line") ∷ text_column (codes "item")
      ∷ text_column (codes "lot") ∷ number_column (codes "quantity") ∷ [];
  key = codes "who" ∷ codes "shipment" ∷ codes "line" ∷ [];
  unique = [];
  checks = [];
}

abbrev pub orders_schema : Schema
orders_schema = record {
  name = codes "orders";
  columns = text_column (codes "who") ∷ text_column (codes "ord") ∷ number_column (codes "is_open")
      ∷ optional_text_column (codes "to_name") ∷ text_column (codes "to_one")
      ∷ text_column (codes "to_two")
      ∷ text_column (codes "to_place") ∷ [];
  key = codes "who" ∷ codes "ord" ∷ [];
  unique = [];
  checks = [];
}

abbrev pub order_line_schema : Schema
order_line_schema = record {
  name = codes "order_line";
  columns = text_column (codes "who") ∷ text_column (codes "ord") ∷ number_column (codes "line")
      ∷ text_column (codes "item")
      ∷ optional_text_column (codes "lot") ∷ number_column (codes "quantity") ∷ [];
  key = codes "who" ∷ codes "ord" ∷ codes "line" ∷ [];
  unique = [];
  checks = [];
}

abbrev pub reservation_schema : Schema
reservation_schema = record {
  name = codes "reservation";
  columns = text_column (codes "who") ∷ text_column (codes "ord") ∷ text_column (codes "item")
      ∷ text_column (codes "lot")
      ∷ number_column (codes "quantity") ∷ [];
  key = codes "who" ∷ codes "ord" ∷ codes "item" ∷ codes "lot" ∷ [];
  unique = [];
  checks = [];
}

abbrev pub entry_rules_schema : Schema
entry_rules_schema = record {
  name = codes "entry_rules";
  columns = number_column (codes "seq") ∷ number_column (codes "rules") ∷ [];
  key = codes "seq" ∷ [];
  unique = [];
  checks = [];
}

abbrev pub lot_expiry_schema : Schema
lot_expiry_schema = record {
  name = codes "lot_expiry";
  columns = text_column (codes "who") ∷ text_column (codes "item") ∷ text_column (codes "lot")
      ∷ text_column (codes "expiry") ∷ [];
  key = codes "who" ∷ codes "item" ∷ codes "lot" ∷ [];
  unique = [];
  checks = [];
}

-- the two tables that version 1 hasn't
abbrev pub later_schemas : Rules → List Schema
later_schemas One = []
later_schemas Two = entry_rules_schema ∷ lot_expiry_schema ∷ []

-- the tables of a version: nine, and eleven
abbrev pub schemas : Rules → List Schema
schemas r =
    book_schema ∷ entry_schema ∷ outgoing_schema ∷ stock_schema ∷ advice_schema ∷ advice_line_schema
    ∷ orders_schema
    ∷ order_line_schema ∷ reservation_schema ∷ later_schemas r

-- the table of a name; no columns where there is none
abbrev pub schema_named : List ℕ → Schema
schema_named name = unwrap_or (find (λ s. bytes_eq s.name name) (schemas Two))
    (record { name = name; columns = []; key = []; unique = []; checks = [] })

-- Rows.

abbrev pub cell_fits : TableColumn → Cell → Bool
cell_fits c Null = c.may_be_null
cell_fits c (Number n) = by_type c.type
  where
    by_type : ColumnType → Bool
    by_type OfNumbers = true
    by_type t = false
cell_fits c (Text text) = by_type c.type
  where
    by_type : ColumnType → Bool
    by_type OfTexts = true
    by_type t = false
cell_fits c (Blob bytes) = by_type c.type
  where
    by_type : ColumnType → Bool
    by_type OfBlobs = true
    by_type t = false

abbrev pub cells_fit : List TableColumn → TableRow → Bool
cells_fit [] [] = true
cells_fit (c ∷ cs) (cell ∷ row) = cell_fits c cell && cells_fit cs row
cells_fit cs row = false

-- the cells of a row in these columns
abbrev pub cells_in : List (List ℕ) → List TableColumn → TableRow → List Cell
cells_in names (c ∷ cs) (cell ∷ row) =
    if is_one_of names c.name then cell ∷ cells_in names cs row else cells_in names cs row
cells_in names cs row = []

-- the number in a column, 0 where there is none
abbrev pub number_in : Schema → List ℕ → TableRow → ℕ
number_in s name row = by_cells (cells_in (name ∷ []) s.columns row)
  where
    by_cells : List Cell → ℕ
    by_cells (Number n ∷ cells) = n
    by_cells cells = 0

-- cells are told as natural numbers, so none is below 0
abbrev pub check_holds : Schema → Check → TableRow → Bool
check_holds s (AtLeastZero name) row = true
check_holds s (AtMost least most) row = nat_le (number_in s least row) (number_in s most row)

-- a row that a table can hold
abbrev pub row_fits : Schema → TableRow → Bool
row_fits s row = cells_fit s.columns row && list_all (λ k. check_holds s k row) s.checks

-- a row's key
abbrev pub key_in : Schema → TableRow → List Cell
key_in s row = cells_in s.key s.columns row

-- the order of cells: NULL, numbers, texts and blobs by their bytes
abbrev pub cell_before : Cell → Cell → Bool
cell_before Null Null = false
cell_before Null b = true
cell_before (Number m) Null = false
cell_before (Number m) (Number n) = nat_lt m n
cell_before (Number m) b = true
cell_before (Text s) (Text t) = comes_before s t
cell_before (Text s) (Blob t) = true
cell_before (Text s) b = false
cell_before (Blob s) (Blob t) = comes_before s t
cell_before (Blob s) b = false

-- by the first cells that differ
abbrev pub key_before : List Cell → List Cell → Bool
key_before [] [] = false
key_before [] (b ∷ bs) = true
key_before (a ∷ as1) [] = false
key_before (a ∷ as1) (b ∷ bs) = cell_before a b || (not (cell_before b a) && key_before as1 bs)

-- put by its key: in place of the row that has it, else in its place among the others
abbrev pub put_row : Schema → TableRow → List TableRow → List TableRow
put_row s row [] = row ∷ []
put_row s row (r ∷ rs) =
    if key_before (key_in s row) (key_in s r) then row ∷ r ∷ rs
    else (if key_before (key_in s r) (key_in s row) then r ∷ put_row s row rs else row ∷ rs)

-- whether rows stand in the order of their keys, each key once
abbrev pub is_by_key : Schema → List TableRow → Bool
is_by_key s [] = true
is_by_key s (r ∷ []) = true
is_by_key s (q ∷ r ∷ rs) = key_before (key_in s q) (key_in s r) && is_by_key s (r ∷ rs)

-- whether no two rows have the same cells in these columns
abbrev pub same_cells : List Cell → List Cell → Bool
same_cells a b = not (key_before a b) && not (key_before b a)

abbrev pub is_unique : Schema → List (List ℕ) → List TableRow → Bool
is_unique s names rows =
    not (has_repeats (λ a b. same_cells (cells_in names s.columns a) (cells_in names s.columns b))
    rows)

-- rows that a table with this schema can hold, in the order of their keys
abbrev pub are_rows : Schema → List TableRow → Bool
are_rows s rows = list_all (row_fits s) rows && (length s.key == 0 || is_by_key s rows)
    && list_all (λ names. is_unique s names rows) s.unique

-- Standing.

-- The rows of each table, by its name, in the order of their keys.
abbrev pub Contents : Type 0
Contents = List ℕ → List TableRow

-- each of these tables has just these rows
abbrev pub HasTables : Contents → AllTables → Type 0
HasTables rows [] = Unit {0}
HasTables rows (t ∷ ts) = (rows t.0 ≡ t.1) × HasTables rows ts

-- rows of tables with the schemas of a version stand for a legal register where they are the ones
-- that the register has
pub record Stands (r : Rules) (W : Who) (L : List Entry) (rows : Contents) : Type 0 where
  pub legal : IsLegal r W L
  pub same : HasTables rows (tables r W L)
