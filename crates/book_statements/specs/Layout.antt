-- The tables of the book in SQLite, version 2, and the texts that make them.
use Rattle.std.specs.Prelude.{◌≡◌, Bool, true, false, [], ◌∷◌, ◌++◌, ◌||◌, ◌==◌, if◌then◌else◌, Option, Some, None, option_map, option_and_then, unwrap_or, slice_get, find, codes, List, ℕ, take, filter, ◌+◌, ◌<◌, pos}
use Rattle.std.specs.List.{AllByRecursion, list_any}
use Rattle.sqlite.specs.Collation.TheVariants.{Binary}
use Rattle.sqlite.specs.declared.types.Value.TheVariants as value
use Rattle.sqlite.specs.Table.{Table}
use Rattle.sqlite.specs.Term.{Term, lit, col, op2}
use Rattle.sqlite_sql.specs.declared.ops.BinaryOp.TheVariants.{Compare, And}
use Rattle.sqlite_sql.specs.declared.ops.CompareOp.TheVariants.{Ge, Le}
use Rattle.sqlite_schema.specs.declared.schema.Column.{Column}
use Rattle.sqlite_schema.specs.declared.schema.Kind.{Kind}
use Rattle.sqlite_schema.specs.declared.schema.Index.{Index}
use Rattle.sqlite_schema.specs.declared.schema.View.{View}
use Rattle.sqlite_schema.specs.declared.schema.Reference.{Reference}
use Rattle.sqlite_schema.specs.Names.{same_name, table_named}
use Rattle.sqlite_schema.specs.Rules.{ParentKey, parent_key}
use Rattle.sqlite.specs.Schema.{Schema}
use Rattle.sqlite.specs.Tree.{Trees}
use Rattle.sqlite.specs.Effect.{Database}
use Rattle.sqlite.specs.Does.{lacks_sequence}
use Rattle.sqlite.specs.Kind.TheVariants.{Integer, Text, Blob}
use Rattle.sqlite_value.specs.Keys.{plain}
use Rattle.sqlite_catalog.specs.Listing.{automatic}
use Rattle.sqlite_catalog.specs.Change.{automatics}

-- The texts.

abbrev pub book_text : List ℕ
book_text = codes "CREATE TABLE book (version INTEGER NOT NULL, qualifier TEXT NOT NULL, id TEXT NOT NULL) STRICT"

abbrev pub entry_text : List ℕ
entry_text = codes "CREATE TABLE entry (seq INTEGER PRIMARY KEY, who TEXT NOT NULL, mark TEXT NOT NULL, n INTEGER NOT NULL, moment TEXT NOT NULL, body BLOB NOT NULL, UNIQUE (who, mark), UNIQUE (who, n)) STRICT"

abbrev pub outgoing_text : List ℕ
outgoing_text = codes "CREATE TABLE outgoing (who TEXT NOT NULL, n INTEGER NOT NULL, kind TEXT NOT NULL, content BLOB NOT NULL, state TEXT NOT NULL, PRIMARY KEY (who, n)) STRICT"

abbrev pub stock_text : List ℕ
stock_text = codes "CREATE TABLE stock (who TEXT NOT NULL, item TEXT NOT NULL, lot TEXT NOT NULL, since INTEGER NOT NULL, expected INTEGER NOT NULL, on_hand INTEGER NOT NULL, reserved INTEGER NOT NULL, shipped INTEGER NOT NULL, PRIMARY KEY (who, item, lot), CHECK (expected >= 0 AND on_hand >= 0 AND reserved >= 0 AND shipped >= 0 AND reserved <= on_hand)) STRICT"

abbrev pub advice_text : List ℕ
advice_text = codes "CREATE TABLE advice (who TEXT NOT NULL, shipment TEXT NOT NULL, ord TEXT NOT NULL, is_open INTEGER NOT NULL, PRIMARY KEY (who, shipment)) STRICT"

abbrev pub advice_line_text : List ℕ
advice_line_text =
    codes "CREATE TABLE advice_line (who TEXT NOT NULL, shipment TEXT NOT NULL, line INTEGER NOT NULL, item TEXT NOT NULL, lot TEXT NOT NULL, quantity INTEGER NOT NULL, PRIMARY KEY (who, shipment, line)) STRICT"

abbrev pub orders_text : List ℕ
orders_text = codes "CREATE TABLE orders (who TEXT NOT NULL, ord TEXT NOT NULL, is_open INTEGER NOT NULL, to_name TEXT, to_one TEXT NOT NULL, to_two TEXT NOT NULL, to_place TEXT NOT NULL, PRIMARY KEY (who, ord)) STRICT"

abbrev pub order_line_text : List ℕ
order_line_text =
    codes "CREATE TABLE order_line (who TEXT NOT NULL, ord TEXT NOT NULL, line INTEGER NOT NULL, item TEXT NOT NULL, lot TEXT, quantity INTEGER NOT NULL, PRIMARY KEY (who, ord, line)) STRICT"

abbrev pub reservation_text : List ℕ
reservation_text =
    codes "CREATE TABLE reservation (who TEXT NOT NULL, ord TEXT NOT NULL, item TEXT NOT NULL, lot TEXT NOT NULL, quantity INTEGER NOT NULL, PRIMARY KEY (who, ord, item, lot)) STRICT"

abbrev pub entry_rules_text : List ℕ
entry_rules_text =
    codes "CREATE TABLE entry_rules (seq INTEGER PRIMARY KEY, rules INTEGER NOT NULL) STRICT"

abbrev pub lot_expiry_text : List ℕ
lot_expiry_text =
    codes "CREATE TABLE lot_expiry (who TEXT NOT NULL, item TEXT NOT NULL, lot TEXT NOT NULL, expiry TEXT NOT NULL, PRIMARY KEY (who, item, lot)) STRICT"

-- Columns and tables. Every column is NOT NULL but for those that may be NULL and for the rowid.

abbrev pub column_of : Bool → Kind → List ℕ → Column
column_of not_null kind name =
    record {
      name = name;
      kind = kind;
      is_strict = true;
      not_null = not_null;
      default = value.Null;
      collation = Binary;
    }

abbrev pub number : List ℕ → Column
number name = column_of true Integer name

abbrev pub text : List ℕ → Column
text name = column_of true Text name

abbrev pub text_or_null : List ℕ → Column
text_or_null name = column_of false Text name

abbrev pub blob : List ℕ → Column
blob name = column_of true Blob name

-- a table whose first columns, so many as its key has, are its key
abbrev pub keyed : List ℕ → ℕ → List ℕ → List Term → List Column → Table
keyed name tree key checks columns = record {
  name = name;
  tree = tree;
  columns = columns;
  key = None;
  primary = key;
  uniques = key ∷ [];
  orders = plain ∷ [];
  checks = checks;
  references = [];
  computed = [];
  stamps = record { places = []; terms = []; formats = [] };
  is_counted = false;
}

abbrev pub book_layout : Table
book_layout = record {
  name = codes "book";
  tree = 0;
  columns = number (codes "version") ∷ text (codes "qualifier") ∷ text (codes "id") ∷ [];
  key = None;
  primary = [];
  uniques = [];
  orders = [];
  checks = [];
  references = [];
  computed = [];
  stamps = record { places = []; terms = []; formats = [] };
  is_counted = false;
}

abbrev pub entry_layout : Table
entry_layout = record {
  name = codes "entry";
  tree = 1;
  columns = column_of false Integer (codes "seq") ∷ text (codes "who") ∷ text (codes "mark")
      ∷ number (codes "n") ∷ text (codes "moment") ∷ blob (codes "body") ∷ [];
  key = Some 0;
  primary = 0 ∷ [];
  uniques = (2 ∷ 3 ∷ []) ∷ (2 ∷ 4 ∷ []) ∷ [];
  orders = plain ∷ plain ∷ [];
  checks = [];
  references = [];
  computed = [];
  stamps = record { places = []; terms = []; formats = [] };
  is_counted = false;
}

abbrev pub outgoing_layout : Table
outgoing_layout = keyed (codes "outgoing") 4 (1 ∷ 2 ∷ []) []
    (text (codes "who") ∷ number (codes "n") ∷ text (codes "kind") ∷ blob (codes "content")
    ∷ text (codes "state") ∷ [])

-- a column's number is at least 0
abbrev pub at_least_zero : ℕ → Term
at_least_zero place = op2 (Compare Ge Binary) (col 1 place) (lit (value.Int (pos 0)))

-- no amount is below 0, and no more is reserved than is on hand
abbrev pub stock_check : Term
stock_check = op2 And
    (op2 And (op2 And (op2 And (at_least_zero 5) (at_least_zero 6)) (at_least_zero 7))
    (at_least_zero 8))
    (op2 (Compare Le Binary) (col 1 7) (col 1 6))

abbrev pub stock_layout : Table
stock_layout = keyed (codes "stock") 6 (1 ∷ 2 ∷ 3 ∷ []) (stock_check ∷ [])
    (text (codes "who") ∷ text (codes "item") ∷ text (codes "lot") ∷ number (codes "since")
    ∷ number (codes "expected") ∷ number (codes "on_hand") ∷ number (codes "reserved")
    ∷ number (codes "shipped") ∷ [])

abbrev pub advice_layout : Table
advice_layout = keyed (codes "advice") 8 (1 ∷ 2 ∷ []) []
    (text (codes "who") ∷ text (codes "shipment") ∷ text (codes "ord") ∷ number (codes "is_open")
    ∷ [])

abbrev pub advice_line_layout : Table
advice_line_layout = keyed (codes "advice_line") 10 (1 ∷ 2 ∷ 3 ∷ []) []
    (text (codes "who") ∷ text (codes "shipment") ∷ number (codes "line") ∷ text (codes "item")
    ∷ text (codes "lot") ∷ number (codes "quantity") ∷ [])

abbrev pub orders_layout : Table
orders_layout = keyed (codes "orders") 12 (1 ∷ 2 ∷ []) []
    (text (codes "who") ∷ text (codes "ord") ∷ number (codes "is_open")
    ∷ text_or_null (codes "to_name") ∷ text (codes "to_one") ∷ text (codes "to_two")
    ∷ text (codes "to_place") ∷ [])

abbrev pub order_line_layout : Table
order_line_layout = keyed (codes "order_line") 14 (1 ∷ 2 ∷ 3 ∷ []) []
    (text (codes "who") ∷ text (codes "ord") ∷ number (codes "line") ∷ text (codes "item")
    ∷ text_or_null (codes "lot") ∷ number (codes "quantity") ∷ [])

abbrev pub reservation_layout : Table
reservation_layout = keyed (codes "reservation") 16 (1 ∷ 2 ∷ 3 ∷ 4 ∷ []) []
    (text (codes "who") ∷ text (codes "ord") ∷ text (codes "item") ∷ text (codes "lot")
    ∷ number (codes "quantity") ∷ [])

-- The two tables that version 2 has beside those of version 1 may stand anywhere after these, and
-- so their rows in any tree.

abbrev pub entry_rules_at : ℕ → Table
entry_rules_at tree = record {
  name = codes "entry_rules";
  tree = tree;
  columns = column_of false Integer (codes "seq") ∷ number (codes "rules") ∷ [];
  key = Some 0;
  primary = 0 ∷ [];
  uniques = [];
  orders = [];
  checks = [];
  references = [];
  computed = [];
  stamps = record { places = []; terms = []; formats = [] };
  is_counted = false;
}

abbrev pub lot_expiry_at : ℕ → Table
lot_expiry_at tree = keyed (codes "lot_expiry") tree (1 ∷ 2 ∷ 3 ∷ []) []
    (text (codes "who") ∷ text (codes "item") ∷ text (codes "lot") ∷ text (codes "expiry") ∷ [])

abbrev pub entry_rules_layout : Table
entry_rules_layout = entry_rules_at 18

abbrev pub lot_expiry_layout : Table
lot_expiry_layout = lot_expiry_at 19

-- The schema.

-- the tables of version 1
abbrev pub first_tables : List Table
first_tables = book_layout ∷ entry_layout ∷ outgoing_layout ∷ stock_layout ∷ advice_layout
    ∷ advice_line_layout ∷ orders_layout ∷ order_line_layout ∷ reservation_layout ∷ []

-- those of version 2, as they stand in a book by itself
abbrev pub book_tables : List Table
book_tables = book_layout ∷ entry_layout ∷ outgoing_layout ∷ stock_layout ∷ advice_layout
    ∷ advice_line_layout ∷ orders_layout ∷ order_line_layout ∷ reservation_layout
    ∷ entry_rules_layout ∷ lot_expiry_layout ∷ []

-- the index of a table's key, whose tree follows the table's
abbrev pub key_index : Table → Index
key_index t = automatic t 0 t.primary (t.tree + 1)

abbrev pub first_indexes : List Index
first_indexes = automatic entry_layout 0 (2 ∷ 3 ∷ []) 2 ∷ automatic entry_layout 1 (2 ∷ 4 ∷ []) 3
    ∷ key_index outgoing_layout ∷ key_index stock_layout ∷ key_index advice_layout
    ∷ key_index advice_line_layout ∷ key_index orders_layout ∷ key_index order_line_layout
    ∷ key_index reservation_layout ∷ []

abbrev pub book_indexes : List Index
book_indexes = automatic entry_layout 0 (2 ∷ 3 ∷ []) 2 ∷ automatic entry_layout 1 (2 ∷ 4 ∷ []) 3
    ∷ key_index outgoing_layout ∷ key_index stock_layout ∷ key_index advice_layout
    ∷ key_index advice_line_layout ∷ key_index orders_layout ∷ key_index order_line_layout
    ∷ key_index reservation_layout ∷ key_index lot_expiry_layout ∷ []

-- the first of the book's tables, with so many indexes
abbrev pub first_layouts : ℕ → ℕ → Schema
first_layouts n indexes =
    record { tables = take n book_tables; indexes = take indexes book_indexes; views = [] }

abbrev pub no_layout : Schema
no_layout = record { tables = []; indexes = []; views = [] }

-- the eleven tables, and nothing else
abbrev pub layout : Schema
layout = record { tables = book_tables; indexes = book_indexes; views = [] }

-- Others beside them.

-- tables that stand after those of version 1 in a schema, with their indexes, and views
pub record Others : Type 0 where
  pub tables : List Table
  pub indexes : List Index
  pub views : List View

-- the nine tables of version 1, and then these
abbrev pub beside : Others → Schema
beside others = record {
  tables = first_tables ++ others.tables;
  indexes = first_indexes ++ others.indexes;
  views = others.views;
}

-- the tree of the table with a name
abbrev pub tree_named : Schema → List ℕ → ℕ
tree_named schema name =
    unwrap_or (option_map (λ (t : Table). t.tree)
    (option_and_then (slice_get schema.tables) (table_named schema name))) 0

abbrev pub rules_tree : Schema → ℕ
rules_tree schema = tree_named schema (codes "entry_rules")

abbrev pub expiry_tree : Schema → ℕ
expiry_tree schema = tree_named schema (codes "lot_expiry")

-- The book's tables are told apart by the numbers of their trees in a book by itself. This is the
-- tree in which the one with a number stands.
abbrev pub tree_in : Schema → ℕ → ℕ
tree_in schema number =
    if number == 18 then rules_tree schema
    else (if number == 19 then expiry_tree schema else number)

-- the trees of a schema's tables, by these numbers
abbrev pub placed : Schema → Trees → Trees
placed schema db = λ number. db (tree_in schema number)

abbrev pub book_trees : Database → Trees
book_trees db = placed db.schema db.trees

-- a table stands at this place of the schema, where its name and its tree lead to it
pub record StandsAt (schema : Schema) (at : ℕ) (t : Table) : Type 0 where
  pub found : table_named schema t.name ≡ Some at
  pub there : slice_get schema.tables at ≡ Some t
  pub low : t.tree < 65536
  pub first : find (λ (u : Table). u.tree == t.tree) schema.tables ≡ Some t

-- the book's tables as they stand in a schema
abbrev pub ours : Schema → List Table
ours schema = book_layout ∷ entry_layout ∷ outgoing_layout ∷ stock_layout ∷ advice_layout
    ∷ advice_line_layout ∷ orders_layout ∷ order_line_layout ∷ reservation_layout
    ∷ entry_rules_at (rules_tree schema) ∷ lot_expiry_at (expiry_tree schema) ∷ []

-- the indexes on a table
abbrev pub indexes_on : Schema → ℕ → List Index
indexes_on schema tree = filter (λ (i : Index). i.table == tree) schema.indexes

-- those of the table's keys
abbrev pub indexes_of : Table → List Index
indexes_of t = automatics t 0 (t.tree + 1) t.uniques

-- the tree is that of one of these tables
abbrev pub is_of : List Table → ℕ → Bool
is_of ts tree = list_any (λ (t : Table). t.tree == tree) ts

abbrev pub is_key_of : List Table → Option ParentKey → Bool
is_key_of ts None = false
is_key_of ts (Some key) = is_of ts key.0

-- a foreign key of the table refers to one of these
abbrev pub refers_to : List Table → List Table → Table → Bool
refers_to ts tables child = list_any (λ ref. is_key_of ts (parent_key tables ref)) child.references

-- These tables have no indexes but those of their keys, and no foreign key refers to one.
pub record AreApart (ts : List Table) (schema : Schema) : Type 0 where
  pub indexes : AllByRecursion (λ (t : Table). indexes_on schema t.tree ≡ indexes_of t) ts
  pub references : list_any (refers_to ts schema.tables) schema.tables ≡ false

-- the schema is the nine tables of version 1, and after them, among whatever others, the two of
-- version 2, in trees of their own
pub record IsLayout (schema : Schema) : Type 0 where
  pub others : Others
  pub is : schema ≡ beside others
  pub rules_place : ℕ
  pub rules : StandsAt schema rules_place (entry_rules_at (rules_tree schema))
  pub expiry_place : ℕ
  pub expiry : StandsAt schema expiry_place (lot_expiry_at (expiry_tree schema))
  pub own_rules : is_of first_tables (rules_tree schema) ≡ false
  pub own_expiry : is_of (entry_rules_at (rules_tree schema) ∷ first_tables) (expiry_tree schema)
      ≡ false
  pub apart : AreApart (ours schema) schema

-- A book of version 1.

-- a foreign key of the table names one of the two tables that version 2 has besides
abbrev pub names_new : Table → Bool
names_new child =
    list_any (λ (ref : Reference). same_name (codes "entry_rules") ref.parent
    || same_name (codes "lot_expiry") ref.parent) child.references

-- The schema is the nine tables of version 1, and after them whatever others. No foreign key of
-- these names a table that is to come, and where one counts its rowids, the table that SQLite keeps
-- for that is there.
pub record IsFirstLayout (schema : Schema) : Type 0 where
  pub others : Others
  pub is : schema ≡ beside others
  pub apart : AreApart first_tables schema
  pub unnamed : list_any names_new schema.tables ≡ false
  pub counted : lacks_sequence schema ≡ false
