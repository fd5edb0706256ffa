-- What the rows of the definitions' tables are in SQLite, whatever the rowids of keyed tables are.
use Rattle.std.specs.Prelude.{◌≡◌, ℤ, pos, List, [], ◌∷◌, map}
use Rattle.sqlite.specs.declared.types.Value.{Value}
use Rattle.sqlite.specs.declared.types.Value.TheVariants as value
use Rattle.sqlite.specs.Order.{Row}
use Rattle.sqlite.specs.Tree.{IsTable}
use Rattle.sqlite_rules.specs.Lists.{Has}
use Rattle.definitions.specs.Tables.{Cell, Null, Number, Text, Blob, TableRow}

abbrev pub value_of : Cell → Value
value_of Null = value.Null
value_of (Number n) = value.Int (pos n)
value_of (Text t) = value.Text t
value_of (Blob b) = value.Blob b

abbrev pub values : TableRow → Row
values cells = map value_of cells

-- A keyed table holds a set of rows: each stored row has the cells of one of them after its rowid,
-- and each of them is stored.
pub record Holds (rows : List TableRow) (stored : List Row) : Type 0 where
  pub rise : IsTable stored
  pub sound : (row : Row) → Has stored row → (id : ℤ) × (cells : TableRow) × Has rows cells
      × (row ≡ value.Int id ∷ values cells)
  pub complete : (cells : TableRow) → Has rows cells → (id : ℤ)
      × Has stored (value.Int id ∷ values cells)

-- the row of `book` has the first rowid
abbrev pub first_row : TableRow → Row
first_row cells = value.Int (pos 1) ∷ values cells

-- `seq` is the rowid of `entry` and of `entry_rules`, and its column keeps NULL
abbrev pub entry_values : TableRow → Row
entry_values [] = []
entry_values (seq ∷ cells) = value_of seq ∷ value.Null ∷ values cells
