-- How the tables of two connections are compared: each text is asked of both.
use Rattle.std.specs.Prelude.{◌≡◌, ◌↔◌, ℕ, Bool, true, false, List, [], IsTrue}
use Rattle.std.specs.List.{AllByRecursion}
use Rattle.sqlite.specs.Effect.{Database}
use Rattle.sqlite.specs.Order.{Row}
use Rattle.sqlite.specs.State.{State}
use Rattle.sqlite.specs.Table.{Table}
use Rattle.sqlite_trees.specs.declared.store.Shape.TheVariants as shape
use Rattle.sqlite_trees.specs.View.{IsShaped}
use Rattle.book_statements.specs.declared.names.TableName.{TableName}
use Rattle.book_statements.specs.Whole.{whole_text}
use Rattle.book_statements.specs.Asking.{Finds}
use Rattle.book_statements.specs.Layout.{IsLayout, book_tables, book_trees}

-- both databases answer the text, and it is told whether their rows are the same
pub record FindBoth (sql : List ℕ) (one two : Database) (same : Bool) : Type 0 where
  pub rows : List Row
  pub others : List Row
  pub finds : Finds sql [] one rows
  pub other_finds : Finds sql [] two others
  pub told : IsTrue same ↔ (rows ≡ others)

-- the same of what two connections show, which are open
pub record ShowBoth (sql : List ℕ) (one two : State) (same : Bool) : Type 0 where
  pub is_open : IsTrue one.is_open
  pub other_open : IsTrue two.is_open
  pub find : FindBoth sql one.now two.now same

-- while it is open, it is laid out as a book
abbrev pub IsLaid : State → Type 0
IsLaid s = IsTrue s.is_open → IsLayout s.now.schema

-- every table has the same rows, or one has not
abbrev pub Compares : Bool → State → State → Type 0
Compares true one two = (t : TableName) → ShowBoth (whole_text t) one two true
Compares false one two = (t : TableName) × ShowBoth (whole_text t) one two false

-- the rows of the book's tables stand in the order of their rowids, which are integers, as a store
-- keeps the rows of any table
abbrev pub AreTables : Database → Type 0
AreTables db = AllByRecursion (λ (t : Table). IsShaped shape.Table (book_trees db t.tree))
    book_tables
