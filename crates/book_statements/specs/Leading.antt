-- Statements that lead from tables to tables as changes of the definitions do.
use Rattle.std.specs.Prelude.{◌≡◌, ℕ, List, ◌∷◌, map}
use Rattle.sqlite.specs.Effect.{Database, IsDatabase}
use Rattle.definitions.specs.Changes.{Change, changed_by, Puts}
use Rattle.definitions.specs.Tables.{Text, TableRow}
use Rattle.book_statements.specs.Layout.{IsLayout, book_trees}
use Rattle.book_statements.specs.Standing.{Filled, named, TreesHold, AreOrdered}

-- the book's tables hold these rows, which are in the order of their keys
pub record Keeps (f : Filled) (db : Database) : Type 0 where
  pub schema : IsLayout db.schema
  pub sound : IsDatabase db
  pub rows : TreesHold f (book_trees db)
  pub ordered : AreOrdered f

-- whatever rows the tables hold, they then hold those that the changes make of them
abbrev pub Leads : List Change → Database → Database → Type 0
Leads cs old new = (f : Filled) → Keeps f old → (g : Filled) × (changed_by (named f) cs ≡ named g)
    × Keeps g new

-- rows that are put into a table, of the depositor with this text
abbrev pub puts_of : List ℕ → List ℕ → List TableRow → List Change
puts_of name who rows = map (λ (r : TableRow). Puts name (Text who ∷ r)) rows
