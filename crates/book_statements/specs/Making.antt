-- What making the tables does, some at a time.
use Rattle.std.specs.Prelude.{◌≡◌, ℕ, pos, List, [], ◌∷◌, take, drop}
use Rattle.std.specs.List.{AllByRecursion}
use Rattle.sqlite.specs.declared.types.Value.TheVariants.{Int, Text}
use Rattle.sqlite.specs.Table.{Table}
use Rattle.sqlite.specs.State.{State}
use Rattle.sqlite.specs.Effect.{Database, IsDatabase}
use Rattle.definitions.specs.Rules.{Today}
use Rattle.definitions.specs.Header.{Who}
use Rattle.definitions.specs.Accepted.{IsLegal}
use Rattle.book_statements.specs.Layout.{book_tables, book_trees, first_layouts, layout, no_layout}
use Rattle.book_statements.specs.Exits.{HasGrown}

-- the first tables are there, with so many indexes, and empty
pub record HasMade (n indexes : ℕ) (db : Database) : Type 0 where
  pub schema : db.schema ≡ first_layouts n indexes
  pub empty : AllByRecursion (λ (t : Table). db.trees t.tree ≡ []) (take n book_tables)

-- all of them are, and `book` has its one row
pub record HasBook (qualifier id : List ℕ) (db : Database) : Type 0 where
  pub schema : db.schema ≡ layout
  pub sound : IsDatabase db
  pub book : db.trees 0 ≡ (Int (pos 1) ∷ Int (pos 2) ∷ Text qualifier ∷ Text id ∷ []) ∷ []
  pub empty : AllByRecursion (λ (t : Table). book_trees db t.tree ≡ []) (drop 1 book_tables)

-- where there was no table, the tables stand for the empty register of the warehouse
abbrev pub Makes : State → State → Who → Type 0
Makes old new W = IsLegal Today W [] → old.now.schema ≡ no_layout → HasGrown new W []
