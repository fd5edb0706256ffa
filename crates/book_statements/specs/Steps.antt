-- What a statement does to the rows of a table, whatever their rowids are.
use Rattle.std.specs.Prelude.{◌≡◌, ◌≢◌, ◌⊎◌, ℕ, zero, suc, ℤ, Bool, true, false, List, [], ◌∷◌, take, drop}
use Rattle.std.specs.List.{AllByRecursion}
use Rattle.sqlite.specs.declared.types.Value.TheVariants.{Null, Int, Real, Text, Blob}
use Rattle.sqlite.specs.Order.{Row}
use Rattle.sqlite.specs.Table.{Table}
use Rattle.sqlite.specs.Tree.{IsTable}
use Rattle.sqlite.specs.Effect.{Database, IsDatabase}
use Rattle.sqlite.specs.State.{State, Shows}
use Rattle.sqlite_rules.specs.Lists.{Has}
use Rattle.book_statements.specs.Layout.{book_tables, book_trees}

-- the transaction goes on, and nothing of it is committed
abbrev pub IsUncommitted : State → State → Type 0
IsUncommitted old new = Shows old new new.now old.committed true

-- the first k cells can be a key: numbers and texts
abbrev pub has_key : ℕ → Row → Bool
has_key zero cells = true
has_key (suc k) [] = false
has_key (suc k) (Null ∷ cells) = false
has_key (suc k) (Int n ∷ cells) = has_key k cells
has_key (suc k) (Real x ∷ cells) = false
has_key (suc k) (Text t ∷ cells) = has_key k cells
has_key (suc k) (Blob b ∷ cells) = false

-- the key of a row: so many cells after its rowid
abbrev pub key_of : ℕ → Row → Row
key_of k row = take k (drop 1 row)

-- rows whose first k cells are their key, after rowids that rise
pub record AreKeyed (k : ℕ) (rows : List Row) : Type 0 where
  pub rise : IsTable rows
  pub each : (row : Row) → Has rows row → (id : ℤ) × (cells : Row) × (row ≡ Int id ∷ cells)
      × (has_key k cells ≡ true)

-- the row with the key, which the first k cells are, has these cells, and each other row is as it
-- was
pub record PutByKey (k : ℕ) (cells : Row) (old new : List Row) : Type 0 where
  pub rise : IsTable new
  pub sound : (row : Row) → Has new row → ((id : ℤ) × (row ≡ Int id ∷ cells))
      ⊎ (Has old row × (key_of k row ≢ take k cells))
  pub there : (id : ℤ) × Has new (Int id ∷ cells)
  pub kept : (row : Row) → Has old row → key_of k row ≢ take k cells → Has new row

-- the rows whose first k cells are these are gone, and each other row is as it was
pub record TakenByKey (k : ℕ) (key : Row) (old new : List Row) : Type 0 where
  pub rise : IsTable new
  pub sound : (row : Row) → Has new row → Has old row × (key_of k row ≢ key)
  pub kept : (row : Row) → Has old row → key_of k row ≢ key → Has new row

-- the book's tables but for the one with this number are as they were
abbrev pub Spares : ℕ → Database → Database → Type 0
Spares number old new =
    AllByRecursion (λ (t : Table). t.tree ≢ number
    → book_trees new t.tree ≡ book_trees old t.tree) book_tables

-- a statement wrote into one table of the book, and its rows became what `Rows` says
pub record WritesInto
    (number : ℕ) (Rows : List Row → List Row → Type 0) (old new : Database) : Type 0 where
  pub sound : IsDatabase new
  pub schema : new.schema ≡ old.schema
  pub others : Spares number old new
  pub rows : Rows (book_trees old number) (book_trees new number)

-- the same of a tree, whatever table's it is
pub record WritesAt
    (tree : ℕ) (Rows : List Row → List Row → Type 0) (old new : Database) : Type 0 where
  pub sound : IsDatabase new
  pub schema : new.schema ≡ old.schema
  pub others : AllByRecursion (λ (t : Table). t.tree ≢ tree
      → new.trees t.tree ≡ old.trees t.tree) old.schema.tables
  pub rows : Rows (old.trees tree) (new.trees tree)

-- a row of `outgoing`
abbrev pub outgoing_cells : List ℕ → ℤ → List ℕ → List ℕ → List ℕ → Row
outgoing_cells who n kind content state = Text who ∷ Int n ∷ Text kind ∷ Blob content ∷ Text state
    ∷ []

abbrev pub AreOutgoing : List Row → Type 0
AreOutgoing rows = (row : Row) → Has rows row
    → (id : ℤ) × (who : List ℕ) × (n : ℤ) × (kind : List ℕ) × (content : List ℕ) × (state : List ℕ)
    × (row ≡ Int id ∷ outgoing_cells who n kind content state)

-- the row of the document, if there is one, has the state, and all else is as it was
abbrev pub SetsState : List ℕ → ℤ → List ℕ → List Row → List Row → Type 0
SetsState who n state old new =
    (((row : Row) → Has old row → key_of 2 row ≢ Text who ∷ Int n ∷ []) × (new ≡ old))
    ⊎ ((id : ℤ) × (kind : List ℕ) × (content : List ℕ) × (before : List ℕ)
    × Has old (Int id ∷ outgoing_cells who n kind content before)
    × PutByKey 2 (outgoing_cells who n kind content state) old new)
