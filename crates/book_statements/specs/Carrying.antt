-- A book of version 1 in SQLite: nine tables, and others after them; and what carrying it over
-- makes of them.
use Rattle.std.specs.Prelude.{◌≡◌, ◌⊎◌, ℕ, true, List, [], IsTrue, length, take}
use Rattle.std.specs.List.{AllByRecursion, list_all}
use Rattle.sqlite.specs.Tree.{Trees}
use Rattle.sqlite.specs.Schema as sqlite
use Rattle.sqlite.specs.Effect.{Database, IsDatabase}
use Rattle.sqlite.specs.State.{State}
use Rattle.sqlite_catalog.specs.Listing.{IsSound}
use Rattle.definitions.specs.declared.rules.Rules.{Rules}
use Rattle.definitions.specs.declared.rules.Rules.TheVariants.{One, Two}
use Rattle.definitions.specs.Header.{Who}
use Rattle.definitions.specs.Register.{Entry, is_first}
use Rattle.definitions.specs.Accepted.{IsLegal}
use Rattle.definitions.specs.Tables.{book_table, entry_rules_table}
use Rattle.book_statements.specs.declared.names.TableName.{TableName}
use Rattle.book_statements.specs.declared.names.TableName.TheVariants as table
use Rattle.book_statements.specs.Layout.{IsFirstLayout}
use Rattle.book_statements.specs.Standing.{all_tables, keying_of, tree_of, Filled, with_rows, filled, HeldAs, AreOrdered, StandsSecond, StandsIn}
use Rattle.book_statements.specs.Leading.{Keeps}
use Rattle.book_statements.specs.Exits.{HasGrown}

-- the rows of a register's tables in version 1: another version, and no rows of rules
abbrev pub first_filled : Who → List Entry → Filled
first_filled W L = with_rows table.EntryRules []
    (with_rows table.Book (book_table One W) (filled W L))

-- the trees of the first nine tables hold these rows
abbrev pub AreHeldFirst : Filled → Trees → Type 0
AreHeldFirst f db = AllByRecursion (λ (t : TableName). HeldAs (keying_of t) (f t) (db (tree_of t)))
    (take 9 all_tables)

-- the register is legal under the first rules, and the nine tables hold the rows that the
-- warehouse's register has
pub record StandsFirst (W : Who) (L : List Entry) (db : Database) : Type 0 where
  pub legal : IsLegal One W L
  pub schema : IsFirstLayout db.schema
  pub rows : AreHeldFirst (first_filled W L) db.trees

-- a database of the version stands for the register; and the same of trees that a crash leaves, and
-- while a store is open
abbrev pub StandsAs : Rules → Who → List Entry → Database → Type 0
StandsAs One W L db = StandsFirst W L db
StandsAs Two W L db = StandsSecond W L db

abbrev pub StandsInAs : Rules → Who → List Entry → Trees → Type 0
StandsInAs q W L db = (schema : sqlite.Schema) × IsSound schema db
    × StandsAs q W L (record { schema = schema; trees = db })

abbrev pub StandsOpenAs : Rules → State → Who → List Entry → Type 0
StandsOpenAs q s W L = IsTrue s.is_open → StandsAs q W L s.now

-- What carrying over does, some at a time.

-- the nine tables hold these rows; none are to be held by the two that are to come
pub record KeepsFirst (f : Filled) (db : Database) : Type 0 where
  pub schema : IsFirstLayout db.schema
  pub sound : IsDatabase db
  pub rows : AreHeldFirst f db.trees
  pub dates : f table.LotExpiry ≡ []
  pub rules : f table.EntryRules ≡ []
  pub ordered : AreOrdered f

-- the two tables come, and are empty
abbrev pub Widens : Database → Database → Type 0
Widens old new = (f : Filled) → KeepsFirst f old → Keeps f new

-- each of so many entries, all under the first rules, gets its row of rules
abbrev pub GivesRules : ℕ → Database → Database → Type 0
GivesRules entries old new = (L : List Entry) (f : Filled) → list_all is_first L ≡ true
    → entries ≡ length L
    → Keeps (with_rows table.EntryRules [] f) old
    → Keeps (with_rows table.EntryRules (entry_rules_table L) f) new

-- the version is set to 2
abbrev pub SetsVersion : Database → Database → Type 0
SetsVersion old new = (W : Who) (f : Filled)
    → Keeps (with_rows table.Book (book_table One W) f) old
    → Keeps (with_rows table.Book (book_table Two W) f) new

-- a register of version 1 with so many entries stands there afterwards as one of version 2
abbrev pub CarriesOver : ℕ → State → State → Type 0
CarriesOver entries old new = (W : Who) (L : List Entry) → entries ≡ length L
    → StandsOpenAs One old W L → HasGrown new W L

-- What a crash may leave afterwards of a register that stood in version 1: that, or the same in
-- version 2.
abbrev pub LeavesCarried : Who → List Entry → Trees → Type 0
LeavesCarried W L db = StandsInAs One W L db ⊎ StandsIn W L db
