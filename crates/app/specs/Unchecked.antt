-- Why a book in a database, or in the files that it was opened of, wasn't found whole.
use Rattle.std.specs.Prelude.{◌≡◌, ◌⊎◌, ◌<◌, ◌≤◌, false, List, Option, Some, IsTrue}
use Rattle.sqlite.specs.Held.{Held, state}
use Rattle.sqlite.specs.Recovery.{Image}
use Rattle.sqlite.specs.State.{HasCleanDisk}
use Rattle.sqlite.specs.Store.{Ghosts}
use Rattle.sqlite.specs.Tree.{Trees}
use Rattle.sqlite_trees.specs.View.{IsClean, doubt}
use Rattle.definitions.specs.declared.rules.Rules.{Rules}
use Rattle.definitions.specs.Header.{Who}
use Rattle.definitions.specs.Register.{Entry}
use Rattle.store.specs.Fault.TheVariants.{NotThisBook}
use Rattle.book_statements.specs.Asking.{IsOfFirst}
use Rattle.book_statements.specs.Carrying.{StandsInAs}
use Rattle.book_statements.specs.Kept.{Kept}
use Rattle.books.specs.Opened.{Opened, standing_of}
use Rattle.books.specs.Opening.{OfRegister}
use Rattle.commands.specs.Stops.{fault_in}
use Rattle.commands.specs.declared.told.CommandError.{CommandError}
use Rattle.app.specs.Checking.{IsCheckStopped, WasFirst, begins_as, committed_trees}
use Rattle.seals.specs.declared.beginning.Beginning.{Beginning}
use Rattle.app.specs.FromFile.{HoldsBook}
use Rattle.app.specs.Faults.{IsReadFault}
use Rattle.app.specs.Opening.{IsBookOf, IsOpenedAnew}

-- Its tables were read anew, and then it wasn't found whole, or it is another book.
pub record IsUnfound
    {S : Type 0} (store : Ghosts S) (database : Held S) (noted : Option Beginning)
    (stop : CommandError) : Type 0 where
  pub opened : Opened S
  pub anew : IsOpenedAnew store database opened
  pub left : Opened S
  pub why : IsCheckStopped noted (standing_of store opened) (standing_of store left) stop

-- they couldn't be read anew, or give no book; or it wasn't found whole
abbrev pub IsUnchecked : {S : Type 0} → Ghosts S → Held S → Option Beginning → CommandError → Type 0
IsUnchecked store database noted stop = IsReadFault stop ⊎ IsUnfound store database noted stop

-- what is so of each register that what was committed to a database stands for, in either version
abbrev pub OfCommitted : {S : Type 0} → Ghosts S → Held S → (Who → List Entry → Type 0) → Type 0
OfCommitted store database P = (q : Rules) (W : Who) (L : List Entry)
    → StandsInAs q W L (committed_trees (state store database)) → P W L

-- the book that was opened of what was committed is that of the warehouse and the register for
-- which this stands, where no answer of the disk was wrong
abbrev pub IsOfCommitted : {S : Type 0} → Ghosts S → Held S → Opened S → Type 0
IsOfCommitted store database book = HasCleanDisk (state store book.tables.conn)
    → OfCommitted store database (IsBookOf store book)

-- What is left of the store of a database in which no book was found whole. That it isn't this
-- book (43) is told only where what was committed stands for no register of a warehouse, or for one
-- that doesn't begin as it was noted, or the disk told of a fault; and a crash leaves no more than
-- before, whatever was committed, but for a book of version 1, which is carried over first. Both if
-- no answer of the disk was wrong.
pub record IsLeftUnchecked
    {S : Type 0} (store : Ghosts S) (database : Held S) (noted : Option Beginning)
    (stop : CommandError) : Type 0 where
  pub left : S
  pub clean : doubt (state store database).is_clean ≤ doubt (store.view left).is_clean
  pub not_this : IsClean (store.view left) → fault_in stop ≡ Some NotThisBook
      → OfCommitted store database
      (λ _ L. (0 < store.faults left) ⊎ (begins_as noted L ≡ false))
  pub no_more : IsClean (store.view left) → (WasFirst (state store database) → ⊥) → (db : Trees)
      → store.recovers left db → (state store database).may_leave db

-- what is so of each book that the files held
abbrev pub OfBooksIn : Image → (Who → List Entry → Type 0) → Type 0
OfBooksIn image P = (q : Rules) (W : Who) (L : List Entry) → HoldsBook image q W L → P W L

-- No book was found whole in the database that was opened of the files. That it isn't this book (43)
-- is told of files that held one only where its register doesn't begin as it was noted, or the disk
-- told of a fault.
pub record IsNoneWhole
    {S : Type 0} (store : Ghosts S) (image : Image) (noted : Option Beginning)
    (stop : CommandError) : Type 0 where
  pub database : Held S
  pub why : IsUnchecked store database noted stop
  pub left : IsLeftUnchecked store database noted stop
  pub this : IsClean (store.view (left.left)) → fault_in stop ≡ Some NotThisBook → OfBooksIn image
      (λ _ L. (0 < store.faults (left.left)) ⊎ (begins_as noted L ≡ false))

-- The same of tables that were read anew, and that were to be carried over and read anew again.
pub record IsLeftCarrying
    {S : Type 0} (store : Ghosts S) (tables : Kept S) (stop : CommandError) : Type 0 where
  pub left : S
  pub clean : doubt (state store tables.conn).is_clean ≤ doubt (store.view left).is_clean
  pub not_this : IsClean (store.view left) → fault_in stop ≡ Some NotThisBook
      → OfRegister store tables (λ _ _. 0 < store.faults left)
  pub no_more : IsClean (store.view left)
      → (IsTrue (state store tables.conn).is_open → IsOfFirst (state store tables.conn).now → ⊥)
      → (db : Trees) → store.recovers left db → (state store tables.conn).may_leave db
