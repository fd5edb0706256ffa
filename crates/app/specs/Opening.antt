-- What opening the book in a database comes to.
use Rattle.std.specs.Prelude.{◌≡◌, ◌≢◌, ◌≤◌, List, []}
use Rattle.sqlite.specs.Held.{Held, state}
use Rattle.sqlite.specs.State.{HasCleanDisk, Survives}
use Rattle.sqlite.specs.Store.{Ghosts}
use Rattle.definitions.specs.declared.rules.Rules.{Rules}
use Rattle.definitions.specs.Header.{Who}
use Rattle.definitions.specs.Register.{Entry}
use Rattle.sqlite_trees.specs.View.{doubt}
use Rattle.store.specs.Standing.{IsUsable}
use Rattle.store.specs.Fault.{Fault}
use Rattle.store.specs.Fault.TheVariants.{NotThisBook}
use Rattle.book_statements.specs.Carrying.{StandsOpenAs}
use Rattle.book_statements.specs.Exits.{IsAsBefore}
use Rattle.book_statements.specs.Faults.{IsOpeningFault}
use Rattle.book_statements.specs.Kept.{Kept}
use Rattle.book_statements.specs.Layout.{no_layout}
use Rattle.book_statements.specs.Standing.{StandsIn}
use Rattle.books.specs.Opened.{Opened, standing_of}
use Rattle.books.specs.Opening.{IsHandedBack}
use Rattle.app.specs.Checking.{IsReadAnew}

-- a book of this warehouse serves with this register
pub record IsBookOf
    {S : Type 0} (store : Ghosts S) (book : Opened S) (W : Who) (L : List Entry) : Type 0 where
  pub warehouse : book.warehouse ≡ W
  pub usable : IsUsable (standing_of store book) L

-- The book in a database: that of the warehouse and the register that its tables stood for, under
-- either version of the rules, where no answer of its disk was wrong. Opening makes no disk clean.
pub record IsOfFile {S : Type 0} (store : Ghosts S) (database : Held S) (book : Opened S) : Type 0 where
  pub clean : doubt (state store database).is_clean ≤ doubt (state store book.tables.conn).is_clean
  pub stood : HasCleanDisk (state store book.tables.conn)
      → (q : Rules) (W : Who) (L : List Entry) → StandsOpenAs q (state store database) W L
      → IsBookOf store book W L

-- what was committed to the database was read anew, where no answer of its disk was wrong
abbrev pub IsOpenedAnew : {S : Type 0} → Ghosts S → Held S → Opened S → Type 0
IsOpenedAnew store database book = HasCleanDisk (state store book.tables.conn)
    → IsReadAnew (state store database) (state store book.tables.conn)

-- Why no book of a warehouse was made in a database, and what is left of that: it held something
-- and is as it was, or a call was refused, and a crash leaves it as it was or the new book.
pub record IsNotMade
    {S : Type 0} (store : Ghosts S) (database back : Held S) (W : Who) (fault : Fault) : Type 0 where
  pub taken : fault ≡ NotThisBook
      → (back ≡ database) × ((state store database).now.schema ≢ no_layout)
  pub before : fault ≢ NotThisBook → HasCleanDisk (state store back)
      → IsAsBefore (state store database) (state store back)
  pub crash : fault ≢ NotThisBook → Survives (state store database) (state store back)
      (λ db. StandsIn W [] db)
  pub named : IsOpeningFault fault

-- Why a database gave no book, and what is left of it.
pub record IsNotOpened
    {S : Type 0} (store : Ghosts S) (database back : Held S) (fault : Fault) : Type 0 where
  pub tables : Kept S
  pub handed : Kept S
  pub before : tables.conn ≡ database
  pub after : handed.conn ≡ back
  pub why : IsHandedBack store tables fault handed
