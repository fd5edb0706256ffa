-- What a check of the book in a database tells.
use Rattle.std.specs.Prelude.{◌≡◌, ◌⊎◌, ℕ, Bool, true, false, List, [], ◌∷◌, ◌++◌, Option, Some, None, OnOk, codes, decimal, length, IsTrue}
use Rattle.std.specs.Io.KnownBytes.{Appends}
use Rattle.definitions.specs.Header.{Who}
use Rattle.definitions.specs.Register.{Entry}
use Rattle.seals.specs.Noted.{beginning, begins_so}
use Rattle.seals.specs.declared.beginning.Beginning.{Beginning}
use Rattle.sqlite.specs.Effect.{Database, IsDatabase}
use Rattle.sqlite.specs.State.{State, HasCleanDisk}
use Rattle.sqlite.specs.Tree.{Trees}
use Rattle.store.specs.Standing.{Standing, IsUnchanged, OfAnyKept}
use Rattle.book_statements.specs.Asking.{IsOfFirst}
use Rattle.book_tables.specs.Comparing.{AreTables, IsLaid}
use Rattle.book_statements.specs.Layout.{IsLayout}
use Rattle.books.specs.Verified.{StandsForMany}
use Rattle.commands.specs.Acting.{Ending}
use Rattle.commands.specs.Stops.{IsReasonStopped}
use Rattle.commands.specs.declared.told.CommandError.{CommandError}
use Rattle.commands.specs.declared.told.CommandError.TheVariants.{Fault}
use Rattle.store.specs.Fault.TheVariants.{NotThisBook}

-- what is printed of a book whose tables are what its register gives: how many entries it has
abbrev pub told_whole : ℕ → List ℕ
told_whole n = codes "ok " ++ decimal n ++ 10 ∷ []

-- a register begins as it was noted, if that is given
abbrev pub begins_as : Option Beginning → List Entry → Bool
begins_as None L = true
begins_as (Some noted) L = begins_so (beginning noted) L

-- a book was checked whole, and is as before
pub record IsChecked
    (noted : Option Beginning) (old new : Standing) (before later : Option (List ℕ))
    (ending : Ending) : Type 0 where
  pub told : OfAnyKept old new (λ L. OnOk ending (Appends before later (told_whole (length L))
      × (begins_as noted L ≡ true)))
  pub same : IsUnchanged old new

-- the register of a book doesn't begin as it was noted, and so it isn't this book (43)
pub record IsOther
    (noted : Option Beginning) (old new : Standing) (stop : CommandError) : Type 0 where
  pub told : stop ≡ Fault NotThisBook
  pub other : OfAnyKept old new (λ L. begins_as noted L ≡ false)

-- why a book that was read anew wasn't found whole: a query failed, a table isn't what the register
-- gives, or what was found couldn't be told; or it is another book
abbrev pub IsCheckStopped : Option Beginning → Standing → Standing → CommandError → Type 0
IsCheckStopped noted old new stop = IsReasonStopped old new stop ⊎ IsOther noted old new stop

-- the database stands for a register, and how many entries that has is printed
pub record TellsWhole (db : Database) (before later : Option (List ℕ)) : Type 0 where
  pub warehouse : Who
  pub entries : ℕ
  pub stands : StandsForMany warehouse entries db
  pub told : Appends before later (told_whole entries)

-- What was committed to a database, read anew with the schema that it lists: where that is a book
-- of version 2, the rows of its tables rise by their rowids, and opening the book leaves them as
-- they are.
pub record IsReadAnew (file opened : State) : Type 0 where
  pub read : Database
  pub sound : IsDatabase read
  pub trees : read.trees ≡ (let db = file.committed in db.trees)
  pub tables : IsLayout read.schema → (IsOfFirst read → ⊥) → IsTrue opened.is_open
      → (opened.now ≡ read) × AreTables read

-- what was committed to a database is read anew with the schema that it lists; where that is a book
-- of version 2, it stands for a register of so many entries as are printed
pub record IsFoundWhole (file : State) (before later : Option (List ℕ)) : Type 0 where
  pub read : Database
  pub sound : IsDatabase read
  pub trees : read.trees ≡ (let db = file.committed in db.trees)
  pub told : IsLayout read.schema → (IsOfFirst read → ⊥) → TellsWhole read before later

-- what was committed last
abbrev pub committed_trees : State → Trees
committed_trees s = let db = s.committed in db.trees

-- what was committed, read anew, is of version 1
abbrev pub WasFirst : State → Type 0
WasFirst s = (read : Database) × IsDatabase read × (read.trees ≡ committed_trees s)
    × IsOfFirst read

-- What a check leaves of a database, whatever this holds, if no answer of the disk was wrong: what
-- was committed is so still, and a crash leaves no more than before. A book of version 1 is carried
-- over first.
pub record StaysCommitted (old new : State) : Type 0 where
  pub committed : HasCleanDisk new → (WasFirst old → ⊥) → IsTrue new.is_open
      → committed_trees new ≡ committed_trees old
  pub no_more : HasCleanDisk new → (WasFirst old → ⊥) → (db : Trees) → new.may_leave db
      → old.may_leave db

-- Tables were read anew, and since then no more than read: they are a database, which is what was
-- committed last, and their rows rise by their rowids where it is laid out as a book.
pub record AreReadThrough (s : State) : Type 0 where
  pub sound : IsTrue s.is_open → IsDatabase s.now
  pub rest : IsTrue s.is_open → s.now ≡ s.committed
  pub rows : IsLaid s → IsTrue s.is_open → AreTables s.now

-- What is committed to a database is one with the schema that it lists; and where this is a book's,
-- it stands for a register of so many entries as are printed.
pub record IsWholeNow (s : State) (before later : Option (List ℕ)) : Type 0 where
  pub sound : IsTrue s.is_open → IsDatabase s.committed
  pub told : IsTrue s.is_open → IsLayout (let db = s.committed in db.schema)
      → TellsWhole s.committed before later
