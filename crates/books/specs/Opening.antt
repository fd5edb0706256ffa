-- What an opening comes to: the book, or the tables handed back.
use Rattle.std.specs.Prelude.{◌≡◌, ◌≢◌, false, List, []}
use Rattle.sqlite.specs.Store.{Ghosts}
use Rattle.sqlite.specs.Held.{state}
use Rattle.sqlite.specs.State.{HasCleanDisk}
use Rattle.sqlite.specs.Tree.{Trees}
use Rattle.sqlite.specs.Order.{Row as Cells}
use Rattle.definitions.specs.declared.rules.Rules.{Rules}
use Rattle.definitions.specs.declared.rules.Rules.TheVariants.{One}
use Rattle.definitions.specs.Header.{Who}
use Rattle.definitions.specs.Register.{Entry}
use Rattle.store.specs.Standing.{IsUsable}
use Rattle.store.specs.Fault.{Fault}
use Rattle.store.specs.Fault.TheVariants.{NotThisBook}
use Rattle.book_statements.specs.Asking.{Finds, IsAsked, house_text}
use Rattle.book_statements.specs.Carrying.{LeavesCarried, StandsOpenAs}
use Rattle.book_statements.specs.Faults.{IsOpeningFault}
use Rattle.book_statements.specs.Kept.{Kept}
use Rattle.book_statements.specs.Limits.{Counts}
use Rattle.book_statements.specs.Recorded.{IsHouse}
use Rattle.book_statements.specs.Rises.{Rises}
use Rattle.books.specs.Carrying.{AllStandAs, OpensAs}
use Rattle.books.specs.Keeping.{IsKept}
use Rattle.books.specs.Opened.{Opened, standing_of}

-- what is so of each register that tables stand for, under the rules of either version
abbrev pub OfRegister : {S : Type 0} → Ghosts S → Kept S → (Who → List Entry → Type 0) → Type 0
OfRegister store tables P =
    (q : Rules) (W : Who) (L : List Entry) → StandsOpenAs q (state store tables.conn) W L → P W L

-- the book that was opened over tables: it is usable by the register that these stand for, and
-- keeps it
pub record IsOpened {S : Type 0} (store : Ghosts S) (tables : Kept S) (b : Opened S) : Type 0 where
  pub usable : HasCleanDisk (state store b.tables.conn)
      → OfRegister store tables (λ _ L. IsUsable (standing_of store b) L)
  pub keeps : HasCleanDisk (state store b.tables.conn)
      → OfRegister store tables (λ W L.
      (b.warehouse ≡ W) × IsKept (state store b.tables.conn) W b.entries L)
  pub opened : b.shut ≡ false
  pub still : OpensAs (state store tables.conn) (state store b.tables.conn)
  pub house : HasCleanDisk (state store b.tables.conn)
      → (rows : List Cells) × Finds house_text [] (state store tables.conn).now rows
      × ((q : Rules) × IsHouse q rows b.warehouse)
  pub uncounted : b.tables.refused ≡ tables.refused
  pub limit : Counts tables b.tables

-- the tables that an opening hands back with a fault: a book of version 1 stays one, or was carried
-- over whole, and what is no book is as it was
pub record IsHandedBack
    {S : Type 0} (store : Ghosts S) (tables : Kept S) (fault : Fault) (back : Kept S) : Type 0 where
  pub not_this : fault ≡ NotThisBook → HasCleanDisk (state store back.conn)
      → (rows : List Cells) × Finds house_text [] (state store tables.conn).now rows
      × ((q : Rules) (W : Who) → IsHouse q rows W → ⊥)
  pub this : HasCleanDisk (state store back.conn) → OfRegister store tables
      (λ _ _. fault ≢ NotThisBook)
  pub asked : OpensAs (state store tables.conn) (state store back.conn)
  pub untouched : fault ≡ NotThisBook → IsAsked (state store tables.conn) (state store back.conn)
  pub carried : HasCleanDisk (state store back.conn) → (W : Who) (L : List Entry)
      → StandsOpenAs One (state store tables.conn) W L
      → AllStandAs One (state store tables.conn) W L
      → (db : Trees) → (state store back.conn).may_leave db → LeavesCarried W L db
  pub counted : fault ≢ NotThisBook → Rises tables.refused back.refused
  pub uncounted : fault ≡ NotThisBook → back.refused ≡ tables.refused
  pub named : IsOpeningFault fault
  pub limit : Counts tables back
