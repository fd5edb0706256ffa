-- What checking a book whole goes by: a copy in memory, to which the commands of its entries were
-- given again.
use Rattle.std.specs.Prelude.{◌≡◌, ◌≤◌, ℕ, List, [], ◌∷◌, length, take, Result, IfOk, IsTrue}
use Rattle.sqlite.specs.Effect.{Database}
use Rattle.sqlite.specs.State.{State, HasCleanDisk}
use Rattle.sqlite.specs.Held.{Held, state}
use Rattle.sqlite.specs.Store.{Ghosts}
use Rattle.sqlite.specs.Files.{over_files}
use Rattle.sqlite_store.specs.declared.store.FileStore.{FileStore}
use Rattle.books.specs.RamDisk.{ram}
use Rattle.books.specs.declared.ram_disk.RamDisk.{RamDisk}
use Rattle.definitions.specs.declared.rules.Rules.{Rules}
use Rattle.definitions.specs.declared.rules.Rules.TheVariants.{One}
use Rattle.definitions.specs.Header.{Who}
use Rattle.definitions.specs.Register.{Entry}
use Rattle.definitions.specs.Accepted.{IsLegal}
use Rattle.store.specs.Standing.{Standing, IsUsable, OfAnyKept}
use Rattle.store.specs.Fault.{Fault}
use Rattle.store.specs.Fault.TheVariants.{OutOfMemory, Store}
use Rattle.book_statements.specs.Asking.{IsAsked}
use Rattle.book_statements.specs.Exits.{StandsWhileOpen}
use Rattle.book_statements.specs.Standing.{StandsSecond}
use Rattle.book_tables.specs.Comparing.{AreTables, IsLaid}
use Rattle.books.specs.Opened.{Opened, standing_of}

-- where the store of a book in memory refuses a call, what it lacks is memory
abbrev pub of_copy : Fault → Fault
of_copy Store = OutOfMemory
of_copy fault = fault

-- the rules of the last of these entries, or those before it
abbrev pub last_rules : Rules → List Entry → Rules
last_rules r [] = r
last_rules r (e ∷ L) = last_rules e.rules L

-- a database whose file and log are in memory
abbrev pub over_ram : Ghosts (FileStore RamDisk ram)
over_ram = over_files

-- no wrong answer of such a store is ever taken as true
abbrev pub IsAlwaysClean : {C : Type 0} → Ghosts C → Type 0
IsAlwaysClean {C} g = (c : Held C) → HasCleanDisk (state g c)

-- the book is usable for some register of the warehouse, in which no entry has rules above these
pub record IsCopy (last : Rules) (W : Who) (copy : Standing) : Type 0 where
  pub warehouse : copy.warehouse ≡ W
  pub register : List Entry
  pub legal : IsLegal last copy.warehouse register
  pub usable : IsUsable copy register

-- tables that stand for a register, and a copy that keeps so many of its entries, the first ones
pub record Stays (n : ℕ) (s : State) (W : Who) (copy : Standing) (L : List Entry) : Type 0 where
  pub stands : StandsWhileOpen s W L
  pub fits : n ≤ length L
  pub warehouse : copy.warehouse ≡ W
  pub usable : IsUsable copy (take n L)

-- the same, where these are the rules of the last of them
pub record Follows
    (n : ℕ) (last : Rules) (s : State) (W : Who) (copy : Standing) (L : List Entry) : Type 0 where
  pub stays : Stays n s W copy L
  pub last_is : last ≡ last_rules One (take n L)
  pub legal : IsLegal last copy.warehouse (take n L)

-- the database stands for a register of so many entries
pub record StandsForMany (W : Who) (n : ℕ) (db : Database) : Type 0 where
  pub register : List Entry
  pub long : length register ≡ n
  pub stands : StandsSecond W register db

-- of a book whose database is laid out as one, and has its tables, if the disk is in no doubt after
-- the call
abbrev pub OfTables : {S : Type 0} → Ghosts S → Opened S → Opened S → Type 0 → Type 0
OfTables store old new P =
    (standing_of store new).doubt ≡ 0 → IsLaid (state store old.tables.conn)
    → (IsTrue (state store old.tables.conn).is_open → AreTables (state store old.tables.conn).now)
    → P

-- what a check of a book says that ends: its tables, where they are open and are tables of a book,
-- stand for a register of so many entries
abbrev pub StandsChecked : {S : Type 0} → Ghosts S → Opened S → Opened S → Result ℕ Fault → Type 0
StandsChecked store old new result = OfTables store old new
    (IfOk result (λ n. IsTrue (state store old.tables.conn).is_open
    × StandsForMany old.warehouse n (state store old.tables.conn).now))

-- and it counts the entries of each register that the book keeps
abbrev pub CountsKept : {S : Type 0} → Ghosts S → Opened S → Opened S → Result ℕ Fault → Type 0
CountsKept store old new result =
    OfAnyKept (standing_of store old) (standing_of store new) (λ L. IfOk result (λ n. n ≡ length L))

-- What a check leaves of a book, whatever its tables hold: they show what they showed, the same is
-- committed, and a crash leaves no more than before.
pub record IsOnlyRead {S : Type 0} (store : Ghosts S) (old new : Opened S) : Type 0 where
  pub tables : IsAsked (state store old.tables.conn) (state store new.tables.conn)
  pub warehouse : new.warehouse ≡ old.warehouse
  pub entries : new.entries ≡ old.entries
  pub shut : new.shut ≡ old.shut
