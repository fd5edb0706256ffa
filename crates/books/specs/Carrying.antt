-- What opening leaves of tables: a book of version 1 is carried over to version 2, and others stay
-- as they are.
use Rattle.std.specs.Prelude.{◌≡◌, ◌≤◌, ℕ, List, Result, IsTrue, OnOk, OnErr, length}
use Rattle.sqlite.specs.Tree.{Trees}
use Rattle.sqlite.specs.Held.{state}
use Rattle.sqlite.specs.Store.{Ghosts}
use Rattle.sqlite.specs.State.{State, HasCleanDisk, Survives}
use Rattle.sqlite_trees.specs.View.{doubt}
use Rattle.definitions.specs.declared.rules.Rules.{Rules}
use Rattle.definitions.specs.declared.rules.Rules.TheVariants.{One, Two}
use Rattle.definitions.specs.Header.{Who}
use Rattle.definitions.specs.Register.{Entry}
use Rattle.store.specs.Fault.{Fault}
use Rattle.book_statements.specs.Asking.{IsAsked, IsOfFirst}
use Rattle.book_statements.specs.Carrying.{CarriesOver, StandsInAs, StandsOpenAs}
use Rattle.book_statements.specs.Exits.{LeavesIt}
use Rattle.book_statements.specs.Kept.{Kept}
use Rattle.book_statements.specs.Standing.{StandsIn}

-- tables of version 1 with so many entries are carried over, and those of version 2 stay as they
-- are
pub record BringsUp
    {S T : Type 0} (store : Ghosts S) (version : Rules) (entries : ℕ) (old new : Kept S)
    (result : Result T Fault) : Type 0 where
  pub stays : version ≡ Two → new ≡ old
  pub fails : OnErr result (version ≡ One)
  pub done : HasCleanDisk (state store new.conn) → version ≡ One
      → OnOk result (CarriesOver entries (state store old.conn) (state store new.conn)
      × LeavesIt (state store new.conn))
  pub crash : version ≡ One
      → Survives (state store old.conn) (state store new.conn) (λ db. (W : Who) (L : List Entry)
      → entries ≡ length L → StandsOpenAs One (state store old.conn) W L → StandsIn W L db)

-- opening makes no disk clean, and leaves tables as they were that are shut, or whose `book`
-- doesn't name version 1
pub record OpensAs (old new : State) : Type 0 where
  pub clean : doubt old.is_clean ≤ doubt new.is_clean
  pub asked : (IsOfFirst old.now → ⊥) → IsAsked old new
  pub asked_open : (IsTrue old.is_open → IsOfFirst old.now → ⊥) → IsAsked old new

-- a crash leaves nothing that doesn't stand for the register, as a book of the version
abbrev pub AllStandAs : Rules → State → Who → List Entry → Type 0
AllStandAs q s W L = (db : Trees) → s.may_leave db → StandsInAs q W L db
