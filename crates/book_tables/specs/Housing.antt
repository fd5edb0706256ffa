-- What is told of the version and the warehouse that tables are of.
use Rattle.std.specs.Prelude.{◌≢◌, List, [], Result, IfOk, IfErr, OnOk, IsErrOf, IsTrue}
use Rattle.sqlite.specs.Held.{state}
use Rattle.sqlite.specs.Order.{Row}
use Rattle.sqlite.specs.State.{HasCleanDisk}
use Rattle.sqlite.specs.Store.{Ghosts}
use Rattle.definitions.specs.declared.rules.Rules.{Rules}
use Rattle.definitions.specs.Header.{Who}
use Rattle.store.specs.Fault.{Fault}
use Rattle.store.specs.Fault.TheVariants.{NotThisBook}
use Rattle.book_statements.specs.Asking.{Finds, IsAsked, OfStandingAs, house_text}
use Rattle.book_statements.specs.Kept.{Kept}
use Rattle.book_statements.specs.Limits.{CalledOrNone}
use Rattle.book_statements.specs.Recorded.{IsHouse}

-- The version and the warehouse that were told are those that the rows of `book` name. 43 comes
-- only where these name none, and so not of tables that stand for a register. Beside it, what
-- asking leaves, and what its calls tell.
pub record TellsHouse
    {S T : Type 0} (store : Ghosts S) (old new : Kept S) (named : T → Rules × Who)
    (result : Result T Fault) : Type 0 where
  pub house : HasCleanDisk (state store new.conn) → IfOk result (λ x. (rows : List Row)
      × Finds house_text [] (state store old.conn).now rows
      × IsHouse (named x).0 rows (named x).1)
  pub none : HasCleanDisk (state store new.conn) → IsErrOf result NotThisBook
      → (rows : List Row) × Finds house_text [] (state store old.conn).now rows
      × ((q : Rules) (W : Who) → IsHouse q rows W → ⊥)
  pub this : OfStandingAs store old new (λ q W L. IfErr result (λ f. f ≢ NotThisBook))
  pub was_open : HasCleanDisk (state store new.conn)
      → OnOk result (IsTrue (state store old.conn).is_open)
  pub asked : IsAsked (state store old.conn) (state store new.conn)
  pub called : CalledOrNone old new result
