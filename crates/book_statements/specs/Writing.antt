-- What a call does that writes inside a transaction, and what becomes of the calls that are
-- counted.
use Rattle.std.specs.Prelude.{◌≡◌, ◌≢◌, ℕ, List, Result, Ok, Some, ⊤, IsTrue, IfErr, OnOk, OnErr}
use Rattle.sqlite.specs.Order.{Row}
use Rattle.sqlite.specs.Held.{Held, state}
use Rattle.sqlite.specs.Store.{Ghosts}
use Rattle.sqlite.specs.State.{State, HasCleanDisk, Survives, KeepsCommit, IsRolledBack, Executes}
use Rattle.store.specs.Fault.{Fault}
use Rattle.book_statements.specs.declared.calls.Calls.{Calls}
use Rattle.book_statements.specs.Exits.{LeavesIt}
use Rattle.book_statements.specs.Faults.{IsCallFault}
use Rattle.book_statements.specs.Limits.{Spends}
use Rattle.book_statements.specs.Rises.{Rises}
use Rattle.book_statements.specs.Steps.{IsUncommitted}

-- Where it answers Ok, `Done` came about and the transaction goes on; whatever it answers, nothing
-- is committed by it.
pub record Wrote
    {T : Type 0} (Done : Type 0) (old new : State) (before after : Calls) (result : Result T Fault)
    : Type 0 where
  pub done : HasCleanDisk new → IsTrue old.in_transaction → OnOk result Done
  pub inside : HasCleanDisk new → IsTrue old.in_transaction
      → OnOk result (IsTrue new.in_transaction)
  pub kept : HasCleanDisk new → KeepsCommit old new
  -- a crash leaves no more than before
  pub survives : Survives old new (λ _. ⊥)
  -- an Ok leaves the count of refused calls, and an Err raises it
  pub ok : OnOk result (after.refused ≡ before.refused)
  pub counted : OnErr result (Rises before.refused after.refused)
  pub limit : Spends before.made after.made before.limit after.limit
  pub named : IfErr result IsCallFault

-- the same of connections
abbrev pub WroteIn : {S T : Type 0} → Ghosts S → (State → State → Type 0) → Held S → Held S → Calls
    → Calls → Result T Fault → Type 0
WroteIn store Does old new before after result =
    Wrote (Does (state store old) (state store new)) (state store old)
    (state store new) before after result

-- the same of what answered Ok so far
abbrev pub WroteSoFar : Type 0 → State → State → Calls → Calls → Type 0
WroteSoFar Done old new before after = Wrote {T = ⊤} Done old new before after (Ok tt)

-- a text was run with these parameters, in a transaction that goes on
pub record Ran (sql : List ℕ) (params : Row) (old new : State) : Type 0 where
  pub count : ℕ
  pub executes : Executes sql params old new (Ok count)
  pub goes_on : IsUncommitted old new

-- A transaction is over, by one call of the store: where it answers Ok, what stood in it is
-- committed, and else nothing of it is left.
pub record Ended
    {T : Type 0} (old new : State) (before after : Calls) (result : Result T Fault) : Type 0 where
  pub done : HasCleanDisk new → OnOk result ((new.now ≡ old.now) × LeavesIt new)
  pub undone : HasCleanDisk new → IsTrue old.in_transaction → OnErr result (IsRolledBack old new)
  pub survives : Survives old new (λ db. db ≡ old.now.trees)
  pub ok : OnOk result (after.refused ≡ before.refused)
  pub counted : OnErr result (Rises before.refused after.refused)
  pub limit : Spends before.made after.made before.limit after.limit
  pub allowed : OnOk result (before.limit ≢ Some 0)
  pub named : IfErr result IsCallFault
