-- What one transaction comes to: all that it does, or nothing.
use Rattle.std.specs.Prelude.{Result, OnOk, OnErr}
use Rattle.sqlite.specs.Held.{Held}
use Rattle.sqlite.specs.State.{State, HasCleanDisk, Survives}
use Rattle.sqlite.specs.Tree.{Trees}
use Rattle.store.specs.Fault.{Fault}
use Rattle.book_statements.specs.declared.calls.Calls.{Calls}
use Rattle.book_statements.specs.Exits.{IsAsBefore, LeavesIt}
use Rattle.book_statements.specs.Kept.{Kept}

-- An Ok did it all, and a crash leaves just that; a fault leaves all as it was. A crash before
-- either leaves what was there, or trees that are `Made`.
pub record IsWhole
    {T : Type 0} (Done : Type 0) (Made : Trees → Type 0) (old new : State) (result : Result T Fault)
    : Type 0 where
  pub ok : HasCleanDisk new → OnOk result Done
  pub left : HasCleanDisk new → OnOk result (LeavesIt new)
  pub err : HasCleanDisk new → OnErr result (IsAsBefore old new)
  pub crash : Survives old new Made

-- a connection with the counts of its calls
abbrev pub counted_by : {S : Type 0} → Held S → Calls → Kept S
counted_by conn calls =
    record { conn = conn; refused = calls.refused; made = calls.made; limit = calls.limit }
