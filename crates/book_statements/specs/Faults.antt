-- Which failure of a call of the store is which fault, and which faults there are of calls.
use Rattle.std.specs.Prelude.{◌≡◌, ◌⊎◌}
use Rattle.sqlite.specs.declared.error.Error.{Error}
use Rattle.sqlite.specs.declared.error.Error.TheVariants.{SqliteFailure}
use Rattle.sqlite.specs.declared.error.ErrorCode.TheVariants as failures
use Rattle.store.specs.Fault.{Fault}
use Rattle.store.specs.Fault.TheVariants.{OutOfMemory, Store, NotThisBook}

-- 40 where the store had no memory, else 41
abbrev pub fault_of_call : Error → Fault
fault_of_call (SqliteFailure failures.OutOfMemory) = OutOfMemory
fault_of_call error = Store

-- memory was wanting, or a call of the store was refused: 40 or 41
abbrev pub IsCallFault : Fault → Type 0
IsCallFault fault = (fault ≡ OutOfMemory) ⊎ (fault ≡ Store)

-- the fault is one with which an opening ends: 40, 41, or 43
abbrev pub IsOpeningFault : Fault → Type 0
IsOpeningFault fault = (fault ≡ NotThisBook) ⊎ IsCallFault fault
