-- Which failure is which fault, where a store is stopped and opened again.
use Rattle.std.specs.Prelude.{◌≡◌, ◌⊎◌, Option, Some}
use Rattle.sqlite.specs.declared.error.Error.{Error}
use Rattle.sqlite.specs.declared.error.Error.TheVariants.{SqliteFailure}
use Rattle.sqlite.specs.declared.error.ErrorCode.TheVariants as failures
use Rattle.sqlite_trees.specs.declared.error.StoreError.{StoreError}
use Rattle.sqlite_trees.specs.declared.error.StoreError.TheVariants as stops
use Rattle.store.specs.Fault.{Fault}
use Rattle.store.specs.Fault.TheVariants.{OutOfMemory, Store, NotThisBook}

-- of what is left by a stop: want of memory is 40, all else 41
abbrev pub fault_of_stop : StoreError → Fault
fault_of_stop stops.OutOfMemory = OutOfMemory
fault_of_stop error = Store

-- of what is opened as a database: trees that are none are 43
abbrev pub fault_of_opening : Error → Fault
fault_of_opening (SqliteFailure failures.OutOfMemory) = OutOfMemory
fault_of_opening (SqliteFailure failures.NotADatabase) = NotThisBook
fault_of_opening error = Store

-- the fault is one with which a commit can end that is there all the same: 40 of a statement, or 41
abbrev pub MayBeThere : Option Fault → Type 0
MayBeThere fault = (fault ≡ Some OutOfMemory) ⊎ (fault ≡ Some Store)
