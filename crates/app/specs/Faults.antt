-- The faults of files that are opened and closed as databases, and of devices.
use Rattle.std.specs.Prelude.{◌≡◌, ◌⊎◌, Bool, true, false}
use Rattle.sqlite.specs.declared.error.Error.{Error}
use Rattle.sqlite.specs.declared.error.Error.TheVariants.{SqliteFailure}
use Rattle.sqlite.specs.declared.error.ErrorCode.TheVariants as failures
use Rattle.store.specs.Fault.{Fault}
use Rattle.store.specs.Fault.TheVariants.{OutOfMemory, Store, NotThisBook, Device}
use Rattle.commands.specs.declared.told.CommandError.{CommandError}
use Rattle.commands.specs.declared.told.CommandError.TheVariants as stop

-- a file that holds anything else, or is damaged, is not this book; all else is a device that
-- failed
abbrev pub fault_of : Error → Fault
fault_of (SqliteFailure failures.OutOfMemory) = OutOfMemory
fault_of (SqliteFailure failures.NotADatabase) = NotThisBook
fault_of (SqliteFailure failures.DatabaseCorrupt) = NotThisBook
fault_of error = Device

-- a book can't be made or opened: its tables are none, there is no memory, or the store refused
abbrev pub IsBookFault : CommandError → Type 0
IsBookFault s = (s ≡ stop.Fault NotThisBook)
    ⊎ ((s ≡ stop.Fault OutOfMemory) ⊎ (s ≡ stop.Fault Store))

-- the same where its file is read anew, which may fail too
abbrev pub IsReadFault : CommandError → Type 0
IsReadFault s = (s ≡ stop.Fault NotThisBook)
    ⊎ ((s ≡ stop.Fault OutOfMemory) ⊎ ((s ≡ stop.Fault Store) ⊎ (s ≡ stop.Fault Device)))

-- a file can't be closed as a database: it is damaged, there is no memory, or a device failed
abbrev pub IsClosingFault : CommandError → Type 0
IsClosingFault s = (s ≡ stop.Fault NotThisBook)
    ⊎ ((s ≡ stop.Fault OutOfMemory) ⊎ (s ≡ stop.Fault Device))

-- whether somebody else has the file open as a database
abbrev pub is_in_use : Error → Bool
is_in_use (SqliteFailure failures.DatabaseBusy) = true
is_in_use error = false
