-- What failed outside of the program, by which a device is named.
use Rattle.std.specs.Prelude.{◌≡◌, ◌⊎◌, ℕ, List, Option, Some, Result, Ok, Err}
use Rattle.std.specs.declared.io.ErrorKind.{ErrorKind}
use Rattle.counted_io.specs.Gauges.{CountsWrite, Grew}
use Rattle.store.specs.Fault.TheVariants.{Device}
use Rattle.folders.specs.Folders.{fault_of_kind}
use Rattle.commands.specs.Stops.{fault_in}
use Rattle.commands.specs.declared.told.CommandError.{CommandError}

-- a write counts where it failed, or took nothing; of a writer that doesn't count nothing is said
abbrev pub CountsIf : {E : Type 0} → Result ℕ E → Option ℕ → Option ℕ → Type 0
CountsIf result (Some old) (Some new) = CountsWrite result old new
CountsIf result old new = old ≡ new

-- a write failed, or took nothing
abbrev pub WasRefused : Option ℕ → Option ℕ → Type 0
WasRefused (Some old) (Some new) = Grew old new
WasRefused old new = Unit {0}

-- one to standard output, or to standard error
abbrev pub WasEitherRefused : Option ℕ → Option ℕ → Option ℕ → Option ℕ → Type 0
WasEitherRefused out_old out_new err_old err_new = WasRefused out_old out_new
    ⊎ WasRefused err_old err_new

-- a call about a file or a folder failed
abbrev pub HasFailedCall : (List ℕ → ErrorKind → Type 0) → Type 0
HasFailedCall fails = (path : List ℕ) × (kind : ErrorKind) × fails path kind
    × (fault_of_kind kind ≡ Device)

-- where a device is named as what stopped a command, this was so
abbrev pub IsDeviceBy : Type 0 → CommandError → Type 0
IsDeviceBy failed stop = fault_in stop ≡ Some Device → failed
