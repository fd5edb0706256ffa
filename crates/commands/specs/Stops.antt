-- What stops a command: a fault of the book, or one of a device.
use Rattle.std.specs.Prelude.{◌≡◌, ◌⊎◌, ℕ, [], false, List, Option, Some, None}
use Rattle.std.specs.IoError.{error_kind}
use Rattle.std.specs.Io.KnownBytes.{Appends}
use Rattle.std.specs.declared.io.Error.{Error}
use Rattle.definitions.specs.Rules.{Today}
use Rattle.definitions.specs.Accepted.{after, reply_to}
use Rattle.definitions.specs.Moments.{Moment}
use Rattle.definitions.specs.Register.{Command}
use Rattle.definitions.specs.Reply.{Reply}
use Rattle.store.specs.Standing.{Standing, IsUsable, IsFault, IsQueryFault, OfKept, OfUsable}
use Rattle.store.specs.Fault.{Fault}
use Rattle.store.specs.Fault.TheVariants as faults
use Rattle.folders.specs.Folders.{fault_of_kind}
use Rattle.command_line.specs.declared.words.LineFault.{LineFault}
use Rattle.command_line.specs.declared.words.LineFault.TheVariants as lines
use Rattle.commands.specs.Printing.{AppendsFront}
use Rattle.commands.specs.declared.told.CommandError.{CommandError}
use Rattle.commands.specs.declared.told.CommandError.TheVariants as stops

-- a device that doesn't serve, or want of memory
abbrev pub IsDeviceStop : CommandError → Type 0
IsDeviceStop stop = (stop ≡ stops.Fault faults.OutOfMemory) ⊎ (stop ≡ stops.Fault faults.Device)

-- what words that can't be read, or a call for help among them, stop
abbrev pub line_stop : LineFault → CommandError
line_stop (lines.Usage text) = stops.Usage text
line_stop (lines.Help text) = stops.Usage text
line_stop lines.OutOfMemory = stops.Fault faults.OutOfMemory

-- the fault by which a command was stopped, if one did; what it is about plays no part
abbrev pub fault_in : CommandError → Option Fault
fault_in (stops.Usage text) = None
fault_in (stops.Fault fault) = Some fault
fault_in (stops.Caused fault cause) = Some fault

-- words that can't be read, or want of memory to say so
abbrev pub IsUsageStop : CommandError → Type 0
IsUsageStop stop = (fault_in stop ≡ None) ⊎ (stop ≡ stops.Fault faults.OutOfMemory)

-- an error of a file, a reader or a writer, by its kind: want of memory, and else a fault of the
-- device
pub record IsErrorStop (error : Error) (stop : CommandError) : Type 0 where
  pub told : stop ≡ stops.Fault (fault_of_kind (error_kind error))
  pub device : IsDeviceStop stop

-- a device that doesn't serve, or want of memory, whatever is said of it
abbrev pub HasDeviceFault : CommandError → Type 0
HasDeviceFault stop = (fault_in stop ≡ Some faults.OutOfMemory)
    ⊎ (fault_in stop ≡ Some faults.Device)

-- a fault of which this is so
abbrev pub IsFaultThat : CommandError → (Fault → Type 0) → Type 0
IsFaultThat (stops.Usage text) P = ⊥
IsFaultThat (stops.Fault fault) P = P fault
IsFaultThat (stops.Caused fault cause) P = P fault

-- a fault of which this is so, and of an answer nothing is printed
abbrev pub IsSilent : (Fault → Type 0) → Option (List ℕ) → Option (List ℕ) → CommandError → Type 0
IsSilent P before later stop = IsFaultThat stop P × Appends before later []

-- a command was answered, and its reply couldn't be told: of what is printed of it, there is a
-- beginning
pub record IsUntold
    (old new : Standing) (c : Command) (t : Moment) (shown : Reply → List ℕ)
    (before later : Option (List ℕ)) (stop : CommandError) : Type 0 where
  pub opened : new.shut ≡ false
  pub done : OfUsable old new (λ L. IsUsable new (after Today old.warehouse L (c, t)))
  pub printed : OfKept old new
      (λ L. AppendsFront before later (shown (reply_to Today old.warehouse L c t)))
  pub why : IsDeviceStop stop

-- what stopped a command of whose reply so much is printed: a fault of the book by which it wasn't
-- answered, or one of a device after that
abbrev pub IsStopped : Standing → Standing → Command → Moment → (Reply → List ℕ) → Option (List ℕ)
    → Option (List ℕ) → CommandError → Type 0
IsStopped old new c t shown before later stop =
    IsSilent (λ fault. IsFault fault old new) before later stop
    ⊎ IsUntold old new c t shown before later stop

-- what kept a reason from being told: a fault of the book by which it wasn't read, or one of a
-- device
abbrev pub IsReasonStopped : Standing → Standing → CommandError → Type 0
IsReasonStopped old new stop = IsFaultThat stop (λ fault. IsQueryFault fault old new)
    ⊎ IsDeviceStop stop
