-- Exit statuses, and the kind of a sheet.
use Rattle.std.specs.Prelude.{◌≡◌, ℕ}
use Rattle.commands.specs.declared.told.ExitStatus.{ExitStatus}
use Rattle.commands.specs.declared.told.ExitStatus.TheVariants.{Done, Refused, Usage, Fault}
use Rattle.commands.specs.declared.told.CommandError.{CommandError}
use Rattle.commands.specs.declared.told.CommandError.TheVariants as stops

abbrev pub code_of : ExitStatus → ℕ
code_of Done = 0
code_of Refused = 1
code_of Usage = 2
code_of Fault = 3

-- the code of one of them
pub record IsCode (n : ℕ) : Type 0 where
  pub status : ExitStatus
  pub is : n ≡ code_of status

-- the status of what ended so, and then so
abbrev pub and_then : ExitStatus → ExitStatus → ExitStatus
and_then first Done = first
and_then first next = next

-- the status of what stopped a command
abbrev pub status_of_stop : CommandError → ExitStatus
status_of_stop (stops.Usage text) = Usage
status_of_stop (stops.Fault fault) = Fault
status_of_stop (stops.Caused fault cause) = Fault
