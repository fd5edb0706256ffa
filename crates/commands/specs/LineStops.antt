-- Why a line isn't made ready.
use Rattle.std.specs.Prelude.{⊤}
use Rattle.unready.specs.declared.Unready.{Unready}
use Rattle.unready.specs.declared.Unready.TheVariants as unready
use Rattle.store.specs.Fault.TheVariants as faults
use Rattle.store.specs.Refusal.{Refusal}
use Rattle.commands.specs.declared.line_stops.LineStop.{LineStop}
use Rattle.commands.specs.declared.line_stops.LineStop.TheVariants.{Refused, Stopped}
use Rattle.commands.specs.declared.told.CommandError.{CommandError}
use Rattle.commands.specs.declared.told.CommandError.TheVariants as stops

-- memory is wanting
abbrev pub wants_memory : LineStop
wants_memory = Stopped (stops.Fault faults.OutOfMemory)

-- what isn't made ready keeps a line from it
abbrev pub line_stop_of : Unready → LineStop
line_stop_of (unready.Refused refusal) = Refused refusal
line_stop_of unready.OutOfMemory = wants_memory

-- what is so of the refusal, where the line is refused
abbrev pub IfLineRefused : (Refusal → Type 0) → LineStop → Type 0
IfLineRefused P (Refused refusal) = P refusal
IfLineRefused P (Stopped stop) = ⊤

-- what is so of what stopped it, where something did
abbrev pub IfLineStopped : (CommandError → Type 0) → LineStop → Type 0
IfLineStopped P (Refused refusal) = ⊤
IfLineStopped P (Stopped stop) = P stop
