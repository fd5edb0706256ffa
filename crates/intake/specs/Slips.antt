-- A deed that was read, as a command, and why one comes to none.
use Rattle.std.specs.Prelude.{List, ⊤}
use Rattle.definitions.specs.Header.{Who}
use Rattle.definitions.specs.Means.{Line}
use Rattle.definitions.specs.Register.{Command, Clerk}
use Rattle.intake.specs.Calls.{act_of}
use Rattle.intake.specs.declared.calls.Deed.{Deed}
use Rattle.intake.specs.declared.response.Response.{Response}
use Rattle.intake.specs.declared.slips.SlipStop.{SlipStop}
use Rattle.intake.specs.declared.slips.SlipStop.TheVariants.{Answered, OutOfMemory}

-- the command of a deed with its sheet
abbrev pub command_of : Who → Deed → List Line → Command
command_of who d sheet = Clerk who d.ticket.now (act_of d.kind d.number.now sheet)

-- what is so of the response that refuses a deed, where there is one
abbrev pub IfAnswered : (Response → Type 0) → SlipStop → Type 0
IfAnswered P (Answered response) = P response
IfAnswered P OutOfMemory = ⊤
