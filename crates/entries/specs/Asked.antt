-- What a command asks, as the definitions have it, and the mark of its entry.
use Rattle.std.specs.Prelude.{ℕ, ◌++◌, List, codes, Option, Some, None, if◌then◌else◌}
use Rattle.definitions.specs.Header.{Who, is_partner, sender}
use Rattle.definitions.specs.Means.{Line}
use Rattle.definitions.specs.Register as meant
use Rattle.definitions.specs.Reply.{clerk_entry}
use Rattle.definitions.specs.declared.rules.Rules.{Rules}
use Rattle.sets_out.specs.declared.envelopes.Envelope.{Envelope}
use Rattle.entries.specs.declared.commands.Act.{Act}
use Rattle.entries.specs.declared.commands.Act.TheVariants.{Count, Pick, Recount}
use Rattle.entries.specs.declared.commands.Command.{Command}
use Rattle.entries.specs.declared.commands.Command.TheVariants.{Interchange, Enrol, Clerk}
use Rattle.entries.specs.declared.commands.Key.{Key}
use Rattle.entries.specs.declared.commands.Key.TheVariants as key

abbrev pub act_of : Act → meant.Act
act_of (Count shipment sheet) = meant.Count shipment.now sheet.now
act_of (Pick order sheet) = meant.Pick order.now sheet.now
act_of (Recount sheet) = meant.Recount sheet.now

-- a clerk's act under an envelope and a ticket: the command, and the entry that it comes to
abbrev pub command_of : Envelope → List ℕ → Act → meant.Command
command_of envelope ticket act = meant.Clerk envelope.depositor ticket (act_of act)

abbrev pub entry_of : Rules → Envelope → List ℕ → Act → meant.Entry
entry_of r envelope ticket act =
    clerk_entry r envelope.depositor ticket (act_of act) envelope.moment

abbrev pub asked : Command → meant.Command
asked (Interchange text) = meant.Interchange text.now
asked (Enrol w) = meant.Enrol w
asked (Clerk w ticket act) = meant.Clerk w ticket.now (act_of act)

abbrev pub mark_of : Key → List ℕ
mark_of key.Enrolment = codes "E"
mark_of (key.Interchange control) = meant.interchange_mark control.now
mark_of (key.Ticket ticket) = meant.ticket_mark ticket.now

-- the first line of an act's canonical text, and its sheet
abbrev pub head_text : Act → List ℕ
head_text (Count shipment sheet) = codes "count " ++ shipment.now ++ codes "\n"
head_text (Pick order sheet) = codes "pick " ++ order.now ++ codes "\n"
head_text (Recount sheet) = codes "recount\n"

abbrev pub sheet_of : Act → List Line
sheet_of (Count shipment sheet) = sheet.now
sheet_of (Pick order sheet) = sheet.now
sheet_of (Recount sheet) = sheet.now

-- the sender of a text, where ISA05 and ISA06 name a partner
abbrev pub sender_named : List ℕ → Option Who
sender_named text = if is_partner (sender text) then Some (sender text) else None
