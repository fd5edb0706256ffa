-- The command that an entry is of, by which it can be given again.
use Rattle.definitions.specs.declared.rules.Rules.{Rules}
use Rattle.definitions.specs.Moments.{Moment}
use Rattle.definitions.specs.Header.{Who}
use Rattle.definitions.specs.Register.{Command, Interchange, Enrol, Clerk, Deed, Enrolled, Received, Performed, Entry}
use Rattle.definitions.specs.Accepted.{Ruled}
use Rattle.rules.specs.ReadActs.{read_act}
use Rattle.rules.specs.declared.given.Deed.{Deed as Read}
use Rattle.rules.specs.declared.given.Deed.TheVariants as read

-- of a depositor and what the entry records
abbrev pub given_as : Who → Deed → Command
given_as w Enrolled = Enrol w
given_as w (Received text) = Interchange text
given_as w (Performed ticket act) = Clerk w ticket act

abbrev pub given_by : Entry → Command
given_by e = given_as e.who e.deed

-- with the moment at which it was given
abbrev pub given_at : Entry → Command × Moment
given_at e = (given_by e, e.moment)

-- and under the rules of the entry
abbrev pub given_under : Entry → Ruled
given_under e = (e.rules, given_at e)

-- a command with the rules that it is given under
abbrev pub RuledCommand : Type 0
RuledCommand = Rules × Command

abbrev pub ruled_by : Entry → RuledCommand
ruled_by e = (e.rules, given_by e)

-- a deed that was read
abbrev pub read_deed : Read → Deed
read_deed read.Enrolled = Enrolled
read_deed (read.Received text) = Received text.now
read_deed (read.Performed ticket act) = Performed ticket.now (read_act act)
