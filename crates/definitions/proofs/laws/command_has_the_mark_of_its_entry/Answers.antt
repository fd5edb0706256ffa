use Rattle.definitions.proofs.ReadingLaws.{command_mark-entry}
use Rattle.definitions.proofs.laws.command_has_the_mark_of_its_entry.Goals as goal

pub returns : goal.returns
returns c = λ r a t. command_mark-entry r a t
