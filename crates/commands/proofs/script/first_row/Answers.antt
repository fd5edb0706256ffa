use Rattle.commands.proofs.PlayingLaws.{row_before, last_row}
use Rattle.commands.proofs.script.first_row.Goals as goal

pub returns-in-Some : goal.returns-in-Some
returns-in-Some c = row_before c.args.text.now (c.in-Some.row, c.in-Some.rest) c.in-Some.ensures.cases

pub returns-in-None : goal.returns-in-None
returns-in-None c = last_row c.args.text.now c.in-None.ensures.cases
