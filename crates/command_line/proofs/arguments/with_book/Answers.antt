use Rattle.command_line.proofs.arguments.with_book.Goals as goal

pub returns : goal.returns
returns c = λ s h. c.with_opening.ensures _ (c.with-command.ensures _ _ h c.wanted.ensures)
