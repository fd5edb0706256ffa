use Rattle.command_line.proofs.arguments.with_sheet.Goals as goal

pub returns : goal.returns
returns c = λ s h. c.with_try.ensures _ (c.with-command.ensures _ _ h c.sheet.ensures)
