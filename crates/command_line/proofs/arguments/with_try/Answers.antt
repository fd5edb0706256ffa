use Rattle.command_line.proofs.arguments.with_try.Goals as goal

pub returns : goal.returns
returns c = λ s h. c.with_at.ensures _ (c.with-command.ensures _ _ h c.flag-tried.ensures)
