use Rattle.command_line.proofs.arguments.with_opening.Goals as goal

pub returns : goal.returns
returns c = λ s h. c.with.ensures _ _ (c.with-command.ensures _ _ h c.option.ensures) c.flag.ensures
