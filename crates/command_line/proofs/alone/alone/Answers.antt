use Rattle.command_line.proofs.alone.alone.Goals as goal

pub returns : goal.returns
returns c = λ s h. c.join.ensures _ s c.top.ensures.0 h
