use Rattle.command_line.proofs.arguments.with_either.Goals as goal

pub returns : goal.returns
returns c = λ s h.
    let booked = c.with-command.ensures _ _ h c.option.ensures in
    c.with.ensures _ _ (c.with_opening-command.ensures _ booked) c.option-2.ensures
