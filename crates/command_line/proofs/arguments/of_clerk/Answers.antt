use Rattle.command_line.proofs.arguments.of_clerk.Goals as goal

pub returns : goal.returns
returns c = c.with.ensures _ _ c.of_depositor-command.ensures c.ticket.ensures
