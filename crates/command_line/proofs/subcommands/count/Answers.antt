use Rattle.command_line.proofs.subcommands.count.Goals as goal

pub returns : goal.returns
returns c = c.with_sheet.ensures _ (c.with-command.ensures _ _ c.of_clerk-command.ensures c.shipment.ensures)
