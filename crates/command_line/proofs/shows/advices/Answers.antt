use Rattle.command_line.proofs.shows.advices.Goals as goal

pub returns : goal.returns
returns c = c.with_at.ensures _ (c.with-command-2.ensures _ _ (c.with-command.ensures _ _ c.of_depositor-command.ensures c.shipment.ensures) c.csv.ensures)
