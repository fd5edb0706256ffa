use Rattle.command_line.proofs.shows.orders.Goals as goal

pub returns : goal.returns
returns c = c.with_at.ensures _ (c.with-command-2.ensures _ _ (c.with-command.ensures _ _ c.of_depositor-command.ensures c.order.ensures) c.csv.ensures)
