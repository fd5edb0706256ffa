use Rattle.command_line.proofs.shows.with_shows.Goals as goal

pub returns : goal.returns
returns c = λ a top.
    let with_stock = c.join_either_at-parser.ensures _ _ top c.stock.ensures in
    let with_open = c.join_either_at-parser-2.ensures _ _ with_stock c.open.ensures in
    let with_advices = c.join_either_at-parser-3.ensures _ _ with_open c.advices.ensures in
    let with_orders = c.join_either_at-parser-4.ensures _ _ with_advices c.orders.ensures in
    let with_outbox = c.join_either_at-parser-5.ensures _ _ with_orders c.outbox.ensures in
    c.join_either_at.ensures _ _ with_outbox c.depositors.ensures
