use Rattle.std.proofs.Common.{Ok, subst}
use Rattle.sqlite.specs.Held.{state}
use Rattle.sqlite.specs.State.{Executes}
use Rattle.book_statements.proofs.Writes.{wrote_as}
use Rattle.book_statements.proofs.WritingTexts.{insert_orders_text}
use Rattle.book_statements.proofs.Led.{order_added}
use Rattle.book_statements.proofs.inserting.insert_order.Goals as goal

pub returns-clause-wrote : goal.returns-clause-wrote
returns-clause-wrote g c =
    let old = state g.S.Store c.args.tx.now.conn.now in
    let new = state g.S.Store c.run.new.tx.conn.now in
    wrote_as old new _ _ c.run.result c.run.ensures.wrote (λ ran. order_added old new ran.count c.args.who.now c.args.order.now
    (subst (λ p. Executes insert_orders_text p old new (Ok ran.count)) c.orders_params.ensures ran.executes))
