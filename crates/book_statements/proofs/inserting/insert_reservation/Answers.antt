use Rattle.std.proofs.Common.{Ok, subst}
use Rattle.sqlite.specs.Held.{state}
use Rattle.sqlite.specs.State.{Executes}
use Rattle.book_statements.proofs.Writes.{wrote_as}
use Rattle.book_statements.proofs.WritingTexts.{insert_reservation_text}
use Rattle.book_statements.proofs.Led.{reservation_led}
use Rattle.book_statements.proofs.inserting.insert_reservation.Goals as goal

pub returns-clause-wrote : goal.returns-clause-wrote
returns-clause-wrote g c =
    let old = state g.S.Store c.args.tx.now.conn.now in
    let new = state g.S.Store c.run.new.tx.conn.now in
    wrote_as old new _ _ c.run.result c.run.ensures.wrote (λ ran. reservation_led old new ran.count c.args.who.now c.args.order.now c.args.line.now.item c.args.line.now.lot c.args.line.now.quantity
    (subst (λ p. Executes insert_reservation_text p old new (Ok ran.count)) c.reservation_params.ensures ran.executes))
