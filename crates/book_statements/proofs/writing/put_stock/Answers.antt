use Rattle.std.proofs.Common.{Ok, subst}
use Rattle.sqlite.specs.Held.{state}
use Rattle.sqlite.specs.State.{Executes}
use Rattle.book_statements.proofs.Limited.{spends_same}
use Rattle.book_statements.proofs.Writes.{wrote_as, wrote_refused}
use Rattle.book_statements.proofs.WritingTexts.{put_stock_text}
use Rattle.book_statements.proofs.Led.{stock_led}
use Rattle.book_statements.proofs.writing.put_stock.Goals as goal

pub returns-clause-wrote : goal.returns-clause-wrote
returns-clause-wrote g c =
    let old = state g.S.Store c.args.tx.now.conn.now in
    let new = state g.S.Store c.run.new.tx.conn.now in
    wrote_as old new _ _ c.run.result c.run.ensures.wrote (λ ran. stock_led old new ran.count c.args.who.now c.args.row.now
    (subst (λ p. Executes put_stock_text p old new (Ok ran.count)) (c.stock_params.ensures c.in-Some.ensures) ran.executes))

pub returns-in_default-clause-wrote : goal.returns-in_default-clause-wrote
returns-in_default-clause-wrote g c =
    wrote_refused (state g.S.Store c.args.tx.now.conn.now) _ _ _ c.refuse.ensures.told c.refuse.ensures.counted (spends_same _ _ _ _ c.refuse.ensures.made c.refuse.ensures.limit)
