use Rattle.sqlite.specs.Held.{state}
use Rattle.book_statements.proofs.CreateLemmas.{made_book}
use Rattle.book_statements.proofs.Writes.{wrote_as}
use Rattle.book_statements.proofs.making.insert_book.Goals as goal

pub returns-clause-wrote : goal.returns-clause-wrote
returns-clause-wrote g c =
    let old = state g.S.Store c.args.tx.now.conn.now in
    let new = state g.S.Store c.run.new.tx.conn.now in
    wrote_as old new _ _ c.run.result c.run.ensures.wrote (λ ran was. made_book old new ran.count c.args.qualifier.now c.args.id.now was ran.executes)
