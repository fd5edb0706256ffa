use Rattle.std.proofs.Common.{Ok, subst}
use Rattle.sqlite.specs.Held.{state}
use Rattle.sqlite.specs.State.{Executes}
use Rattle.book_statements.proofs.Writes.{wrote_as}
use Rattle.book_statements.proofs.WritingTexts.{insert_entry_text}
use Rattle.book_statements.proofs.Led.{entry_led}
use Rattle.book_statements.proofs.recording.insert_entry.Goals as goal

pub returns-clause-wrote : goal.returns-clause-wrote
returns-clause-wrote g c =
    let old = state g.S.Store c.args.tx.now.conn.now in
    let new = state g.S.Store c.run.new.tx.conn.now in
    wrote_as old new _ _ c.run.result c.run.ensures.wrote (λ ran. (
      ran.goes_on.was_open,
      entry_led old new ran.count c.args.seq c.args.who.now c.args.entry.now.key c.args.entry.now.n c.args.moment.now c.args.entry.now.body
          (subst (λ p. Executes insert_entry_text p old new (Ok ran.count)) c.entry_params.ensures ran.executes),
    ))
