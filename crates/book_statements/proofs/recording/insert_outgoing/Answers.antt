use Rattle.std.proofs.Common.{Ok, subst}
use Rattle.sqlite.specs.Held.{state}
use Rattle.sqlite.specs.State.{Executes}
use Rattle.book_statements.proofs.Writes.{wrote_as}
use Rattle.book_statements.proofs.WritingTexts.{insert_outgoing_text}
use Rattle.book_statements.proofs.Led.{outgoing_led}
use Rattle.book_statements.proofs.recording.insert_outgoing.Goals as goal

pub returns-clause-wrote : goal.returns-clause-wrote
returns-clause-wrote g c =
    let old = state g.S.Store c.args.tx.now.conn.now in
    let new = state g.S.Store c.run.new.tx.conn.now in
    wrote_as old new _ _ c.run.result c.run.ensures.wrote (λ ran. outgoing_led old new ran.count c.args.who.now c.args.n c.args.kind.now c.args.content.now c.args.state_text.now
    (subst (λ p. Executes insert_outgoing_text p old new (Ok ran.count)) c.outgoing_params.ensures ran.executes))
