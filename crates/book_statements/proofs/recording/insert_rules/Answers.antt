use Rattle.std.proofs.Common.{Ok, subst}
use Rattle.definitions.specs.Rules.{rules_number}
use Rattle.sqlite.specs.Held.{state}
use Rattle.sqlite.specs.State.{Executes}
use Rattle.book_statements.proofs.Writes.{wrote_as}
use Rattle.book_statements.proofs.WritingTexts.{insert_rules_text}
use Rattle.book_statements.proofs.Led.{rules_led}
use Rattle.book_statements.proofs.recording.insert_rules.Goals as goal

pub returns-clause-wrote : goal.returns-clause-wrote
returns-clause-wrote g c =
    let old = state g.S.Store c.args.tx.now.conn.now in
    let new = state g.S.Store c.run.new.tx.conn.now in
    wrote_as old new _ _ c.run.result c.run.ensures.wrote (λ ran. rules_led old new ran.count c.args.seq (rules_number c.args.rules)
    (subst (λ p. Executes insert_rules_text p old new (Ok ran.count)) c.rules_params.ensures ran.executes))
