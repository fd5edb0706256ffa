use Rattle.std.proofs.Common.{subst, IsTrue}
use Rattle.std.specs.Prelude.{IfOk}
use Rattle.sqlite.specs.Held.{state}
use Rattle.sqlite.specs.Order.{Row}
use Rattle.book_statements.specs.Asking.{Finds}
use Rattle.book_statements.specs.Recorded.{rules_text}
use Rattle.book_tables.proofs.NumberedFound.{rules_reads}
use Rattle.book_tables.proofs.connected.Tables.rules_rows_at.Goals as goal

pub ask-requires : goal.ask-requires
ask-requires g c = rules_reads

pub returns-clause-finds : goal.returns-clause-finds
returns-clause-finds g c = λ clean.
    let old = state g.S.Store c.args.self.now.conn in
    subst (λ (params : Row). IfOk c.ask.result (λ rows. IsTrue old.is_open × Finds rules_text params old.now rows.items)) c.seq_params.ensures (c.ask.ensures.finds clean)
