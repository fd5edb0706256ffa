use Rattle.std.proofs.Common.{sym, subst}
use Rattle.rules.specs.Tabled.{table_changes_of}
use Rattle.sqlite.specs.Held.{state}
use Rattle.book_statements.specs.Leading.{Leads}
use Rattle.book_statements.proofs.Applied.{state_set}
use Rattle.book_statements.proofs.LeadingLemmas.{leads_none}
use Rattle.book_statements.proofs.Writes.{wrote_as, wrote_nothing}
use Rattle.book_statements.proofs.changing.apply_change.Goals as goal

pub returns-in-Stock-clause-wrote : goal.returns-in-Stock-clause-wrote
returns-in-Stock-clause-wrote g c =
    let old = (state g.S.Store c.args.tx.now.conn.now).now in
    let new = (state g.S.Store c.apply_row.new.tx.conn.now).now in
    wrote_as _ _ _ _ c.apply_row.result c.apply_row.ensures.wrote (λ led w is. subst (λ d. Leads (table_changes_of w d) old new) (sym c.in-Stock.is) (led w is))

pub returns-in-Advice-clause-wrote : goal.returns-in-Advice-clause-wrote
returns-in-Advice-clause-wrote g c =
    let old = (state g.S.Store c.args.tx.now.conn.now).now in
    let new = (state g.S.Store c.apply_advice.new.tx.conn.now).now in
    wrote_as _ _ _ _ c.apply_advice.result c.apply_advice.ensures.wrote (λ led w is. subst (λ d. Leads (table_changes_of w d) old new) (sym c.in-Advice.is) (led w is))

pub returns-in-Order-clause-wrote : goal.returns-in-Order-clause-wrote
returns-in-Order-clause-wrote g c =
    let old = (state g.S.Store c.args.tx.now.conn.now).now in
    let new = (state g.S.Store c.apply_order.new.tx.conn.now).now in
    wrote_as _ _ _ _ c.apply_order.result c.apply_order.ensures.wrote (λ led w is. subst (λ d. Leads (table_changes_of w d) old new) (sym c.in-Order.is) (led w is))

pub returns-in-Sent-clause-wrote : goal.returns-in-Sent-clause-wrote
returns-in-Sent-clause-wrote g c =
    let old = (state g.S.Store c.args.tx.now.conn.now).now in
    wrote_nothing _ _ _ (λ w is. subst (λ d. Leads (table_changes_of w d) old old) (sym c.in-Sent.is) (leads_none old))

pub returns-in-Document-clause-wrote : goal.returns-in-Document-clause-wrote
returns-in-Document-clause-wrote g c =
    let old = (state g.S.Store c.args.tx.now.conn.now).now in
    let new = (state g.S.Store c.set_state.new.tx.conn.now).now in
    wrote_as _ _ _ _ c.set_state.result c.set_state.ensures.wrote (λ led w is.
    subst (λ d. Leads (table_changes_of w d) old new) (sym c.in-Document.is)
    (state_set w c.args.who.now is old new old new c.in-Document.n c.in-Document.accepts led))
